use Rattle.std.proofs.Common.{◌≤◌, ◌∙◌, sym, subst, arith}
use Rattle.au_grants.specs.Rights.{IsRoleGranted, Name}
use Rattle.au_grants.specs.descent.Search.{grantee_at}
use Rattle.au_grants.proofs.Reached.{all_seen, between_granted, goes_on, one_more_seen}
use Rattle.au_grants.proofs.searching.visit_granted.Goals as goal

pub loop-at-preserved : goal.loop-at-preserved
loop-at-preserved c =
    let from : c.args.place ≤ c.loop-at.at = (let near = c.loop-at.auto.at in omega (arith, near)) in
    let granted = between_granted _ _ _ _ c.end_of_grants-end.ensures from c.loop-at-test.true in (
      goes_on _ _ _ _ _ _ _ _ _ _ _ _ (λ name is. subst (λ (n : Name). IsRoleGranted c.args.roles.now (grantee_at c.args.roles.now c.args.place) n) (sym (is ∙ c.role_of.ensures)) granted) c.loop-at.invariant.0 c.visit-found.ensures.went_on,
      one_more_seen _ _ _ _ _ _ c.loop-at.invariant.1 c.visit-found.ensures.went_on.marks_stay c.role_of.ensures c.visit-found.ensures.seen,
    )

pub returns-clause-seen : goal.returns-clause-seen
returns-clause-seen c role granted =
    all_seen _ _ _ _ role c.requires.first c.end_of_grants-end.ensures (λ i from to. c.loop-at.invariant.1 i from (let end = c.loop-at-test.false in omega (arith, to, end))) granted
