use Rattle.std.proofs.Common.{◌≡◌, ◌∙◌, false, subst, sym, arith}
use Rattle.std.specs.List.{list_any}
use Rattle.au_grants.specs.Changing.{role_to}
use Rattle.au_grants.specs.Rights.{Name}
use Rattle.au_grants.proofs.LoneReach.{none_so_far}
use Rattle.au_grants.proofs.Reached.{granted_between}
use Rattle.au_grants.proofs.lone.leads_on.Goals as goal

pub loop-at-preserved : goal.loop-at-preserved
loop-at-preserved c =
    none_so_far c.args.roles.now c.args.place c.loop-at.at c.loop-at.invariant
    (subst (λ (name : Name). list_any (role_to name) c.args.roles.now ≡ false) c.role_of.ensures (sym c.is_grantee.ensures ∙ c.if-is_grantee.false))

pub returns : goal.returns
returns c = λ is role granted.
    let found = granted_between c.args.roles.now c.args.place _ role c.requires.first c.end_of_grants-end.ensures granted in
    let before = found.2 in
    let end = c.loop-at-test.false in
    subst (λ (name : Name). list_any (role_to name) c.args.roles.now ≡ false) found.3 (c.loop-at.invariant found.0 found.1 (omega (arith, before, end)))
