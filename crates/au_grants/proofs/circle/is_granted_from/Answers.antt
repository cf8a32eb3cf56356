use Rattle.std.proofs.Common.{◌≡◌, ◌≤◌, ◌<◌, false, true, refl, subst, arith}
use Rattle.au_grants.specs.Rights.{IsRoleGranted, Name}
use Rattle.au_grants.specs.descent.Search.{grantee_at, role_at}
use Rattle.au_grants.proofs.Holders.{none_more, not_both}
use Rattle.au_grants.proofs.Reached.{between_granted, granted_between}
use Rattle.au_grants.proofs.circle.is_granted_from.Goals as goal

pub returns-then-grants_role_at : goal.returns-then-grants_role_at
returns-then-grants_role_at c =
    let end = c.loop-at-test.true in
    let from : c.args.place ≤ c.loop-at.at = omega arith in
    let to : c.loop-at.at < c.end_of_grants-end.result = omega (arith, end) in (
      λ is. subst (λ (n : Name). IsRoleGranted c.args.roles.now (grantee_at c.args.roles.now c.args.place) n) (c.grants_role_at.ensures.0 c.if-grants_role_at.true)
          (between_granted c.args.roles.now c.args.place _ c.loop-at.at c.end_of_grants-end.ensures from to),
      λ has. refl,
    )

pub loop-at-preserved : goal.loop-at-preserved
loop-at-preserved c =
    none_more (λ i. role_at c.args.roles.now i ≡ c.args.role.now) c.args.place c.loop-at.at c.loop-at.invariant
    (λ same. not_both _ c.if-grants_role_at.false (c.grants_role_at.ensures.1 same))

pub returns : goal.returns
returns c = (
  λ is. absurd (let e : false ≡ true = is in cc),
  λ has. (let found = granted_between c.args.roles.now c.args.place _ c.args.role.now c.requires.first c.end_of_grants-end.ensures has in
      let before = found.2 in
      let end = c.loop-at-test.false in
      absurd (c.loop-at.invariant found.0 found.1 (omega (arith, before, end)) found.3)),
)
