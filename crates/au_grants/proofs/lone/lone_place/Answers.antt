use Rattle.std.proofs.Common.{◌≡◌, ◌<◌, length, refl, arith}
use Rattle.au_grants.specs.descent.Search.{grantee_at}
use Rattle.au_grants.proofs.LoneReach.{lone_reach, told_same}
use Rattle.au_grants.proofs.Reached.{first_grant}
use Rattle.au_grants.proofs.lone.lone_place.Goals as goal

pub returns : goal.returns
returns c =
    let roles = c.args.roles.now in
    let place = c.first_role_place-place.result in
    let within : place < length roles = (let le = c.first_role_place-place.ensures.0 in let not = c.if-place-roles.false in omega (arith, le, not)) in
    let is : grantee_at roles place ≡ c.args.user.now = told_same _ _ _ _ _ c.ne.ensures c.if-ne.false c.grantee_of.ensures refl in
    lone_reach roles c.args.user.now place (first_grant roles c.args.user.now place c.requires.order c.first_role_place-place.ensures within is) is (c.leads_on.ensures c.if-leads_on.false)
