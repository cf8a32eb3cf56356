use Rattle.std.proofs.Common.{◌<◌, refl, arith, length}
use Rattle.au_grants.proofs.Reached.{no_grant, room_for, told_apart}
use Rattle.au_grants.proofs.searching.visit.Goals as goal

pub returns-then-place-roles-clause-seen : goal.returns-then-place-roles-clause-seen
returns-then-place-roles-clause-seen c =
    no_grant _ _ _ _ c.requires.order c.first_role_place-place.ensures (λ less is. absurd (let end = c.if-place-roles.true in omega (arith, less, end)))

pub returns-then-ne-clause-seen : goal.returns-then-ne-clause-seen
returns-then-ne-clause-seen c =
    no_grant _ _ _ _ c.requires.order c.first_role_place-place.ensures (λ less is. told_apart _ _ _ _ _ c.ne.ensures c.if-ne.true c.grantee_of.ensures refl is)

pub put-requires-clause-room : goal.put-requires-clause-room
put-requires-clause-room c =
    let within : c.first_role_place-place.result < length c.args.roles.now = (let le = c.first_role_place-place.ensures.0 in let not = c.if-place-roles.false in omega (arith, le, not)) in
    room_for _ _ _ _ c.first_role_place-place.result c.requires.search within c.if-marks-place.false
