use Rattle.std.proofs.Common.{refl, ◌∙◌, arith}
use Rattle.au_grants.specs.Holding.{grants_role}
use Rattle.au_grants.specs.Order.{role_before, role_fields}
use Rattle.au_grants.specs.descent.Growing.{merged}
use Rattle.au_grants.proofs.Growths.{merged_length, new_ordered, new_whole, set_merged, set_ready, told_by}
use Rattle.au_grants.proofs.Ordered.{role_told}
use Rattle.au_grants.proofs.granting.grant_role.Goals as goal

pub add-requires-clause-ordered : goal.add-requires-clause-ordered
add-requires-clause-ordered c = new_ordered role_fields (grants_role c.args.grant.0 c.args.grant.1) c.args.grant _ c.args.kept.now.items (role_told c.args.grant.0 c.args.grant.1 c.args.grant.2) c.requires.ready _ (told_by grants_role (merged role_before c.args.fresh.now.items c.args.kept.now.items) _ _ _ _ _ c.is_role_there.ensures c.grantee.ensures (c.as_str.ensures ∙ c.role.ensures)) c.if-is_role_there.false

pub add-requires-clause-whole : goal.add-requires-clause-whole
add-requires-clause-whole c = new_whole role_fields (grants_role c.args.grant.0 c.args.grant.1) c.args.grant c.args.fresh.now.items c.args.kept.now.items (role_told c.args.grant.0 c.args.grant.1 c.args.grant.2) c.requires.ready _ (told_by grants_role (merged role_before c.args.fresh.now.items c.args.kept.now.items) _ _ _ _ _ c.is_role_there.ensures c.grantee.ensures (c.as_str.ensures ∙ c.role.ensures)) c.if-is_role_there.false

pub add-requires-clause-kept_room : goal.add-requires-clause-kept_room
add-requires-clause-kept_room c =
    let room = c.requires.room.stand in
    let long = merged_length role_before c.args.fresh.now.items c.args.kept.now.items in
    let one = c.args.fresh.now.ok.0 in
    let two = c.args.kept.now.ok.0 in
    omega (arith, room, long, one, two)

pub add-requires-clause-moving_room : goal.add-requires-clause-moving_room
add-requires-clause-moving_room c =
    let room = c.requires.room.move in
    let long = merged_length role_before c.args.fresh.now.items c.args.kept.now.items in
    let one = c.args.fresh.now.ok.0 in
    let two = c.args.kept.now.ok.0 in
    omega (arith, room, long, one, two)

pub returns-then-is_role_there-clause-after : goal.returns-then-is_role_there-clause-after
returns-then-is_role_there-clause-after c = set_merged role_fields (grants_role c.args.grant.0 c.args.grant.1) c.args.grant c.args.fresh.now.items c.args.kept.now.items _ _ (λ x a. refl) c.set_role_admin-then-is_role_there.ensures.items c.set_role_admin.ensures.items _ (told_by grants_role (merged role_before c.args.fresh.now.items c.args.kept.now.items) _ _ _ _ _ c.is_role_there.ensures c.grantee.ensures (c.as_str.ensures ∙ c.role.ensures)) c.if-is_role_there.true

pub returns-then-is_role_there-clause-ready : goal.returns-then-is_role_there-clause-ready
returns-then-is_role_there-clause-ready c = set_ready role_fields (grants_role c.args.grant.0 c.args.grant.1) c.args.grant c.args.fresh.now.items c.args.kept.now.items _ _ (λ x a. refl) c.set_role_admin-then-is_role_there.ensures.items c.set_role_admin.ensures.items c.requires.ready
