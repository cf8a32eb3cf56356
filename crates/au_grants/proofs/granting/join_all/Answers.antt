use Rattle.std.proofs.Common.{arith}
use Rattle.au_grants.specs.Order.{object_before, role_before, system_before}
use Rattle.au_grants.proofs.Growths.{merged_length}
use Rattle.au_grants.proofs.granting.join_all.Goals as goal

pub join-requires-clause-kept_room : goal.join-requires-clause-kept_room
join-requires-clause-kept_room c =
    let room = c.requires.room.system.stand in
    let long = merged_length system_before c.args.lists.now.fresh.system.items c.args.lists.now.kept.system.items in
    let one = c.args.lists.now.fresh.system.ok.0 in
    let two = c.args.lists.now.kept.system.ok.0 in
    omega (arith, room, long, one, two)

pub join-requires-clause-moving_room : goal.join-requires-clause-moving_room
join-requires-clause-moving_room c =
    let room = c.requires.room.system.move in
    let long = merged_length system_before c.args.lists.now.fresh.system.items c.args.lists.now.kept.system.items in
    let one = c.args.lists.now.fresh.system.ok.0 in
    let two = c.args.lists.now.kept.system.ok.0 in
    omega (arith, room, long, one, two)

pub join-requires-2-clause-kept_room : goal.join-requires-2-clause-kept_room
join-requires-2-clause-kept_room c =
    let room = c.requires.room.role.stand in
    let long = merged_length role_before c.args.lists.now.fresh.role.items c.args.lists.now.kept.role.items in
    let one = c.args.lists.now.fresh.role.ok.0 in
    let two = c.args.lists.now.kept.role.ok.0 in
    omega (arith, room, long, one, two)

pub join-requires-2-clause-moving_room : goal.join-requires-2-clause-moving_room
join-requires-2-clause-moving_room c =
    let room = c.requires.room.role.move in
    let long = merged_length role_before c.args.lists.now.fresh.role.items c.args.lists.now.kept.role.items in
    let one = c.args.lists.now.fresh.role.ok.0 in
    let two = c.args.lists.now.kept.role.ok.0 in
    omega (arith, room, long, one, two)

pub join-requires-3-clause-kept_room : goal.join-requires-3-clause-kept_room
join-requires-3-clause-kept_room c =
    let room = c.requires.room.object.stand in
    let long = merged_length object_before c.args.lists.now.fresh.object.items c.args.lists.now.kept.object.items in
    let one = c.args.lists.now.fresh.object.ok.0 in
    let two = c.args.lists.now.kept.object.ok.0 in
    omega (arith, room, long, one, two)

pub join-requires-3-clause-moving_room : goal.join-requires-3-clause-moving_room
join-requires-3-clause-moving_room c =
    let room = c.requires.room.object.move in
    let long = merged_length object_before c.args.lists.now.fresh.object.items c.args.lists.now.kept.object.items in
    let one = c.args.lists.now.fresh.object.ok.0 in
    let two = c.args.lists.now.kept.object.ok.0 in
    omega (arith, room, long, one, two)
