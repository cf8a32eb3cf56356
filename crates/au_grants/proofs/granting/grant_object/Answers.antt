use Rattle.std.proofs.Common.{◌≡◌, Bool, ap, ◌∙◌, List, arith}
use Rattle.std.specs.List.{list_any}
use Rattle.au_base.specs.declared.action.Action.{Action}
use Rattle.au_base.specs.declared.table.TableName.{TableName}
use Rattle.au_grants.specs.Holding.{grants_object}
use Rattle.au_grants.specs.Order.{object_before, object_fields}
use Rattle.au_grants.specs.Rights.{Name, ObjectEntry}
use Rattle.au_grants.specs.descent.Growing.{merged}
use Rattle.au_grants.proofs.Growths.{merged_length, new_ordered, new_whole, told_by}
use Rattle.au_grants.proofs.Ordered.{object_told}
use Rattle.au_grants.proofs.granting.grant_object.Goals as goal

-- whether the grant is there, by its parts as they were read
told : (fresh kept : List ObjectEntry) (grantee read : Name) (table on : TableName) (action asked : Action) (there : Bool) → there ≡ list_any (grants_object read on asked) (merged object_before fresh kept) → read ≡ grantee → on ≡ table → asked ≡ action
    → there ≡ list_any (grants_object grantee table action) (merged object_before fresh kept)
told fresh kept grantee read table on action asked there is one two three =
    told_by (λ (n : Name) (t : TableName). grants_object n t asked) (merged object_before fresh kept) _ _ _ _ _ is one two ∙ ap (λ (a : Action). list_any (grants_object grantee table a) (merged object_before fresh kept)) three

pub add-requires-clause-ordered : goal.add-requires-clause-ordered
add-requires-clause-ordered c = new_ordered object_fields (grants_object c.args.grant.0 c.args.grant.1 c.args.grant.2) c.args.grant _ c.args.kept.now.items (object_told c.args.grant.0 c.args.grant.1 c.args.grant.2) c.requires.ready _ (told c.args.fresh.now.items c.args.kept.now.items _ _ _ _ _ _ _ c.is_object_there.ensures c.grantee.ensures c.table.ensures c.action.ensures) c.if-not-is_object_there.true

pub add-requires-clause-whole : goal.add-requires-clause-whole
add-requires-clause-whole c = new_whole object_fields (grants_object c.args.grant.0 c.args.grant.1 c.args.grant.2) c.args.grant c.args.fresh.now.items c.args.kept.now.items (object_told c.args.grant.0 c.args.grant.1 c.args.grant.2) c.requires.ready _ (told c.args.fresh.now.items c.args.kept.now.items _ _ _ _ _ _ _ c.is_object_there.ensures c.grantee.ensures c.table.ensures c.action.ensures) c.if-not-is_object_there.true

pub add-requires-clause-kept_room : goal.add-requires-clause-kept_room
add-requires-clause-kept_room c =
    let room = c.requires.room.stand in
    let long = merged_length object_before c.args.fresh.now.items c.args.kept.now.items in
    let one = c.args.fresh.now.ok.0 in
    let two = c.args.kept.now.ok.0 in
    omega (arith, room, long, one, two)

pub add-requires-clause-moving_room : goal.add-requires-clause-moving_room
add-requires-clause-moving_room c =
    let room = c.requires.room.move in
    let long = merged_length object_before c.args.fresh.now.items c.args.kept.now.items in
    let one = c.args.fresh.now.ok.0 in
    let two = c.args.kept.now.ok.0 in
    omega (arith, room, long, one, two)
