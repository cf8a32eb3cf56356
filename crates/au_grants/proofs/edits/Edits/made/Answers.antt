use Rattle.std.proofs.Common.{◌∙◌, length, ap, arith}
use Rattle.au_grants.specs.Order.{is_in_order, object_before, role_before, system_before}
use Rattle.au_grants.specs.Rights.{Grants}
use Rattle.au_grants.proofs.Spaces.{may_grow}
use Rattle.au_grants.proofs.edits.Edits.made.Goals as goal

pub changed-system-requires-clause-growth : goal.changed-system-requires-clause-growth
changed-system-requires-clause-growth c =
    let system = c.holding.ensures.items ∙ c.into_vec.ensures in
    let system_long = ap length (system ∙ ap (λ (g : Grants). g.system) c.grants.view_is) in
    let system_fits = c.requires.system in
    let system_moved = ap length c.holding.ensures.items in
    let system_room = c.holding.ensures.room in
    let role = c.holding-2.ensures.items ∙ c.into_vec-2.ensures in
    let role_long = ap length (role ∙ ap (λ (g : Grants). g.role) c.grants.view_is) in
    let role_fits = c.requires.role in
    let role_moved = ap length c.holding-2.ensures.items in
    let role_room = c.holding-2.ensures.room in
    let object = c.holding-3.ensures.items ∙ c.into_vec-3.ensures in
    let object_long = ap length (object ∙ ap (λ (g : Grants). g.object) c.grants.view_is) in
    let object_fits = c.requires.object in
    let object_moved = ap length c.holding-3.ensures.items in
    let object_room = c.holding-3.ensures.room in
    may_grow c.args.self (record { system = c.holding.result; role = c.holding-2.result; object = c.holding-3.result }) c.requires.spared
    (omega (arith, system_long, system_fits))
    (omega (arith, role_long, role_fits))
    (omega (arith, object_long, object_fits))
    (omega (arith, system_moved, system_room))
    (omega (arith, role_moved, role_room))
    (omega (arith, object_moved, object_room)) (
      ap (is_in_order system_before) system ∙ c.grants.invariant.in_order.0,
      ap (is_in_order role_before) role ∙ c.grants.invariant.in_order.1,
      ap (is_in_order object_before) object ∙ c.grants.invariant.in_order.2,
    )
