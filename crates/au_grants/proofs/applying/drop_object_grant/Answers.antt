use Rattle.std.proofs.Common.{◌<◌, ◌≤◌, length, arith}
use Rattle.au_grants.specs.Holding.{grants_object}
use Rattle.au_grants.specs.Order.{object_fields}
use Rattle.au_grants.proofs.Alone.{ends, gone, stays, object_whole}
use Rattle.au_grants.proofs.applying.drop_object_grant.Goals as goal
use Rattle.au_grants.proofs.applying.drop_object_grant.Goals.{else-place-len-via-then-place-len+else-is_object_grant, else-place-len-via-else-place-len}

pub returns-then-is_object_grant-clause-items : goal.returns-then-is_object_grant-clause-items
returns-then-is_object_grant-clause-items c =
    let test = (grants_object c.args.grantee.now c.args.table.now c.args.action) in
    let less = c.if-place-len.true in
    let count = c.len.ensures in
    let lent = c.as_slice.ensures.len in
    let within : c.object_place-place.result < length c.as_slice.result.now = omega (arith, less, count, lent) in
    gone object_fields _ test c.args.entries.now.items c.as_slice.result.now _ c.object_place-place.result c.index.result.now _ (object_whole _ _ _) c.as_slice.ensures.value c.requires.order c.object_place-place.ensures within c.index.ensures c.is_object_grant.ensures c.if-is_object_grant.true c.remove.ensures.items

pub returns-else-place-len-clause-items : goal.returns-else-place-len-clause-items
returns-else-place-len-clause-items c =
    let test = (grants_object c.args.grantee.now c.args.table.now c.args.action) in
    elim c.else-place-len.branch [
      | else-place-len-via-then-place-len+else-is_object_grant w ↦ stays object_fields _ test c.args.entries.now.items c.as_slice.result.now c.object_place-place.result w.index.result.now _ (object_whole _ _ _) c.as_slice.ensures.value c.requires.order c.object_place-place.ensures w.index.ensures w.is_object_grant.ensures w.if-is_object_grant.false
      | else-place-len-via-else-place-len w ↦
          (let over = w.if-place-len.false in
          let count = c.len.ensures in
          let lent = c.as_slice.ensures.len in
          let end : length c.as_slice.result.now ≤ c.object_place-place.result = omega (arith, over, count, lent) in
          ends object_fields _ test c.args.entries.now.items c.as_slice.result.now c.object_place-place.result (object_whole _ _ _) c.as_slice.ensures.value c.requires.order c.object_place-place.ensures end)
    ]
