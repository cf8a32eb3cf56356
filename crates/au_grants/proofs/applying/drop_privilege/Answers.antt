use Rattle.std.proofs.Common.{◌<◌, ◌≤◌, length, arith}
use Rattle.au_grants.specs.Holding.{grants_privilege}
use Rattle.au_grants.specs.Order.{system_fields}
use Rattle.au_grants.proofs.Alone.{ends, gone, stays, system_whole}
use Rattle.au_grants.proofs.applying.drop_privilege.Goals as goal
use Rattle.au_grants.proofs.applying.drop_privilege.Goals.{else-place-len-via-then-place-len+else-is_system_grant, else-place-len-via-else-place-len}

pub returns-then-is_system_grant-clause-items : goal.returns-then-is_system_grant-clause-items
returns-then-is_system_grant-clause-items c =
    let test = (grants_privilege c.args.grantee.now c.args.privilege) in
    let less = c.if-place-len.true in
    let count = c.len.ensures in
    let lent = c.as_slice.ensures.len in
    let within : c.system_place-place.result < length c.as_slice.result.now = omega (arith, less, count, lent) in
    gone system_fields _ test c.args.entries.now.items c.as_slice.result.now _ c.system_place-place.result c.index.result.now _ (system_whole _ _) c.as_slice.ensures.value c.requires.order c.system_place-place.ensures within c.index.ensures c.is_system_grant.ensures c.if-is_system_grant.true c.remove.ensures.items

pub returns-else-place-len-clause-items : goal.returns-else-place-len-clause-items
returns-else-place-len-clause-items c =
    let test = (grants_privilege c.args.grantee.now c.args.privilege) in
    elim c.else-place-len.branch [
      | else-place-len-via-then-place-len+else-is_system_grant w ↦ stays system_fields _ test c.args.entries.now.items c.as_slice.result.now c.system_place-place.result w.index.result.now _ (system_whole _ _) c.as_slice.ensures.value c.requires.order c.system_place-place.ensures w.index.ensures w.is_system_grant.ensures w.if-is_system_grant.false
      | else-place-len-via-else-place-len w ↦
          (let over = w.if-place-len.false in
          let count = c.len.ensures in
          let lent = c.as_slice.ensures.len in
          let end : length c.as_slice.result.now ≤ c.system_place-place.result = omega (arith, over, count, lent) in
          ends system_fields _ test c.args.entries.now.items c.as_slice.result.now c.system_place-place.result (system_whole _ _) c.as_slice.ensures.value c.requires.order c.system_place-place.ensures end)
    ]
