use Rattle.std.proofs.Common.{◌<◌, ◌≤◌, ◌∙◌, ap, length, arith}
use Rattle.au_grants.specs.Holding.{grants_role}
use Rattle.au_grants.specs.Order.{role_fields}
use Rattle.au_grants.specs.Rights.{Name}
use Rattle.au_grants.proofs.Alone.{ends, gone, stays, role_whole}
use Rattle.au_grants.proofs.applying.drop_role_grant.Goals as goal
use Rattle.au_grants.proofs.applying.drop_role_grant.Goals.{else-place-len-via-then-place-len+else-is_role_grant, else-place-len-via-else-place-len}

pub returns-then-is_role_grant-clause-items : goal.returns-then-is_role_grant-clause-items
returns-then-is_role_grant-clause-items c =
    let test = (grants_role c.args.grantee.now c.args.name.now) in
    let less = c.if-place-len.true in
    let count = c.len.ensures in
    let lent = c.as_slice.ensures.len in
    let within : c.role_place-place.result < length c.as_slice.result.now = omega (arith, less, count, lent) in
    gone role_fields _ test c.args.entries.now.items c.as_slice.result.now _ c.role_place-place.result c.index.result.now _ (role_whole _ _ _ c.as_str-role.ensures) c.as_slice.ensures.value c.requires.order c.role_place-place.ensures within c.index.ensures (c.is_role_grant.ensures ∙ ap (λ (n : Name). grants_role c.args.grantee.now n c.index.result.now) c.as_str-role.ensures) c.if-is_role_grant.true c.remove.ensures.items

pub returns-else-place-len-clause-items : goal.returns-else-place-len-clause-items
returns-else-place-len-clause-items c =
    let test = (grants_role c.args.grantee.now c.args.name.now) in
    elim c.else-place-len.branch [
      | else-place-len-via-then-place-len+else-is_role_grant w ↦ stays role_fields _ test c.args.entries.now.items c.as_slice.result.now c.role_place-place.result w.index.result.now _ (role_whole _ _ _ c.as_str-role.ensures) c.as_slice.ensures.value c.requires.order c.role_place-place.ensures w.index.ensures (w.is_role_grant.ensures ∙ ap (λ (n : Name). grants_role c.args.grantee.now n w.index.result.now) c.as_str-role.ensures) w.if-is_role_grant.false
      | else-place-len-via-else-place-len w ↦
          (let over = w.if-place-len.false in
          let count = c.len.ensures in
          let lent = c.as_slice.ensures.len in
          let end : length c.as_slice.result.now ≤ c.role_place-place.result = omega (arith, over, count, lent) in
          ends role_fields _ test c.args.entries.now.items c.as_slice.result.now c.role_place-place.result (role_whole _ _ _ c.as_str-role.ensures) c.as_slice.ensures.value c.requires.order c.role_place-place.ensures end)
    ]
