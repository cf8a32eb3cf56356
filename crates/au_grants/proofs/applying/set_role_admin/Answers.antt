use Rattle.std.proofs.Common.{◌≡◌, ◌≤◌, ◌<◌, ◌∙◌, ℕ, List, [], ◌∷◌, length, ap, subst, arith}
use Rattle.au_grants.specs.Changing.{with_admin}
use Rattle.au_grants.specs.descent.Halving.{IsPlaceOf}
use Rattle.au_grants.specs.Holding.{grants_role}
use Rattle.au_grants.specs.Order.{role_fields}
use Rattle.au_grants.specs.Rights.{Name, RoleEntry}
use Rattle.au_grants.proofs.Alone.{keeps_other, set_nowhere, set_there, role_whole}
use Rattle.au_grants.proofs.applying.set_role_admin.Goals as goal

-- where the grant is, by its grantee as it was read
place_of : (xs lent : List RoleEntry) (grantee read text : Name) (k : ℕ) → lent ≡ xs → read ≡ grantee → IsPlaceOf role_fields (read ∷ text ∷ []) lent k → IsPlaceOf role_fields (grantee ∷ text ∷ []) xs k
place_of xs lent grantee read text k same one place =
    subst (λ (n : Name). IsPlaceOf role_fields (n ∷ text ∷ []) xs k) one (subst (λ (ys : List RoleEntry). IsPlaceOf role_fields (read ∷ text ∷ []) ys k) same place)

pub returns-then-place-len-clause-items : goal.returns-then-place-len-clause-items
returns-then-place-len-clause-items c =
    let grant = c.args.grant.now in
    let test = grants_role grant.0 grant.1 in
    let xs = c.args.entries.now.items in
    let place = place_of xs _ grant.0 _ c.as_str.result.now _ c.as_slice.ensures.value c.grantee.ensures c.role_place-place.ensures in
    let less = c.if-place-len.true in
    let count = c.len.ensures in
    let full = c.args.entries.now.ok.0 in
    let within : c.role_place-place.result < length xs = omega (arith, less, count, full) in
    set_there role_fields _ test (with_admin test grant.2) xs c.role_place-place.result c.index_mut.result.now _ (role_whole _ _ _ (c.as_str.ensures ∙ c.role.ensures)) (keeps_other test grant.2) c.requires.order place within (c.set_admin_of_role.ensures ∙ ap (with_admin test grant.2) c.index_mut.ensures.value)

pub returns-else-place-len-clause-items : goal.returns-else-place-len-clause-items
returns-else-place-len-clause-items c =
    let grant = c.args.grant.now in
    let test = grants_role grant.0 grant.1 in
    let xs = c.args.entries.now.items in
    let place = place_of xs _ grant.0 _ c.as_str.result.now _ c.as_slice.ensures.value c.grantee.ensures c.role_place-place.ensures in
    let over = c.if-place-len.false in
    let count = c.len.ensures in
    let full = c.args.entries.now.ok.0 in
    let end : length xs ≤ c.role_place-place.result = omega (arith, over, count, full) in
    set_nowhere role_fields _ test (with_admin test grant.2) xs c.role_place-place.result (role_whole _ _ _ (c.as_str.ensures ∙ c.role.ensures)) (keeps_other test grant.2) c.requires.order place end
