use Rattle.std.proofs.Common.{◌≡◌, ◌≤◌, ◌<◌, ◌∙◌, ℕ, List, [], ◌∷◌, length, ap, subst, arith}
use Rattle.au_base.specs.declared.privilege.Privilege.{Privilege}
use Rattle.au_base.specs.Privileges as privileges
use Rattle.au_grants.specs.Changing.{with_admin}
use Rattle.au_grants.specs.descent.Halving.{IsPlaceOf}
use Rattle.au_grants.specs.Holding.{grants_privilege}
use Rattle.au_grants.specs.Order.{system_fields}
use Rattle.au_grants.specs.Rights.{Name, SystemEntry}
use Rattle.au_grants.proofs.Alone.{keeps_other, set_nowhere, set_there, system_whole}
use Rattle.au_grants.proofs.applying.set_privilege_admin.Goals as goal

-- where the grant is, by its parts as they were read
place_of : (xs lent : List SystemEntry) (grantee read : Name) (privilege asked : Privilege) (k : ℕ) → lent ≡ xs → read ≡ grantee → asked ≡ privilege → IsPlaceOf system_fields (read ∷ (privileges.code_of asked ∷ []) ∷ []) lent k
    → IsPlaceOf system_fields (grantee ∷ (privileges.code_of privilege ∷ []) ∷ []) xs k
place_of xs lent grantee read privilege asked k same one two place =
    let among = subst (λ (ys : List SystemEntry). IsPlaceOf system_fields (read ∷ (privileges.code_of asked ∷ []) ∷ []) ys k) same place in
    let named = subst (λ (n : Name). IsPlaceOf system_fields (n ∷ (privileges.code_of asked ∷ []) ∷ []) xs k) one among in
    subst (λ (p : Privilege). IsPlaceOf system_fields (grantee ∷ (privileges.code_of p ∷ []) ∷ []) xs k) two named

pub returns-then-place-len-clause-items : goal.returns-then-place-len-clause-items
returns-then-place-len-clause-items c =
    let grant = c.args.grant.now in
    let test = grants_privilege grant.0 grant.1 in
    let xs = c.args.entries.now.items in
    let place = place_of xs _ grant.0 _ grant.1 _ _ c.as_slice.ensures.value c.grantee.ensures c.privilege.ensures c.system_place-place.ensures in
    let less = c.if-place-len.true in
    let count = c.len.ensures in
    let full = c.args.entries.now.ok.0 in
    let within : c.system_place-place.result < length xs = omega (arith, less, count, full) in
    set_there system_fields _ test (with_admin test grant.2) xs c.system_place-place.result c.index_mut.result.now _ (system_whole _ _) (keeps_other test grant.2) c.requires.order place within (c.set_admin_of_privilege.ensures ∙ ap (with_admin test grant.2) c.index_mut.ensures.value)

pub returns-else-place-len-clause-items : goal.returns-else-place-len-clause-items
returns-else-place-len-clause-items c =
    let grant = c.args.grant.now in
    let test = grants_privilege grant.0 grant.1 in
    let xs = c.args.entries.now.items in
    let place = place_of xs _ grant.0 _ grant.1 _ _ c.as_slice.ensures.value c.grantee.ensures c.privilege.ensures c.system_place-place.ensures in
    let over = c.if-place-len.false in
    let count = c.len.ensures in
    let full = c.args.entries.now.ok.0 in
    let end : length xs ≤ c.system_place-place.result = omega (arith, over, count, full) in
    set_nowhere system_fields _ test (with_admin test grant.2) xs c.system_place-place.result (system_whole _ _) (keeps_other test grant.2) c.requires.order place end
