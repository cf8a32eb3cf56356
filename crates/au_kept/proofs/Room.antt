-- Room for the entries that changes put into the lists.
use Rattle.std.proofs.Common.{◌≡◌, ℕ, suc, ◌+◌, ◌≤◌, Bool, true, false, not, cond, List, [], ◌∷◌, length, refl, ap, arith}
use Rattle.std.specs.List.{filter}
use Rattle.std.specs.declared.cmp.Ordering.{Ordering}
use Rattle.std.specs.declared.cmp.Ordering.TheVariants.{Less, Equal, Greater}
use Rattle.std.specs.Ordering.{is_gt, is_lt}
use Rattle.std.proofs.lemmas.List.{length-append}
use Rattle.au_base.specs.Limits.{CATALOG_OBJECTS, GRANTS}
use Rattle.au_entries.specs.declared.change.Change.{Change}
use Rattle.au_entries.specs.declared.change.Change.TheVariants as change
use Rattle.au_entries.specs.declared.fine_grained.FgaPolicy.{FgaPolicy}
use Rattle.au_entries.specs.declared.kept.Kept.{Kept}
use Rattle.au_entries.specs.declared.policy.AuditPolicy.{AuditPolicy}
use Rattle.au_entries.specs.declared.table.Table.{Table}
use Rattle.au_entries.specs.Changing.{changed, changed_all, fga_after, grants_after, policies_after, put_in_order, roles_after, tables_after, users_after}
use Rattle.au_grants.specs.declared.change.GrantChange.{GrantChange}
use Rattle.au_grants.specs.declared.change.GrantChange.TheVariants as grant
use Rattle.au_grants.specs.Changing.{applied, is_new, without}
use Rattle.au_grants.specs.Rights.{Grants, grant_count}
use Rattle.au_kept.specs.declared.kind.Kind.TheVariants as kind
use Rattle.au_kept.specs.Quick.{IsRoomy, put_count}
use Rattle.au_replay.specs.Touched.{AreFew}
use Rattle.sql_ast.specs.declared.expression.Expr.{Expr}

-- ---- lists grow by one entry at most

kept_at : {X : Type 0} (b : Bool) (x : X) (ys : List X) (n : ℕ) → length ys ≤ n → length (cond b (x ∷ ys) ys) ≤ suc n
kept_at true x ys n few = omega arith
kept_at false x ys n few = omega arith

left_few : {X : Type 0} (test : X → Bool) (xs : List X) → length (without test xs) ≤ length xs
left_few test [] = omega arith
left_few test (x ∷ xs) = kept_at (not (test x)) x (without test xs) (length xs) (left_few test xs)

parted_at : {X : Type 0} (o : Ordering) (x : X) (lesser greater : List X) (n : ℕ) → length lesser + length greater ≤ n → length (cond (is_lt o) (x ∷ lesser) lesser) + length (cond (is_gt o) (x ∷ greater) greater) ≤ suc n
parted_at Less x lesser greater n few = omega arith
parted_at Equal x lesser greater n few = omega arith
parted_at Greater x lesser greater n few = omega arith

parted : {X : Type 0} (order : X → Ordering) (xs : List X) → length (filter (λ x. is_lt (order x)) xs) + length (filter (λ x. is_gt (order x)) xs) ≤ length xs
parted order [] = omega arith
parted order (x ∷ xs) = parted_at (order x) x _ _ (length xs) (parted order xs)

put_few : {X : Type 0} (order : X → Ordering) (entry : X) (xs : List X) → length (put_in_order order entry xs) ≤ length xs + 1
put_few {X} order entry xs =
    let parts = parted order xs in
    let joined = length-append (filter (λ (x : X). is_lt (order x)) xs) (entry ∷ filter (λ (x : X). is_gt (order x)) xs) in
    omega (arith, parts, joined)

-- ---- room, behind a change that puts an entry into the list, and behind one that puts none

put_room : (after before count limit : ℕ) → after ≤ before + 1 → before + suc count ≤ limit → after + count ≤ limit
put_room after before count limit few room = omega arith

left_room : (after before count limit : ℕ) → after ≤ before → before + count ≤ limit → after + count ≤ limit
left_room after before count limit few room = omega arith

all_room : (count limit : ℕ) → count + 0 ≤ limit → count ≤ limit
all_room count limit room = omega arith

-- ---- part by part

users_room : (c : Change) (changes : List Change) (users : List (List ℕ × List ℕ)) (limit : ℕ) → length users + put_count kind.User (c ∷ changes) ≤ limit → length (users_after c users) + put_count kind.User changes ≤ limit
users_room (change.User name verifier) changes users limit room = put_room _ (length users) (put_count kind.User changes) limit (put_few _ (name, verifier) users) room
users_room (change.UserGone name) changes users limit room = left_room _ (length users) (put_count kind.User changes) limit (left_few _ users) room
users_room _ changes users limit room = room

roles_room : (c : Change) (changes : List Change) (roles : List (List ℕ)) (limit : ℕ) → length roles + put_count kind.Role (c ∷ changes) ≤ limit → length (roles_after c roles) + put_count kind.Role changes ≤ limit
roles_room (change.Role name) changes roles limit room = put_room _ (length roles) (put_count kind.Role changes) limit (put_few _ name roles) room
roles_room (change.RoleGone name) changes roles limit room = left_room _ (length roles) (put_count kind.Role changes) limit (left_few _ roles) room
roles_room _ changes roles limit room = room

tables_room : (c : Change) (changes : List Change) (tables : List Table) (limit : ℕ) → length tables + put_count kind.Table (c ∷ changes) ≤ limit → length (tables_after c tables) + put_count kind.Table changes ≤ limit
tables_room (change.Table name columns key) changes tables limit room = put_room _ (length tables) (put_count kind.Table changes) limit (put_few _ _ tables) room
tables_room (change.TableGone name) changes tables limit room = left_room _ (length tables) (put_count kind.Table changes) limit (left_few _ tables) room
tables_room _ changes tables limit room = room

policies_room : (tree : List ℕ → Expr) (c : Change) (changes : List Change) (policies : List AuditPolicy) (limit : ℕ) → length policies + put_count kind.Policy (c ∷ changes) ≤ limit
    → length (policies_after tree c policies) + put_count kind.Policy changes ≤ limit
policies_room tree (change.Policy name privileges actions roles when) changes policies limit room = put_room _ (length policies) (put_count kind.Policy changes) limit (put_few _ _ policies) room
policies_room tree (change.PolicyGone name) changes policies limit room = left_room _ (length policies) (put_count kind.Policy changes) limit (left_few _ policies) room
policies_room tree _ changes policies limit room = room

fga_room : (tree : List ℕ → Expr) (c : Change) (changes : List Change) (policies : List FgaPolicy) (limit : ℕ) → length policies + put_count kind.FineGrained (c ∷ changes) ≤ limit
    → length (fga_after tree c policies) + put_count kind.FineGrained changes ≤ limit
fga_room tree (change.Fga table policy condition columns all types enabled) changes policies limit room = put_room _ (length policies) (put_count kind.FineGrained changes) limit (put_few _ _ policies) room
fga_room tree (change.FgaGone table policy) changes policies limit room = left_room _ (length policies) (put_count kind.FineGrained changes) limit (left_few _ policies) room
fga_room tree (change.TableGone table) changes policies limit room = left_room _ (length policies) (put_count kind.FineGrained changes) limit (left_few _ policies) room
fga_room tree _ changes policies limit room = room

-- a change of grants adds one at most, as the law has it
abbrev pub AddsOne : Type 0
AddsOne = (grants : Grants) (change : GrantChange) → grant_count (applied change grants) ≤ grant_count grants + length (filter (is_new grants) (change ∷ []))

granted_few : AddsOne → (grants : Grants) (made : GrantChange) → grant_count (applied made grants) ≤ grant_count grants + 1
granted_few adds grants made =
    let law = adds grants made in
    let one : length (filter (is_new grants) (made ∷ [])) ≤ 1 = kept_at (is_new grants made) made [] 0 (omega arith) in
    omega (arith, law, one)

revoked_few : AddsOne → (grants : Grants) (made : GrantChange) → is_new grants made ≡ false → grant_count (applied made grants) ≤ grant_count grants
revoked_few adds grants made none =
    let law = adds grants made in
    let is : length (filter (is_new grants) (made ∷ [])) ≡ 0 = ap (λ (b : Bool). length (cond b (made ∷ []) [])) none in
    omega (arith, law, is)

grants_room : AddsOne → (c : Change) (changes : List Change) (grants : Grants) (limit : ℕ) → grant_count grants + put_count kind.Grant (c ∷ changes) ≤ limit → grant_count (grants_after c grants) + put_count kind.Grant changes ≤ limit
grants_room adds (change.SysGrant grantee privilege admin) changes grants limit room = put_room _ (grant_count grants) (put_count kind.Grant changes) limit (granted_few adds grants (grant.SystemGrant grantee privilege admin)) room
grants_room adds (change.RoleGrant grantee role admin) changes grants limit room = put_room _ (grant_count grants) (put_count kind.Grant changes) limit (granted_few adds grants (grant.RoleGrant grantee role admin)) room
grants_room adds (change.ObjGrant grantee table action) changes grants limit room = put_room _ (grant_count grants) (put_count kind.Grant changes) limit (granted_few adds grants (grant.ObjectGrant grantee table action)) room
grants_room adds (change.UserGone name) changes grants limit room = left_room _ (grant_count grants) (put_count kind.Grant changes) limit (revoked_few adds grants (grant.UserGone name) refl) room
grants_room adds (change.RoleGone name) changes grants limit room = left_room _ (grant_count grants) (put_count kind.Grant changes) limit (revoked_few adds grants (grant.RoleGone name) refl) room
grants_room adds (change.SysRevoke grantee privilege) changes grants limit room = left_room _ (grant_count grants) (put_count kind.Grant changes) limit (revoked_few adds grants (grant.SystemRevoke grantee privilege) refl) room
grants_room adds (change.RoleRevoke grantee role) changes grants limit room = left_room _ (grant_count grants) (put_count kind.Grant changes) limit (revoked_few adds grants (grant.RoleRevoke grantee role) refl) room
grants_room adds (change.ObjRevoke grantee table action) changes grants limit room = left_room _ (grant_count grants) (put_count kind.Grant changes) limit (revoked_few adds grants (grant.ObjectRevoke grantee table action) refl) room
grants_room adds (change.TableGone table) changes grants limit room = left_room _ (grant_count grants) (put_count kind.Grant changes) limit (revoked_few adds grants (grant.TableGone table) refl) room
grants_room adds _ changes grants limit room = room

-- ---- room for the changes

roomier : AddsOne → (tree : List ℕ → Expr) (c : Change) (kept : Kept) (changes : List Change) → IsRoomy kept (c ∷ changes) → IsRoomy (changed tree c kept) changes
roomier adds tree c kept changes roomy = record {
  users = users_room c changes kept.users CATALOG_OBJECTS roomy.users;
  roles = roles_room c changes kept.roles CATALOG_OBJECTS roomy.roles;
  tables = tables_room c changes kept.tables CATALOG_OBJECTS roomy.tables;
  policies = policies_room tree c changes kept.policies CATALOG_OBJECTS roomy.policies;
  fga = fga_room tree c changes kept.fga CATALOG_OBJECTS roomy.fga;
  grants = grants_room adds c changes kept.grants GRANTS roomy.grants;
}

pub all_few : AddsOne → (tree : List ℕ → Expr) (changes : List Change) (kept : Kept) → IsRoomy kept changes → AreFew (changed_all tree changes kept)
all_few adds tree [] kept roomy = record {
  users = all_room _ CATALOG_OBJECTS roomy.users;
  roles = all_room _ CATALOG_OBJECTS roomy.roles;
  tables = all_room _ CATALOG_OBJECTS roomy.tables;
  policies = all_room _ CATALOG_OBJECTS roomy.policies;
  fga = all_room _ CATALOG_OBJECTS roomy.fga;
  grants = all_room _ GRANTS roomy.grants;
}
all_few adds tree (c ∷ changes) kept roomy = all_few adds tree changes (changed tree c kept) (roomier adds tree c kept changes roomy)
