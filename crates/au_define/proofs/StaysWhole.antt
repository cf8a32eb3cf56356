-- What is kept is whole after the changes of a statement, where it was before.
use Rattle.std.proofs.Common.{◌≡◌, ◌≢◌, ◌∙◌, ◌<◌, ◌≤◌, ◌+◌, suc, zero, Bool, true, false, not, cond, ◌||◌, ◌⊎◌, inl, inr, List, [], ◌∷◌, ◌++◌, ℕ, map, length, filter, refl, sym, ap, subst, arith}
use Rattle.std.specs.Prelude.{◌↔◌, if◌then◌else◌, nat_le, nat_lt}
use Rattle.std.specs.List.{AllByRecursion, Contains, list_any}
use Rattle.std.specs.Ordering.{is_eq, is_gt, is_lt}
use Rattle.std.specs.declared.cmp.Ordering.{Ordering}
use Rattle.std.specs.declared.cmp.Ordering.TheVariants.{Less, Equal, Greater}
use Rattle.std.specs.Str.{bytes_eq}
use Rattle.std.proofs.lemmas.Bool.{not-false, or_left, or_parts, or_right}
use Rattle.std.proofs.lemmas.Bool.Decides.{nat_tests}
use Rattle.std.proofs.lemmas.List.{length-append}
use Rattle.std.proofs.lemmas.Map.Text.{is_eq-slice_cmp}
use Rattle.std.proofs.lemmas.Map.Views.{any-filter_same}
use Rattle.std.proofs.lemmas.Slice.Eq.{bytes_eq-Decides}
use Rattle.au_base.specs.Limits.{CATALOG_OBJECTS, GRANTS, TABLE_COLUMNS, TABLE_ROW_NUMBERS}
use Rattle.au_base.specs.Sameness.{same_table}
use Rattle.au_base.specs.declared.table.Column.{Column}
use Rattle.au_base.specs.declared.table.TableName.{TableName}
use Rattle.au_define.specs.Granting.{change_of}
use Rattle.au_define.proofs.GrantsGo.{Stands}
use Rattle.au_define.proofs.Members.{all_at, any_from, any_to, here, none, split, there}
use Rattle.au_entries.specs.declared.change.Change.TheVariants as change
use Rattle.au_entries.specs.declared.kept.Kept.{Kept}
use Rattle.au_entries.specs.declared.fine_grained.FgaPolicy.{FgaPolicy}
use Rattle.au_entries.specs.declared.table.Table.{Table}
use Rattle.au_entries.specs.Changing.{KeptRow, by_fields, by_name, changed, changed_all, put_in_order, table_fields}
use Rattle.au_entries.specs.Lawful.{IsRowFounded, IsWhole, KeysDiffer, RowsFit}
use Rattle.au_entries.specs.Replaying.{has_table}
use Rattle.au_grants.specs.declared.change.GrantChange.{GrantChange}
use Rattle.au_grants.specs.declared.change.GrantChange.TheVariants.{UserGone, RoleGone, SystemGrant, SystemRevoke, RoleGrant, RoleRevoke, ObjectGrant, ObjectRevoke, TableGone}
use Rattle.au_grants.specs.Changing.{applied_all, without}
use Rattle.au_grants.specs.Rights.{grant_count}
use Rattle.sql_ast.specs.declared.expression.Expr.{Expr}

-- ---- lists in order: how long they are, and what is in them

kept_count : (o : Ordering) (m n k : ℕ) (lesser greater : ℕ) → m + n ≤ k → lesser ≡ cond (is_lt o) (suc m) m → greater ≡ cond (is_gt o) (suc n) n → lesser + greater ≤ suc k
kept_count Less m n k lesser greater few one other = omega (arith, few, one, other)
kept_count Equal m n k lesser greater few one other = omega (arith, few, one, other)
kept_count Greater m n k lesser greater few one other = omega (arith, few, one, other)

length_cond : {X : Type 0} (b : Bool) (x : X) (xs : List X) → length (cond b (x ∷ xs) xs) ≡ cond b (suc (length xs)) (length xs)
length_cond true x xs = refl
length_cond false x xs = refl

-- those before and those behind are no more than all
apart_count : {X : Type 0} (order : X → Ordering) (xs : List X) → length (filter (λ x. is_lt (order x)) xs) + length (filter (λ x. is_gt (order x)) xs) ≤ length xs
apart_count order [] = omega arith
apart_count order (x ∷ xs) =
    kept_count (order x) (length (filter (λ y. is_lt (order y)) xs)) (length (filter (λ y. is_gt (order y)) xs)) (length xs) _ _ (apart_count order xs)
    (length_cond (is_lt (order x)) x (filter (λ y. is_lt (order y)) xs)) (length_cond (is_gt (order x)) x (filter (λ y. is_gt (order y)) xs))

tied_count : (o : Ordering) (m n k : ℕ) (lesser greater : ℕ) → is_eq o ≡ true → m + n ≤ k → lesser ≡ cond (is_lt o) (suc m) m → greater ≡ cond (is_gt o) (suc n) n → lesser + greater < suc k
tied_count Less m n k lesser greater tied few one other = absurd (let e : false ≡ true = tied in cc)
tied_count Equal m n k lesser greater tied few one other = omega (arith, few, one, other)
tied_count Greater m n k lesser greater tied few one other = absurd (let e : false ≡ true = tied in cc)

more_count : (o : Ordering) (m n k : ℕ) (lesser greater : ℕ) → m + n < k → lesser ≡ cond (is_lt o) (suc m) m → greater ≡ cond (is_gt o) (suc n) n → lesser + greater < suc k
more_count Less m n k lesser greater few one other = omega (arith, few, one, other)
more_count Equal m n k lesser greater few one other = omega (arith, few, one, other)
more_count Greater m n k lesser greater few one other = omega (arith, few, one, other)

-- one that is tied is in neither
tied_apart : {X : Type 0} (order : X → Ordering) (xs : List X) (x : X) → Contains xs x → is_eq (order x) ≡ true
    → length (filter (λ y. is_lt (order y)) xs) + length (filter (λ y. is_gt (order y)) xs) < length xs
tied_apart order [] x has tied = absurd (none x has)
tied_apart order (y ∷ xs) x has tied = elim (split y xs x has) [
  | inl same ↦ tied_count (order y) (length (filter (λ z. is_lt (order z)) xs)) (length (filter (λ z. is_gt (order z)) xs)) (length xs) _ _ (ap (λ z. is_eq (order z)) same ∙ tied) (apart_count order xs)
      (length_cond (is_lt (order y)) y (filter (λ z. is_lt (order z)) xs)) (length_cond (is_gt (order y)) y (filter (λ z. is_gt (order z)) xs))
  | inr later ↦ more_count (order y) (length (filter (λ z. is_lt (order z)) xs)) (length (filter (λ z. is_gt (order z)) xs)) (length xs) _ _ (tied_apart order xs x later tied)
      (length_cond (is_lt (order y)) y (filter (λ z. is_lt (order z)) xs)) (length_cond (is_gt (order y)) y (filter (λ z. is_gt (order z)) xs))
]

put_length : {X : Type 0} (order : X → Ordering) (x : X) (xs : List X) → length (put_in_order order x xs) ≡ length (filter (λ y. is_lt (order y)) xs) + suc (length (filter (λ y. is_gt (order y)) xs))
put_length order x xs = length-append (filter (λ y. is_lt (order y)) xs) (x ∷ filter (λ y. is_gt (order y)) xs)

-- one more at most
pub put_more : {X : Type 0} (order : X → Ordering) (x : X) (xs : List X) → length (put_in_order order x xs) ≤ suc (length xs)
put_more order x xs = let long = put_length order x xs in let few = apart_count order xs in omega (arith, long, few)

-- none more where one is replaced
pub put_same : {X : Type 0} (order : X → Ordering) (x : X) (xs : List X) (old : X) → Contains xs old → is_eq (order old) ≡ true → length (put_in_order order x xs) ≤ length xs
put_same order x xs old has tied = let long = put_length order x xs in let few = tied_apart order xs old has tied in omega (arith, long, few)

fewer_at : {X : Type 0} (b : Bool) (x : X) (ys : List X) (n : ℕ) → length ys ≤ n → length (cond b (x ∷ ys) ys) ≤ suc n
fewer_at true x ys n few = omega (arith, few)
fewer_at false x ys n few = omega (arith, few)

pub filter_fewer : {X : Type 0} (test : X → Bool) (xs : List X) → length (filter test xs) ≤ length xs
filter_fewer test [] = omega arith
filter_fewer test (x ∷ xs) = fewer_at (test x) x (filter test xs) (length xs) (filter_fewer test xs)

in_cond : {X : Type 0} (b : Bool) (x : X) (ys : List X) (y : X) → Contains (cond b (x ∷ ys) ys) y → (x ≡ y) ⊎ Contains ys y
in_cond true x ys y has = split x ys y has
in_cond false x ys y has = inr has

-- what a filter keeps was there
of_filter : {X : Type 0} (test : X → Bool) (xs : List X) (y : X) → Contains (filter test xs) y → Contains xs y
of_filter test [] y has = has
of_filter test (x ∷ xs) y has = elim (in_cond (test x) x (filter test xs) y has) [
  | inl same ↦ subst (Contains (x ∷ xs)) same (here x xs)
  | inr later ↦ there x xs y (of_filter test xs y later)
]

to_cond : {X : Type 0} (b : Bool) (x : X) (ys : List X) → b ≡ true → Contains (cond b (x ∷ ys) ys) x
to_cond true x ys is = here x ys
to_cond false x ys is = absurd (let e : false ≡ true = is in cc)

past_cond : {X : Type 0} (b : Bool) (x : X) (ys : List X) (y : X) → Contains ys y → Contains (cond b (x ∷ ys) ys) y
past_cond true x ys y has = there x ys y has
past_cond false x ys y has = has

to_filter : {X : Type 0} (test : X → Bool) (xs : List X) (y : X) → Contains xs y → test y ≡ true → Contains (filter test xs) y
to_filter test [] y has is = absurd (none y has)
to_filter test (x ∷ xs) y has is = elim (split x xs y has) [
  | inl same ↦ subst (Contains (cond (test x) (x ∷ filter test xs) (filter test xs))) same (to_cond (test x) x (filter test xs) (ap test same ∙ is))
  | inr later ↦ past_cond (test x) x (filter test xs) y (to_filter test xs y later is)
]

of_joined : {X : Type 0} (xs : List X) (x : X) (ys : List X) (y : X) → Contains (xs ++ x ∷ ys) y → (x ≡ y) ⊎ (Contains xs y ⊎ Contains ys y)
of_joined [] x ys y has = elim (split x ys y has) [
  | inl same ↦ inl same
  | inr later ↦ inr (inr later)
]
of_joined (z ∷ xs) x ys y has = elim (split z (xs ++ x ∷ ys) y has) [
  | inl same ↦ inr (inl (subst (Contains (z ∷ xs)) same (here z xs)))
  | inr later ↦ elim (of_joined xs x ys y later) [
    | inl same ↦ inl same
    | inr rest ↦ elim rest [
      | inl before ↦ inr (inl (there z xs y before))
      | inr behind ↦ inr (inr behind)
    ]
  ]
]

-- what is in the list then was there, or is the new one
pub of_put : {X : Type 0} (order : X → Ordering) (x : X) (xs : List X) (y : X) → Contains (put_in_order order x xs) y → (x ≡ y) ⊎ Contains xs y
of_put order x xs y has = elim (of_joined (filter (λ z. is_lt (order z)) xs) x (filter (λ z. is_gt (order z)) xs) y has) [
  | inl same ↦ inl same
  | inr rest ↦ elim rest [
    | inl before ↦ inr (of_filter (λ z. is_lt (order z)) xs y before)
    | inr behind ↦ inr (of_filter (λ z. is_gt (order z)) xs y behind)
  ]
]

to_front : {X : Type 0} (xs : List X) (x : X) (ys : List X) (y : X) → Contains xs y → Contains (xs ++ x ∷ ys) y
to_front [] x ys y has = absurd (none y has)
to_front (z ∷ xs) x ys y has = elim (split z xs y has) [
  | inl same ↦ subst (Contains (z ∷ (xs ++ x ∷ ys))) same (here z (xs ++ x ∷ ys))
  | inr later ↦ there z (xs ++ x ∷ ys) y (to_front xs x ys y later)
]

to_middle : {X : Type 0} (xs : List X) (x : X) (ys : List X) → Contains (xs ++ x ∷ ys) x
to_middle [] x ys = here x ys
to_middle (z ∷ xs) x ys = there z (xs ++ x ∷ ys) x (to_middle xs x ys)

to_back : {X : Type 0} (xs : List X) (x : X) (ys : List X) (y : X) → Contains ys y → Contains (xs ++ x ∷ ys) y
to_back [] x ys y has = there x ys y has
to_back (z ∷ xs) x ys y has = there z (xs ++ x ∷ ys) y (to_back xs x ys y has)

pub new_put : {X : Type 0} (order : X → Ordering) (x : X) (xs : List X) → Contains (put_in_order order x xs) x
new_put order x xs = to_middle (filter (λ z. is_lt (order z)) xs) x (filter (λ z. is_gt (order z)) xs)

-- what was there and isn't tied is there still
old_put : {X : Type 0} (order : X → Ordering) (x : X) (xs : List X) (y : X) → Contains xs y → (o : Ordering) → order y ≡ o → (is_eq o ≡ true → ⊥) → Contains (put_in_order order x xs) y
old_put order x xs y has Less is apart = to_front (filter (λ z. is_lt (order z)) xs) x (filter (λ z. is_gt (order z)) xs) y (to_filter (λ z. is_lt (order z)) xs y has (ap is_lt is))
old_put order x xs y has Equal is apart = absurd (apart refl)
old_put order x xs y has Greater is apart = to_back (filter (λ z. is_lt (order z)) xs) x (filter (λ z. is_gt (order z)) xs) y (to_filter (λ z. is_gt (order z)) xs y has (ap is_gt is))

all_around : {X : Type 0} (P : X → Type 0) (xs : List X) (x : X) (ys : List X) → AllByRecursion P xs → P x → AllByRecursion P ys → AllByRecursion P (xs ++ x ∷ ys)
all_around P [] x ys before one behind = (one, behind)
all_around P (z ∷ xs) x ys before one behind = (before.0, all_around P xs x ys before.1 one behind)

all_cond : {X : Type 0} (P : X → Type 0) (b : Bool) (x : X) (ys : List X) → P x → AllByRecursion P ys → AllByRecursion P (cond b (x ∷ ys) ys)
all_cond P true x ys one all = (one, all)
all_cond P false x ys one all = all

pub all_filtered : {X : Type 0} (P : X → Type 0) (test : X → Bool) (xs : List X) → AllByRecursion P xs → AllByRecursion P (filter test xs)
all_filtered P test [] all = tt
all_filtered P test (x ∷ xs) all = all_cond P (test x) x (filter test xs) all.0 (all_filtered P test xs all.1)

pub all_put : {X : Type 0} (P : X → Type 0) (order : X → Ordering) (x : X) (xs : List X) → P x → AllByRecursion P xs → AllByRecursion P (put_in_order order x xs)
all_put P order x xs one all = all_around P (filter (λ z. is_lt (order z)) xs) x (filter (λ z. is_gt (order z)) xs) (all_filtered P (λ z. is_lt (order z)) xs all) one (all_filtered P (λ z. is_gt (order z)) xs all)

-- ---- GRANT and REVOKE: the grants alone

-- all but the number of grants; and what is so of the users
abbrev Rest : (List (List ℕ × List ℕ) → Type 0) → Kept → Type 0
Rest Q kept =
    Q kept.users × RowsFit kept × KeysDiffer kept × (length kept.users ≤ CATALOG_OBJECTS) × (length kept.roles ≤ CATALOG_OBJECTS) × (length kept.tables ≤ CATALOG_OBJECTS)
    × (length kept.policies ≤ CATALOG_OBJECTS) × (length kept.fga ≤ CATALOG_OBJECTS) × AllByRecursion (λ (table : Table). length table.columns ≤ TABLE_COLUMNS) kept.tables
    × AllByRecursion (λ (table : Table). length (filter (λ (row : KeptRow). same_table row.0 table.name) kept.rows) ≤ TABLE_ROW_NUMBERS) kept.tables

rest_of : (Q : List (List ℕ × List ℕ) → Type 0) (kept : Kept) → Q kept.users → IsWhole kept → Rest Q kept
rest_of Q kept so whole = (so, whole.fits, whole.keys, whole.few.users, whole.few.roles, whole.few.tables, whole.few.policies, whole.few.fga, whole.few.columns, whole.few.rows)

whole_of : (Q : List (List ℕ × List ℕ) → Type 0) (kept : Kept) → Rest Q kept → grant_count kept.grants ≤ GRANTS → IsWhole kept
whole_of Q kept (so, fits, keys, users, roles, tables, policies, fga, columns, rows) grants =
    record { fits = fits; keys = keys; few = record { users = users; roles = roles; tables = tables; policies = policies; fga = fga; grants = grants; columns = columns; rows = rows } }

rest_stays : (Q : List (List ℕ × List ℕ) → Type 0) (tree : List ℕ → Expr) (kept : Kept) (changes : List GrantChange) → AllByRecursion (Stands kept.users kept.roles kept.tables) changes → Rest Q kept → Rest Q (changed_all tree (map change_of changes) kept)
rest_stays Q tree kept [] stand rest = rest
rest_stays Q tree kept (SystemGrant grantee privilege admin ∷ changes) stand rest = rest_stays Q tree (changed tree (change.SysGrant grantee privilege admin) kept) changes stand.1 rest
rest_stays Q tree kept (SystemRevoke grantee privilege ∷ changes) stand rest = rest_stays Q tree (changed tree (change.SysRevoke grantee privilege) kept) changes stand.1 rest
rest_stays Q tree kept (RoleGrant grantee role admin ∷ changes) stand rest = rest_stays Q tree (changed tree (change.RoleGrant grantee role admin) kept) changes stand.1 rest
rest_stays Q tree kept (RoleRevoke grantee role ∷ changes) stand rest = rest_stays Q tree (changed tree (change.RoleRevoke grantee role) kept) changes stand.1 rest
rest_stays Q tree kept (ObjectGrant grantee table action ∷ changes) stand rest = rest_stays Q tree (changed tree (change.ObjGrant grantee table action) kept) changes stand.1 rest
rest_stays Q tree kept (ObjectRevoke grantee table action ∷ changes) stand rest = rest_stays Q tree (changed tree (change.ObjRevoke grantee table action) kept) changes stand.1 rest
rest_stays Q tree kept (UserGone name ∷ changes) stand rest = absurd stand.0
rest_stays Q tree kept (RoleGone name ∷ changes) stand rest = absurd stand.0
rest_stays Q tree kept (TableGone table ∷ changes) stand rest = absurd stand.0

grants_are : (tree : List ℕ → Expr) (kept : Kept) (changes : List GrantChange) → AllByRecursion (Stands kept.users kept.roles kept.tables) changes
    → (changed_all tree (map change_of changes) kept).grants ≡ applied_all changes kept.grants
grants_are tree kept [] stand = refl
grants_are tree kept (SystemGrant grantee privilege admin ∷ changes) stand = grants_are tree (changed tree (change.SysGrant grantee privilege admin) kept) changes stand.1
grants_are tree kept (SystemRevoke grantee privilege ∷ changes) stand = grants_are tree (changed tree (change.SysRevoke grantee privilege) kept) changes stand.1
grants_are tree kept (RoleGrant grantee role admin ∷ changes) stand = grants_are tree (changed tree (change.RoleGrant grantee role admin) kept) changes stand.1
grants_are tree kept (RoleRevoke grantee role ∷ changes) stand = grants_are tree (changed tree (change.RoleRevoke grantee role) kept) changes stand.1
grants_are tree kept (ObjectGrant grantee table action ∷ changes) stand = grants_are tree (changed tree (change.ObjGrant grantee table action) kept) changes stand.1
grants_are tree kept (ObjectRevoke grantee table action ∷ changes) stand = grants_are tree (changed tree (change.ObjRevoke grantee table action) kept) changes stand.1
grants_are tree kept (UserGone name ∷ changes) stand = absurd stand.0
grants_are tree kept (RoleGone name ∷ changes) stand = absurd stand.0
grants_are tree kept (TableGone table ∷ changes) stand = absurd stand.0

pub granted_whole : (Q : List (List ℕ × List ℕ) → Type 0) (tree : List ℕ → Expr) (kept : Kept) (changes : List GrantChange) → AllByRecursion (Stands kept.users kept.roles kept.tables) changes
    → grant_count (applied_all changes kept.grants) ≤ GRANTS → Q kept.users → IsWhole kept
    → Q (changed_all tree (map change_of changes) kept).users × IsWhole (changed_all tree (map change_of changes) kept)
granted_whole Q tree kept changes stand few so whole =
    let rest = rest_stays Q tree kept changes stand (rest_of Q kept so whole) in
    (rest.0, whole_of Q (changed_all tree (map change_of changes) kept) rest (subst (λ grants. grant_count grants ≤ GRANTS) (sym (grants_are tree kept changes stand)) few))

-- ---- users and roles

less_than : (n : ℕ) → nat_le CATALOG_OBJECTS n ≡ false → suc n ≤ CATALOG_OBJECTS
less_than n is = grind (arith, nat_tests)

pub user_put : (tree : List ℕ → Expr) (kept : Kept) (name verifier : List ℕ) → length (put_in_order (λ user. by_name user.0 name) (name, verifier) kept.users) ≤ CATALOG_OBJECTS → IsWhole kept
    → IsWhole (changed tree (change.User name verifier) kept)
user_put tree kept name verifier few whole =
    record { fits = whole.fits; keys = whole.keys; few = record { users = few; roles = whole.few.roles; tables = whole.few.tables; policies = whole.few.policies; fga = whole.few.fga; grants = whole.few.grants; columns = whole.few.columns; rows = whole.few.rows } }

pub new_user : (tree : List ℕ → Expr) (kept : Kept) (name verifier : List ℕ) → nat_le CATALOG_OBJECTS (length kept.users) ≡ false → IsWhole kept → IsWhole (changed tree (change.User name verifier) kept)
new_user tree kept name verifier room whole =
    user_put tree kept name verifier (let more = put_more (λ (user : List ℕ × List ℕ). by_name user.0 name) (name, verifier) kept.users in let less = less_than (length kept.users) room in omega (arith, more, less)) whole

pub same_user : (tree : List ℕ → Expr) (kept : Kept) (name verifier : List ℕ) → list_any (λ (user : List ℕ × List ℕ). bytes_eq user.0 name) kept.users ≡ true → IsWhole kept → IsWhole (changed tree (change.User name verifier) kept)
same_user tree kept name verifier there whole =
    let found = any_from (λ (user : List ℕ × List ℕ). bytes_eq user.0 name) kept.users there in
    user_put tree kept name verifier (let same = put_same (λ (user : List ℕ × List ℕ). by_name user.0 name) (name, verifier) kept.users found.0 found.1 (is_eq-slice_cmp found.0.0 name ∙ found.2) in let few = whole.few.users in omega (arith, same, few)) whole

pub user_gone : (tree : List ℕ → Expr) (kept : Kept) (name : List ℕ) → grant_count (applied_all (UserGone name ∷ []) kept.grants) ≤ grant_count kept.grants → IsWhole kept → IsWhole (changed tree (change.UserGone name) kept)
user_gone tree kept name fewer whole =
    let users = filter_fewer (λ (user : List ℕ × List ℕ). not (bytes_eq user.0 name)) kept.users in
    let few = whole.few.users in
    let grants = whole.few.grants in
    record { fits = whole.fits; keys = whole.keys; few = record { users = omega (arith, users, few); roles = whole.few.roles; tables = whole.few.tables; policies = whole.few.policies; fga = whole.few.fga; grants = omega (arith, fewer, grants); columns = whole.few.columns; rows = whole.few.rows } }

pub new_role : (tree : List ℕ → Expr) (kept : Kept) (role user : List ℕ) → nat_le CATALOG_OBJECTS (length kept.roles) ≡ false → grant_count (applied_all (RoleGrant user role true ∷ []) kept.grants) ≤ GRANTS → IsWhole kept
    → IsWhole (changed tree (change.RoleGrant user role true) (changed tree (change.Role role) kept))
new_role tree kept role user room grants whole =
    let more = put_more (λ (other : List ℕ). by_name other role) role kept.roles in
    let less = less_than (length kept.roles) room in
    record { fits = whole.fits; keys = whole.keys; few = record { users = whole.few.users; roles = omega (arith, more, less); tables = whole.few.tables; policies = whole.few.policies; fga = whole.few.fga; grants = grants; columns = whole.few.columns; rows = whole.few.rows } }

pub role_gone : (tree : List ℕ → Expr) (kept : Kept) (name : List ℕ) → grant_count (applied_all (RoleGone name ∷ []) kept.grants) ≤ grant_count kept.grants → IsWhole kept → IsWhole (changed tree (change.RoleGone name) kept)
role_gone tree kept name fewer whole =
    let roles = filter_fewer (λ (other : List ℕ). not (bytes_eq other name)) kept.roles in
    let few = whole.few.roles in
    let grants = whole.few.grants in
    record { fits = whole.fits; keys = whole.keys; few = record { users = whole.few.users; roles = omega (arith, roles, few); tables = whole.few.tables; policies = whole.few.policies; fga = whole.few.fga; grants = omega (arith, fewer, grants); columns = whole.few.columns; rows = whole.few.rows } }

-- ---- that somebody is a user

there_at : (who : List ℕ) (users : List (List ℕ × List ℕ)) (name verifier : List ℕ) (user : List ℕ × List ℕ) → Contains users user → bytes_eq user.0 who ≡ true → (tied : Bool) → bytes_eq user.0 name ≡ tied
    → list_any (λ (other : List ℕ × List ℕ). bytes_eq other.0 who) (put_in_order (λ (other : List ℕ × List ℕ). by_name other.0 name) (name, verifier) users) ≡ true
there_at who users name verifier user has is true tied =
    any_to (λ (other : List ℕ × List ℕ). bytes_eq other.0 who) (put_in_order (λ (other : List ℕ × List ℕ). by_name other.0 name) (name, verifier) users) (name, verifier)
    (new_put (λ (other : List ℕ × List ℕ). by_name other.0 name) (name, verifier) users) (ap (λ (n : List ℕ). bytes_eq n who) (sym ((bytes_eq-Decides user.0 name).0 tied)) ∙ is)
there_at who users name verifier user has is false tied =
    any_to (λ (other : List ℕ × List ℕ). bytes_eq other.0 who) (put_in_order (λ (other : List ℕ × List ℕ). by_name other.0 name) (name, verifier) users) user
    (old_put (λ (other : List ℕ × List ℕ). by_name other.0 name) (name, verifier) users user has (by_name user.0 name) refl (λ same. (let e : true ≡ false = sym same ∙ is_eq-slice_cmp user.0 name ∙ tied in absurd cc))) is

-- a user is one behind a user that is set, and behind another one that goes
pub there_put : (who : List ℕ) (users : List (List ℕ × List ℕ)) (name verifier : List ℕ) → list_any (λ (other : List ℕ × List ℕ). bytes_eq other.0 who) users ≡ true
    → list_any (λ (other : List ℕ × List ℕ). bytes_eq other.0 who) (put_in_order (λ (other : List ℕ × List ℕ). by_name other.0 name) (name, verifier) users) ≡ true
there_put who users name verifier is =
    let found = any_from (λ (other : List ℕ × List ℕ). bytes_eq other.0 who) users is in there_at who users name verifier found.0 found.1 found.2 (bytes_eq found.0.0 name) refl

differs_from : (who name other : List ℕ) → bytes_eq name who ≡ false → bytes_eq other who ≡ true → (b : Bool) → bytes_eq other name ≡ b → not b ≡ true
differs_from who name other isnt is false same = refl
differs_from who name other isnt is true same = let e : true ≡ false = sym is ∙ ap (λ (n : List ℕ). bytes_eq n who) ((bytes_eq-Decides other name).0 same) ∙ isnt in absurd cc

pub there_stays : (who : List ℕ) (users : List (List ℕ × List ℕ)) (name : List ℕ) → bytes_eq name who ≡ false → list_any (λ (other : List ℕ × List ℕ). bytes_eq other.0 who) users ≡ true
    → list_any (λ (other : List ℕ × List ℕ). bytes_eq other.0 who) (without (λ (other : List ℕ × List ℕ). bytes_eq other.0 name) users) ≡ true
there_stays who users name isnt is =
    any-filter_same (λ (other : List ℕ × List ℕ). bytes_eq other.0 who) (λ (other : List ℕ × List ℕ). not (bytes_eq other.0 name)) true
    (λ other passes. differs_from who name other.0 isnt passes (bytes_eq other.0 name) refl) users ∙ is

-- ---- tables

module _ (table_is : (a b : TableName) → (same_table a b ≡ true) ↔ (a ≡ b)) where
  -- no row is of a table that isn't there
  no_row : (kept : Kept) (name : TableName) (row : KeptRow) → IsRowFounded kept row → has_table kept name ≡ false → row.0 ≡ name → ⊥
  no_row kept name row (least, (table, (has, named), long)) new same =
      let e : true ≡ false = sym (any_to (λ (other : Table). same_table other.name name) kept.tables table has ((table_is table.name name).1 (named ∙ same))) ∙ new in absurd cc

  none_at : (row : KeptRow) (rest : List KeptRow) (b : Bool) → (b ≡ true → ⊥) → length rest ≤ TABLE_ROW_NUMBERS → length (cond b (row ∷ rest) rest) ≤ TABLE_ROW_NUMBERS
  none_at row rest true isnt few = absurd (isnt refl)
  none_at row rest false isnt few = few

  none_pass : (kept : Kept) (name : TableName) → has_table kept name ≡ false → (rows : List KeptRow) → AllByRecursion (IsRowFounded kept) rows → length (filter (λ (row : KeptRow). same_table row.0 name) rows) ≤ TABLE_ROW_NUMBERS
  none_pass kept name new [] founded = omega arith
  none_pass kept name new (row ∷ rows) founded =
      none_at row (filter (λ (other : KeptRow). same_table other.0 name) rows) (same_table row.0 name) (λ same. no_row kept name row founded.0 new ((table_is row.0 name).0 same)) (none_pass kept name new rows founded.1)

  pub table_made : (tree : List ℕ → Expr) (kept : Kept) (name : TableName) (columns : List Column) (key : List ℕ) → AllByRecursion (IsRowFounded kept) kept.rows → has_table kept name ≡ false
      → nat_le CATALOG_OBJECTS (length kept.tables) ≡ false → length columns ≤ TABLE_COLUMNS → IsWhole kept → IsWhole (changed tree (change.Table name columns key) kept)
  table_made tree kept name columns key founded new room narrow whole =
      let order : Table → Ordering = λ other. by_fields (table_fields other.name) (table_fields name) in
      let table : Table = record { name = name; columns = columns; key = key } in
      let more = put_more order table kept.tables in
      let less = less_than (length kept.tables) room in
      let old : (row : KeptRow) (other : Table) → Contains kept.rows row → Contains (put_in_order order table kept.tables) other → other.name ≡ row.0 → Contains kept.tables other =
      λ row other has there named. elim (of_put order table kept.tables other there) [
        | inl same ↦ absurd (no_row kept name row (all_at (IsRowFounded kept) kept.rows founded row has) new (sym named ∙ sym (ap (λ (t : Table). t.name) same)))
        | inr before ↦ before
      ] in
      record {
        fits = λ row other has kept_table. whole.fits row other has (old row other has kept_table.0 kept_table.1, kept_table.1);
        keys = λ a b other one two kept_table same keyed equal. whole.keys a b other one two (old a other one kept_table.0 kept_table.1, kept_table.1) same keyed equal;
        few = record {
          users = whole.few.users;
          roles = whole.few.roles;
          tables = omega (arith, more, less);
          policies = whole.few.policies;
          fga = whole.few.fga;
          grants = whole.few.grants;
          columns = all_put (λ (other : Table). length other.columns ≤ TABLE_COLUMNS) order table kept.tables narrow whole.few.columns;
          rows = all_put (λ (other : Table). length (filter (λ (row : KeptRow). same_table row.0 other.name) kept.rows) ≤ TABLE_ROW_NUMBERS) order table kept.tables (none_pass kept name new kept.rows founded) whole.few.rows;
        };
      }

both_at : {X : Type 0} (test : X → Bool) (keeps passes : Bool) (x : X) (kept all : List X) → test x ≡ passes → length (filter test kept) ≤ length all → length (filter test (cond keeps (x ∷ kept) kept)) ≤ length (cond passes (x ∷ all) all)
both_at test true true x kept all is few = rw is (omega (arith, few))
both_at test true false x kept all is few = rw is few
both_at test false true x kept all is few = omega (arith, few)
both_at test false false x kept all is few = few

both_fewer : {X : Type 0} (test keep : X → Bool) (xs : List X) → length (filter test (filter keep xs)) ≤ length (filter test xs)
both_fewer test keep [] = omega arith
both_fewer test keep (x ∷ xs) = both_at test (keep x) (test x) x (filter keep xs) (filter test xs) refl (both_fewer test keep xs)

each_to : {X : Type 0} (P Q : X → Type 0) → ((x : X) → P x → Q x) → (xs : List X) → AllByRecursion P xs → AllByRecursion Q xs
each_to P Q goes [] all = tt
each_to P Q goes (x ∷ xs) all = (goes x all.0, each_to P Q goes xs all.1)

pub table_gone : (tree : List ℕ → Expr) (kept : Kept) (name : TableName) → grant_count (applied_all (TableGone name ∷ []) kept.grants) ≤ grant_count kept.grants → IsWhole kept → IsWhole (changed tree (change.TableGone name) kept)
table_gone tree kept name fewer whole =
    let stays : KeptRow → Bool = λ row. not (same_table row.0 name) in
    let keeps : Table → Bool = λ table. not (same_table table.name name) in
    let tables = filter_fewer keeps kept.tables in
    let fga = filter_fewer (λ (policy : FgaPolicy). not (same_table policy.name.table name)) kept.fga in
    let few_tables = whole.few.tables in
    let few_fga = whole.few.fga in
    let few_grants = whole.few.grants in
    record {
      fits = λ row table has kept_table. whole.fits row table (of_filter stays kept.rows row has) (of_filter keeps kept.tables table kept_table.0, kept_table.1);
      keys = λ a b table one two kept_table. whole.keys a b table (of_filter stays kept.rows a one) (of_filter stays kept.rows b two) (of_filter keeps kept.tables table kept_table.0, kept_table.1);
      few = record {
        users = whole.few.users;
        roles = whole.few.roles;
        tables = omega (arith, tables, few_tables);
        policies = whole.few.policies;
        fga = omega (arith, fga, few_fga);
        grants = omega (arith, fewer, few_grants);
        columns = all_filtered (λ (table : Table). length table.columns ≤ TABLE_COLUMNS) keeps kept.tables whole.few.columns;
        rows = all_filtered (λ (table : Table). length (filter (λ (row : KeptRow). same_table row.0 table.name) (filter stays kept.rows)) ≤ TABLE_ROW_NUMBERS) keeps kept.tables
            (each_to (λ (table : Table). length (filter (λ (row : KeptRow). same_table row.0 table.name) kept.rows) ≤ TABLE_ROW_NUMBERS) (λ (table : Table). length (filter (λ (row : KeptRow). same_table row.0 table.name) (filter stays kept.rows)) ≤ TABLE_ROW_NUMBERS)
            (λ table few. (let less = both_fewer (λ (row : KeptRow). same_table row.0 table.name) stays kept.rows in omega (arith, less, few))) kept.tables whole.few.rows);
      };
    }
