-- What stands at the place of what is sought says whether it is there.
use Rattle.std.proofs.Common.{◌≡◌, ◌≤◌, ◌<◌, ℕ, true, false, List, [], ◌∷◌, length, get_or, map, sym, arith}
use Rattle.std.specs.Prelude.{nat_lt}
use Rattle.std.specs.List.{list_any}
use Rattle.std.specs.Str.{bytes_eq}
use Rattle.std.proofs.lemmas.Bool.{and_parts, and_from}
use Rattle.std.proofs.lemmas.Bool.Decides.{nat_tests}
use Rattle.std.proofs.lemmas.Slice.Eq.{bytes_eq-Decides}
use Rattle.au_base.specs.declared.table.TableName.{TableName}
use Rattle.au_base.specs.Order.{fields_before, name_before}
use Rattle.au_base.specs.Sameness.{same_table}
use Rattle.au_entries.specs.declared.fine_grained.FgaPolicy.{FgaPolicy}
use Rattle.au_entries.specs.declared.table.Table.{Table}
use Rattle.au_entries.specs.Changing.{fga_fields, is_fga, table_fields}
use Rattle.au_grants.specs.Order.{is_in_order}
use Rattle.au_replay.specs.descent.Places.{IsPlaceOf}
use Rattle.au_replay.proofs.Halving.{IsFront, any_at, by_fields, by_names, none_at}

pub same_name-is : (a b : List ℕ) → bytes_eq a b ≡ true → a ≡ b
same_name-is a b is = (bytes_eq-Decides a b).0 is

pub same_name-to : (a b : List ℕ) → a ≡ b → bytes_eq a b ≡ true
same_name-to a b same = (bytes_eq-Decides a b).1 same

-- what isn't within fails the test
pub past : (k n : ℕ) → n ≤ k → nat_lt k n ≡ false
past k n over = grind (arith, nat_tests)

-- ---- names

named_front : {X : Type 0} (name_of : X → List ℕ) (name : List ℕ) (x : X) → bytes_eq (name_of x) name ≡ true → IsFront (name ∷ []) (name_of x ∷ [])
named_front name_of name x is = (same_name-is _ _ is, tt)

named_from : {X : Type 0} (name_of : X → List ℕ) (name : List ℕ) (x : X) → IsFront (name ∷ []) (name_of x ∷ []) → bytes_eq (name_of x) name ≡ true
named_from name_of name x front = same_name-to _ _ front.0

pub named_at : {X : Type 0} (name_of : X → List ℕ) (name : List ℕ) (xs : List X) (k : ℕ) (d : X) → is_in_order name_before (map name_of xs) ≡ true
    → IsPlaceOf (λ x. name_of x ∷ []) (name ∷ []) xs k → k < length xs → bytes_eq (name_of (get_or xs k d)) name ≡ list_any (λ x. bytes_eq (name_of x) name) xs
named_at name_of name xs k d ordered place within =
    sym (any_at (λ x. name_of x ∷ []) (name ∷ []) (λ x. bytes_eq (name_of x) name) xs k d (named_front name_of name) (named_from name_of name) (by_names name_of xs ordered) place within)

pub none_named : {X : Type 0} (name_of : X → List ℕ) (name : List ℕ) (xs : List X) (k : ℕ) → IsPlaceOf (λ x. name_of x ∷ []) (name ∷ []) xs k → length xs ≤ k
    → false ≡ list_any (λ x. bytes_eq (name_of x) name) xs
none_named name_of name xs k place end = sym (none_at (λ x. name_of x ∷ []) (name ∷ []) (λ x. bytes_eq (name_of x) name) xs k (named_front name_of name) place end)

-- ---- tables

abbrev pub fields_of_table : Table → List (List ℕ)
fields_of_table table = table_fields table.name

table_front : (name : TableName) (x : Table) → same_table x.name name ≡ true → IsFront (table_fields name) (fields_of_table x)
table_front name x is =
    let parts = and_parts (bytes_eq x.name.owner name.owner) (bytes_eq x.name.name name.name) is in
    (same_name-is _ _ parts.0, (same_name-is _ _ parts.1, tt))

table_from : (name : TableName) (x : Table) → IsFront (table_fields name) (fields_of_table x) → same_table x.name name ≡ true
table_from name x front = and_from _ _ (same_name-to _ _ front.0) (same_name-to _ _ front.1.0)

pub table_at : (name : TableName) (xs : List Table) (k : ℕ) (d : Table) → is_in_order fields_before (map fields_of_table xs) ≡ true
    → IsPlaceOf fields_of_table (table_fields name) xs k → k < length xs → same_table (get_or xs k d).name name ≡ list_any (λ x. same_table x.name name) xs
table_at name xs k d ordered place within =
    sym (any_at fields_of_table (table_fields name) (λ x. same_table x.name name) xs k d (table_front name) (table_from name) (by_fields fields_of_table xs ordered) place within)

pub no_table : (name : TableName) (xs : List Table) (k : ℕ) → IsPlaceOf fields_of_table (table_fields name) xs k → length xs ≤ k → false ≡ list_any (λ x. same_table x.name name) xs
no_table name xs k place end = sym (none_at fields_of_table (table_fields name) (λ x. same_table x.name name) xs k (table_front name) place end)

owner_front : (user : List ℕ) (x : Table) → bytes_eq x.name.owner user ≡ true → IsFront (user ∷ []) (fields_of_table x)
owner_front user x is = (same_name-is _ _ is, tt)

owner_from : (user : List ℕ) (x : Table) → IsFront (user ∷ []) (fields_of_table x) → bytes_eq x.name.owner user ≡ true
owner_from user x front = same_name-to _ _ front.0

pub owner_at : (user : List ℕ) (xs : List Table) (k : ℕ) (d : Table) → is_in_order fields_before (map fields_of_table xs) ≡ true
    → IsPlaceOf fields_of_table (user ∷ []) xs k → k < length xs → bytes_eq (get_or xs k d).name.owner user ≡ list_any (λ x. bytes_eq x.name.owner user) xs
owner_at user xs k d ordered place within =
    sym (any_at fields_of_table (user ∷ []) (λ x. bytes_eq x.name.owner user) xs k d (owner_front user) (owner_from user) (by_fields fields_of_table xs ordered) place within)

pub no_owner : (user : List ℕ) (xs : List Table) (k : ℕ) → IsPlaceOf fields_of_table (user ∷ []) xs k → length xs ≤ k → false ≡ list_any (λ x. bytes_eq x.name.owner user) xs
no_owner user xs k place end = sym (none_at fields_of_table (user ∷ []) (λ x. bytes_eq x.name.owner user) xs k (owner_front user) place end)

-- ---- fine-grained policies

abbrev pub fields_of_fga : FgaPolicy → List (List ℕ)
fields_of_fga policy = fga_fields policy.name.table policy.name.policy

fga_front : (table : TableName) (policy : List ℕ) (x : FgaPolicy) → is_fga table policy x ≡ true → IsFront (fga_fields table policy) (fields_of_fga x)
fga_front table policy x is =
    let parts = and_parts (same_table x.name.table table) (bytes_eq x.name.policy policy) is in
    let on = and_parts (bytes_eq x.name.table.owner table.owner) (bytes_eq x.name.table.name table.name) parts.0 in
    (same_name-is _ _ on.0, (same_name-is _ _ on.1, (same_name-is _ _ parts.1, tt)))

fga_from : (table : TableName) (policy : List ℕ) (x : FgaPolicy) → IsFront (fga_fields table policy) (fields_of_fga x) → is_fga table policy x ≡ true
fga_from table policy x front = and_from _ _ (and_from _ _ (same_name-to _ _ front.0) (same_name-to _ _ front.1.0)) (same_name-to _ _ front.1.1.0)

pub fga_at : (table : TableName) (policy : List ℕ) (xs : List FgaPolicy) (k : ℕ) (d : FgaPolicy) → is_in_order fields_before (map fields_of_fga xs) ≡ true
    → IsPlaceOf fields_of_fga (fga_fields table policy) xs k → k < length xs → is_fga table policy (get_or xs k d) ≡ list_any (is_fga table policy) xs
fga_at table policy xs k d ordered place within =
    sym (any_at fields_of_fga (fga_fields table policy) (is_fga table policy) xs k d (fga_front table policy) (fga_from table policy) (by_fields fields_of_fga xs ordered) place within)

pub no_fga : (table : TableName) (policy : List ℕ) (xs : List FgaPolicy) (k : ℕ) → IsPlaceOf fields_of_fga (fga_fields table policy) xs k → length xs ≤ k → false ≡ list_any (is_fga table policy) xs
no_fga table policy xs k place end = sym (none_at fields_of_fga (fga_fields table policy) (is_fga table policy) xs k (fga_front table policy) place end)
