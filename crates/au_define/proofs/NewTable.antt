-- What CREATE TABLE makes, where no rule is broken, is a table.
use Rattle.std.proofs.Common.{◌≡◌, ◌≢◌, ◌∙◌, ◌<◌, ◌≤◌, suc, zero, Bool, true, false, not, cond, ◌||◌, List, [], ◌∷◌, ◌++◌, Some, Option, ℕ, map, length, filter, refl, sym, ap, subst, arith}
use Rattle.std.specs.Prelude.{get_or, nat_le, ◌+◌, if◌then◌else◌, unwrap_or}
use Rattle.std.specs.List.{AllByRecursion, Contains, IsDistinct, list_any, flat_map, position, position_or_len, prefix_len}
use Rattle.std.specs.Set.{distinct_count}
use Rattle.std.specs.Str.{bytes_eq}
use Rattle.std.specs.Cmp.Lexicographic.{nat_list_eq_equiv}
use Rattle.std.proofs.lemmas.Bool.{lt-ltb, not-false, or_parts, or_right}
use Rattle.std.proofs.lemmas.Bool.Decides.{Decides-eqb, nat_tests}
use Rattle.std.proofs.lemmas.List.Quantifiers.{position-Some}
use Rattle.std.proofs.lemmas.Map.Made.{IsDistinct-from_count, length-le_from_is_member}
use Rattle.std.proofs.lemmas.Slice.Eq.{bytes_eq-Decides}
use Rattle.au_define.specs.Columns.{are_distinct, columns_of, has_column_twice, has_key_twice, has_second_key, has_unknown_key, is_key, is_one_of, key_names, made_column, made_columns, made_key, names_of, place_of}
use Rattle.au_define.specs.Deciding.{IsSized}
use Rattle.au_define.proofs.Members.{all_at, all_of, any_from, any_to}
use Rattle.au_base.specs.declared.table.Column.{Column}
use Rattle.au_entries.specs.Replaying.{IsKeyPlace, IsSizeOf, IsTable, NamesDiffer, NumbersDiffer}
use Rattle.sql_ast.specs.declared.table.Element.{Element}
use Rattle.sql_ast.specs.declared.table.Element.TheVariants as element

-- ---- names that differ

apart : (x y : List ℕ) → bytes_eq x y ≡ false → x ≢ y
apart x y isnt same = let e : true ≡ false = sym ((bytes_eq-Decides x y).1 same) ∙ isnt in absurd cc

at_place : {X : Type 0} (P : X → Type 0) (xs : List X) (d : X) (k : ℕ) → AllByRecursion P xs → k < length xs → P (get_or xs k d)
at_place P [] d k all within = absurd (omega (arith, within))
at_place P (x ∷ xs) d zero all within = all.0
at_place P (x ∷ xs) d (suc k) all within = at_place P xs d k all.1 (omega (arith, within))

names_differ : (names : List (List ℕ)) → IsDistinct bytes_eq names → NamesDiffer names
unfolding IsDistinct
names_differ [] distinct i j before within same = omega (arith, within)
names_differ (x ∷ xs) distinct zero zero before within same = omega (arith, before)
names_differ (x ∷ xs) distinct zero (suc j) before within same = apart x (get_or xs j []) (at_place (λ y. bytes_eq x y ≡ false) xs [] j distinct.0 (omega (arith, within))) same
names_differ (x ∷ xs) distinct (suc i) zero before within same = omega (arith, before)
names_differ (x ∷ xs) distinct (suc i) (suc j) before within same = names_differ xs distinct.1 i j (omega (arith, before)) (omega (arith, within)) same

distinct_of : (names : List (List ℕ)) → not (are_distinct names) ≡ false → IsDistinct bytes_eq names
distinct_of names is = IsDistinct-from_count nat_list_eq_equiv names ((Decides-eqb (distinct_count bytes_eq names) (length names)).0 (not-false _ is))

-- ---- the columns

column_names : (key : List (List ℕ)) (elements : List Element) → map (λ (column : Column). column.name) (map (made_column key) (columns_of elements)) ≡ names_of elements
column_names key [] = refl
column_names key (element.Column column primary ∷ elements) = ap (λ (names : List (List ℕ)). column.name ∷ names) (column_names key elements)
column_names key (element.PrimaryKey names ∷ elements) = column_names key elements

plain_names : (elements : List Element) → map (λ (column : Column). column.name) (columns_of elements) ≡ names_of elements
plain_names [] = refl
plain_names (element.Column column primary ∷ elements) = ap (λ (names : List (List ℕ)). column.name ∷ names) (plain_names elements)
plain_names (element.PrimaryKey names ∷ elements) = plain_names elements

columns_sized : (key : List (List ℕ)) (elements : List Element) → AllByRecursion IsSized elements → AllByRecursion (λ (column : Column). IsSizeOf column.kind column.size) (map (made_column key) (columns_of elements))
columns_sized key [] sized = tt
columns_sized key (element.Column column primary ∷ elements) sized = (sized.0, columns_sized key elements sized.1)
columns_sized key (element.PrimaryKey names ∷ elements) sized = columns_sized key elements sized.1

length_mapped : {X Y : Type 0} (f : X → Y) (xs : List X) → length (map f xs) ≡ length xs
length_mapped f [] = refl
length_mapped f (x ∷ xs) = ap suc (length_mapped f xs)

-- ---- the key

no_parts : (elements : List Element) → length (filter is_key elements) ≤ 0 → key_names elements ≡ []
no_parts [] few = refl
no_parts (element.Column column true ∷ elements) few = absurd (omega (arith, few))
no_parts (element.Column column false ∷ elements) few = no_parts elements few
no_parts (element.PrimaryKey names ∷ elements) few = absurd (omega (arith, few))

joined_none : (xs ys : List (List ℕ)) → ys ≡ [] → xs ++ ys ≡ xs
joined_none [] ys none = none
joined_none (x ∷ xs) ys none = ap (λ (rest : List (List ℕ)). x ∷ rest) (joined_none xs ys none)

one_key : (names : List (List ℕ)) (elements : List Element) → IsDistinct bytes_eq names → length (filter is_key elements) ≤ 0 → IsDistinct bytes_eq (names ++ key_names elements)
one_key names elements distinct few = subst (IsDistinct bytes_eq) (sym (joined_none names (key_names elements) (no_parts elements few))) distinct

alone : (name : List ℕ) → IsDistinct bytes_eq (name ∷ [])
unfolding IsDistinct
alone name = (tt, tt)

key_distinct : (elements : List Element) → length (filter is_key elements) ≤ 1 → list_any has_key_twice elements ≡ false → IsDistinct bytes_eq (key_names elements)
unfolding IsDistinct
key_distinct [] few once = tt
key_distinct (element.Column column true ∷ elements) few once = one_key (column.name ∷ []) elements (alone column.name) (omega (arith, few))
key_distinct (element.Column column false ∷ elements) few once = key_distinct elements few once
key_distinct (element.PrimaryKey names ∷ elements) few once =
    one_key names elements (distinct_of names (or_parts (not (are_distinct names)) (list_any has_key_twice elements) once).0) (omega (arith, few))

-- ---- the places of the key's columns

within_at : {X : Type 0} (test : X → Bool) (xs : List X) (b : Bool) → (list_any test xs ≡ true → position_or_len test xs < length xs) → (b || list_any test xs) ≡ true
    → cond (not b) (1 + prefix_len (λ x. not (test x)) xs) 0 < suc (length xs)
within_at test xs true later is = omega arith
within_at test xs false later is = let rest = later is in omega (arith, rest)

within : {X : Type 0} (test : X → Bool) (xs : List X) → list_any test xs ≡ true → position_or_len test xs < length xs
within test [] is = absurd (let e : false ≡ true = is in cc)
within test (x ∷ xs) is = within_at test xs (test x) (within test xs) is

is_at : {X : Type 0} (test : X → Bool) (xs : List X) → list_any test xs ≡ true → position test xs ≡ Some (position_or_len test xs)
is_at test xs is = rw (lt-ltb (position_or_len test xs) (length xs) (within test xs is)) refl

-- a name that is one of these stands at its place
stands_at : (names : List (List ℕ)) (name : List ℕ) → is_one_of names name ≡ true → (place_of names name < length names) × (get_or names (place_of names name) [] ≡ name)
stands_at names name is =
    let found = position-Some (λ other. bytes_eq other name) names (position_or_len (λ other. bytes_eq other name) names) [] (is_at (λ other. bytes_eq other name) names is) in
    let place : place_of names name ≡ position_or_len (λ other. bytes_eq other name) names = ap (λ (p : Option ℕ). unwrap_or p 0) (is_at (λ other. bytes_eq other name) names is) in
    subst (λ (k : ℕ). (k < length names) × (get_or names k [] ≡ name)) (sym place) (found.0, (bytes_eq-Decides _ name).0 found.1)

places_apart : (names : List (List ℕ)) (x y : List ℕ) → is_one_of names x ≡ true → is_one_of names y ≡ true → bytes_eq x y ≡ false → place_of names x ≢ place_of names y
places_apart names x y one other isnt same =
    apart x y isnt (sym (stands_at names x one).1 ∙ ap (λ (k : ℕ). get_or names k []) same ∙ (stands_at names y other).1)

all_apart : (names : List (List ℕ)) (x : List ℕ) (key : List (List ℕ)) → is_one_of names x ≡ true → AllByRecursion (λ y. is_one_of names y ≡ true) key → AllByRecursion (λ y. bytes_eq x y ≡ false) key
    → AllByRecursion (λ k. place_of names x ≢ k) (map (place_of names) key)
all_apart names x [] one known distinct = tt
all_apart names x (y ∷ key) one known distinct = (places_apart names x y one known.0 distinct.0, all_apart names x key one known.1 distinct.1)

numbers_differ : (names key : List (List ℕ)) → AllByRecursion (λ y. is_one_of names y ≡ true) key → IsDistinct bytes_eq key → NumbersDiffer (map (place_of names) key)
unfolding IsDistinct
numbers_differ names [] known distinct i j before inside same = omega (arith, inside)
numbers_differ names (x ∷ key) known distinct zero zero before inside same = omega (arith, before)
numbers_differ names (x ∷ key) known distinct zero (suc j) before inside same =
    at_place (λ k. place_of names x ≢ k) (map (place_of names) key) 0 j (all_apart names x key known.0 known.1 distinct.0) (omega (arith, inside)) same
numbers_differ names (x ∷ key) known distinct (suc i) zero before inside same = omega (arith, before)
numbers_differ names (x ∷ key) known distinct (suc i) (suc j) before inside same = numbers_differ names key known.1 distinct.1 i j (omega (arith, before)) (omega (arith, inside)) same

-- the column at the place of one of the key's names is NOT NULL
key_place : (key : List (List ℕ)) (columns : List Column) (place : ℕ) (name : List ℕ) → place < length columns → get_or (map (λ (column : Column). column.name) columns) place [] ≡ name → is_one_of key name ≡ true
    → IsKeyPlace (map (made_column key) columns) place
key_place key [] place name inside is one = absurd (omega (arith, inside))
key_place key (column ∷ columns) zero name inside is one = or_right column.not_null (is_one_of key column.name) (ap (is_one_of key) is ∙ one)
key_place key (column ∷ columns) (suc place) name inside is one = key_place key columns place name (omega (arith, inside)) is one

key_stands : (key : List (List ℕ)) (elements : List Element) (names : List (List ℕ)) → AllByRecursion (λ y. is_one_of (names_of elements) y ≡ true) names → AllByRecursion (λ y. is_one_of key y ≡ true) names
    → AllByRecursion (IsKeyPlace (map (made_column key) (columns_of elements))) (map (place_of (names_of elements)) names)
key_stands key elements [] known one = tt
key_stands key elements (name ∷ names) known one =
    let stands = stands_at (names_of elements) name known.0 in
    let long : length (columns_of elements) ≡ length (names_of elements) = sym (length_mapped (λ (column : Column). column.name) (columns_of elements)) ∙ ap length (plain_names elements) in (
      key_place key (columns_of elements) (place_of (names_of elements) name) name (subst (λ (n : ℕ). place_of (names_of elements) name < n) (sym long) stands.0)
          (ap (λ (ns : List (List ℕ)). get_or ns (place_of (names_of elements) name) []) (plain_names elements) ∙ stands.1) one.0,
      key_stands key elements names known.1 one.1,
    )

-- ---- the table

all_known : (names key : List (List ℕ)) → list_any (λ name. not (is_one_of names name)) key ≡ false → AllByRecursion (λ y. is_one_of names y ≡ true) key
all_known names [] is = tt
all_known names (name ∷ key) is =
    let parts = or_parts (not (is_one_of names name)) (list_any (λ other. not (is_one_of names other)) key) is in (not-false _ parts.0, all_known names key parts.1)

in_itself : (key : List (List ℕ)) → AllByRecursion (λ y. is_one_of key y ≡ true) key
in_itself key = all_of (λ y. is_one_of key y ≡ true) key (λ y has. any_to (λ other. bytes_eq other y) key y has ((bytes_eq-Decides y y).1 refl))

-- a key names a column, so that there is one
some_column : (elements : List Element) → 1 ≤ length elements → AllByRecursion IsSized elements → has_unknown_key elements ≡ false → 1 ≤ length (names_of elements)
some_column [] some sized known = some
some_column (element.Column column primary ∷ elements) some sized known = omega arith
some_column (element.PrimaryKey [] ∷ elements) some sized known = absurd (let one = sized.0 in omega (arith, one))
some_column (element.PrimaryKey (name ∷ names) ∷ elements) some sized known =
    let first : is_one_of (names_of elements) name ≡ true = (all_known (names_of elements) (name ∷ (names ++ key_names elements)) known).0 in
    let stands = stands_at (names_of elements) name first in let less = stands.0 in omega (arith, less)

few_keys : (n : ℕ) → nat_le 2 n ≡ false → n ≤ 1
few_keys n is = grind (arith, nat_tests)

-- a key has no more columns than the table
member_of : (names key : List (List ℕ)) → AllByRecursion (λ y. is_one_of names y ≡ true) key → (q : List ℕ) → list_any (bytes_eq q) key ≡ true → list_any (bytes_eq q) names ≡ true
member_of names key known q is =
    let found = any_from (bytes_eq q) key is in
    let other = any_from (λ (name : List ℕ). bytes_eq name found.0) names (all_at (λ y. is_one_of names y ≡ true) key known found.0 found.1) in
    any_to (bytes_eq q) names other.0 other.1 ((bytes_eq-Decides q other.0).1 ((bytes_eq-Decides q found.0).0 found.2 ∙ sym ((bytes_eq-Decides other.0 found.0).0 other.2)))

pub key_short : (elements : List Element) → has_column_twice elements ≡ false → has_second_key elements ≡ false → has_unknown_key elements ≡ false → length (made_key elements) ≤ length (names_of elements)
key_short elements once second known =
    let key = key_names elements in
    let parts = or_parts (not (are_distinct (names_of elements))) (list_any has_key_twice elements) once in
    let few = length-le_from_is_member nat_list_eq_equiv key (names_of elements) (key_distinct elements (few_keys _ second) parts.1) (member_of (names_of elements) key (all_known (names_of elements) key known)) in
    let long = length_mapped (place_of (names_of elements)) key in omega (arith, few, long)

-- and its places are among those of the columns
places_within : (names key : List (List ℕ)) → AllByRecursion (λ y. is_one_of names y ≡ true) key → AllByRecursion (λ k. k < length names) (map (place_of names) key)
places_within names [] known = tt
places_within names (name ∷ key) known = ((stands_at names name known.0).0, places_within names key known.1)

pub places_short : (elements : List Element) → has_unknown_key elements ≡ false → AllByRecursion (λ k. k < length (names_of elements)) (made_key elements)
places_short elements known = places_within (names_of elements) (key_names elements) (all_known (names_of elements) (key_names elements) known)

pub made_length : (elements : List Element) → length (made_columns elements) ≡ length (names_of elements)
made_length elements = sym (length_mapped (λ (column : Column). column.name) (made_columns elements)) ∙ ap length (column_names (key_names elements) elements)

pub is_table : (elements : List Element) → 1 ≤ length elements → AllByRecursion IsSized elements → has_column_twice elements ≡ false → has_second_key elements ≡ false → has_unknown_key elements ≡ false
    → IsTable (made_columns elements) (made_key elements)
is_table elements some sized once second known =
    let key = key_names elements in
    let names = names_of elements in
    let parts = or_parts (not (are_distinct names)) (list_any has_key_twice elements) once in
    let there = all_known names key known in
    record {
      some = subst (λ (n : ℕ). 1 ≤ n) (sym (made_length elements)) (some_column elements some sized known);
      named = subst NamesDiffer (sym (column_names key elements)) (names_differ names (distinct_of names parts.0));
      sized = columns_sized key elements sized;
      key_differs = numbers_differ names key there (key_distinct elements (few_keys _ second) parts.1);
      key_stands = key_stands key elements key there (in_itself key);
    }
