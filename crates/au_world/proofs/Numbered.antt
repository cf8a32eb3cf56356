-- The rows of a view have different numbers, each of which the desk counts.
use Rattle.std.proofs.Common.{◌≡◌, ◌≢◌, ◌∙◌, ◌≤◌, ◌<◌, ℕ, Bool, true, false, not, cond, ◌==◌, eqb-true, ◌⊎◌, inl, inr, List, [], ◌∷◌, map, length, filter, refl, sym, ap, subst, arith}
use Rattle.std.specs.Prelude.{⊤, IsSome, IsTrue, Option, Some}
use Rattle.std.specs.List.{Contains, list_all, list_any}
use Rattle.std.proofs.lemmas.Bool.{and_parts}
use Rattle.std.proofs.lemmas.List.{length-map}
use Rattle.au_base.specs.declared.cell.Cell.{Cell}
use Rattle.au_base.specs.declared.numbers.ClientNo.{ClientNo}
use Rattle.au_base.specs.declared.numbers.RowNo.{RowNo}
use Rattle.au_base.specs.declared.table.TableName.{TableName}
use Rattle.au_base.specs.Order.{fields_before, is_in_order}
use Rattle.au_base.specs.OrderLaws.{fields_irreflexive}
use Rattle.au_base.specs.Sameness.{same_table}
use Rattle.au_txn.specs.declared.change.RowChange.{RowChange}
use Rattle.au_txn.specs.Counts.{AreNumbers}
use Rattle.au_txn.specs.Rows.{Row, is_in, place_of, row_at, row_before, rows_in}
use Rattle.au_txn.specs.Transactions.{IsNumber, laid_over, names_row, view}
use Rattle.au_world.proofs.Members.{here, kept, mapped, none, passed, split, there}

differs : true ≡ false → ⊥
differs e = cc

-- no element stands twice
abbrev pub Apart : {X : Type 0} → List X → Type 0
Apart [] = ⊤
Apart {X} (x ∷ xs) = ((y : X) → Contains xs y → x ≢ y) × Apart xs

all_from : {X : Type 0} (test : X → Bool) (xs : List X) → list_all test xs ≡ true → (x : X) → Contains xs x → test x ≡ true
all_from test [] all x has = absurd (none x has)
all_from test (y ∷ xs) all x has =
    let both = and_parts (test y) (list_all test xs) all in
    elim (split y xs x has) [
      | inl same ↦ ap test (sym same) ∙ both.0
      | inr later ↦ all_from test xs both.1 x later
    ]

-- ---- a list without repetitions has at most as many elements as one that has them all

abbrev is_not : RowNo → RowNo → Bool
is_not x y = not (x.0 == y.0)

same_number : (x y : RowNo) (b : Bool) → (x.0 == y.0) ≡ b → not b ≡ false → x ≡ y
same_number x y true is off = (let e : x.0 ≡ y.0 = eqb-true x.0 y.0 is in λ i. record { 0 = e i })
same_number x y false is off = absurd (differs off)

other_number : (x y : RowNo) (b : Bool) → is_not x y ≡ b → x ≢ y → b ≡ true
other_number x y true is other = refl
other_number x y false is other = absurd (other (same_number x y (x.0 == y.0) refl is))

pub itself : (n : ℕ) → (n == n) ≡ true
itself n = grind arith

stays_at : (x y : RowNo) (ys : List RowNo) (z : RowNo) (b : Bool) → is_not x y ≡ b → (y ≡ z) ⊎ Contains (filter (is_not x) ys) z → x ≢ z → Contains (cond b (y ∷ filter (is_not x) ys) (filter (is_not x) ys)) z
stays_at x y ys z true is has other = elim has [
  | inl same ↦ subst (λ n. Contains (y ∷ filter (is_not x) ys) n) same (here y (filter (is_not x) ys))
  | inr later ↦ there y (filter (is_not x) ys) z later
]
stays_at x y ys z false is has other = elim has [
  | inl same ↦ absurd (other (same_number x y (x.0 == y.0) refl is ∙ same))
  | inr later ↦ later
]

stays : (x : RowNo) (ys : List RowNo) (z : RowNo) → Contains ys z → x ≢ z → Contains (filter (is_not x) ys) z
stays x [] z has other = absurd (none z has)
stays x (y ∷ ys) z has other = elim (split y ys z has) [
  | inl same ↦ stays_at x y ys z (is_not x y) refl (inl same) other
  | inr later ↦ stays_at x y ys z (is_not x y) refl (inr (stays x ys z later other)) other
]

no_more_at : {X : Type 0} (b : Bool) (x : X) (rest xs : List X) → length rest ≤ length xs → length (cond b (x ∷ rest) rest) ≤ length (x ∷ xs)
no_more_at true x rest xs few = omega (arith, few)
no_more_at false x rest xs few = omega (arith, few)

no_more : {X : Type 0} (test : X → Bool) (xs : List X) → length (filter test xs) ≤ length xs
no_more test [] = omega arith
no_more test (x ∷ xs) = no_more_at (test x) x (filter test xs) xs (no_more test xs)

fewer_at : (x y : RowNo) (ys : List RowNo) (b : Bool) → is_not x y ≡ b → (x ≡ y) ⊎ (length (filter (is_not x) ys) < length ys) → length (cond b (y ∷ filter (is_not x) ys) (filter (is_not x) ys)) < length (y ∷ ys)
fewer_at x y ys true is here_or = elim here_or [
  | inl same ↦ absurd (differs (sym is ∙ ap not (ap (λ (n : RowNo). x.0 == n.0) (sym same) ∙ itself x.0)))
  | inr few ↦ omega (arith, few)
]
fewer_at x y ys false is here_or = let few = no_more (is_not x) ys in omega (arith, few)

fewer : (x : RowNo) (ys : List RowNo) → Contains ys x → length (filter (is_not x) ys) < length ys
fewer x [] has = absurd (none x has)
fewer x (y ∷ ys) has = elim (split y ys x has) [
  | inl same ↦ fewer_at x y ys (is_not x y) refl (inl (sym same))
  | inr later ↦ fewer_at x y ys (is_not x y) refl (inr (fewer x ys later))
]

pub few : (xs ys : List RowNo) → Apart xs → ((x : RowNo) → Contains xs x → Contains ys x) → length xs ≤ length ys
few [] ys apart all = omega arith
few (x ∷ xs) ys apart all =
    let less = fewer x ys (all x (here x xs)) in
    let rest = few xs (filter (is_not x) ys) apart.1 (λ z has. stays x ys z (all z (there x xs z has)) (apart.0 z has)) in
    omega (arith, less, rest)

-- ---- views

abbrev pub numbers_of : List Row → List RowNo
numbers_of rows = map (λ (row : Row). row.number) rows

one_place : (a b : Row) → a.table ≡ b.table → a.number ≡ b.number → row_before a b ≡ false
one_place a b table number =
    ap (λ (t : TableName). fields_before (place_of t a.number) (place_of b.table b.number)) table
    ∙ ap (λ (n : RowNo). fields_before (place_of b.table n) (place_of b.table b.number)) number
    ∙ fields_irreflexive (place_of b.table b.number)

module _ (same : (a b : TableName) → same_table a b ≡ true → a ≡ b) (table : TableName) where
  first_apart : (row : Row) (rows : List Row) → is_in table row ≡ true → list_all (row_before row) rows ≡ true
      → (n : RowNo) → Contains (numbers_of (rows_in table rows)) n → row.number ≢ n
  first_apart row rows in_it all n has is =
      let found = mapped (λ (other : Row). other.number) (rows_in table rows) n has in
      let of_table = same found.0.table table (passed (is_in table) rows found.0 found.1) in
      let before = all_from (row_before row) rows all found.0 (kept (is_in table) rows found.0 found.1) in
      differs (sym before ∙ one_place row found.0 (same row.table table in_it ∙ sym of_table) (is ∙ sym found.2))

  apart_at : (b : Bool) (row : Row) (rows : List Row) → is_in table row ≡ b → list_all (row_before row) rows ≡ true → Apart (numbers_of (rows_in table rows)) → Apart (numbers_of (cond b (row ∷ rows_in table rows) (rows_in table rows)))
  apart_at true row rows in_it all rest = (first_apart row rows in_it all, rest)
  apart_at false row rows in_it all rest = rest

  pub view_apart : (rows : List Row) → is_in_order row_before rows ≡ true → Apart (numbers_of (rows_in table rows))
  view_apart [] ordered = tt
  view_apart (row ∷ rows) ordered =
      let both = and_parts (list_all (row_before row) rows) (is_in_order row_before rows) ordered in
      apart_at (is_in table row) row rows refl both.0 (view_apart rows both.1)

is_there : (o : Option (List Cell)) (cells : List Cell) → o ≡ Some cells → IsSome o
is_there o cells is = subst IsSome (sym is) refl

-- a number of a row that is seen is one that the desk counts
counted_at : (rows : List Row) (transactions : ClientNo → List RowChange) (client : ClientNo) (table : TableName) (number : RowNo) (cells : List Cell)
    → (names_row table number (transactions client) ≡ false → row_at table number (laid_over rows (transactions client)) ≡ row_at table number rows)
    → row_at table number (laid_over rows (transactions client)) ≡ Some cells
    → (b : Bool) → names_row table number (transactions client) ≡ b → IsNumber rows transactions table number
counted_at rows transactions client table number cells untouched is true named = inr (client, named)
counted_at rows transactions client table number cells untouched is false named = inl (is_there (row_at table number rows) cells (sym (untouched named) ∙ is))

-- a client sees no more rows than the desk counts numbers
pub no_more_rows : ((a b : TableName) → same_table a b ≡ true → a ≡ b)
    → (rows : List Row) (transactions : ClientNo → List RowChange) (client : ClientNo) (table : TableName) (count last : ℕ)
    → is_in_order row_before (laid_over rows (transactions client)) ≡ true
    → ((number : RowNo) → names_row table number (transactions client) ≡ false → row_at table number (laid_over rows (transactions client)) ≡ row_at table number rows)
    → ((row : Row) → Contains (view rows (transactions client) table) row → row_at table row.number (laid_over rows (transactions client)) ≡ Some row.cells)
    → AreNumbers rows transactions table count last → length (view rows (transactions client) table) ≤ count
no_more_rows same rows transactions client table count last ordered untouched answers numbers =
    let seen = view rows (transactions client) table in
    let fits = few (numbers_of seen) numbers.numbers (view_apart same table (laid_over rows (transactions client)) ordered)
    (λ number has.
    let found = mapped (λ (row : Row). row.number) seen number has in
    (numbers.exact number).1 (subst (IsNumber rows transactions table) found.2
    (counted_at rows transactions client table found.0.number found.0.cells (untouched found.0.number) (answers found.0 found.1) (names_row table found.0.number (transactions client)) refl))) in
    let long = length-map seen (λ (row : Row). row.number) in
    let counts = numbers.counts in
    omega (arith, fits, long, counts)
