-- The row numbers that are used are those of the rows that are kept.
use Rattle.std.proofs.Common.{◌≡◌, ◌<◌, ◌≤◌, ◌∙◌, inl, inr, ℕ, zero, suc, Bool, true, false, cond, ◌||◌, is_some, List, [], ◌∷◌, filter, get_or, length, map, refl, sym, ap, ap₂, subst, arith, Option, None, Some}
use Rattle.std.specs.Prelude.{◌==◌, nat_le, nat_lt, IsTrue, max}
use Rattle.std.specs.List.{Contains, list_all}
use Rattle.std.specs.Option.{option_and_then}
use Rattle.std.proofs.lemmas.Bool.{and_parts, and_from}
use Rattle.std.proofs.lemmas.Bool.Decides.{nat_tests}
use Rattle.std.proofs.lemmas.Grind.{common_steps}
use Rattle.au_base.specs.declared.numbers.ClientNo.{ClientNo}
use Rattle.au_base.specs.declared.numbers.RowNo.{RowNo}
use Rattle.au_base.specs.declared.table.TableName.{TableName}
use Rattle.au_base.specs.Order.{is_in_order}
use Rattle.au_rows.specs.Held.{Contents, Held, is_left, is_of, largest_of, number_of, row_at as kept_at, settled_of}
use Rattle.au_txn.specs.declared.change.RowChange.{RowChange}
use Rattle.au_txn.specs.Counts.{AreNumbers, largest, number_before}
use Rattle.au_txn.specs.Desks.{is_open}
use Rattle.au_txn.specs.Inside.{Ties, committed, held_before, held_in_order, held_numbered, held_open, open_tables}
use Rattle.au_txn.specs.Rows.{Row}
use Rattle.au_txn.specs.Transactions.{IsNumber}
use Rattle.au_txn.proofs.ChangeLemmas.{made-some}
use Rattle.au_txn.proofs.HeldLemmas.{first-of, found-there, rest-of, there-found}
use Rattle.au_txn.proofs.Ordered.{Has, all_from, all_to, kept as stays, was}
use Rattle.au_txn.proofs.Committed.{committed-ordered, there-open}
use Rattle.au_txn.proofs.RowOrder.{answered, number-is}
use Rattle.au_txn.proofs.TableLemmas.{there-opened, within}
use Rattle.au_txn.proofs.Standing.{owner-some, row-case, settled-is}

-- an element of a list, both ways of saying it
pub has-contains : {X : Type 0} (xs : List X) (x : X) → Has xs x → Contains xs x
has-contains [] x has = absurd has
has-contains (y ∷ ys) x (inl same) = (0, omega arith, same)
has-contains (y ∷ ys) x (inr later) = let it = has-contains ys x later in (suc it.0, omega arith, it.2)

contains-at : {X : Type 0} (xs : List X) (x : X) (k : ℕ) → k < length xs → get_or xs k x ≡ x → Has xs x
contains-at [] x k lt is = absurd (omega arith)
contains-at (y ∷ ys) x zero lt is = inl is
contains-at (y ∷ ys) x (suc k) lt is = inr (contains-at ys x k (omega arith) is)

pub contains-has : {X : Type 0} (xs : List X) (x : X) → Contains xs x → Has xs x
contains-has xs x it = contains-at xs x it.0 it.1 it.2

pub has-map : {X Y : Type 0} (f : X → Y) (xs : List X) (x : X) → Has xs x → Has (map f xs) (f x)
has-map f [] x has = absurd has
has-map f (y ∷ ys) x (inl same) = inl (ap f same)
has-map f (y ∷ ys) x (inr later) = inr (has-map f ys x later)

pub map-has : {X Y : Type 0} (f : X → Y) (xs : List X) (y : Y) → Has (map f xs) y → (x : X) × Has xs x × (f x ≡ y)
map-has f [] y has = absurd has
map-has f (x ∷ xs) y (inl same) = (x, inl refl, same)
map-has f (x ∷ xs) y (inr later) = let it = map-has f xs y later in (it.0, inr it.1, it.2)

abbrev number_in : Held → RowNo
number_in h = h.number

length-map : {X Y : Type 0} (f : X → Y) (xs : List X) → length xs ≡ length (map f xs)
length-map f [] = refl
length-map f (x ∷ xs) = let rest = length-map f xs in omega arith

module _ (k : ℕ) where
  -- the numbers of the table's rows
  abbrev numbers_of : List Held → List RowNo
  numbers_of hs = map number_in (filter (is_of k) hs)

  largest-is : (hs : List Held) → largest_of k hs ≡ largest (numbers_of hs)
  largest-is [] = refl
  largest-is (h ∷ hs) = go (h.table == k) (largest-is hs)
    where
      go : (b : Bool) → largest_of k hs ≡ largest (numbers_of hs) → cond b (max h.number.0 (largest_of k hs)) (largest_of k hs) ≡ largest (map number_in (cond b (h ∷ filter (is_of k) hs) (filter (is_of k) hs)))
      go true rest = ap (max h.number.0) rest
      go false rest = rest

  rising-step : (h : Held) (hs : List Held) (b : Bool) → held_in_order (h ∷ hs) ≡ true → (h.table == k) ≡ b → is_in_order number_before (numbers_of hs) ≡ true
      → is_in_order number_before (map number_in (cond b (h ∷ filter (is_of k) hs) (filter (is_of k) hs))) ≡ true
  rising-step h hs false o e rest = rest
  rising-step h hs true o e rest =
      and_from (list_all (number_before h.number) (numbers_of hs)) (is_in_order number_before (numbers_of hs))
      (all_to (number_before h.number) (numbers_of hs) (λ n has. later n (map-has number_in (filter (is_of k) hs) n has))) rest
    where
      less : (x : Held) → held_before h x ≡ true → (x.table == k) ≡ true → nat_lt h.number.0 x.number.0 ≡ true
      less x before here = grind (arith, common_steps)

      later : (n : RowNo) → (x : Held) × Has (filter (is_of k) hs) x × (x.number ≡ n) → number_before h.number n ≡ true
      later n it =
          let there = was (is_of k) hs it.0 it.1 in
          subst (λ (m : RowNo). nat_lt h.number.0 m.0 ≡ true) it.2 (less it.0 (all_from (held_before h) hs (first-of h hs o) it.0 there.0) there.1)

  rising : (hs : List Held) → held_in_order hs ≡ true → is_in_order number_before (numbers_of hs) ≡ true
  rising [] o = refl
  rising (h ∷ hs) o = rising-step h hs (h.table == k) o refl (rising hs (rest-of h hs o))

-- what of a row is read from one that is found
found-by : {A : Type 0} (f : Held → Option A) (o : Option Held) → is_some (option_and_then f o) ≡ true → (h : Held) × (o ≡ Some h)
found-by f None e = absurd (let wrong : false ≡ true = e in cc)
found-by f (Some h) e = (h, refl)

-- each of the numbers is at most the largest
within-largest : (xs : List RowNo) (n : RowNo) → Has xs n → n.0 ≤ largest xs
within-largest [] n has = absurd has
within-largest (x ∷ xs) n (inl same) = let e : x.0 ≡ n.0 = ap (λ (m : RowNo). m.0) same in omega arith
within-largest (x ∷ xs) n (inr later) = let le = within-largest xs n later in omega arith

pub numbered : (kept : Contents) (transactions : ClientNo → List RowChange) → Ties kept transactions → (t : TableName) (count last : ℕ)
    → count ≡ length (filter (is_of (number_of t kept.tables)) kept.held) → last ≡ largest_of (number_of t kept.tables) kept.held
    → AreNumbers (committed kept.tables kept.held) transactions t count last
numbered kept transactions ties t count last counted ended = record {
  numbers = map number_in (filter (is_of (number_of t kept.tables)) kept.held);
  rising = rising (number_of t kept.tables) kept.held ties.order;
  exact = λ n. (
    λ contained. used n (map-has number_in (filter (is_of (number_of t kept.tables)) kept.held) n (contains-has (map number_in (filter (is_of (number_of t kept.tables)) kept.held)) n contained)),
    λ number. has-contains (map number_in (filter (is_of (number_of t kept.tables)) kept.held)) n (numbers-has n number),
  );
  counts = counted ∙ length-map number_in (filter (is_of (number_of t kept.tables)) kept.held);
  ends = ended ∙ largest-is (number_of t kept.tables) kept.held;
  most = λ n number.
      let le = within-largest (map number_in (filter (is_of (number_of t kept.tables)) kept.held)) n (numbers-has n number) in
      let same = ended ∙ largest-is (number_of t kept.tables) kept.held in
      omega arith;
}
  where
    listed : (n : RowNo) → (h : Held) × (kept_at (number_of t kept.tables) n kept.held ≡ Some h) → Has (map number_in (filter (is_of (number_of t kept.tables)) kept.held)) n
    listed n it =
        let there = found-there (number_of t kept.tables) n kept.held it.0 ties.order it.1 in
        let parts = and_parts (it.0.table == number_of t kept.tables) (it.0.number.0 == n.0) there.1 in
        subst (Has (map number_in (filter (is_of (number_of t kept.tables)) kept.held))) (number-is it.0.number n parts.1)
        (has-map number_in (filter (is_of (number_of t kept.tables)) kept.held) it.0 (stays (is_of (number_of t kept.tables)) kept.held it.0 there.0 parts.0))

    numbers-has : (n : RowNo) → IsNumber (committed kept.tables kept.held) transactions t n → Has (map number_in (filter (is_of (number_of t kept.tables)) kept.held)) n
    numbers-has n number = elim number [
      | inl some ↦ listed n (found-by (λ (row : Held). row.settled) (kept_at (number_of t kept.tables) n kept.held) (ap is_some (sym (settled-is kept transactions ties t n)) ∙ some))
      | inr names ↦ let it = owner-some kept transactions ties t n names.0 names.1 in
          listed n (found-by (λ (row : Held). row.owner) (kept_at (number_of t kept.tables) n kept.held) (ap is_some it.1))
    ]

    found-here : (n : RowNo) → (h : Held) × Has (filter (is_of (number_of t kept.tables)) kept.held) h × (h.number ≡ n) → (h : Held) × Has kept.held h × (kept_at (number_of t kept.tables) n kept.held ≡ Some h)
    found-here n it =
        let there = was (is_of (number_of t kept.tables)) kept.held it.0 it.1 in
        let place : it.0.table ≡ number_of t kept.tables = let e = there.1 in grind (arith, nat_tests) in
        (it.0, there.0, ap₂ (λ (j : ℕ) (m : RowNo). kept_at j m kept.held) (sym place) (sym it.2) ∙ there-found kept.held it.0 ties.order there.0)

    used : (n : RowNo) → (h : Held) × Has (filter (is_of (number_of t kept.tables)) kept.held) h × (h.number ≡ n) → IsNumber (committed kept.tables kept.held) transactions t n
    used n it =
        let found = found-here n it in
        elim (row-case kept transactions ties t n) [
          | inl free ↦ inl ((ap is_some (settled-is kept transactions ties t n ∙ ap (option_and_then (λ (row : Held). row.settled)) found.2)
              ∙ settled-left found.0 (all_from is_left kept.held ties.left found.0 found.1) (sym (ap (option_and_then (λ (row : Held). row.owner)) found.2) ∙ free.owner)))
          | inr taken ↦ inr (taken.by, made-some t n (transactions taken.by) taken.row.newest taken.newest)
        ]
      where
        settled-left : (h : Held) → is_left h ≡ true → h.owner ≡ None → is_some h.settled ≡ true
        settled-left h left none = go (is_some h.settled) refl (ap (λ w. is_some h.settled || is_some w) (sym none) ∙ left)
          where
            go : (b : Bool) → is_some h.settled ≡ b → (b || false) ≡ true → is_some h.settled ≡ true
            go true e is = e
            go false e is = absurd (let wrong : false ≡ true = is in cc)

-- a committed row is of an open table, and its number is at least 1
pub row-open : (kept : Contents) (transactions : ClientNo → List RowChange) → Ties kept transactions → (row : Row) → Contains (committed kept.tables kept.held) row
    → IsTrue (is_open row.table (open_tables kept.tables)) × (1 ≤ row.number.0)
row-open kept transactions ties row has =
    let answer = answered (committed kept.tables kept.held) (committed-ordered kept.tables kept.held ties.names ties.order ties.open_tables) row (contains-has (committed kept.tables kept.held) row has) in
    let settled : settled_of (number_of row.table kept.tables) row.number kept.held ≡ Some row.cells = sym (settled-is kept transactions ties row.table row.number) ∙ answer in
    let it = found-by (λ (h : Held). h.settled) (kept_at (number_of row.table kept.tables) row.number kept.held) (ap is_some settled) in
    let there = found-there (number_of row.table kept.tables) row.number kept.held it.0 ties.order it.1 in
    let parts = and_parts (it.0.table == number_of row.table kept.tables) (it.0.number.0 == row.number.0) there.1 in
    let place : it.0.table ≡ number_of row.table kept.tables = let e = parts.0 in grind (arith, nat_tests) in
    let table = there-open kept.tables it.0.table (all_from (held_open kept.tables) kept.held ties.open_tables it.0 there.0) in
    let inside = within kept.tables it.0.table table.0 table.1 in
    let opened : number_of row.table kept.tables < length kept.tables = omega arith in
    let number : it.0.number.0 ≡ row.number.0 = ap (λ (n : RowNo). n.0) (number-is it.0.number row.number parts.1) in
    let least : nat_le 1 it.0.number.0 ≡ true = all_from held_numbered kept.held ties.rows_numbered it.0 there.0 in
    (there-opened row.table kept.tables ties.names opened, at-least it.0.number.0 row.number.0 number least)
  where
    at-least : (a b : ℕ) → a ≡ b → nat_le 1 a ≡ true → 1 ≤ b
    at-least a b same least = grind (arith, nat_tests)
