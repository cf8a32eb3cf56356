-- What contents, changes and rows say of keys, point by point, and rows as triples.
use Rattle.std.proofs.Common.{◌≡◌, ◌≢◌, ◌<◌, ◌≤◌, ◌∙◌, ◌⊎◌, inl, inr, ℕ, zero, suc, Bool, true, false, not, cond, ◌&&◌, List, [], ◌∷◌, ◌++◌, filter, length, map, refl, sym, ap, ap₂, subst, arith, Option, None, Some}
use Rattle.std.specs.Prelude.{slice_get}
use Rattle.std.specs.List.{Contains, list_all}
use Rattle.std.specs.declared.cmp.Ordering.{Ordering}
use Rattle.std.specs.declared.cmp.Ordering.TheVariants.{Less, Equal, Greater}
use Rattle.std.specs.Ordering.{is_eq, is_gt, is_lt, nat_cmp, ordering_reverse}
use Rattle.std.specs.Cmp.Lexicographic.{slice_cmp}
use Rattle.au_base.specs.declared.cell.Cell.{Cell}
use Rattle.au_base.specs.declared.numbers.ClientNo.{ClientNo}
use Rattle.au_base.specs.declared.numbers.RowNo.{RowNo}
use Rattle.au_base.specs.declared.table.TableName.{TableName}
use Rattle.au_base.specs.Order.{fields_before, is_in_order}
use Rattle.au_base.specs.Sameness.{same_table}
use Rattle.au_rows.specs.Held.{HasKey}
use Rattle.au_txn.specs.declared.change.RowChange.{RowChange}
use Rattle.au_txn.specs.Keys.{AreDoubled, Clashes, IsElsewhere, KeysDiffer}
use Rattle.au_txn.specs.Rows.{Row, are_in_order, is_in, is_row, of_triple, place_of, row_at, row_before, triple_of, with_content, without}
use Rattle.au_txn.specs.Transactions.{IsKeyLocked, IsRowLocked, laid_over, names_row, rows_differ}
use Rattle.au_txn.proofs.Answering.{named-content, one-number}
use Rattle.au_txn.proofs.Histories.{laid-untouched}
use Rattle.au_txn.proofs.KeysStay.{left-once}
use Rattle.au_txn.proofs.Numbered.{contains-has}
use Rattle.au_txn.proofs.RowOrder.{fields_total, is_row-is, is_row-self, places-equal, row_at-filter}

-- lists that read the same are one
read-same : (a b : List Cell) → length a ≡ length b → ((at : ℕ) → at < length a → slice_get a at ≡ slice_get b at) → a ≡ b
read-same [] [] e each = refl
read-same [] (y ∷ ys) e each = absurd (omega arith)
read-same (x ∷ xs) [] e each = absurd (omega arith)
read-same (x ∷ xs) (y ∷ ys) e each =
    let first : x ≡ y = cc (each 0 (omega arith)) in
    ap₂ (λ (z : Cell) (zs : List Cell). z ∷ zs) first (read-same xs ys (omega arith) (λ at lt. each (suc at) (omega arith)))

-- a content has one key
pub one-key : (places : List ℕ) (a b : List Cell) (content : Option (List Cell)) → HasKey places a content → HasKey places b content → a ≡ b
one-key places a b None first second = absurd first
one-key places a b (Some cells) first second =
    let lengths : length a ≡ length b = sym first.0 ∙ second.0 in
    read-same a b lengths (λ at lt. sym (first.1 at (let e = first.0 in omega arith)) ∙ second.1 at (let e = first.0 in omega arith))

-- what rows answer once a table and its rows are gone
pub rest-answers : (t u : TableName) (n : RowNo) (rows : List Row) → row_at u n (filter (λ row. not (is_in t row)) rows) ≡ cond (same_table u t) None (row_at u n rows)
rest-answers t u n rows =
    row_at-filter u n (λ row. not (is_in t row)) (not (same_table u t)) (λ r is. ap (λ (x : TableName). not (same_table x t)) (is_row-is u n r is).0) rows
    ∙ go (same_table u t)
  where
    go : (b : Bool) → cond (not b) (row_at u n rows) None ≡ cond b None (row_at u n rows)
    go true = refl
    go false = refl

pub rest-keys : (places : List ℕ) (t u : TableName) (rows : List Row) → KeysDiffer places u rows → KeysDiffer places u (filter (λ row. not (is_in t row)) rows)
rest-keys [] t u rows differ = tt
rest-keys (p ∷ ps) t u rows differ = λ m n key first second.
    differ m n key (was m key (same_table u t) (subst (HasKey (p ∷ ps) key) (rest-answers t u m rows) first)) (was n key (same_table u t) (subst (HasKey (p ∷ ps) key) (rest-answers t u n rows) second))
  where
    was : (n : RowNo) (key : List Cell) (b : Bool) → HasKey (p ∷ ps) key (cond b None (row_at u n rows)) → HasKey (p ∷ ps) key (row_at u n rows)
    was n key true has = absurd has
    was n key false has = has

-- rows that have one key once the changes are made are a clash of these
module _ (places : List ℕ) (t : TableName) (rows : List Row) (changes : List RowChange) where
  elsewhere : (n c : RowNo) (key : List Cell) → n ≢ c → HasKey places key (row_at t n (laid_over rows changes)) → (b : Bool) → names_row t n changes ≡ b → IsElsewhere places t rows changes c key
  elsewhere n c key ne has false e = (n, ne, inl (e, subst (HasKey places key) (laid-untouched t n rows changes e) has))
  elsewhere n c key ne has true e =
      let it = named-content t n rows changes e in
      (n, ne, inr (it.0, it.1, it.2, it.3, subst (HasKey places key) it.4 has))

  clash : (m n : RowNo) (key : List Cell) → m ≢ n → HasKey places key (row_at t m (laid_over rows changes)) → HasKey places key (row_at t n (laid_over rows changes))
      → names_row t m changes ≡ true → Clashes places t rows changes
  clash m n key ne first second named =
      let it = named-content t m rows changes named in (
        it.0,
        it.1,
        it.2,
        key,
        subst (HasKey places key) it.4 first,
        elsewhere n it.0.row key (λ same. ne (sym it.3 ∙ sym same)) second (names_row t n changes) refl,
      )

  -- and the other way round
  doubled : rows_differ changes ≡ true → Clashes places t rows changes → AreDoubled places t (laid_over rows changes)
  doubled once (change, has, table, key, keyed, (other, ne, by)) = (
    change.row,
    other,
    (λ same. ne (sym same)),
    key,
    made change has table keyed,
    elim by [
      | inl stood ↦ subst (HasKey places key) (sym (laid-untouched t other rows changes stood.0)) stood.1
      | inr it ↦ subst (λ (n : RowNo). HasKey places key (row_at t n (laid_over rows changes))) it.3 (made it.0 it.1 it.2 it.4)
    ],
  )
    where
      made : (x : RowChange) → Contains changes x → x.table ≡ t → HasKey places key x.new → HasKey places key (row_at t x.row (laid_over rows changes))
      made x there of has =
          subst (λ (u : TableName). HasKey places key (row_at u x.row (laid_over rows changes))) of
          (subst (HasKey places key) (sym (left-once rows [] changes x once (contains-has changes x there))) has)

pub traced : (places : List ℕ) (t : TableName) (rows : List Row) (changes : List RowChange) → places ≢ [] → KeysDiffer places t rows
    → AreDoubled places t (laid_over rows changes) → Clashes places t rows changes
traced [] t rows changes keyed differ two = absurd (keyed refl)
traced (p ∷ ps) t rows changes keyed differ (m, n, ne, key, first, second) = go (names_row t m changes) refl (names_row t n changes) refl
  where
    go : (a : Bool) → names_row t m changes ≡ a → (b : Bool) → names_row t n changes ≡ b → Clashes (p ∷ ps) t rows changes
    go true e b f = clash (p ∷ ps) t rows changes m n key ne first second e
    go false e true f = clash (p ∷ ps) t rows changes n m key (λ same. ne (sym same)) second first f
    go false e false f =
        absurd (ne (differ m n key (subst (HasKey (p ∷ ps) key) (laid-untouched t m rows changes e) first) (subst (HasKey (p ∷ ps) key) (laid-untouched t n rows changes f) second)))

pub broken : (places : List ℕ) (t : TableName) (rows : List Row) (changes : List RowChange) → rows_differ changes ≡ true
    → Clashes places t rows changes → AreDoubled places t (laid_over rows changes)
broken places t rows changes once it = doubled places t rows changes once it

pub stated : (places : List ℕ) (t : TableName) (rows : List Row) (changes : List RowChange) → KeysDiffer places t rows
    → (Clashes places t rows changes → ⊥) → KeysDiffer places t (laid_over rows changes)
stated [] t rows changes differ none = tt
stated (p ∷ ps) t rows changes differ none = λ m n key first second. elim (one-number m n) [
  | inl same ↦ same
  | inr ne ↦ absurd (none (traced (p ∷ ps) t rows changes (λ e. (let wrong : p ∷ ps ≡ [] = e in cc)) differ (m, n, (λ same. ne (sym same)), key, first, second)))
]

pub undiffered : (places : List ℕ) (t : TableName) (rows : List Row) → places ≢ [] → AreDoubled places t rows → KeysDiffer places t rows → ⊥
undiffered [] t rows keyed two differ = keyed refl
undiffered (p ∷ ps) t rows keyed (m, n, ne, key, first, second) differ = ne (differ m n key first second)

-- a client that alone has changes meets no lock
pub lone-row : (transactions : ClientNo → List RowChange) (c : ClientNo) (t : TableName) (n : RowNo) → ((q : ClientNo) → q.0 ≢ c.0 → transactions q ≡ []) → IsRowLocked transactions c t n → ⊥
lone-row transactions c t n none (q, ne, named) =
    let wrong : false ≡ true = subst (λ (xs : List RowChange). names_row t n xs ≡ true) (none q ne) named in cc

pub lone-key : (places : List ℕ) (transactions : ClientNo → List RowChange) (c : ClientNo) (t : TableName) (key : List Cell) → ((q : ClientNo) → q.0 ≢ c.0 → transactions q ≡ [])
    → IsKeyLocked places transactions c t key → ⊥
lone-key places transactions c t key none (q, ne, (change, has, of, keyed)) =
    contains-has [] change (subst (λ (xs : List RowChange). Contains xs change) (none q ne) has)

-- rows as triples
pub triples-back : (rows : List Row) → map of_triple (map triple_of rows) ≡ rows
triples-back [] = refl
triples-back (r ∷ rs) = ap (λ xs. r ∷ xs) (triples-back rs)

pub triples-forth : (triples : List (TableName × RowNo × List Cell)) → map triple_of (map of_triple triples) ≡ triples
triples-forth [] = refl
triples-forth (r ∷ rs) = ap (λ xs. r ∷ xs) (triples-forth rs)

abbrev place_in : TableName × RowNo × List Cell → List (List ℕ)
place_in row = place_of row.0 row.1

all-triples : (r : Row) (rs : List Row) → list_all (fields_before (place_of r.table r.number)) (map place_in (map triple_of rs)) ≡ list_all (row_before r) rs
all-triples r [] = refl
all-triples r (x ∷ xs) = ap (λ b. row_before r x && b) (all-triples r xs)

pub triples-ordered : (rows : List Row) → is_in_order fields_before (map place_in (map triple_of rows)) ≡ are_in_order rows
triples-ordered [] = refl
triples-ordered (r ∷ rs) = ap₂ (λ a b. a && b) (all-triples r rs) (triples-ordered rs)

-- a test of rows, of triples
pub triples-kept : (p : Row → Bool) (q : TableName × RowNo × List Cell → Bool) → ((r : Row) → p r ≡ q (triple_of r)) → (rows : List Row) → map triple_of (filter p rows) ≡ filter q (map triple_of rows)
triples-kept p q same [] = refl
triples-kept p q same (r ∷ rs) = go (p r) (q (triple_of r)) (same r) (triples-kept p q same rs)
  where
    go : (a b : Bool) → a ≡ b → map triple_of (filter p rs) ≡ filter q (map triple_of rs)
        → map triple_of (cond a (r ∷ filter p rs) (filter p rs)) ≡ cond b (triple_of r ∷ filter q (map triple_of rs)) (filter q (map triple_of rs))
    go true true e rest = ap (λ xs. triple_of r ∷ xs) rest
    go false false e rest = rest
    go true false e rest = absurd (let wrong : true ≡ false = e in cc)
    go false true e rest = absurd (let wrong : false ≡ true = e in cc)

map-append : {X Y : Type 0} (f : X → Y) (xs ys : List X) → map f (xs ++ ys) ≡ map f xs ++ map f ys
map-append f [] ys = refl
map-append f (x ∷ xs) ys = ap (λ zs. f x ∷ zs) (map-append f xs ys)

twice : {X : Type 0} (p q s : X → Bool) → ((x : X) → (q x && p x) ≡ s x) → (xs : List X) → filter p (filter q xs) ≡ filter s xs
twice p q s same [] = refl
twice p q s same (x ∷ xs) = go (q x) (p x) refl (s x) (same x) (twice p q s same xs)
  where
    go : (a b : Bool) → p x ≡ b → (c : Bool) → (a && b) ≡ c → filter p (filter q xs) ≡ filter s xs → filter p (cond a (x ∷ filter q xs) (filter q xs)) ≡ cond c (x ∷ filter s xs) (filter s xs)
    go true true e true f rest = ap (λ w. cond w (x ∷ filter p (filter q xs)) (filter p (filter q xs))) e ∙ ap (λ ys. x ∷ ys) rest
    go true false e false f rest = ap (λ w. cond w (x ∷ filter p (filter q xs)) (filter p (filter q xs))) e ∙ rest
    go false b e false f rest = rest
    go true true e false f rest = absurd (let wrong : true ≡ false = f in cc)
    go true false e true f rest = absurd (let wrong : false ≡ true = f in cc)
    go false b e true f rest = absurd (let wrong : false ≡ true = f in cc)

-- fields are equal to themselves
own-fields : (fields : List (List ℕ)) → slice_cmp (slice_cmp nat_cmp) fields fields ≡ Equal
own-fields fields = go (slice_cmp (slice_cmp nat_cmp) fields fields) (fields_total.antisymm fields fields)
  where
    go : (o : Ordering) → o ≡ ordering_reverse o → o ≡ Equal
    go Less e = absurd (let wrong : Less ≡ Greater = e in cc)
    go Equal e = refl
    go Greater e = absurd (let wrong : Greater ≡ Less = e in cc)

module _ (t : TableName) (n : RowNo) (cells : List Cell) where
  abbrev compared : Row → Ordering
  compared r = slice_cmp (slice_cmp nat_cmp) (place_of r.table r.number) (place_of t n)

  abbrev new-row : Row
  new-row = record { table = t; number = n; cells = cells }

  row-of : (r : Row) → compared r ≡ Equal → is_row t n r ≡ true
  row-of r e =
      let it = is_row-is r.table r.number new-row (places-equal r new-row e) in
      subst (λ (u : TableName). is_row u n r ≡ true) (sym it.0) (subst (λ (m : RowNo). is_row r.table m r ≡ true) (sym it.1) (is_row-self r))

  same-place : (r : Row) → is_row t n r ≡ true → compared r ≡ Equal
  same-place r is =
      let it = is_row-is t n r is in
      ap₂ (λ (u : TableName) (m : RowNo). slice_cmp (slice_cmp nat_cmp) (place_of u m) (place_of t n)) it.0 it.1 ∙ own-fields (place_of t n)

  -- it is the row exactly where the fields are equal
  apart : (r : Row) → is_row t n r ≡ is_eq (compared r)
  apart r = go (is_row t n r) refl (compared r) refl
    where
      go : (b : Bool) → is_row t n r ≡ b → (o : Ordering) → compared r ≡ o → b ≡ is_eq o
      go true e Equal f = refl
      go false e Equal f = absurd (let is = row-of r f in let wrong : true ≡ false = sym is ∙ e in cc)
      go true e Less f = absurd (let is = same-place r e in let wrong : Equal ≡ Less = sym is ∙ f in cc)
      go false e Less f = refl
      go true e Greater f = absurd (let is = same-place r e in let wrong : Equal ≡ Greater = sym is ∙ f in cc)
      go false e Greater f = refl

  less : (r : Row) → (not (is_row t n r) && row_before r new-row) ≡ is_lt (compared r)
  less r = ap (λ b. not b && is_lt (compared r)) (apart r) ∙ go (compared r)
    where
      go : (o : Ordering) → (not (is_eq o) && is_lt o) ≡ is_lt o
      go Less = refl
      go Equal = refl
      go Greater = refl

  more : (r : Row) → (not (is_row t n r) && not (row_before r new-row)) ≡ is_gt (compared r)
  more r = ap (λ b. not b && not (is_lt (compared r))) (apart r) ∙ go (compared r)
    where
      go : (o : Ordering) → (not (is_eq o) && not (is_lt o)) ≡ is_gt o
      go Less = refl
      go Equal = refl
      go Greater = refl

  pub triples-put : (rows : List Row)
      → map triple_of (with_content t n (Some cells) rows)
      ≡ filter (λ row. is_lt (slice_cmp (slice_cmp nat_cmp) (place_in row) (place_of t n))) (map triple_of rows)
      ++ (t, n, cells) ∷ filter (λ row. is_gt (slice_cmp (slice_cmp nat_cmp) (place_in row) (place_of t n))) (map triple_of rows)
  triples-put rows =
      map-append triple_of (filter (λ other. row_before other new-row) (without t n rows)) (new-row ∷ filter (λ other. not (row_before other new-row)) (without t n rows))
      ∙ ap₂ (λ xs ys. xs ++ (t, n, cells) ∷ ys)
      (ap (map triple_of) (twice (λ other. row_before other new-row) (λ row. not (is_row t n row)) (λ row. is_lt (compared row)) less rows)
      ∙ triples-kept (λ row. is_lt (compared row)) (λ row. is_lt (slice_cmp (slice_cmp nat_cmp) (place_in row) (place_of t n))) (λ r. refl) rows)
      (ap (map triple_of) (twice (λ other. not (row_before other new-row)) (λ row. not (is_row t n row)) (λ row. is_gt (compared row)) more rows)
      ∙ triples-kept (λ row. is_gt (compared row)) (λ row. is_gt (slice_cmp (slice_cmp nat_cmp) (place_in row) (place_of t n))) (λ r. refl) rows)
