-- The order of rows, and that rows in order are what they answer.
use Rattle.std.proofs.Common.{◌≡◌, ◌∙◌, ◌⊎◌, inl, inr, ℕ, Bool, true, false, not, cond, ◌&&◌, List, [], ◌∷◌, ◌++◌, refl, sym, ap, ap₂, subst, arith, Option, None, Some}
use Rattle.std.specs.Prelude.{◌==◌}
use Rattle.std.specs.declared.cmp.Ordering.{Ordering}
use Rattle.std.specs.declared.cmp.Ordering.TheVariants.{Less, Equal, Greater}
use Rattle.std.specs.Ordering.{is_lt, nat_cmp, ordering_reverse, ordering_then}
use Rattle.std.specs.Cmp.{IsTotalOrder}
use Rattle.std.specs.Cmp.Lexicographic.{slice_cmp}
use Rattle.std.specs.List.{filter}
use Rattle.std.specs.Str.{bytes_eq}
use Rattle.std.proofs.lemmas.Bool.{and_parts, and_from}
use Rattle.std.proofs.lemmas.Bool.Decides.{nat_tests}
use Rattle.std.proofs.lemmas.Cmp.{lists_total, nat_cmp_total}
use Rattle.std.proofs.lemmas.Map.Text.{is_eq-slice_cmp}
use Rattle.std.proofs.lemmas.Slice.Eq.{bytes_eq-Decides}
use Rattle.std.specs.Ordering.{is_eq}
use Rattle.au_base.specs.declared.cell.Cell.{Cell}
use Rattle.au_base.specs.declared.numbers.ClientNo.{ClientNo}
use Rattle.au_base.specs.declared.numbers.RowNo.{RowNo}
use Rattle.au_base.specs.declared.table.TableName.{TableName}
use Rattle.au_base.specs.Order.{IsIrreflexive, IsTransitive, fields_before, placed}
use Rattle.au_base.specs.OrderLaws.{fields_irreflexive, fields_transitive}
use Rattle.au_base.specs.Sameness.{same_table}
use Rattle.au_rows.specs.Held.{or_else}
use Rattle.au_txn.specs.declared.finals.Final.{Final}
use Rattle.au_txn.specs.Rows.{Row, are_in_order, is_row, laid_all, place_of, row_at, row_before, with_content, without}
use Rattle.au_txn.proofs.Ordered.{Has, all_from, filter-ordered, first-before, placed-ordered, rest-ordered, same_sorted}

pub rows_transitive : IsTransitive row_before
rows_transitive = λ a b c. fields_transitive (place_of a.table a.number) (place_of b.table b.number) (place_of c.table c.number)

pub rows_irreflexive : IsIrreflexive row_before
rows_irreflexive = λ a. fields_irreflexive (place_of a.table a.number)

-- names and numbers that pass the tests are equal
pub same_table-is : (a b : TableName) → same_table a b ≡ true → a ≡ b
same_table-is a b is =
    let parts = and_parts (bytes_eq a.owner b.owner) (bytes_eq a.name b.name) is in
    let owners : a.owner ≡ b.owner = (bytes_eq-Decides a.owner b.owner).0 parts.0 in
    let names : a.name ≡ b.name = (bytes_eq-Decides a.name b.name).0 parts.1 in
    ap₂ (λ (o n : List ℕ). let t : TableName = record { owner = o; name = n } in t) owners names

pub same_table-self : (a : TableName) → same_table a a ≡ true
same_table-self a = and_from (bytes_eq a.owner a.owner) (bytes_eq a.name a.name) ((bytes_eq-Decides a.owner a.owner).1 refl) ((bytes_eq-Decides a.name a.name).1 refl)

pub number-is : (a b : RowNo) → (a.0 == b.0) ≡ true → a ≡ b
number-is a b is = let e : a.0 ≡ b.0 = grind (arith, nat_tests) in ap (λ (n : ℕ). let r : RowNo = record { 0 = n } in r) e

pub client-is : (a b : ClientNo) → (a.0 == b.0) ≡ true → a ≡ b
client-is a b is = let e : a.0 ≡ b.0 = grind (arith, nat_tests) in ap (λ (n : ℕ). let c : ClientNo = record { 0 = n } in c) e

pub number-self : (n : ℕ) → (n == n) ≡ true
number-self n = grind (arith, nat_tests)

pub is_row-is : (t : TableName) (n : RowNo) (r : Row) → is_row t n r ≡ true → (r.table ≡ t) × (r.number ≡ n)
is_row-is t n r is =
    let parts = and_parts (same_table r.table t) (r.number.0 == n.0) is in
    (same_table-is r.table t parts.0, number-is r.number n parts.1)

pub is_row-self : (r : Row) → is_row r.table r.number r ≡ true
is_row-self r = and_from (same_table r.table r.table) (r.number.0 == r.number.0) (same_table-self r.table) (number-self r.number.0)

-- of two rows of other places one comes before the other
pub fields_total : IsTotalOrder (slice_cmp (slice_cmp nat_cmp))
fields_total = lists_total (lists_total nat_cmp_total)

pub then-equal : (a b : Ordering) → ordering_then a b ≡ Equal → (a ≡ Equal) × (b ≡ Equal)
then-equal Less b e = absurd (let no : Less ≡ Equal = e in cc)
then-equal Equal b e = (refl, e)
then-equal Greater b e = absurd (let no : Greater ≡ Equal = e in cc)

pub texts-equal : (a b : List ℕ) → slice_cmp nat_cmp a b ≡ Equal → a ≡ b
texts-equal a b e = (bytes_eq-Decides a b).0 (sym (is_eq-slice_cmp a b) ∙ ap is_eq e)

pub places-equal : (a b : Row) → slice_cmp (slice_cmp nat_cmp) (place_of a.table a.number) (place_of b.table b.number) ≡ Equal → is_row a.table a.number b ≡ true
places-equal a b e =
    let one = then-equal (slice_cmp nat_cmp a.table.owner b.table.owner) _ e in
    let two = then-equal (slice_cmp nat_cmp a.table.name b.table.name) _ one.1 in
    let three = then-equal (slice_cmp nat_cmp (a.number.0 ∷ []) (b.number.0 ∷ [])) _ two.1 in
    let owners : a.table.owner ≡ b.table.owner = texts-equal a.table.owner b.table.owner one.0 in
    let names : a.table.name ≡ b.table.name = texts-equal a.table.name b.table.name two.0 in
    let numbers : a.number.0 ≡ b.number.0 = ap first (texts-equal (a.number.0 ∷ []) (b.number.0 ∷ []) three.0) in
    and_from (same_table b.table a.table) (b.number.0 == a.number.0)
    (and_from (bytes_eq b.table.owner a.table.owner) (bytes_eq b.table.name a.table.name) ((bytes_eq-Decides b.table.owner a.table.owner).1 (sym owners)) ((bytes_eq-Decides b.table.name a.table.name).1 (sym names)))
    (subst (λ (m : ℕ). (m == a.number.0) ≡ true) numbers (number-self a.number.0))
  where
    first : List ℕ → ℕ
    first [] = 0
    first (n ∷ ns) = n

by_order : (a b : Row) (o : Ordering) → slice_cmp (slice_cmp nat_cmp) (place_of a.table a.number) (place_of b.table b.number) ≡ o → is_row a.table a.number b ≡ false → (row_before b a ≡ true) ⊎ (row_before a b ≡ true)
by_order a b Less e other = inr (ap is_lt e)
by_order a b Equal e other = absurd (let no : true ≡ false = sym (places-equal a b e) ∙ other in cc)
by_order a b Greater e other = inl (ap is_lt (fields_total.antisymm (place_of b.table b.number) (place_of a.table a.number) ∙ ap ordering_reverse e))

pub rows_apart : (a b : Row) → is_row a.table a.number b ≡ false → (row_before b a ≡ true) ⊎ (row_before a b ≡ true)
rows_apart a b other = by_order a b (slice_cmp (slice_cmp nat_cmp) (place_of a.table a.number) (place_of b.table b.number)) refl other

-- what is answered of joined and of filtered rows
row_at-append : (t : TableName) (n : RowNo) (xs ys : List Row) → row_at t n (xs ++ ys) ≡ or_else (row_at t n xs) (row_at t n ys)
row_at-append t n [] ys = refl
row_at-append t n (x ∷ xs) ys = go (is_row t n x) (row_at-append t n xs ys)
  where
    go : (b : Bool) → row_at t n (xs ++ ys) ≡ or_else (row_at t n xs) (row_at t n ys)
        → cond b (Some x.cells) (row_at t n (xs ++ ys)) ≡ or_else (cond b (Some x.cells) (row_at t n xs)) (row_at t n ys)
    go true rest = refl
    go false rest = rest

module _ (t : TableName) (n : RowNo) (p : Row → Bool) (v : Bool) (says : (r : Row) → is_row t n r ≡ true → p r ≡ v) where
  filter-step : (x : Row) (xs : List Row) (b c : Bool) → is_row t n x ≡ b → p x ≡ c → row_at t n (filter p xs) ≡ cond v (row_at t n xs) None
      → row_at t n (cond c (x ∷ filter p xs) (filter p xs)) ≡ cond v (cond b (Some x.cells) (row_at t n xs)) None
  filter-step x xs true true e f rest = let is : v ≡ true = sym (says x e) ∙ f in rw (e, is) refl
  filter-step x xs true false f g rest = let is : v ≡ false = sym (says x f) ∙ g in rest ∙ (ap (λ w. cond w (row_at t n xs) None) is ∙ sym (ap (λ w. cond w (Some x.cells) None) is))
  filter-step x xs false true e f rest = rw e rest
  filter-step x xs false false e f rest = rest

  pub row_at-filter : (xs : List Row) → row_at t n (filter p xs) ≡ cond v (row_at t n xs) None
  row_at-filter [] = go v
    where
      go : (w : Bool) → None ≡ cond {A = Option (List Cell)} w None None
      go true = refl
      go false = refl
  row_at-filter (x ∷ xs) = filter-step x xs (is_row t n x) (p x) refl refl (row_at-filter xs)

-- one place comes before another
abbrev place_before : TableName → RowNo → Row → Bool
place_before t n x = fields_before (place_of t n) (place_of x.table x.number)

before-says : (t : TableName) (n : RowNo) (x r : Row) → is_row t n r ≡ true → row_before r x ≡ place_before t n x
before-says t n x r is =
    let same = is_row-is t n r is in
    ap₂ (λ (u : TableName) (m : RowNo). fields_before (place_of u m) (place_of x.table x.number)) same.0 same.1

-- what is answered with a new row
pub row_at-placed : (t : TableName) (n : RowNo) (x : Row) (xs : List Row) → row_at t n (placed row_before x xs) ≡ cond (is_row t n x) (Some x.cells) (row_at t n xs)
row_at-placed t n x xs =
    row_at-append t n (filter (λ other. row_before other x) xs) (x ∷ filter (λ other. not (row_before other x)) xs)
    ∙ go (is_row t n x) refl
  where
    v : Bool
    v = place_before t n x

    front : row_at t n (filter (λ other. row_before other x) xs) ≡ cond (place_before t n x) (row_at t n xs) None
    front = row_at-filter t n (λ other. row_before other x) (place_before t n x) (before-says t n x) xs

    back : row_at t n (filter (λ other. not (row_before other x)) xs) ≡ cond (not (place_before t n x)) (row_at t n xs) None
    back = row_at-filter t n (λ other. not (row_before other x)) (not (place_before t n x)) (λ r is. ap not (before-says t n x r is)) xs

    itself : is_row t n x ≡ true → place_before t n x ≡ false
    itself is = sym (before-says t n x x is) ∙ rows_irreflexive x

    other : (w : Bool) → or_else (cond w (row_at t n xs) None) (cond (not w) (row_at t n xs) None) ≡ row_at t n xs
    other true = none-last (row_at t n xs)
      where
        none-last : (o : Option (List Cell)) → or_else o None ≡ o
        none-last None = refl
        none-last (Some a) = refl
    other false = refl

    go : (b : Bool) → is_row t n x ≡ b
        → or_else (row_at t n (filter (λ other. row_before other x) xs)) (row_at t n (x ∷ filter (λ other. not (row_before other x)) xs)) ≡ cond b (Some x.cells) (row_at t n xs)
    go true e = rw (front, itself e, e) refl
    go false e = rw (front, e, back) (other (place_before t n x))

-- what is answered without a row
pub without-same : (t : TableName) (n : RowNo) (xs : List Row) → row_at t n (without t n xs) ≡ None
without-same t n xs = row_at-filter t n (λ row. not (is_row t n row)) false (λ r is. ap not is) xs

-- the tests of one row fail where the rows differ
pub other-row : (t u : TableName) (n m : RowNo) → (same_table u t && (m.0 == n.0)) ≡ false → (r : Row) → is_row t n r ≡ true → is_row u m r ≡ false
other-row t u n m ne r is = go (is_row u m r) refl
  where
    go : (b : Bool) → is_row u m r ≡ b → is_row u m r ≡ false
    go false e = e
    go true e =
        let one = is_row-is t n r is in
        let two = is_row-is u m r e in
        let tables : u ≡ t = sym two.0 ∙ one.0 in
        let numbers : m ≡ n = sym two.1 ∙ one.1 in
        absurd (let no : true ≡ false = sym (and_from (same_table u t) (m.0 == n.0) (subst (λ x. same_table u x ≡ true) tables (same_table-self u)) (subst (λ (x : RowNo). (m.0 == x.0) ≡ true) numbers (number-self m.0))) ∙ ne in cc)

pub without-other : (t u : TableName) (n m : RowNo) → (same_table u t && (m.0 == n.0)) ≡ false → (xs : List Row) → row_at t n (without u m xs) ≡ row_at t n xs
without-other t u n m ne xs = row_at-filter t n (λ row. not (is_row u m row)) true (λ r is. ap not (other-row t u n m ne r is)) xs

-- what is answered once a row has a content
pub row_at-with : (t u : TableName) (n m : RowNo) (content : Option (List Cell)) (xs : List Row)
    → row_at t n (with_content u m content xs) ≡ cond (same_table u t && (m.0 == n.0)) content (row_at t n xs)
row_at-with t u n m None xs = go (same_table u t && (m.0 == n.0)) refl
  where
    go : (b : Bool) → (same_table u t && (m.0 == n.0)) ≡ b → row_at t n (without u m xs) ≡ cond b None (row_at t n xs)
    go true e =
        let parts = and_parts (same_table u t) (m.0 == n.0) e in
        let tables : u ≡ t = same_table-is u t parts.0 in
        let numbers : m ≡ n = number-is m n parts.1 in
        ap₂ (λ (v : TableName) (k : RowNo). row_at t n (without v k xs)) tables numbers ∙ without-same t n xs
    go false e = without-other t u n m e xs
row_at-with t u n m (Some cells) xs = row_at-placed t n (record { table = u; number = m; cells = cells }) (without u m xs) ∙ go (same_table u t && (m.0 == n.0)) refl
  where
    go : (b : Bool) → (same_table u t && (m.0 == n.0)) ≡ b → cond b (Some cells) (row_at t n (without u m xs)) ≡ cond b (Some cells) (row_at t n xs)
    go true e = refl
    go false e = without-other t u n m e xs

-- rows without an answer at a place have no row of it
pub none-there : (t : TableName) (n : RowNo) (xs : List Row) → row_at t n xs ≡ None → (r : Row) → Has xs r → is_row t n r ≡ false
none-there t n [] none r has = absurd has
none-there t n (x ∷ xs) none r has = go (is_row t n x) refl none (λ later. none-there t n xs later r) has
  where
    go : (b : Bool) → is_row t n x ≡ b → cond b (Some x.cells) (row_at t n xs) ≡ None → (row_at t n xs ≡ None → Has xs r → is_row t n r ≡ false) → Has (x ∷ xs) r → is_row t n r ≡ false
    go true e nothing rest has = absurd (let wrong : Some x.cells ≡ None = nothing in cc)
    go false e nothing rest (inl same) = subst (λ (z : Row). is_row t n z ≡ false) same e
    go false e nothing rest (inr later) = rest nothing later

-- a row that isn't there leaves rows in order
pub placed-in : (x : Row) (xs : List Row) → are_in_order xs ≡ true → row_at x.table x.number xs ≡ None → are_in_order (placed row_before x xs) ≡ true
placed-in x xs ordered none = placed-ordered row_before rows_transitive x xs ordered (λ y has. rows_apart x y (none-there x.table x.number xs none y has))

pub with-ordered : (t : TableName) (n : RowNo) (content : Option (List Cell)) (xs : List Row) → are_in_order xs ≡ true → are_in_order (with_content t n content xs) ≡ true
with-ordered t n None xs ordered = filter-ordered row_before (λ row. not (is_row t n row)) xs ordered
with-ordered t n (Some cells) xs ordered =
    placed-in (record { table = t; number = n; cells = cells }) (without t n xs) (filter-ordered row_before (λ row. not (is_row t n row)) xs ordered) (without-same t n xs)

pub laid-ordered : (rows : List Row) (finals : List Final) → are_in_order rows ≡ true → are_in_order (laid_all rows finals) ≡ true
laid-ordered rows [] ordered = ordered
laid-ordered rows (f ∷ fs) ordered = laid-ordered (with_content f.table f.row f.content rows) fs (with-ordered f.table f.row f.content rows ordered)

-- a row of rows in order is answered
pub answered : (xs : List Row) → are_in_order xs ≡ true → (r : Row) → Has xs r → row_at r.table r.number xs ≡ Some r.cells
answered [] ordered r has = absurd has
answered (x ∷ xs) ordered r (inl same) = subst (λ (z : Row). row_at z.table z.number (x ∷ xs) ≡ Some z.cells) same (rw (is_row-self x) refl)
answered (x ∷ xs) ordered r (inr later) = go (is_row r.table r.number x) refl (answered xs (rest-ordered row_before x xs ordered) r later)
  where
    go : (b : Bool) → is_row r.table r.number x ≡ b → row_at r.table r.number xs ≡ Some r.cells → cond b (Some x.cells) (row_at r.table r.number xs) ≡ Some r.cells
    go false e rest = rest
    go true e rest =
        let same = is_row-is r.table r.number x e in
        let before : row_before x r ≡ true = all_from (row_before x) xs (first-before row_before x xs ordered) r later in
        let itself : row_before r r ≡ true = ap₂ (λ (u : TableName) (m : RowNo). fields_before (place_of u m) (place_of r.table r.number)) (sym same.0) (sym same.1) ∙ before in
        absurd (let no : true ≡ false = sym itself ∙ rows_irreflexive r in cc)

-- what is answered is there
pub there : (t : TableName) (n : RowNo) (cells : List Cell) (xs : List Row) → row_at t n xs ≡ Some cells → Has xs (record { table = t; number = n; cells = cells })
there t n cells [] e = absurd (let no : None ≡ Some cells = e in cc)
there t n cells (x ∷ xs) e = go (is_row t n x) refl e (there t n cells xs)
  where
    go : (b : Bool) → is_row t n x ≡ b → cond b (Some x.cells) (row_at t n xs) ≡ Some cells
        → (row_at t n xs ≡ Some cells → Has xs (record { table = t; number = n; cells = cells })) → Has (x ∷ xs) (record { table = t; number = n; cells = cells })
    go true is found rest =
        let same = is_row-is t n x is in
        let content : x.cells ≡ cells = cc in
        inl (λ i. record { table = same.0 i; number = same.1 i; cells = content i })
    go false is found rest = inr (rest found)

-- rows in order are what they answer
pub same_rows : (a b : List Row) → are_in_order a ≡ true → are_in_order b ≡ true → ((t : TableName) (n : RowNo) → row_at t n a ≡ row_at t n b) → a ≡ b
same_rows a b oa ob same = same_sorted row_before rows_transitive rows_irreflexive a b oa ob
    (λ r has. there r.table r.number r.cells b (sym (same r.table r.number) ∙ answered a oa r has))
    (λ r has. there r.table r.number r.cells a (same r.table r.number ∙ answered b ob r has))
