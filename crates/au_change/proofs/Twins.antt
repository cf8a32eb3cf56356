-- Keys that two changes make.
use Rattle.std.proofs.Common.{◌≡◌, ◌≢◌, ◌∙◌, inl, inr, ℕ, Bool, true, false, not, ◌&&◌, ◌||◌, ◌==◌, List, [], ◌∷◌, ◌++◌, map, refl, sym, ap, ap₂, arith}
use Rattle.std.specs.Prelude.{Option, None, Some}
use Rattle.std.specs.List.{AllByRecursion, Contains, list_any}
use Rattle.std.specs.Option.{option_and_then}
use Rattle.std.proofs.lemmas.Bool.{and_from, and_parts, or_cases}
use Rattle.std.proofs.lemmas.Bool.Decides.{nat_tests}
use Rattle.au_base.specs.declared.cell.Cell.{Cell}
use Rattle.au_base.specs.declared.cell.Cell.TheVariants as cell
use Rattle.au_base.specs.declared.numbers.RowNo.{RowNo}
use Rattle.au_base.specs.declared.table.TableName.{TableName}
use Rattle.au_base.specs.Sameness.{same_table}
use Rattle.au_rows.specs.Held.{HasKey}
use Rattle.au_change.specs.declared.keys.Part.{Part}
use Rattle.au_change.specs.Inside.{all_parts, has_number, key_at, key_parts, new_key, part_of, repeats}
use Rattle.au_txn.specs.declared.change.RowChange.{RowChange}
use Rattle.au_txn.specs.Transactions.{is_of_row, names_row, rows_differ}
use Rattle.au_change.proofs.KeysOf.{from_has, has_from}
use Rattle.au_change.proofs.Members.{all_at, any_of, here, none, or_first, or_later, split, there}

-- a key that a change makes is its content's
pub key_has : (places : List ℕ) (key : List Cell) (content : Option (List Cell)) → option_and_then (key_at places) content ≡ Some key → HasKey places key content
key_has places key None is = absurd (let e : None ≡ Some key = is in cc)
key_has places key (Some cells) is = has_from places key cells is

pub has_key : (places : List ℕ) (key : List Cell) (content : Option (List Cell)) → HasKey places key content → option_and_then (key_at places) content ≡ Some key
has_key places key None has = absurd has
has_key places key (Some cells) has = from_has places key cells has

-- cells are told by their parts
part_same : (a b : Cell) → part_of a ≡ part_of b → a ≡ b
part_same cell.Null cell.Null is = refl
part_same cell.Null (cell.Num n) is = cc
part_same cell.Null (cell.Text t) is = cc
part_same cell.Null (cell.Moment m) is = cc
part_same (cell.Num n) cell.Null is = cc
part_same (cell.Num n) (cell.Num m) is = cc
part_same (cell.Num n) (cell.Text t) is = cc
part_same (cell.Num n) (cell.Moment m) is = cc
part_same (cell.Text t) cell.Null is = cc
part_same (cell.Text t) (cell.Num n) is = cc
part_same (cell.Text t) (cell.Text u) is = cc
part_same (cell.Text t) (cell.Moment m) is = cc
part_same (cell.Moment m) cell.Null is = cc
part_same (cell.Moment m) (cell.Num n) is = cc
part_same (cell.Moment m) (cell.Text t) is = cc
part_same (cell.Moment m) (cell.Moment n) is = cc

heads : {X : Type 0} (a b : X) (xs ys : List X) → a ∷ xs ≡ b ∷ ys → (a ≡ b) × (xs ≡ ys)
heads a b xs ys is = (cc, cc)

pub parts_same : (a b : List Cell) → map part_of a ≡ map part_of b → a ≡ b
parts_same [] [] is = refl
parts_same [] (y ∷ b) is = absurd (let e : [] ≡ part_of y ∷ map part_of b = is in cc)
parts_same (x ∷ a) [] is = absurd (let e : part_of x ∷ map part_of a ≡ [] = is in cc)
parts_same (x ∷ a) (y ∷ b) is =
    let both = heads (part_of x) (part_of y) (map part_of a) (map part_of b) is in
    ap₂ (λ (c : Cell) (cs : List Cell). c ∷ cs) (part_same x y both.0) (parts_same a b both.1)

-- ---- rows that differ

number_of : (a b : RowNo) → a ≡ b → (b.0 == a.0) ≡ true
number_of a b is = let e : a.0 ≡ b.0 = ap (λ (n : RowNo). n.0) is in grind (arith, nat_tests)

unnamed : (b : Bool) → not b ≡ true → b ≡ true → ⊥
unnamed true denied is = absurd (let e : false ≡ true = denied in cc)
unnamed false denied is = absurd (let e : false ≡ true = is in cc)

pub rows_apart : (tables : (x y : TableName) → x ≡ y → same_table x y ≡ true) (table : TableName) (a b : RowChange) (changes : List RowChange) → rows_differ (a ∷ changes) ≡ true
    → a.table ≡ table → b.table ≡ table → Contains changes b → a.row ≢ b.row
rows_apart tables table a b changes differ of_a of_b has same =
    unnamed (names_row a.table a.row changes) (and_parts (not (names_row a.table a.row changes)) (rows_differ changes) differ).0
    (any_of (is_of_row a.table a.row) changes b has (and_from (same_table b.table a.table) (b.row.0 == a.row.0) (tables b.table a.table (of_b ∙ sym of_a)) (number_of a.row b.row same)))

pub named_is : (tables : (x y : TableName) → x ≡ y → same_table x y ≡ true) (table : TableName) (row : RowNo) (changes : List RowChange) → AllByRecursion (λ (c : RowChange). c.table ≡ table) changes
    → names_row table row changes ≡ has_number row changes
named_is tables table row [] all = refl
named_is tables table row (c ∷ changes) all =
    ap₂ (λ (x y : Bool). (x && (c.row.0 == row.0)) || y) (tables c.table table all.0) (named_is tables table row changes all.1)

-- ---- which changes make them

module _ (same : List Part → List Part → Bool) (exact : (p q : List Part) → same p q ≡ true → p ≡ q) (places : List ℕ) where
  -- a change whose key has these parts
  abbrev Makes : List RowChange → List Part → Type 0
  Makes changes parts = (change : RowChange) × Contains changes change × ((key : List Cell) × (new_key places change ≡ Some key) × (parts ≡ map part_of key))

  later_makes : (c : RowChange) (changes : List RowChange) (parts : List Part) → Makes changes parts → Makes (c ∷ changes) parts
  later_makes c changes parts makes = (makes.0, there c changes makes.0 makes.1, makes.2)

  pub makes_at : (c : RowChange) (changes : List RowChange) (parts : List Part) (key : Option (List Cell)) → new_key places c ≡ key
      → (list_any (same parts) (all_parts places changes) ≡ true → Makes changes parts)
      → list_any (same parts) (key_parts key ++ all_parts places changes) ≡ true → Makes (c ∷ changes) parts
  makes_at c changes parts None made more is = later_makes c changes parts (more is)
  makes_at c changes parts (Some key) made more is = elim (or_cases (same parts (map part_of key)) (list_any (same parts) (all_parts places changes)) is) [
    | inl first ↦ (c, here c changes, (key, made, exact parts (map part_of key) first))
    | inr later ↦ later_makes c changes parts (more later)
  ]

  pub makes : (changes : List RowChange) (parts : List Part) → list_any (same parts) (all_parts places changes) ≡ true → Makes changes parts
  makes [] parts is = absurd (let e : false ≡ true = is in cc)
  makes (c ∷ changes) parts is = makes_at c changes parts (new_key places c) refl (makes changes parts) is

  -- two changes of different rows make one key
  abbrev pub AreTwins : List RowChange → Type 0
  AreTwins changes =
      (a : RowChange) × (b : RowChange) × Contains changes a × Contains changes b × (a.row ≢ b.row)
      × ((key : List Cell) × (new_key places a ≡ Some key) × (new_key places b ≡ Some key))

  later_twins : (c : RowChange) (changes : List RowChange) → AreTwins changes → AreTwins (c ∷ changes)
  later_twins c changes twins = (twins.0, twins.1, there c changes twins.0 twins.2, there c changes twins.1 twins.3, twins.4, twins.5)

  twins_at : (c : RowChange) (changes : List RowChange) (key : Option (List Cell)) → new_key places c ≡ key → ((b : RowChange) → Contains changes b → c.row ≢ b.row)
      → (repeats same (all_parts places changes) ≡ true → AreTwins changes)
      → repeats same (key_parts key ++ all_parts places changes) ≡ true → AreTwins (c ∷ changes)
  twins_at c changes None made apart more is = later_twins c changes (more is)
  twins_at c changes (Some key) made apart more is = elim (or_cases (list_any (same (map part_of key)) (all_parts places changes)) (repeats same (all_parts places changes)) is) [
    | inl first ↦ (let twin = makes changes (map part_of key) first in (
      c,
      twin.0,
      here c changes,
      there c changes twin.0 twin.1,
      apart twin.0 twin.1,
      (key, made, twin.2.1 ∙ ap (λ (k : List Cell). Some k) (sym (parts_same key twin.2.0 twin.2.2))),
    ))
    | inr later ↦ later_twins c changes (more later)
  ]

  pub twins : (tables : (x y : TableName) → x ≡ y → same_table x y ≡ true) (table : TableName) (changes : List RowChange) → AllByRecursion (λ (c : RowChange). c.table ≡ table) changes
      → rows_differ changes ≡ true → repeats same (all_parts places changes) ≡ true → AreTwins changes
  twins tables table [] all differ is = absurd (let e : false ≡ true = is in cc)
  twins tables table (c ∷ changes) all differ is =
      twins_at c changes (new_key places c) refl
      (λ b has. rows_apart tables table c b changes differ all.0 (all_at (λ (x : RowChange). x.table ≡ table) changes b all.1 has) has)
      (twins tables table changes all.1 (and_parts (not (names_row c.table c.row changes)) (rows_differ changes) differ).1) is

  -- ---- and back

  module _ (itself : (p : List Part) → same p p ≡ true) where
    found_at : (c : RowChange) (changes : List RowChange) (key : List Cell) (made : Option (List Cell)) → list_any (same (map part_of key)) (all_parts places changes) ≡ true
        → list_any (same (map part_of key)) (key_parts made ++ all_parts places changes) ≡ true
    found_at c changes key None is = is
    found_at c changes key (Some other) is = or_later (same (map part_of key) (map part_of other)) (list_any (same (map part_of key)) (all_parts places changes)) is

    found_here : (changes : List RowChange) (key : List Cell) (made : Option (List Cell)) → made ≡ Some key
        → list_any (same (map part_of key)) (key_parts made ++ all_parts places changes) ≡ true
    found_here changes key None is = absurd (let e : None ≡ Some key = is in cc)
    found_here changes key (Some other) is =
        or_first (same (map part_of key) (map part_of other)) (list_any (same (map part_of key)) (all_parts places changes))
        (let e : Some other ≡ Some key = is in let k : other ≡ key = cc in ap (λ (o : List Cell). same (map part_of key) (map part_of o)) k ∙ itself (map part_of key))

    pub found : (changes : List RowChange) (b : RowChange) (key : List Cell) → Contains changes b → new_key places b ≡ Some key → list_any (same (map part_of key)) (all_parts places changes) ≡ true
    found [] b key has made = absurd (none b has)
    found (c ∷ changes) b key has made = elim (split c changes b has) [
      | inl first ↦ found_here changes key (new_key places c) (ap (new_key places) first ∙ made)
      | inr later ↦ found_at c changes key (new_key places c) (found changes b key later made)
    ]

    twice_here : (changes : List RowChange) (key : List Cell) (made : Option (List Cell)) → made ≡ Some key → list_any (same (map part_of key)) (all_parts places changes) ≡ true
        → repeats same (key_parts made ++ all_parts places changes) ≡ true
    twice_here changes key None is there_too = absurd (let e : None ≡ Some key = is in cc)
    twice_here changes key (Some other) is there_too =
        or_first (list_any (same (map part_of other)) (all_parts places changes)) (repeats same (all_parts places changes))
        (let e : Some other ≡ Some key = is in let k : other ≡ key = cc in ap (λ (o : List Cell). list_any (same (map part_of o)) (all_parts places changes)) k ∙ there_too)

    twice_later : (changes : List RowChange) (made : Option (List Cell)) → repeats same (all_parts places changes) ≡ true → repeats same (key_parts made ++ all_parts places changes) ≡ true
    twice_later changes None is = is
    twice_later changes (Some other) is = or_later (list_any (same (map part_of other)) (all_parts places changes)) (repeats same (all_parts places changes)) is

    pub twice : (changes : List RowChange) (a b : RowChange) (key : List Cell) → Contains changes a → Contains changes b → a.row ≢ b.row → new_key places a ≡ Some key → new_key places b ≡ Some key
        → repeats same (all_parts places changes) ≡ true
    twice [] a b key one other differ made too = absurd (none a one)
    twice (c ∷ changes) a b key one other differ made too = elim (split c changes a one) [
      | inl first ↦ (elim (split c changes b other) [
        | inl second ↦ absurd (differ (ap (λ (x : RowChange). x.row) (sym first ∙ second)))
        | inr later ↦ twice_here changes key (new_key places c) (ap (new_key places) first ∙ made) (found changes b key later too)
      ])
      | inr front ↦ (elim (split c changes b other) [
        | inl second ↦ twice_here changes key (new_key places c) (ap (new_key places) second ∙ too) (found changes a key front made)
        | inr later ↦ twice_later changes (new_key places c) (twice changes a b key front later differ made too)
      ])
    ]
