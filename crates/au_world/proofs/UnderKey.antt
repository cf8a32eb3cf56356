-- Where conditions fix a table's key, the row under it is all of the table that can take part.
use Rattle.std.proofs.Common.{◌≡◌, ◌≢◌, ◌∙◌, ◌<◌, ℕ, zero, suc, Bool, true, false, cond, ◌==◌, eqb-true, ◌⊎◌, inl, inr, List, [], ◌∷◌, map, length, filter, refl, sym, ap, subst, arith}
use Rattle.std.specs.Prelude.{IsTrue, Option, Some, None}
use Rattle.std.specs.List.{AllZip, Contains, slice_get, slice_index}
use Rattle.std.specs.Option.{option_map}
use Rattle.std.proofs.lemmas.Option.{slice_get-map}
use Rattle.au_base.specs.declared.cell.Cell.{Cell}
use Rattle.au_base.specs.declared.numbers.RowNo.{RowNo}
use Rattle.au_base.specs.declared.table.TableName.{TableName}
use Rattle.au_expr.specs.declared.placed.Placed.{Placed}
use Rattle.au_expr.specs.Sessions.{Session}
use Rattle.au_query.specs.Combos.{Line, cells_of, passes}
use Rattle.au_query.specs.Fixed.{AreFixed, IsFixed}
use Rattle.au_rows.specs.Held.{HasKey}
use Rattle.au_txn.specs.Desks.{contents_of}
use Rattle.au_txn.specs.Keys.{KeysDiffer}
use Rattle.au_txn.specs.Rows.{Row, row_at}
use Rattle.au_txn.specs.Transactions.{IsUnder}
use Rattle.au_world.specs.Cutting.{IsCut}
use Rattle.au_world.specs.Inside.{IsFixedAlone}
use Rattle.au_world.specs.Selecting.{Seen}
use Rattle.au_world.proofs.Members.{here, mapped, none, split, there}
use Rattle.au_world.proofs.Numbered.{Apart, itself, numbers_of}
use Rattle.au_world.proofs.Told.{mapped_twice}

differs : true ≡ false → ⊥
differs e = cc

-- ---- cells that are fixed are a key

weaker : {A B : Type 0} (R Q : A → B → Type 0) → ((a : A) (b : B) → R a b → Q a b) → (xs : List A) (ys : List B) → AllZip R xs ys → AllZip Q xs ys
weaker R Q turn [] [] all = tt
weaker R Q turn [] (y ∷ ys) all = all
weaker R Q turn (x ∷ xs) [] all = all
weaker R Q turn (x ∷ xs) (y ∷ ys) all = (turn x y all.0, weaker R Q turn xs ys all.1)

key_at : (cells : List Cell) (place : ℕ) (places : List ℕ) (c : Cell) (key : List Cell) → slice_get cells place ≡ Some c
    → ((at : ℕ) → at < length places → slice_get cells (slice_index places at) ≡ slice_get key at)
    → (at : ℕ) → at < length (place ∷ places) → slice_get cells (slice_index (place ∷ places) at) ≡ slice_get (c ∷ key) at
key_at cells place places c key first rest zero within = first
key_at cells place places c key first rest (suc at) within = rest at (omega (arith, within))

pub has_key : (cells : List Cell) (places : List ℕ) (key : List Cell) → AllZip (λ (place : ℕ) (c : Cell). slice_get cells place ≡ Some c) places key → HasKey places key (Some cells)
has_key cells [] [] all = (refl, λ at within. absurd (omega (arith, within)))
has_key cells [] (c ∷ key) all = absurd all
has_key cells (place ∷ places) [] all = absurd all
has_key cells (place ∷ places) (c ∷ key) all =
    let rest = has_key cells places key all.1 in
    (ap suc rest.0, key_at cells place places c key all.0 rest.1)

row_has_key : (session : Session) (conditions : List Placed) (place : ℕ) (places : List ℕ) (key : List Cell) → AreFixed session conditions place places key
    → (combo : List Line) (line : Line) → IsTrue (passes session conditions combo) → slice_get combo place ≡ Some line → HasKey places key (Some line.1)
row_has_key session conditions place places key fixed combo line holds at =
    has_key line.1 places key
    (weaker (IsFixed session conditions place) (λ (column : ℕ) (c : Cell). slice_get line.1 column ≡ Some c)
    (λ column c is. is (cells_of combo) line.1 holds (slice_get-map (λ (l : Line). l.1) combo place ∙ ap (option_map (λ (l : Line). l.1)) at)) places key fixed)

-- ---- rows under one key are one

one_row : (places : List ℕ) (table : TableName) (rows : List Row) → places ≢ [] → KeysDiffer places table rows
    → (m n : RowNo) (key : List Cell) → HasKey places key (row_at table m rows) → HasKey places key (row_at table n rows) → m ≡ n
one_row [] table rows some differ m n key one other = absurd (some refl)
one_row (place ∷ places) table rows some differ m n key one other = differ m n key one other

-- ---- the row of a number

abbrev has_number : RowNo → Line → Bool
has_number number line = line.0.0 == number.0

no_line_at : (number : RowNo) (line : Line) (rest : List Line) (b : Bool) → has_number number line ≡ b → line.0 ≢ number → rest ≡ [] → cond b (line ∷ rest) rest ≡ []
no_line_at number line rest true is other none = absurd (other (let e : line.0.0 ≡ number.0 = eqb-true line.0.0 number.0 is in λ i. record { 0 = e i }))
no_line_at number line rest false is other none = none

no_line : (number : RowNo) (lines : List Line) → ((n : RowNo) → Contains (map (λ (l : Line). l.0) lines) n → n ≢ number) → filter (has_number number) lines ≡ []
no_line number [] other = refl
no_line number (line ∷ lines) other =
    no_line_at number line (filter (has_number number) lines) (has_number number line) refl (other line.0 (here line.0 (map (λ (l : Line). l.0) lines)))
    (no_line number lines (λ n has. other n (there line.0 (map (λ (l : Line). l.0) lines) n has)))

number_in : (line : Line) (lines : List Line) → Contains lines line → Contains (map (λ (l : Line). l.0) lines) line.0
number_in line [] has = absurd (none line has)
number_in line (l ∷ lines) has = elim (split l lines line has) [
  | inl same ↦ subst (Contains (map (λ (x : Line). x.0) (l ∷ lines))) (ap (λ (x : Line). x.0) same) (here l.0 (map (λ (x : Line). x.0) lines))
  | inr later ↦ there l.0 (map (λ (x : Line). x.0) lines) line.0 (number_in line lines later)
]

only_first : (l : Line) (lines : List Line) (line : Line) → l ≡ line → ((n : RowNo) → Contains (map (λ (x : Line). x.0) lines) n → l.0 ≢ n) → filter (has_number line.0) (l ∷ lines) ≡ line ∷ []
only_first l lines line same others =
    ap (λ b. cond b (l ∷ filter (has_number line.0) lines) (filter (has_number line.0) lines)) (ap (λ (x : Line). x.0.0 == line.0.0) same ∙ itself line.0.0)
    ∙ ap (λ rest. l ∷ rest) (no_line line.0 lines (λ n has is. others n has (ap (λ (x : Line). x.0) same ∙ sym is)))
    ∙ ap (λ x. x ∷ []) same

only_later : (l : Line) (lines : List Line) (line : Line) (b : Bool) → has_number line.0 l ≡ b → l.0 ≢ line.0 → filter (has_number line.0) lines ≡ line ∷ []
    → cond b (l ∷ filter (has_number line.0) lines) (filter (has_number line.0) lines) ≡ line ∷ []
only_later l lines line true is other rest = absurd (other (let e : l.0.0 ≡ line.0.0 = eqb-true l.0.0 line.0.0 is in λ i. record { 0 = e i }))
only_later l lines line false is other rest = rest

only_line : (lines : List Line) (line : Line) → Contains lines line → Apart (map (λ (l : Line). l.0) lines) → filter (has_number line.0) lines ≡ line ∷ []
only_line [] line has apart = absurd (none line has)
only_line (l ∷ lines) line has apart = elim (split l lines line has) [
  | inl same ↦ only_first l lines line same apart.0
  | inr later ↦ only_later l lines line (has_number line.0 l) refl (apart.0 line.0 (number_in line lines later)) (only_line lines line later apart.1)
]

none_left : (lines : List Line) → filter (λ (line : Line). false) lines ≡ []
none_left [] = refl
none_left (line ∷ lines) = none_left lines

-- ---- what is cut away can't take part

-- The rows of the table that are seen have different numbers, and answer what the desk answers. Keys differ.
module _ (session : Session) (conditions : List Placed) (names : List TableName) (place : ℕ) (name : TableName) (places : List ℕ) (key : List Cell) (laid seen : List Row)
    (answers : (row : Row) → Contains seen row → row_at name row.number laid ≡ Some row.cells)
    (found : (line : Line) → row_at name line.0 laid ≡ Some line.1 → Contains (map contents_of seen) line)
    (apart : Apart (numbers_of seen))
    (differ : KeysDiffer places name laid)
    (fixed : IsFixedAlone session conditions names place name places key) where
  -- the row of a combination that passes is under the key
  under_it : (combo : List Line) (line : Line) → IsTrue (passes session conditions combo) → slice_get combo place ≡ Some line → Contains (map contents_of seen) line
      → IsUnder places key name laid line
  under_it combo line holds at has =
      let from = mapped contents_of seen line has in
      (subst (λ (l : Line). row_at name l.0 laid ≡ Some l.1) from.2 (answers from.0 from.1), row_has_key session conditions place places key fixed.fixed combo line holds at)

  with_key : (line : Line) → IsUnder places key name laid line → HasKey places key (row_at name line.0 laid)
  with_key line under = subst (HasKey places key) (sym under.0) under.1

  pub one_left : (line : Line) (part : Seen) → part.0 ≡ name → part.1 ≡ line ∷ [] → IsUnder places key name laid line → IsCut session conditions names place (name, map contents_of seen) part
  one_left line part table is under = record {
    keeps = λ (number : RowNo). number.0 == line.0.0;
    table = table;
    rows = is ∙ sym (only_line (map contents_of seen) line (found line under.0) (subst Apart (sym (mapped_twice contents_of (λ (l : Line). l.0) seen)) apart));
    passing = λ combo other holds at has.
        let same = one_row places name laid fixed.some_column differ other.0 line.0 key (with_key other (under_it combo other holds at has)) (with_key line under) in
        ap (λ (n : RowNo). n.0 == line.0.0) same ∙ itself line.0.0;
    alone = fixed.alone;
  }

  pub none_left_over : (part : Seen) → part.0 ≡ name → part.1 ≡ [] → ((line : Line) → ¬ IsUnder places key name laid line) → IsCut session conditions names place (name, map contents_of seen) part
  none_left_over part table is nothing = record {
    keeps = λ (number : RowNo). false;
    table = table;
    rows = is ∙ sym (none_left (map contents_of seen));
    passing = λ combo other holds at has. absurd (nothing other (under_it combo other holds at has));
    alone = fixed.alone;
  }

  pub under_is_cut : (part : Seen) → part.0 ≡ name
      → ((line : Line) × (part.1 ≡ line ∷ []) × IsUnder places key name laid line) ⊎ ((part.1 ≡ []) × ((line : Line) → ¬ IsUnder places key name laid line))
      → IsCut session conditions names place (name, map contents_of seen) part
  under_is_cut part table are = elim are [
    | inl one ↦ one_left one.0 part table one.1 one.2
    | inr nothing ↦ none_left_over part table nothing.0 nothing.1
  ]
