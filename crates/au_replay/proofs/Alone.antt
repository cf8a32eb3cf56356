-- Keys of rows: as the cells at the places of a key, and as the rows of a desk are asked for them.
use Rattle.std.proofs.Common.{◌≡◌, ◌≢◌, ◌<◌, ℕ, zero, suc, Bool, true, false, not, ◌↔◌, List, [], ◌∷◌, length, map, inl, inr, refl, sym, ap, ap₂, subst, ◌∙◌, arith, Option, Some, None}
use Rattle.std.specs.List.{AllByRecursion, Contains}
use Rattle.std.specs.Prelude.{slice_get, slice_index, is_some, IfNone, IfSome, IsTrue}
use Rattle.std.proofs.lemmas.Bool.Decides.{eqb_tells}
use Rattle.std.proofs.lemmas.Option.{get_or_from_slice_get, slice_get-get_or}
use Rattle.au_base.specs.declared.cell.Cell.{Cell}
use Rattle.au_base.specs.declared.cell.Cell.TheVariants.{Null}
use Rattle.au_base.specs.declared.numbers.RowNo.{RowNo}
use Rattle.au_base.specs.declared.table.Column.{Column}
use Rattle.au_base.specs.declared.table.TableName.{TableName}
use Rattle.au_entries.specs.Changing.{KeptRow}
use Rattle.au_entries.specs.Lawful.{key_of}
use Rattle.au_entries.specs.Replaying.{IsKeyPlace}
use Rattle.au_rows.specs.Held.{HasKey}
use Rattle.au_txn.specs.Rows.{Row, are_in_order, row_at, triple_of}
use Rattle.au_txn.specs.Transactions.{IsUnderOther}
use Rattle.au_replay.specs.descent.Touched.{IsAlone}
use Rattle.au_replay.proofs.Members.{here, mapped, none, split, there}
use Rattle.au_replay.proofs.RowCounts.{AreFound}
use Rattle.au_replay.proofs.RowsSeen.{StandsThere}

-- the places are those of cells
abbrev pub AreWithin : List ℕ → List Cell → Type 0
AreWithin places cells = AllByRecursion (λ (place : ℕ). place < length cells) places

place_within : (columns : List Column) (place : ℕ) → IsKeyPlace columns place → place < length columns
place_within [] place stands = absurd stands
place_within (column ∷ columns) zero stands = omega arith
place_within (column ∷ columns) (suc place) stands = let rest = place_within columns place stands in omega (arith, rest)

pub places_within : (columns : List Column) (places : List ℕ) (cells : List Cell) → AllByRecursion (IsKeyPlace columns) places → length cells ≡ length columns → AreWithin places cells
places_within columns [] cells stand wide = tt
places_within columns (place ∷ places) cells stand wide = (let within = place_within columns place stand.0 in omega (arith, within, wide), places_within columns places cells stand.1 wide)

at_place : (place : ℕ) (places : List ℕ) (cells : List Cell) → place < length cells → HasKey places (key_of places cells) (Some cells)
    → (at : ℕ) → at < suc (length places) → slice_get cells (slice_index (place ∷ places) at) ≡ slice_get (key_of (place ∷ places) cells) at
at_place place places cells within rest zero least = slice_get-get_or cells place Null within
at_place place places cells within rest (suc at) least = rest.1 at (omega (arith, least))

-- cells have the key that stands at the places
pub has_key : (places : List ℕ) (cells : List Cell) → AreWithin places cells → HasKey places (key_of places cells) (Some cells)
has_key [] cells within = (refl, λ at least. absurd (omega (arith, least)))
has_key (place ∷ places) cells within = let rest = has_key places cells within.1 in (ap suc rest.0, at_place place places cells within.0 rest)

-- and no other
pub key_is : (places : List ℕ) (key : List Cell) (cells : List Cell) → HasKey places key (Some cells) → key ≡ key_of places cells
key_is [] [] cells has = refl
key_is [] (cell ∷ key) cells has = absurd (let e = has.0 in omega (arith, e))
key_is (place ∷ places) [] cells has = absurd (let e = has.0 in omega (arith, e))
key_is (place ∷ places) (cell ∷ key) cells has =
    ap₂ (λ (a : Cell) (b : List Cell). a ∷ b) (sym (get_or_from_slice_get cells place cell Null (has.1 0 (omega arith))))
    (key_is places key cells ((let e = has.0 in omega (arith, e)), λ at least. has.1 (suc at) (omega (arith, least))))

pub mapped_to : {X Y : Type 0} (f : X → Y) (xs : List X) (x : X) → Contains xs x → Contains (map f xs) (f x)
mapped_to f [] x has = absurd (none x has)
mapped_to f (y ∷ xs) x has = elim (split y xs x has) [
  | inl same ↦ subst (λ z. Contains (f y ∷ map f xs) z) (ap f same) (here (f y) (map f xs))
  | inr later ↦ there (f y) (map f xs) (f x) (mapped_to f xs x later)
]

number_is : (a b : RowNo) → a.0 ≡ b.0 → a ≡ b
number_is a b same = ap (λ (n : ℕ). record { 0 = n }) same

-- where no other row is found under the key, no other row of the table has it
pub alone_from : AreFound → (rows : List Row) → are_in_order rows ≡ true → (places : List ℕ) (cells : List Cell) (table : TableName) (number : RowNo)
    → ((row : Row) → Contains rows row → row.table ≡ table → AreWithin places row.cells)
    → ((other : RowNo) → IsUnderOther places (key_of places cells) table rows number other → ⊥)
    → IsAlone places cells (map triple_of rows) table number
alone_from found rows ordered places cells table number within none_other other has =
    let (row, among, is) = mapped triple_of rows other has in
    subst (λ (o : KeptRow). o.0 ≡ table → key_of places cells ≡ key_of places o.2 → number ≡ o.1) is (at_row row among)
  where
    at_row : (row : Row) → Contains rows row → row.table ≡ table → key_of places cells ≡ key_of places row.cells → number ≡ row.number
    at_row row among same key = elim (eqb_tells number.0 row.number.0) [
      | inl equal ↦ number_is number row.number equal.1
      | inr apart ↦ absurd (
          let own : HasKey places (key_of places row.cells) (row_at row.table row.number rows) = subst (HasKey places (key_of places row.cells)) (sym (found rows row ordered among)) (has_key places row.cells (within row among same)) in
          let under : HasKey places (key_of places cells) (row_at row.table row.number rows) = subst (λ (k : List Cell). HasKey places k (row_at row.table row.number rows)) (sym key) own in
          none_other row.number
          ((λ e. apart.1 (ap (λ (n : RowNo). n.0) (sym e))), subst (λ (t : TableName). HasKey places (key_of places cells) (row_at t row.number rows)) same under))
    ]

-- where another row is found under the key, it has it
pub alone_to : StandsThere → (rows : List Row) (places : List ℕ) (cells : List Cell) (table : TableName) (number other : RowNo)
    → IsUnderOther places (key_of places cells) table rows number other → IsAlone places cells (map triple_of rows) table number → ⊥
alone_to stands rows places cells table number other under alone = go (row_at table other rows) refl under.1
  where
    go : (content : Option (List Cell)) → row_at table other rows ≡ content → HasKey places (key_of places cells) content → ⊥
    go None is has = has
    go (Some found) is has =
        let row : Row = record { table = table; number = other; cells = found } in
        under.0 (sym (alone (table, other, found) (mapped_to triple_of rows row (stands rows row is)) refl (key_is places (key_of places cells) found has)))

not_false : (b : Bool) → not b ≡ false → b ≡ true
not_false true is = refl
not_false false is = absurd (let e : true ≡ false = is in cc)

-- so the search for another row tells whether the row is alone
pub alone_test : AreFound → StandsThere → (rows : List Row) → are_in_order rows ≡ true → (places own : List ℕ) (key cells : List Cell) (table : TableName) (number : RowNo)
    → ((row : Row) → Contains rows row → row.table ≡ table → AreWithin places row.cells)
    → own ≡ places → key ≡ key_of places cells → places ≢ [] → (answer : Option RowNo) (test : Bool) → is_some answer ≡ not test
    → IfSome answer (λ other. IsUnderOther own key table rows number other) → IfNone answer ((other : RowNo) → IsUnderOther own key table rows number other → ⊥)
    → IsTrue test ↔ (places ≢ [] → IsAlone places cells (map triple_of rows) table number)
alone_test found stands rows ordered places own key cells table number within same is keyed None test tells some none = (
  λ _ _. alone_from found rows ordered places cells table number within
      (λ other under. none other (subst (λ (k : List Cell). IsUnderOther own k table rows number other) (sym is) (subst (λ (p : List ℕ). IsUnderOther p (key_of places cells) table rows number other) (sym same) under))),
  λ _. not_false test (sym tells),
)
alone_test found stands rows ordered places own key cells table number within same is keyed (Some other) test tells some none = (
  λ yes. absurd (let e : true ≡ false = tells ∙ ap not yes in cc),
  λ alone. absurd (alone_to stands rows places cells table number other
      (subst (λ (k : List Cell). IsUnderOther places k table rows number other) is (subst (λ (p : List ℕ). IsUnderOther p key table rows number other) same some)) (alone keyed)),
)
