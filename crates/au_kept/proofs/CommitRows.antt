-- What becomes of a client's rows at a commit goes on from what is kept, and keeps it whole.
use Rattle.std.proofs.Common.{◌≡◌, ◌≢◌, ◌∙◌, ◌⊎◌, inl, inr, ℕ, zero, suc, ◌≤◌, ◌<◌, Bool, true, false, not, get_or, List, [], ◌∷◌, length, map, refl, sym, ap, ap₂, subst, arith}
use Rattle.std.specs.Prelude.{◌==◌, IsSome, IsTrue, Option, Some, None, slice_get, slice_index}
use Rattle.std.specs.List.{AllByRecursion, Contains, filter, list_all}
use Rattle.std.specs.declared.cmp.Ordering.{Ordering}
use Rattle.std.specs.declared.cmp.Ordering.TheVariants.{Less, Equal, Greater}
use Rattle.std.specs.Ordering.{is_eq, nat_cmp, ordering_then}
use Rattle.std.specs.Cmp.Lexicographic.{slice_cmp}
use Rattle.std.proofs.lemmas.Bool.{and_from, and_parts}
use Rattle.std.proofs.lemmas.Bool.Decides.{nat_tests}
use Rattle.std.proofs.lemmas.List.{length-map}
use Rattle.std.proofs.lemmas.Map.Text.{is_eq-slice_cmp}
use Rattle.std.proofs.lemmas.Option.{slice_get-get_or}
use Rattle.std.proofs.lemmas.Slice.Eq.{bytes_eq-Decides}
use Rattle.au_base.specs.Limits.{TABLE_ROW_NUMBERS}
use Rattle.au_base.specs.Order.{fields_before, is_in_order}
use Rattle.au_base.specs.OrderLaws.{fields_irreflexive}
use Rattle.au_base.specs.Sameness.{same_table}
use Rattle.au_base.specs.declared.cell.Cell.{Cell}
use Rattle.au_base.specs.declared.cell.Cell.TheVariants.{Null}
use Rattle.au_base.specs.declared.numbers.RowNo.{RowNo}
use Rattle.au_base.specs.declared.table.Column.{Column}
use Rattle.au_base.specs.declared.table.TableName.{TableName}
use Rattle.au_entries.specs.declared.kept.Kept.{Kept}
use Rattle.au_entries.specs.declared.table.Table.{Table}
use Rattle.au_entries.specs.Changing.{KeptRow, by_fields, changed, is_row, row_fields, table_fields}
use Rattle.au_entries.specs.Lawful.{FitColumns, IsLawful, IsTableFounded, IsWhole}
use Rattle.au_entries.specs.Lawful as lawful
use Rattle.au_entries.specs.Replaying.{AllGoOn, Conditions, IsKeyPlace}
use Rattle.au_image.specs.Image.{open_table}
use Rattle.au_kept.specs.OpenChanges.{AreAmong, FitsIfThere, IsSoundChange, content_change}
use Rattle.au_kept.specs.Staging.{final_change}
use Rattle.au_kept.proofs.Among.{all_at, any_to, each_of, none, split}
use Rattle.au_kept.proofs.Chosen.{AreApart, all_from, filtered, mapped, no_more, still_there, unmapped}
use Rattle.au_kept.proofs.Numbers.{rows_few, same_number}
use Rattle.au_kept.proofs.OpenKeys.{keyed_open}
use Rattle.au_kept.proofs.OpenTables.{same_name, same_name_to}
use Rattle.au_kept.proofs.Sounds.{Untouched}
use Rattle.au_rows.specs.Held.{HasKey}
use Rattle.au_txn.specs.declared.change.RowChange.{RowChange}
use Rattle.au_txn.specs.declared.finals.Final.{Final}
use Rattle.au_txn.specs.Desks.{key_of}
use Rattle.au_txn.specs.Finals.{AreFinals, final_before}
use Rattle.au_txn.specs.Keys.{KeysDiffer}
use Rattle.au_txn.specs.Rows.{Row, are_in_order, place_of, row_at, triple_of}
use Rattle.au_txn.specs.Transactions.{laid_over, names_row}
use Rattle.rec_codec.specs.Changes.{IsChangeSpellable}
use Rattle.sql_ast.specs.declared.expression.Expr.{Expr}

-- what the laws say of rows over which changes are laid
pub record LaidLaws : Type 0 where
  pub untouched : Untouched
  pub named : (rows : List Row) (changes : List RowChange) (table : TableName) (number : RowNo) → IsTrue (names_row table number changes)
      → (change : RowChange) × Contains changes change × (change.table ≡ table) × (change.row ≡ number) × (row_at table number (laid_over rows changes) ≡ change.new)
  pub laid : (rows : List Row) (changes : List RowChange) (row : Row) → Contains (laid_over rows changes) row
      → Contains rows row ⊎ ((change : RowChange) × Contains changes change × (change.table ≡ row.table) × (change.row ≡ row.number) × (change.new ≡ Some row.cells))
  pub found : (rows : List Row) (row : Row) → IsTrue (are_in_order rows) → Contains rows row → row_at row.table row.number rows ≡ Some row.cells
  pub stands : (rows : List Row) (row : Row) → row_at row.table row.number rows ≡ Some row.cells → Contains rows row
  pub ordered : (rows : List Row) (changes : List RowChange) → IsTrue (are_in_order rows) → IsTrue (are_in_order (laid_over rows changes))
  pub listed : (rows : List Row) → is_in_order fields_before (map (λ (row : TableName × RowNo × List Cell). place_of row.0 row.1) (map triple_of rows)) ≡ are_in_order rows

-- ---- what becomes of a row is what a change of it makes

-- what becomes of a row, as a change of it
abbrev pub as_change : Final → RowChange
as_change final = record { table = final.table; row = final.row; old = None; new = final.content }

sound_as : (tables : List Table) (change : RowChange) (final : Final) → change.table ≡ final.table → change.row ≡ final.row → final.content ≡ change.new → IsSoundChange tables change → IsSoundChange tables (as_change final)
sound_as tables change final table_is row_is content_is s = record {
  numbered = subst (λ (n : RowNo). 1 ≤ n.0) row_is s.numbered;
  fits = (let (table, has, named, fit) = s.fits in (table, has, named ∙ table_is, subst (FitsIfThere table.columns) (sym content_is) fit));
  spelled = subst (λ (content : Option (List Cell)). IsChangeSpellable (content_change final.table final.row content)) (sym content_is)
      (subst (λ (n : RowNo). IsChangeSpellable (content_change final.table n change.new)) row_is (subst (λ (t : TableName). IsChangeSpellable (content_change t change.row change.new)) table_is s.spelled));
}

sound_at : LaidLaws → (tables : List Table) (rows : List Row) (changes : List RowChange) → AllByRecursion (IsSoundChange tables) changes → (final : Final) (b : Bool) → names_row final.table final.row changes ≡ b
    → final.content ≡ row_at final.table final.row (laid_over rows changes) → final.content ≢ row_at final.table final.row rows → IsSoundChange tables (as_change final)
sound_at laws tables rows changes sound final true is now other =
    let (change, among, table_is, row_is, new) = laws.named rows changes final.table final.row is in
    sound_as tables change final table_is row_is (now ∙ new) (all_at (IsSoundChange tables) changes sound change among)
sound_at laws tables rows changes sound final false is now other = absurd (other (now ∙ laws.untouched rows changes final.table final.row is))

-- what becomes of rows is sound where the changes are
pub finals_sound : LaidLaws → (tables : List Table) (rows : List Row) (changes : List RowChange) (finals : List Final) → AllByRecursion (IsSoundChange tables) changes → AreFinals rows changes finals
    → AllByRecursion (λ (final : Final). IsSoundChange tables (as_change final)) finals
finals_sound laws tables rows changes finals sound are =
    all_from (λ (final : Final). IsSoundChange tables (as_change final)) finals
    (λ final has. let facts = are.sound final has in sound_at laws tables rows changes sound final (names_row final.table final.row changes) refl facts.0 facts.1)

pub finals_spelled : (tables : List Table) (finals : List Final) → AllByRecursion (λ (final : Final). IsSoundChange tables (as_change final)) finals → AllByRecursion (λ (final : Final). IsChangeSpellable (final_change final)) finals
finals_spelled tables [] sound = tt
finals_spelled tables (final ∷ finals) sound = (sound.0.spelled, finals_spelled tables finals sound.1)

-- ---- different rows

abbrev Named : Type 0
Named = TableName × RowNo

abbrev name_of : Final → Named
name_of final = (final.table, final.row)

final_apart : (a b : Final) → final_before a b ≡ true → name_of a ≡ name_of b → ⊥
final_apart a b before same =
    let e : true ≡ false = sym before ∙ ap (λ (n : Named). fields_before (place_of a.table a.row) (place_of n.0 n.1)) (sym same) ∙ fields_irreflexive (place_of a.table a.row) in
    cc

apart_all : (a : Final) (finals : List Final) → list_all (final_before a) finals ≡ true → AllByRecursion (λ other. name_of a ≡ other → ⊥) (map name_of finals)
apart_all a [] before = tt
apart_all a (b ∷ finals) before = let parts = and_parts (final_before a b) (list_all (final_before a) finals) before in (final_apart a b parts.0, apart_all a finals parts.1)

finals_apart : (finals : List Final) → is_in_order final_before finals ≡ true → AreApart (map name_of finals)
finals_apart [] ordered = tt
finals_apart (a ∷ finals) ordered = let parts = and_parts (list_all (final_before a) finals) (is_in_order final_before finals) ordered in (apart_all a finals parts.0, finals_apart finals parts.1)

abbrev named_by : RowChange → Named
named_by change = (change.table, change.row)

of_change : LaidLaws → (rows : List Row) (changes : List RowChange) (final : Final) (b : Bool) → names_row final.table final.row changes ≡ b → final.content ≡ row_at final.table final.row (laid_over rows changes)
    → final.content ≢ row_at final.table final.row rows → Contains (map named_by changes) (name_of final)
of_change laws rows changes final true is now other =
    let (change, among, table_is, row_is, new) = laws.named rows changes final.table final.row is in
    subst (λ (n : Named). Contains (map named_by changes) n) (ap₂ (λ (t : TableName) (n : RowNo). let pair : Named = (t, n) in pair) table_is row_is) (mapped named_by changes change among)
of_change laws rows changes final false is now other = absurd (other (now ∙ laws.untouched rows changes final.table final.row is))

-- no more rows are left otherwise than there are changes
pub finals_few : LaidLaws → (rows : List Row) (changes : List RowChange) (finals : List Final) → AreFinals rows changes finals → length finals ≤ length changes
finals_few laws rows changes finals are =
    let least = no_more (map name_of finals) (map named_by changes) (finals_apart finals are.ordered)
    (all_from (Contains (map named_by changes)) (map name_of finals) (λ (n : Named) has.
    let (final, among, is) = unmapped name_of finals n has in
    let facts = are.sound final among in
    subst (λ (m : Named). Contains (map named_by changes) m) is (of_change laws rows changes final (names_row final.table final.row changes) refl facts.0 facts.1))) in
    let one = length-map finals name_of in
    let two = length-map changes named_by in
    omega (arith, least, one, two)

-- ---- each goes on after those before it

-- a row of this table and number is kept
abbrev HasRow : Kept → Named → Type 0
HasRow kept name = (cells : List Cell) × Contains kept.rows (name.0, name.1, cells)

then_equal : (a b : Ordering) → ordering_then a b ≡ Equal → (a ≡ Equal) × (b ≡ Equal)
then_equal Less b e = absurd (let no : Less ≡ Equal = e in cc)
then_equal Equal b e = (refl, e)
then_equal Greater b e = absurd (let no : Greater ≡ Equal = e in cc)

pub same_text : (a b : List ℕ) → slice_cmp nat_cmp a b ≡ Equal → a ≡ b
same_text a b e = (bytes_eq-Decides a b).0 (sym (is_eq-slice_cmp a b) ∙ ap is_eq e)

-- rows that stand at one place are one row
same_place : (t u : TableName) (m n : RowNo) → by_fields (row_fields t m) (row_fields u n) ≡ Equal → (let one : Named = (u, n) in let other : Named = (t, m) in one ≡ other)
same_place t u m n e =
    let one = then_equal (slice_cmp nat_cmp t.owner u.owner) _ e in
    let two = then_equal (slice_cmp nat_cmp t.name u.name) _ one.1 in
    let three = then_equal (slice_cmp nat_cmp (m.0 ∷ []) (n.0 ∷ [])) _ two.1 in
    let number : m.0 ≡ n.0 = ap (λ (ns : List ℕ). get_or ns 0 0) (same_text (m.0 ∷ []) (n.0 ∷ []) three.0) in
    sym (ap₂ (λ (a : TableName) (b : RowNo). let pair : Named = (a, b) in pair)
    (ap₂ (λ (o p : List ℕ). let x : TableName = record { owner = o; name = p } in x) (same_text t.owner u.owner one.0) (same_text t.name u.name two.0))
    (ap (λ (k : ℕ). let r : RowNo = record { 0 = k } in r) number))

row_same : (name : Named) (row : KeptRow) → is_row name.0 name.1 row ≡ true → name ≡ (row.0, row.1)
row_same name row is =
    let parts = and_parts (same_table row.0 name.0) (row.1.0 == name.1.0) is in
    ap₂ (λ (t : TableName) (n : RowNo). let pair : Named = (t, n) in pair) (sym (same_name row.0 name.0 parts.0)) (sym (same_number row.1 name.1 parts.1))

not_same : (b : Bool) → (b ≡ true → ⊥) → not b ≡ true
not_same true apart = absurd (apart refl)
not_same false apart = refl

-- another row stays there
put_stays : (tree : List ℕ → Expr) (kept : Kept) (name other : Named) (cells : List Cell) → (name ≡ other → ⊥) → HasRow kept other → HasRow (changed tree (content_change name.0 name.1 (Some cells)) kept) other
put_stays tree kept name other cells apart (held, has) = (
  held,
  still_there (λ (row : KeptRow). by_fields (row_fields row.0 row.1) (row_fields name.0 name.1)) (name.0, name.1, cells) kept.rows (other.0, other.1, held) has
      (λ same. apart (same_place other.0 name.0 other.1 name.1 same)),
)

gone_stays : (tree : List ℕ → Expr) (kept : Kept) (name other : Named) → (name ≡ other → ⊥) → HasRow kept other → HasRow (changed tree (content_change name.0 name.1 None) kept) other
gone_stays tree kept name other apart (held, has) = (
  held,
  filtered (λ (row : KeptRow). not (is_row name.0 name.1 row)) kept.rows (other.0, other.1, held) has
      (not_same (is_row name.0 name.1 (other.0, other.1, held)) (λ is. apart (row_same name (other.0, other.1, held) is))),
)

-- what goes is there
abbrev IsThere : Kept → Final → Type 0
IsThere kept final = final.content ≡ None → HasRow kept (name_of final)

all_stay : (kept next : Kept) (name : Named) → ((other : Named) → (name ≡ other → ⊥) → HasRow kept other → HasRow next other) → (finals : List Final)
    → AllByRecursion (λ other. name ≡ other → ⊥) (map name_of finals) → AllByRecursion (IsThere kept) finals → AllByRecursion (IsThere next) finals
all_stay kept next name stays [] apart all = tt
all_stay kept next name stays (final ∷ finals) apart all = ((λ none. stays (name_of final) apart.0 (all.0 none)), all_stay kept next name stays finals apart.1 all.1)

pub fit_length : (columns : List Column) (cells : List Cell) → FitColumns columns cells → length cells ≡ length columns
fit_length [] [] fit = refl
fit_length [] (cell ∷ cells) fit = absurd fit
fit_length (column ∷ columns) [] fit = absurd fit
fit_length (column ∷ columns) (cell ∷ cells) fit = ap suc (fit_length columns cells fit.1)

number_self : (n : ℕ) → (n == n) ≡ true
number_self n = grind (arith, nat_tests)

go_at : (conditions : Conditions) (table : TableName) (row : RowNo) (content : Option (List Cell)) (finals : List Final) (kept : Kept)
    → IsSoundChange kept.tables (record { table = table; row = row; old = None; new = content }) → (content ≡ None → HasRow kept (table, row))
    → AllByRecursion (λ other. (table, row) ≡ other → ⊥) (map name_of finals) → AllByRecursion (IsThere kept) finals
    → ((next : Kept) → next.tables ≡ kept.tables → AllByRecursion (IsThere next) finals → AllGoOn conditions false next (map final_change finals))
    → AllGoOn conditions false kept (content_change table row content ∷ map final_change finals)
go_at conditions table row None finals kept sound has apart all more =
    let (held, among) = has refl in (
      any_to (is_row table row) kept.rows (table, row, held) among (and_from (same_table table table) (row.0 == row.0) (same_name_to table table refl) (number_self row.0)),
      more (changed conditions.tree (content_change table row None) kept) refl (all_stay kept (changed conditions.tree (content_change table row None) kept) (table, row) (λ other away. gone_stays conditions.tree kept (table, row) other away) finals apart all),
    )
go_at conditions table row (Some cells) finals kept sound has apart all more =
    let (t, among, named, fit) = sound.fits in (
      (sound.numbered, (t, (among, named), fit_length t.columns cells fit)),
      more (changed conditions.tree (content_change table row (Some cells)) kept) refl (all_stay kept (changed conditions.tree (content_change table row (Some cells)) kept) (table, row) (λ other away. put_stays conditions.tree kept (table, row) other cells away) finals apart all),
    )

go_each : (conditions : Conditions) (finals : List Final) (kept : Kept) → AllByRecursion (λ (final : Final). IsSoundChange kept.tables (as_change final)) finals → AreApart (map name_of finals)
    → AllByRecursion (IsThere kept) finals → AllGoOn conditions false kept (map final_change finals)
go_each conditions [] kept sound apart all = tt
go_each conditions (final ∷ finals) kept sound apart all =
    go_at conditions final.table final.row final.content finals kept sound.0 all.0 apart.0 all.1
    (λ next same left. go_each conditions finals next (subst (λ (ts : List Table). AllByRecursion (λ (f : Final). IsSoundChange ts (as_change f)) finals) (sym same) sound.1) apart.1 left)

-- a row whose committed content isn't none is there
kept_at : LaidLaws → (kept : Kept) (rows : List Row) → kept.rows ≡ map triple_of rows → (name : Named) (o : Option (List Cell)) → row_at name.0 name.1 rows ≡ o → (None ≡ o → ⊥) → HasRow kept name
kept_at laws kept rows same name None is some = absurd (some refl)
kept_at laws kept rows same name (Some cells) is some =
    let row : Row = record { table = name.0; number = name.1; cells = cells } in
    (cells, subst (λ (rs : List KeptRow). Contains rs (name.0, name.1, cells)) (sym same) (mapped triple_of rows row (laws.stands rows row is)))

-- what becomes of the rows goes on
pub finals_go : LaidLaws → (conditions : Conditions) (kept : Kept) (rows : List Row) (changes : List RowChange) (finals : List Final) → kept.rows ≡ map triple_of rows
    → AllByRecursion (IsSoundChange kept.tables) changes → AreFinals rows changes finals → AllGoOn conditions false kept (map final_change finals)
finals_go laws conditions kept rows changes finals same sound are =
    go_each conditions finals kept (finals_sound laws kept.tables rows changes finals sound are) (finals_apart finals are.ordered)
    (all_from (IsThere kept) finals (λ final has none.
    kept_at laws kept rows same (name_of final) (row_at final.table final.row rows) refl (λ is. (are.sound final has).1 (none ∙ is))))

-- ---- what is kept then is whole

-- one table has one name
one_table : (tables : List Table) → is_in_order fields_before (map (λ (t : Table). table_fields t.name) tables) ≡ true → (a b : Table) → Contains tables a → Contains tables b → a.name ≡ b.name → a ≡ b
one_table [] ordered a b one two same = absurd (none a one)
one_table (t ∷ tables) ordered a b one two same =
    let parts = and_parts (list_all (fields_before (table_fields t.name)) (map (λ (other : Table). table_fields other.name) tables)) _ ordered in
    elim (split t tables a one) [
      | inl first ↦ elim (split t tables b two) [
        | inl other ↦ sym first ∙ other
        | inr later ↦ absurd (behind t tables parts.0 b later (ap (λ (x : Table). x.name) first ∙ same))
      ]
      | inr front ↦ elim (split t tables b two) [
        | inl other ↦ absurd (behind t tables parts.0 a front (ap (λ (x : Table). x.name) other ∙ sym same))
        | inr later ↦ one_table tables parts.1 a b front later same
      ]
    ]
  where
    behind : (t : Table) (tables : List Table) → list_all (fields_before (table_fields t.name)) (map (λ (other : Table). table_fields other.name) tables) ≡ true → (b : Table) → Contains tables b → t.name ≡ b.name → ⊥
    behind t tables before b has same =
        let least = each_of (λ (other : Table). table_fields other.name) (fields_before (table_fields t.name)) tables b before has in
        let e : true ≡ false = sym least ∙ ap (λ (n : TableName). fields_before (table_fields t.name) (table_fields n)) (sym same) ∙ fields_irreflexive (table_fields t.name) in
        cc

-- a new content fits the table of its name, whichever of the tables that is
pub fits_table : (tables : List Table) → is_in_order fields_before (map (λ (t : Table). table_fields t.name) tables) ≡ true → (change : RowChange) → IsSoundChange tables change → (table : Table) → Contains tables table → table.name ≡ change.table
    → FitsIfThere table.columns change.new
fits_table tables ordered change sound table has named =
    let (t, among, same, fit) = sound.fits in
    subst (λ (x : Table). FitsIfThere x.columns change.new) (one_table tables ordered t table among has (same ∙ sym named)) fit

-- what is so of what is kept and of a client's changes
pub record Commits (kept : Kept) (rows : List Row) (changes : List RowChange) : Type 0 where
  pub same : kept.rows ≡ map triple_of rows
  pub rising : IsTrue (are_in_order rows)
  pub sound : AllByRecursion (IsSoundChange kept.tables) changes
  pub keys : (table : TableName) → KeysDiffer (key_of table (map open_table kept.tables)) table (laid_over rows changes)
  pub among : (table : TableName) → AreAmong TABLE_ROW_NUMBERS (λ number. IsSome (row_at table number (laid_over rows changes)))

-- what is kept once the changes are laid
abbrev pub laid_kept : Kept → List Row → List RowChange → Kept
laid_kept kept rows changes = record kept { rows = map triple_of (laid_over rows changes) }

content_fits : (columns : List Column) (content : Option (List Cell)) (cells : List Cell) → content ≡ Some cells → FitsIfThere columns content → FitColumns columns cells
content_fits columns content cells is fit = subst (FitsIfThere columns) is fit

rows_fit : LaidLaws → (conditions : Conditions) (kept : Kept) (rows : List Row) (changes : List RowChange) → IsLawful conditions kept → IsWhole kept → Commits kept rows changes → lawful.RowsFit (laid_kept kept rows changes)
rows_fit laws conditions kept rows changes l w c row table has is =
    let (found, stands, same) = unmapped triple_of (laid_over rows changes) row has in
    subst (λ (r : KeptRow). FitColumns table.columns r.2) same
    (elim (laws.laid rows changes found stands) [
      | inl before ↦ w.fits (triple_of found) table (subst (λ (rs : List KeptRow). Contains rs (triple_of found)) (sym c.same) (mapped triple_of rows found before)) (is.0, is.1 ∙ sym (ap (λ (r : KeptRow). r.0) same))
      | inr (change, among, table_is, row_is, new) ↦
          content_fits table.columns change.new found.cells new
          (fits_table kept.tables l.ordered.tables change (all_at (IsSoundChange kept.tables) changes c.sound change among) table is.0 (is.1 ∙ sym (ap (λ (r : KeptRow). r.0) same) ∙ sym table_is))
    ])

place_within : (columns : List Column) (place : ℕ) → IsKeyPlace columns place → place < length columns
place_within [] place stands = absurd stands
place_within (column ∷ columns) zero stands = omega arith
place_within (column ∷ columns) (suc place) stands = let more = place_within columns place stands in omega (arith, more)

pub places_within : (columns : List Column) (places : List ℕ) → AllByRecursion (IsKeyPlace columns) places → AllByRecursion (λ place. place < length columns) places
places_within columns [] all = tt
places_within columns (place ∷ places) all = (place_within columns place all.0, places_within columns places all.1)

-- cells have their own key
key_held : (cells : List Cell) (places : List ℕ) → AllByRecursion (λ place. place < length cells) places → HasKey places (lawful.key_of places cells) (Some cells)
key_held cells [] within = (refl, λ at least. absurd (omega (arith, least)))
key_held cells (place ∷ places) within =
    let more = key_held cells places within.1 in
    (ap suc more.0, at_place more.1)
  where
    at_place : ((at : ℕ) → at < length places → slice_get cells (slice_index places at) ≡ slice_get (lawful.key_of places cells) at)
        → (at : ℕ) → at < length (place ∷ places) → slice_get cells (slice_index (place ∷ places) at) ≡ slice_get (lawful.key_of (place ∷ places) cells) at
    at_place more zero least = slice_get-get_or cells place Null within.0
    at_place more (suc at) least = more at (omega (arith, least))

differ_from : (places : List ℕ) (table : TableName) (rows : List Row) → places ≢ [] → KeysDiffer places table rows → (m n : RowNo) (key : List Cell) → HasKey places key (row_at table m rows) → HasKey places key (row_at table n rows) → m ≡ n
differ_from [] table rows some differ m n key one two = absurd (some refl)
differ_from (place ∷ places) table rows some differ m n key one two = differ m n key one two

keys_differ : LaidLaws → (conditions : Conditions) (kept : Kept) (rows : List Row) (changes : List RowChange) → IsLawful conditions kept → IsWhole kept → Commits kept rows changes → lawful.KeysDiffer (laid_kept kept rows changes)
keys_differ laws conditions kept rows changes l w c a b table one two is other keyed same =
    let laid = laid_over rows changes in
    let ordered = laws.ordered rows changes c.rising in
    let fit = rows_fit laws conditions kept rows changes l w c in
    let founded = all_at (IsTableFounded kept) kept.tables l.founded.tables table is.0 in
    let within = places_within table.columns table.key founded.3.key_stands in
    differ_from table.key table.name laid keyed (subst (λ (places : List ℕ). KeysDiffer places table.name laid) (keyed_open kept.tables l.ordered.tables table is.0) (c.keys table.name)) a.1 b.1 (lawful.key_of table.key a.2)
    (held laid ordered table.name table.key a one (sym is.1) (subst (λ (n : ℕ). AllByRecursion (λ place. place < n) table.key) (sym (fit_length table.columns a.2 (fit a table one is))) within))
    (subst (λ (key : List Cell). HasKey table.key key (row_at table.name b.1 laid)) (sym same)
    (held laid ordered table.name table.key b two (other ∙ sym is.1) (subst (λ (n : ℕ). AllByRecursion (λ place. place < n) table.key) (sym (fit_length table.columns b.2 (fit b table two (is.0, is.1 ∙ sym other)))) within)))
  where
    held : (laid : List Row) → IsTrue (are_in_order laid) → (name : TableName) (places : List ℕ) (row : KeptRow) → Contains (map triple_of laid) row → row.0 ≡ name → AllByRecursion (λ place. place < length row.2) places
        → HasKey places (lawful.key_of places row.2) (row_at name row.1 laid)
    held laid ordered name places row has of within =
        let (found, stands, same) = unmapped triple_of laid row has in
        let is : row_at name row.1 laid ≡ Some row.2 =
        ap₂ (λ (t : TableName) (n : RowNo). row_at t n laid) (sym of ∙ sym (ap (λ (r : KeptRow). r.0) same)) (sym (ap (λ (r : KeptRow). r.1) same))
        ∙ laws.found laid found ordered stands ∙ ap (λ (r : KeptRow). Some r.2) same in
        subst (HasKey places (lawful.key_of places row.2)) (sym is) (key_held row.2 places within)

pub laid_whole : LaidLaws → (conditions : Conditions) (kept : Kept) (rows : List Row) (changes : List RowChange) → IsLawful conditions kept → IsWhole kept → Commits kept rows changes → IsWhole (laid_kept kept rows changes)
laid_whole laws conditions kept rows changes l w c = record {
  fits = rows_fit laws conditions kept rows changes l w c;
  keys = keys_differ laws conditions kept rows changes l w c;
  few = record {
    users = w.few.users;
    roles = w.few.roles;
    tables = w.few.tables;
    policies = w.few.policies;
    fga = w.few.fga;
    grants = w.few.grants;
    columns = w.few.columns;
    rows = all_from (λ (table : Table). length (filter (λ (row : KeptRow). same_table row.0 table.name) (map triple_of (laid_over rows changes))) ≤ TABLE_ROW_NUMBERS) kept.tables (λ table has.
        rows_few TABLE_ROW_NUMBERS table.name (laid_over rows changes) (laws.listed (laid_over rows changes) ∙ laws.ordered rows changes c.rising)
        (λ row stands. laws.found (laid_over rows changes) row (laws.ordered rows changes c.rising) stands) (c.among table.name));
  };
}
