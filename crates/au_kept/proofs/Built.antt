-- What changes make of a building.
use Rattle.std.proofs.Common.{◌≡◌, ◌∙◌, ℕ, Bool, true, false, not, ◌||◌, ◌↔◌, List, [], ◌∷◌, ◌++◌, map, refl, sym, ap, subst, Option, Some, None, Result, Ok, Err, arith}
use Rattle.std.specs.Prelude.{◌==◌, IfOk, IsTrue, OnOk, is_some, if◌then◌else◌}
use Rattle.std.specs.List.{list_any}
use Rattle.std.proofs.lemmas.Bool.{and_parts}
use Rattle.std.proofs.lemmas.Bool.Decides.{nat_tests}
use Rattle.au_base.specs.BuiltIn.{sys}
use Rattle.au_base.specs.Sameness.{same_table}
use Rattle.au_base.specs.declared.cell.Cell.{Cell}
use Rattle.au_base.specs.declared.numbers.RowNo.{RowNo}
use Rattle.au_base.specs.declared.table.TableName.{TableName}
use Rattle.au_catalog.specs.declared.catalog.Catalog.{Catalog}
use Rattle.au_catalog.specs.Settling.{catalog_after}
use Rattle.au_entries.specs.declared.change.Change.{Change}
use Rattle.au_entries.specs.declared.change.Change.TheVariants.{Table as MakesTable, TableGone, Put, Gone}
use Rattle.au_entries.specs.declared.kept.Kept.{Kept}
use Rattle.au_entries.specs.declared.table.Table.{Table}
use Rattle.au_entries.specs.Changing.{KeptRow, changed, changed_all, grants_after, instance_after, is_row, rows_after}
use Rattle.au_entries.specs.Imaging.{nothing}
use Rattle.au_entries.specs.Lawful.{IsFounded, IsRowFounded}
use Rattle.au_entries.specs.Replaying.{AllGoOn, GoesOn, IsKeptTable, has_table, has_user}
use Rattle.au_grants.specs.Rights.{Grants}
use Rattle.au_image.specs.Image.{kept_of}
use Rattle.au_kept.specs.declared.building.Building.{Building}
use Rattle.au_kept.specs.Building.{CanTake, IsFirm, IsQuiet, kept_in}
use Rattle.au_kept.specs.Sound.{IsKept}
use Rattle.au_kept.proofs.Among.{all_at, any_from, any_to}
use Rattle.au_kept.proofs.OpenTables.{IsNewIn, open_there, same_name, same_name_to}
use Rattle.au_replay.specs.Reading.{conditions}
use Rattle.au_replay.specs.Sights.{showable}
use Rattle.au_replay.specs.Touched.{IsWholeRow, IsWholeWhereTouched}
use Rattle.au_txn.specs.declared.change.RowChange.{RowChange}
use Rattle.au_txn.specs.Desks.{Contents as Desk, is_open, open_of, replayer}
use Rattle.au_txn.specs.Logs.{changes_of}
use Rattle.au_txn.specs.Rows.{Row, is_row as is_row_of, row_at, triple_of}

-- what follows where there is a result
pub on_ok : {A E : Type 0} (r : Result A E) (P Q : Type 0) → (P → Q) → OnOk r P → OnOk r Q
on_ok (Ok x) P Q so holds = so holds
on_ok (Err e) P Q so holds = holds

-- ---- a desk on which nobody has changes

back_none : (xs ys : List RowChange) → xs ++ ys ≡ [] → ys ≡ []
back_none [] ys empty = empty
back_none (x ∷ xs) ys empty = absurd (let e : x ∷ (xs ++ ys) ≡ [] = empty in cc)

pub none_listed : (desk : Desk) → open_of desk replayer ≡ [] → changes_of replayer desk.logs ≡ []
none_listed desk quiet = back_none desk.laid (changes_of replayer desk.logs) quiet

-- ---- nothing is kept

abbrev bare : Desk
bare = record { tables = []; rows = []; logs = []; laid = []; spare = 0 }

abbrev no_changes : List RowChange
no_changes = []

neither : (b : Bool) → (if b then no_changes else no_changes) ++ no_changes ≡ no_changes
neither true = refl
neither false = refl

bare_quiet : IsQuiet bare
bare_quiet client = neither (client.0 == 0)

abbrev empty_catalog : Catalog
empty_catalog = record { users = []; roles = []; tables = []; policies = []; enabled = []; fga = []; archive = None }

abbrev empty_grants : Grants
empty_grants = record { system = []; role = []; object = [] }

abbrev BeginsWith : Catalog → Grants → Desk → Type 0
BeginsWith catalog grants desk =
    let building : Building = record { catalog = catalog; grants = grants; desk = desk; instance = 0 } in
    IsFirm building × (kept_in building ≡ nothing)

begins : IsKept conditions nothing → BeginsWith empty_catalog empty_grants bare
begins is = (record { lawful = is.lawful; desk_is = record { tables_are = refl; quiet = refl }; quiet = bare_quiet }, refl)

pub new_is : IsKept conditions nothing → (catalog : Catalog) (grants : Grants) (desk : Desk) → catalog ≡ empty_catalog → grants ≡ empty_grants → desk ≡ bare → BeginsWith catalog grants desk
new_is is catalog grants desk a b c =
    subst (λ (x : Catalog). BeginsWith x grants desk) (sym a)
    (subst (λ (x : Grants). BeginsWith empty_catalog x desk) (sym b)
    (subst (λ (x : Desk). BeginsWith empty_catalog empty_grants x) (sym c) (begins is)))

-- ---- one change

abbrev parts : Catalog → Grants → List KeptRow → ℕ → Kept
parts catalog grants rows instance = kept_of catalog grants rows [] (record { 0 = 0 }) instance

-- what the change makes of all parts is what it makes of what is kept
pub parts_changed : (change : Change) (catalog next_catalog : Catalog) (grants next_grants : Grants) (rows next_rows : List KeptRow) (instance next_instance : ℕ)
    → next_catalog ≡ catalog_after conditions.tree change catalog → next_grants ≡ grants_after change grants → next_rows ≡ rows_after change rows → next_instance ≡ instance_after change instance
    → parts next_catalog next_grants next_rows next_instance ≡ changed conditions.tree change (parts catalog grants rows instance)
parts_changed change catalog next_catalog grants next_grants rows next_rows instance next_instance a b c d =
    ap (λ (x : Catalog). parts x next_grants next_rows next_instance) a
    ∙ ap (λ (x : Grants). parts (catalog_after conditions.tree change catalog) x next_rows next_instance) b
    ∙ ap (λ (x : List KeptRow). parts (catalog_after conditions.tree change catalog) (grants_after change grants) x next_instance) c
    ∙ ap (λ (x : ℕ). parts (catalog_after conditions.tree change catalog) (grants_after change grants) (rows_after change rows) x) d

-- ---- what goes on can be made among tables and rows

not_there : (b : Bool) → not b ≡ true → b ≡ false
not_there false is = refl
not_there true is = absurd (let e : false ≡ true = is in cc)

any_row_at : (b rest : Bool) (cells : List Cell) (o : Option (List Cell)) → rest ≡ is_some o → (b || rest) ≡ is_some (if b then Some cells else o)
any_row_at true rest cells o same = refl
any_row_at false rest cells o same = same

any_row : (table : TableName) (number : RowNo) (rows : List Row) → list_any (is_row table number) (map triple_of rows) ≡ is_some (row_at table number rows)
any_row table number [] = refl
any_row table number (row ∷ rows) = any_row_at (is_row_of table number row) _ row.cells (row_at table number rows) (any_row table number rows)

nat_is : (m n : ℕ) → (m == n) ≡ true → m ≡ n
nat_is m n is = grind (arith, nat_tests)

has_of : (kept : Kept) (name : TableName) (table : Table) → IsKeptTable kept name table → has_table kept name ≡ true
has_of kept name table at = any_to (λ (t : Table). same_table t.name name) kept.tables table at.0 (same_name_to table.name name at.1)

open_is : (b : Building) → IsFirm b → (name : TableName) (has : Bool) → has_table (kept_in b) name ≡ has → is_open name b.desk.tables ≡ has
open_is b firm name has is = ap (is_open name) firm.desk_is.tables_are ∙ open_there name b.catalog.tables ∙ is

gone_there : (b : Building) → IsFirm b → (table : TableName) (number : RowNo) → list_any (is_row table number) (kept_in b).rows ≡ true → CanTake (Gone table number) b.desk
gone_there b firm table number goes =
    let (row, among, is) = any_from (is_row table number) (kept_in b).rows goes in
    let named = and_parts (same_table row.0 table) (row.1.0 == number.0) is in
    let (least, (found, at, wide)) = all_at (IsRowFounded (kept_in b)) (kept_in b).rows firm.lawful.founded.rows row among in
    let same = nat_is row.1.0 number.0 named.1 in (
      open_is b firm table true (has_of (kept_in b) table found (at.0, at.1 ∙ same_name row.0 table named.0)),
      omega (arith, least, same),
      sym (any_row table number b.desk.rows) ∙ goes,
    )

pub can_take : (b : Building) → IsFirm b → (image : Bool) (change : Change) → GoesOn conditions image (kept_in b) change → CanTake change b.desk
can_take b firm image (Put table number cells) goes = let (least, (found, at, wide)) = goes in (open_is b firm table true (has_of (kept_in b) table found at), least)
can_take b firm image (Gone table number) goes = gone_there b firm table number goes
can_take b firm image (MakesTable name columns key) goes = open_is b firm name false (not_there (has_table (kept_in b) name) goes.0)
can_take b firm image (TableGone name) goes = open_is b firm name true goes
can_take b firm image _ goes = tt

pub new_in : (b : Building) (image : Bool) (change : Change) → GoesOn conditions image (kept_in b) change → IsNewIn change b.catalog.tables
new_in b image (MakesTable name columns key) goes = not_there (has_table (kept_in b) name) goes.0
new_in b image _ goes = tt

-- ---- what is shown of a building

pub takes_is : {E : Type 0} (image : Bool) (kept seen : Kept) (change : Change) → seen ≡ showable kept → (GoesOn conditions image (showable kept) change ↔ GoesOn conditions image kept change) → (answer : Result Bool E)
    → IfOk answer (λ goes. IsTrue goes ↔ GoesOn conditions image seen change) → IfOk answer (λ goes. IsTrue goes ↔ GoesOn conditions image kept change)
takes_is image kept seen change same law (Ok goes) is = (
  λ yes. law.0 (subst (λ (k : Kept). GoesOn conditions image k change) same (is.0 yes)),
  λ holds. is.1 (subst (λ (k : Kept). GoesOn conditions image k change) (sym same) (law.1 holds)),
)
takes_is image kept seen change same law (Err e) is = is

founded_too : (kept : Kept) → IsFounded kept → IsFounded (showable kept)
founded_too kept f = record { system = f.system; role = f.role; no_circle = f.no_circle; object = f.object; tables = f.tables; rows = f.rows; enabled = f.enabled; fga = f.fga }

pub seen_founded : (kept seen : Kept) → seen ≡ showable kept → IsFounded kept → IsFounded seen
seen_founded kept seen same founded = subst IsFounded (sym same) (founded_too kept founded)

row_too : (kept : Kept) (row : KeptRow) → IsWholeRow kept row → IsWholeRow (showable kept) row
row_too kept row w = record { fits = w.fits; alone = w.alone }

row_back : (kept : Kept) (row : KeptRow) → IsWholeRow (showable kept) row → IsWholeRow kept row
row_back kept row w = record { fits = w.fits; alone = w.alone }

touched_too : (changes : List Change) (kept : Kept) → IsWholeWhereTouched changes kept → IsWholeWhereTouched changes (showable kept)
touched_too changes kept w = record {
  rows = λ row has puts. row_too kept row (w.rows row has puts);
  columns = w.columns;
  counts = w.counts;
  few = record { users = w.few.users; roles = w.few.roles; tables = w.few.tables; policies = w.few.policies; fga = w.few.fga; grants = w.few.grants };
}

touched_back : (changes : List Change) (kept : Kept) → IsWholeWhereTouched changes (showable kept) → IsWholeWhereTouched changes kept
touched_back changes kept w = record {
  rows = λ row has puts. row_back kept row (w.rows row has puts);
  columns = w.columns;
  counts = w.counts;
  few = record { users = w.few.users; roles = w.few.roles; tables = w.few.tables; policies = w.few.policies; fga = w.few.fga; grants = w.few.grants };
}

pub whole_is : {E : Type 0} (kept seen : Kept) (changes : List Change) → seen ≡ showable kept → has_user seen sys ≡ true → (answer : Result Bool E)
    → IfOk answer (λ whole. IsTrue whole ↔ IsWholeWhereTouched changes seen) → IfOk answer (λ whole. IsTrue whole ↔ (IsTrue (has_user kept sys) × IsWholeWhereTouched changes kept))
whole_is kept seen changes same user (Ok whole) is = (
  λ yes. (subst (λ (k : Kept). has_user k sys ≡ true) same user, touched_back changes kept (subst (IsWholeWhereTouched changes) same (is.0 yes))),
  λ holds. is.1 (subst (IsWholeWhereTouched changes) (sym same) (touched_too changes kept holds.1)),
)
whole_is kept seen changes same user (Err e) is = is

-- ---- change by change
