-- What an UPDATE comes to can be written.
use Rattle.std.proofs.Common.{◌≡◌, ◌≢◌, ◌∙◌, ℕ, Bool, true, false, List, [], ◌∷◌, map, refl, sym, ap, subst, arith}
use Rattle.std.specs.Prelude.{◌==◌, Option, Some, None}
use Rattle.std.specs.List.{AllByRecursion, Contains, zip}
use Rattle.std.proofs.lemmas.Bool.Decides.{nat_tests}
use Rattle.au_base.specs.Codes.{NULL_SET, OVERFLOW}
use Rattle.au_base.specs.Naming.{IsName}
use Rattle.au_base.specs.Sameness.{same_table}
use Rattle.au_base.specs.declared.cell.Cell.{Cell}
use Rattle.au_base.specs.declared.numbers.ClientNo.{ClientNo}
use Rattle.au_base.specs.declared.numbers.RowNo.{RowNo}
use Rattle.au_base.specs.declared.table.Column.{Column}
use Rattle.au_base.specs.declared.table.TableName.{TableName}
use Rattle.au_change.specs.Updating.{assignment_code, given, row_code, rows_refusal, set_code, set_row, targets, text_refusal, updates, value_over, values}
use Rattle.au_choose.specs.Choosing.{chosen_in, range_in, where_name}
use Rattle.au_entries.specs.declared.kept.Kept.{Kept}
use Rattle.au_entries.specs.declared.table.Table.{Table}
use Rattle.au_entries.specs.Lawful.{FitColumns, FitsColumn}
use Rattle.au_entries.specs.Replaying.{IsTable, NamesDiffer}
use Rattle.au_expr.specs.Rows.{Range}
use Rattle.au_expr.specs.Sessions.{IsSoundSession, Session}
use Rattle.au_expr.specs.Values.{cell_in, is_overflow}
use Rattle.au_image.specs.Image.{open_table}
use Rattle.au_kept.specs.OpenChanges.{IsSoundChange}
use Rattle.au_literals.specs.Literals.{IsSoundValue}
use Rattle.au_modify.specs.Columns.{column_called}
use Rattle.au_modify.specs.Keys.{AreTwoUnderOne, IsSomeKeyLocked, key_in}
use Rattle.au_modify.specs.Targets.{given_or, kinds_refusal, names_refusal, target_refusal}
use Rattle.au_query.specs.Combos.{Line}
use Rattle.au_query.specs.Refusals.{where_broken}
use Rattle.au_rows.specs.declared.table.Table.{Table as OpenTable}
use Rattle.au_rows.specs.Held.{HasKey}
use Rattle.au_txn.specs.declared.change.RowChange.{RowChange}
use Rattle.au_txn.specs.Desks.{Contents as Desk, key_of, open_of}
use Rattle.au_txn.specs.Keys.{AreDoubled, KeysDiffer}
use Rattle.au_txn.specs.Rows.{Row, row_at}
use Rattle.au_txn.specs.Transactions.{IsKeyLocked, MakesKey, laid_over}
use Rattle.au_world.specs.Sights.{Sight}
use Rattle.au_writing.specs.Written.{CanBeWritten}
use Rattle.au_writing.proofs.Changing.{Changes, lines_written, of_lines}
use Rattle.au_writing.proofs.Contents.{AreSized, IsContent, content_written, over_content, seen_content, seen_numbered, table_told}
use Rattle.au_writing.proofs.Deleting.{StaysDifferent}
use Rattle.au_writing.proofs.Fitting.{IsGood, IsUtf8Cell, fit_of, good_fits, unrefused}
use Rattle.au_writing.proofs.Giving.{HasPair, IsPaired, each_none, given_case, pairs_kind, same_column, targets_there}
use Rattle.au_writing.proofs.Lists.{all_at, here, there, unmapped}
use Rattle.au_writing.proofs.Seen.{RowLaws, Stand, line_change, seen_sound}
use Rattle.au_writing.proofs.Shown.{IsCreated, columns_are, key_same, same_name, same_name_to, shown}
use Rattle.au_writing.proofs.Values.{GivesSound, good_value}
use Rattle.sql_ast.specs.declared.expression.Expr.{Expr}
use Rattle.sql_ast.specs.declared.rows.Assignment.{Assignment}
use Rattle.sql_ast.specs.declared.rows.Update.{Update}

-- ---- the cells that assignments give

abbrev pub pair_of : Assignment → List ℕ × Expr
pair_of assignment = (assignment.column, assignment.value)

pairs_of : (P : List ℕ × Expr → Type 0) (assignments : List Assignment) → AllByRecursion P (zip (map (λ (a : Assignment). a.column) assignments) (map (λ (a : Assignment). a.value) assignments))
    → AllByRecursion (λ (a : Assignment). P (pair_of a)) assignments
pairs_of P [] all = tt
pairs_of P (a ∷ assignments) all = (all.0, pairs_of P assignments all.1)

-- what is so of each assignment, by the rules that the statement's text keeps
text_keeps : (range : Range) (update : Update) → text_refusal range update ≡ None → AllByRecursion (λ (a : Assignment). HasPair (range ∷ []) range.1 (pair_of a)) update.assignments
text_keeps range update none =
    let one = unrefused (target_refusal range.1 (targets update)) _ none in
    let two = unrefused (names_refusal (range ∷ []) (values update)) _ one.1 in
    let three = unrefused (where_name range update.condition) _ two.1 in
    let four = unrefused (kinds_refusal (range ∷ []) range.1 (targets update) (values update)) _ three.1 in
    pairs_of (HasPair (range ∷ []) range.1) update.assignments (pairs_kind (range ∷ []) range.1 (targets update) (values update) (targets_there range.1 (targets update) one.0) four.0)

-- the cells that assignments give, over one row
module _ (gives : GivesSound) (session : Session) (range : Range) (row : Line) (sound : IsSoundSession session) (named : IsName session.user) (told : Table) (columns_are_its : range.1 ≡ told.columns) (told_is : IsTable told.columns told.key) (is : IsContent told.columns row.1) where
  sized_here : AreSized range.1
  sized_here = subst AreSized (sym columns_are_its) told_is.sized

  differ_here : NamesDiffer (map (λ (c : Column). c.name) range.1)
  differ_here = subst (λ (columns : List Column). NamesDiffer (map (λ (c : Column). c.name) columns)) (sym columns_are_its) told_is.named

  content_here : IsContent range.1 row.1
  content_here = subst (λ (columns : List Column). IsContent columns row.1) (sym columns_are_its) is

  abbrev FitsHere : Column → Cell → Type 0
  FitsHere column content = FitsColumn column content × IsUtf8Cell content

  assigned : (a : Assignment) (column : Column) → IsPaired (range ∷ []) range.1 (pair_of a) column → IsSoundValue a.value → assignment_code session range row a ≡ None → FitsHere column (cell_in (value_over session range row a))
  assigned a column paired literals unrefused_here =
      let content = cell_in (value_over session range row a) in
      let good : IsGood column.kind content = good_value gives column.kind (range ∷ []) (row.1 ∷ []) session a.value (over_content range row.1 session sized_here content_here sound named) literals paired.kind in
      let parts = unrefused (where_broken (is_overflow (value_over session range row a)) OVERFLOW) (set_code (column_called range.1 a.column) content) unrefused_here in
      let fit = fit_of NULL_SET column content (subst (λ (o : Option Column). set_code o content ≡ None) paired.called.found parts.1) in
      (good_fits column content good fit, good.utf8)

  given_fits : (assignments : List Assignment) → AllByRecursion (λ (a : Assignment). HasPair (range ∷ []) range.1 (pair_of a)) assignments → AllByRecursion (λ (a : Assignment). IsSoundValue a.value) assignments
      → row_code session range assignments row ≡ None → (column : Column) → Contains range.1 column → (p : List ℕ × Cell) → Contains (given session range assignments row) p → p.0 ≡ column.name → FitsHere column p.1
  given_fits assignments paired literals none column has p stands same =
      let (a, stands_there, is_it) = unmapped (λ (a : Assignment). (a.column, cell_in (value_over session range row a))) assignments p stands in
      let (found, pairing) = all_at (λ (a : Assignment). HasPair (range ∷ []) range.1 (pair_of a)) assignments paired a stands_there in
      let fits = assigned a found pairing (all_at (λ (a : Assignment). IsSoundValue a.value) assignments literals a stands_there) (all_at (λ (a : Assignment). assignment_code session range row a ≡ None) assignments (each_none (assignment_code session range row) assignments none) a stands_there) in
      let one = same_column range.1 differ_here a.column found column pairing.called has (ap (λ (q : List ℕ × Cell). q.0) is_it ∙ same) in
      subst (λ (content : Cell). FitsHere column content) (ap (λ (q : List ℕ × Cell). q.1) is_it) (subst (λ (c : Column). FitsHere c (cell_in (value_over session range row a))) one fits)

  set_each : (gifts : List (List ℕ × Cell)) (columns : List Column) (content : List Cell)
      → ((column : Column) → Contains columns column → (p : List ℕ × Cell) → Contains gifts p → p.0 ≡ column.name → FitsHere column p.1) → FitColumns columns content → AllByRecursion IsUtf8Cell content
      → IsContent columns (map (λ (q : Column × Cell). given_or q.1 gifts q.0) (zip columns content))
  set_each gifts [] content each fit utf8 = record { fits = tt; utf8 = tt }
  set_each gifts (column ∷ columns) [] each fit utf8 = absurd fit
  set_each gifts (column ∷ columns) (c ∷ content) each fit utf8 =
      let first_is = given_case (FitsHere column) c gifts column (fit.0, utf8.0) (λ p stands same. each column (here column columns) p stands same) in
      let rest = set_each gifts columns content (λ other has p stands same. each other (there column columns other has) p stands same) fit.1 utf8.1 in
      record { fits = (first_is.0, rest.fits); utf8 = (first_is.1, rest.utf8) }

  pub row_set : (assignments : List Assignment) → AllByRecursion (λ (a : Assignment). HasPair (range ∷ []) range.1 (pair_of a)) assignments → AllByRecursion (λ (a : Assignment). IsSoundValue a.value) assignments
      → row_code session range assignments row ≡ None → IsContent told.columns (set_row session range assignments row)
  row_set assignments paired literals none =
      subst (λ (columns : List Column). IsContent columns (set_row session range assignments row)) columns_are_its
      (set_each (given session range assignments row) range.1 row.1 (given_fits assignments paired literals none) content_here.fits content_here.utf8)

-- ---- keys

numbers_same : (a b : RowNo) → (a.0 == b.0) ≡ true → a ≡ b
numbers_same a b is = let e : a.0 ≡ b.0 = grind (arith, nat_tests) in ap (λ (n : ℕ). let r : RowNo = record { 0 = n } in r) e

numbers_other : (a b : RowNo) → (a.0 == b.0) ≡ false → a ≢ b
numbers_other a b is same = let e : a.0 ≡ b.0 = ap (λ (r : RowNo). r.0) same in grind (arith, nat_tests)

one_row : (place : ℕ) (places : List ℕ) (table : TableName) (rows : List Row) → ((place ∷ places ≢ []) × AreDoubled (place ∷ places) table rows → ⊥) → (m n : RowNo) (key : List Cell)
    → HasKey (place ∷ places) key (row_at table m rows) → HasKey (place ∷ places) key (row_at table n rows) → (b : Bool) → (m.0 == n.0) ≡ b → m ≡ n
one_row place places table rows single m n key one two true is = numbers_same m n is
one_row place places table rows single m n key one two false is = absurd (single ((λ none. let e : place ∷ places ≡ [] = none in cc), (m, n, numbers_other m n is, key, one, two)))

-- keys differ where no two rows have one
pub keys_apart : (places : List ℕ) (table : TableName) (rows : List Row) → ((places ≢ []) × AreDoubled places table rows → ⊥) → KeysDiffer places table rows
keys_apart [] table rows single = tt
keys_apart (place ∷ places) table rows single = λ m n key one two. one_row place places table rows single m n key one two (m.0 == n.0) refl

-- those of the other tables stay
pub others_apart : RowLaws → StaysDifferent → (desk : Desk) (client : ClientNo) (places : TableName → List ℕ) (name : TableName) (changes : List RowChange) → ((change : RowChange) → Contains changes change → change.table ≡ name)
    → ((table : TableName) → KeysDiffer (places table) table (laid_over desk.rows (open_of desk client)))
    → KeysDiffer (places name) name (laid_over (laid_over desk.rows (open_of desk client)) changes)
    → (table : TableName) → KeysDiffer (places table) table (laid_over (laid_over desk.rows (open_of desk client)) changes)
others_apart laws stays desk client places name changes its before after table = by_case (same_table name table) refl
  where
    by_case : (b : Bool) → same_table name table ≡ b → KeysDiffer (places table) table (laid_over (laid_over desk.rows (open_of desk client)) changes)
    by_case true is = subst (λ (t : TableName). KeysDiffer (places t) t (laid_over (laid_over desk.rows (open_of desk client)) changes)) (same_name name table is) after
    by_case false is = stays (places table) table (laid_over desk.rows (open_of desk client)) changes (before table)
        (λ change key other has of keyed under. let e : false ≡ true = sym is ∙ same_name_to name table (sym (its change has) ∙ of) in cc)

-- a new key that no rule refuses isn't locked
pub key_free : (kept : Kept) (desk : Desk) (client : ClientNo) (sight : Sight) (name : TableName) (changes : List RowChange) → desk.tables ≡ map open_table kept.tables → ((change : RowChange) → Contains changes change → change.table ≡ name)
    → ¬ IsSomeKeyLocked (shown kept desk client sight) client name changes
    → (table : TableName) (key : List Cell) → key_of table desk.tables ≢ [] → MakesKey (key_of table desk.tables) table key changes → ¬ IsKeyLocked (key_of table desk.tables) (open_of desk) client table key
key_free kept desk client sight name changes tables its free table key some (change, has, of, keyed) locked = with_content change.new refl keyed
  where
    named : table ≡ name
    named = sym of ∙ its change has

    same : key_of table desk.tables ≡ key_in kept.tables name
    same = ap (λ (ts : List OpenTable). key_of table ts) tables ∙ key_same table kept.tables ∙ ap (key_in kept.tables) named

    with_content : (content : Option (List Cell)) → change.new ≡ content → HasKey (key_of table desk.tables) key content → ⊥
    with_content None is keyed = keyed
    with_content (Some cells) is keyed = free (
      change,
      has,
      (
        cells,
        is,
        (
          λ none. some (same ∙ none),
          (
            key,
            subst (λ (places : List ℕ). HasKey places key (Some cells)) same keyed,
            subst (λ (places : List ℕ). IsKeyLocked places (open_of desk) client name key) same (subst (λ (t : TableName). IsKeyLocked (key_of table desk.tables) (open_of desk) client t key) named locked),
          ),
        ),
      ),
    )

-- ---- the rows that are set

-- what the rules of an UPDATE keep
pub record Keeps (sight : Sight) (client : ClientNo) (session : Session) (name : TableName) (update : Update) : Type 0 where
  pub text : text_refusal (range_in sight name) update ≡ None
  pub rows : rows_refusal sight session name update ≡ None
  pub free : ¬ IsSomeKeyLocked sight client name (updates sight session name update)
  pub single : ¬ AreTwoUnderOne sight name (updates sight session name update)

pub rows_set : RowLaws → StaysDifferent → GivesSound → (kept : Kept) (desk : Desk) (client : ClientNo) (sight : Sight) (session : Session) (name : TableName) (told : Table) (update : Update) → Stand kept desk → IsCreated kept.tables name told
    → IsSoundSession session → IsName session.user → AllByRecursion (λ (a : Assignment). IsSoundValue a.value) update.assignments → Keeps (shown kept desk client sight) client session name update
    → Changes desk client name (chosen_in (shown kept desk client sight) session name update.condition) → CanBeWritten kept desk client (updates (shown kept desk client sight) session name update)
rows_set laws stays gives kept desk client sight session name told update s created sound named literals keeps c =
    let seen_now = shown kept desk client sight in
    let range = range_in seen_now name in
    let lines = chosen_in seen_now session name update.condition in
    let changes = updates seen_now session name update in
    let facts = table_told kept desk name told s created in
    let paired = text_keeps range update keeps.text in
    let codes = each_none (row_code session range update.assignments) lines keeps.rows in
    let its : (change : RowChange) → Contains changes change → change.table ≡ name = λ change has. (
    let (line, stands, same) = unmapped (line_change name (λ (row : Line). Some (set_row session range update.assignments row))) lines change has in sym (ap (λ (x : RowChange). x.table) same)) in
    lines_written laws kept desk client name (λ (row : Line). Some (set_row session range update.assignments row)) lines s c
    (record {
      each = of_lines (IsSoundChange kept.tables) name (λ (row : Line). Some (set_row session range update.assignments row)) lines (λ line stands. (
          let seen = seen_sound laws kept desk client name line.0 line.1 s (c.seen.each line stands) in
          let content = row_set gives session range line sound named told (columns_are kept.tables name told created) facts.is_table (seen_content kept desk name told line.0 line.1 s created seen) update.assignments paired literals
          (all_at (λ (row : Line). row_code session range update.assignments row ≡ None) lines codes line stands) in
          record {
            numbered = seen.numbered;
            fits = (told, created.has, created.named, content.fits);
            spelled = content_written kept name told line.0 (set_row session range update.assignments line) facts (seen_numbered kept name line.0 line.1 seen) content;
          }));
      differ = others_apart laws stays desk client (λ table. key_of table desk.tables) name changes its (s.together.keyed.seen client)
          (subst (λ (places : List ℕ). KeysDiffer places name (laid_over (laid_over desk.rows (open_of desk client)) changes)) (sym (ap (key_of name) s.together.desk_is.tables_are ∙ key_same name kept.tables))
          (keys_apart (key_in kept.tables name) name (laid_over (laid_over desk.rows (open_of desk client)) changes) keeps.single));
      unlocked = key_free kept desk client sight name changes s.together.desk_is.tables_are its keeps.free;
    })
