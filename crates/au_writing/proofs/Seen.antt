-- The rows that a client sees of a table, and changes of them.
use Rattle.std.proofs.Common.{◌≡◌, ◌≢◌, ◌∙◌, ◌⊎◌, ◌↔◌, inl, inr, ℕ, ◌≤◌, Bool, true, false, not, cond, List, [], ◌∷◌, ◌++◌, map, refl, sym, ap, ap₂, subst, arith}
use Rattle.std.specs.Prelude.{◌==◌, ◌&&◌, ◌||◌, ⊤, IsSome, IsTrue, Option, Some, None}
use Rattle.std.specs.List.{AllByRecursion, Contains, filter, list_all}
use Rattle.std.proofs.lemmas.Bool.{and_from, and_parts}
use Rattle.std.proofs.lemmas.Bool.Decides.{nat_tests}
use Rattle.au_base.specs.Order.{fields_before, is_in_order}
use Rattle.au_base.specs.OrderLaws.{fields_irreflexive}
use Rattle.au_base.specs.Sameness.{same_table}
use Rattle.au_base.specs.declared.cell.Cell.{Cell}
use Rattle.au_base.specs.declared.numbers.ClientNo.{ClientNo}
use Rattle.au_base.specs.declared.numbers.RowNo.{RowNo}
use Rattle.au_base.specs.declared.table.TableName.{TableName}
use Rattle.au_entries.specs.declared.kept.Kept.{Kept}
use Rattle.au_entries.specs.declared.table.Table.{Table}
use Rattle.au_entries.specs.Changing.{KeptRow}
use Rattle.au_entries.specs.Imaging.{row_change, system_change, role_change, role_grant_change, table_change, user_change, image_changes}
use Rattle.au_entries.specs.Lawful.{IsRowFounded}
use Rattle.au_kept.specs.Keeping.{HoldsTogether}
use Rattle.au_kept.specs.OpenChanges.{AreAmong, FitsIfThere, IsSoundChange, content_change}
use Rattle.au_query.specs.Combos.{Line}
use Rattle.au_txn.specs.declared.change.RowChange.{RowChange}
use Rattle.au_txn.specs.Desks.{Contents as Desk, contents_of, open_of}
use Rattle.au_txn.specs.Rows.{Row, are_in_order, is_in, of_triple, place_of, row_at, row_before, triple_of}
use Rattle.au_txn.specs.Transactions.{AreFrom, IsNumber, is_of_row, laid_over, names_row, rows_differ, view}
use Rattle.au_writing.proofs.Lists.{all_at, all_behind, all_front, all_from, all_kept, all_unmapped, filtered_from, unmapped}
use Rattle.rec_codec.specs.Changes.{IsChangeSpellable}

-- what the laws of rows say
pub record RowLaws : Type 0 where
  pub untouched : (rows : List Row) (changes : List RowChange) (table : TableName) (number : RowNo) → names_row table number changes ≡ false → row_at table number (laid_over rows changes) ≡ row_at table number rows
  pub once : (rows : List Row) (changes : List RowChange) (change : RowChange) → IsTrue (rows_differ changes) → Contains changes change → row_at change.table change.row (laid_over rows changes) ≡ change.new
  pub behind : (rows : List Row) (a b : List RowChange) → laid_over rows (a ++ b) ≡ laid_over (laid_over rows a) b
  pub old_once : (rows : List Row) (changes : List RowChange) → IsTrue (rows_differ changes) → AllByRecursion (λ (change : RowChange). change.old ≡ row_at change.table change.row rows) changes → AreFrom rows changes
  pub laid : (rows : List Row) (changes : List RowChange) (row : Row) → Contains (laid_over rows changes) row
      → Contains rows row ⊎ ((change : RowChange) × Contains changes change × (change.table ≡ row.table) × (change.row ≡ row.number) × (change.new ≡ Some row.cells))
  pub stands : (rows : List Row) (row : Row) → row_at row.table row.number rows ≡ Some row.cells → Contains rows row
  pub viewed : (rows : List Row) (changes : List RowChange) (table : TableName) (row : Row) → IsTrue (are_in_order rows)
      → Contains (view rows changes table) row ↔ ((row.table ≡ table) × (row_at table row.number (laid_over rows changes) ≡ Some row.cells))
  pub ordered : (rows : List Row) (changes : List RowChange) → IsTrue (are_in_order rows) → IsTrue (are_in_order (laid_over rows changes))
  pub forth : (triples : List KeptRow) → map triple_of (map of_triple triples) ≡ triples
  pub listed : (rows : List Row) → is_in_order fields_before (map (λ (row : KeptRow). place_of row.0 row.1) (map triple_of rows)) ≡ are_in_order rows
  pub used : (rows : List Row) (transactions : ClientNo → List RowChange) (table : TableName) (limit : ℕ) (changes : List RowChange)
      → AreAmong limit (IsNumber rows transactions table) → ((number : RowNo) → IsTrue (names_row table number changes) → IsNumber rows transactions table number)
      → AreAmong limit (λ number. IsNumber rows transactions table number ⊎ IsTrue (names_row table number changes))

-- what is kept and the desk hold together, and the desk has the rows that are kept
pub record Stand (kept : Kept) (desk : Desk) : Type 0 where
  pub together : HoldsTogether kept desk
  pub rows_are : desk.rows ≡ map of_triple kept.rows

pub rows_rise : RowLaws → (kept : Kept) (desk : Desk) → Stand kept desk → IsTrue (are_in_order desk.rows)
rows_rise laws kept desk s =
    sym (laws.listed desk.rows)
    ∙ ap (λ (rows : List KeptRow). is_in_order fields_before (map (λ (row : KeptRow). place_of row.0 row.1) rows)) (ap (map triple_of) s.rows_are ∙ laws.forth kept.rows)
    ∙ s.together.kept_is.lawful.ordered.rows

-- ---- each row that is seen is sound

-- a row of a table has these cells, as a change that made it so
abbrev pub as_made : TableName → RowNo → List Cell → RowChange
as_made name number cells = record { table = name; row = number; old = None; new = Some cells }

rows_spelled : (kept : Kept) → AllByRecursion IsChangeSpellable (image_changes kept) → AllByRecursion (λ (row : KeptRow). IsChangeSpellable (row_change row)) kept.rows
rows_spelled kept all =
    let a = all_behind IsChangeSpellable (map user_change kept.users) _ all in
    let b = all_behind IsChangeSpellable (map role_change kept.roles) _ a in
    let c = all_behind IsChangeSpellable (map system_change kept.grants.system) _ b in
    let d = all_behind IsChangeSpellable (map role_grant_change kept.grants.role) _ c in
    let e = all_behind IsChangeSpellable (map table_change kept.tables) _ d in
    all_unmapped IsChangeSpellable row_change kept.rows (all_front IsChangeSpellable (map row_change kept.rows) _ e)

pub tables_spelled : (kept : Kept) → AllByRecursion IsChangeSpellable (image_changes kept) → AllByRecursion (λ (table : Table). IsChangeSpellable (table_change table)) kept.tables
tables_spelled kept all =
    let a = all_behind IsChangeSpellable (map user_change kept.users) _ all in
    let b = all_behind IsChangeSpellable (map role_change kept.roles) _ a in
    let c = all_behind IsChangeSpellable (map system_change kept.grants.system) _ b in
    let d = all_behind IsChangeSpellable (map role_grant_change kept.grants.role) _ c in
    all_unmapped IsChangeSpellable table_change kept.tables (all_front IsChangeSpellable (map table_change kept.tables) _ d)

kept_sound : (kept : Kept) (desk : Desk) (triple : KeptRow) → Stand kept desk → Contains kept.rows triple → IsSoundChange kept.tables (as_made triple.0 triple.1 triple.2)
kept_sound kept desk triple s has =
    let founded = all_at (IsRowFounded kept) kept.rows s.together.kept_is.lawful.founded.rows triple has in
    let (table, is, size) = founded.1 in
    record {
      numbered = founded.0;
      fits = (table, is.0, is.1, s.together.kept_is.whole.fits triple table has is);
      spelled = all_at (λ (row : KeptRow). IsChangeSpellable (row_change row)) kept.rows (rows_spelled kept s.together.kept_is.spelled.entries) triple has;
    }

made_sound : (tables : List Table) (change : RowChange) (row : Row) → change.table ≡ row.table → change.row ≡ row.number → change.new ≡ Some row.cells → IsSoundChange tables change → IsSoundChange tables (as_made row.table row.number row.cells)
made_sound tables change row table_is row_is content_is h = record {
  numbered = subst (λ (n : RowNo). 1 ≤ n.0) row_is h.numbered;
  fits = (let (table, has, named, fit) = h.fits in (table, has, named ∙ table_is, subst (FitsIfThere table.columns) content_is fit));
  spelled = subst (λ (content : Option (List Cell)). IsChangeSpellable (content_change row.table row.number content)) content_is
      (subst (λ (n : RowNo). IsChangeSpellable (content_change row.table n change.new)) row_is (subst (λ (t : TableName). IsChangeSpellable (content_change t change.row change.new)) table_is h.spelled));
}

pub seen_sound : RowLaws → (kept : Kept) (desk : Desk) (client : ClientNo) (name : TableName) (number : RowNo) (cells : List Cell) → Stand kept desk
    → row_at name number (laid_over desk.rows (open_of desk client)) ≡ Some cells → IsSoundChange kept.tables (as_made name number cells)
seen_sound laws kept desk client name number cells s is =
    let row : Row = record { table = name; number = number; cells = cells } in
    elim (laws.laid desk.rows (open_of desk client) row (laws.stands (laid_over desk.rows (open_of desk client)) row is)) [
      | inl committed ↦ (
          let (triple, has, same) = unmapped of_triple kept.rows row (subst (λ (rows : List Row). Contains rows row) s.rows_are committed) in
          subst (λ (r : Row). IsSoundChange kept.tables (as_made r.table r.number r.cells)) same (kept_sound kept desk triple s has))
      | inr (change, has, table_is, row_is, content_is) ↦
          made_sound kept.tables change row table_is row_is content_is (all_at (IsSoundChange kept.tables) (open_of desk client) (s.together.changes.each client) change has)
    ]

-- a row that is there once a client's changes are laid has a used number
laid_at : RowLaws → (rows : List Row) (transactions : ClientNo → List RowChange) (client : ClientNo) (table : TableName) (number : RowNo) (b : Bool) → names_row table number (transactions client) ≡ b
    → IsSome (row_at table number (laid_over rows (transactions client))) → IsNumber rows transactions table number
laid_at laws rows transactions client table number true is some = inr (client, is)
laid_at laws rows transactions client table number false is some = inl (subst IsSome (laws.untouched rows (transactions client) table number is) some)

pub laid_used : RowLaws → (rows : List Row) (transactions : ClientNo → List RowChange) (client : ClientNo) (table : TableName) (number : RowNo)
    → IsSome (row_at table number (laid_over rows (transactions client))) → IsNumber rows transactions table number
laid_used laws rows transactions client table number some = laid_at laws rows transactions client table number (names_row table number (transactions client)) refl some

-- ---- rows by their numbers

-- no two of the rows have one number
abbrev pub AreApart : List Line → Type 0
AreApart [] = ⊤
AreApart (line ∷ lines) = AllByRecursion (λ (other : Line). other.0.0 ≢ line.0.0) lines × AreApart lines

apart_kept_at : (line : Line) (lines : List Line) (b : Bool) → AllByRecursion (λ (other : Line). other.0.0 ≢ line.0.0) lines → AreApart lines → AreApart (cond b (line ∷ lines) lines)
apart_kept_at line lines true first more = (first, more)
apart_kept_at line lines false first more = more

pub apart_kept : (test : Line → Bool) (lines : List Line) → AreApart lines → AreApart (filter test lines)
apart_kept test [] all = tt
apart_kept test (line ∷ lines) all = apart_kept_at line (filter test lines) (test line) (all_kept (λ (other : Line). other.0.0 ≢ line.0.0) test lines all.0) (apart_kept test lines all.1)

-- rows of one table that stand in order have different numbers
number_apart : (name : TableName) (a b : Row) → a.table ≡ name → b.table ≡ name → row_before a b ≡ true → b.number.0 ≢ a.number.0
number_apart name a b one two before same =
    let e : true ≡ false =
    sym before ∙ ap₂ (λ (t : TableName) (n : ℕ). fields_before (place_of a.table a.number) (place_of t (record { 0 = n }))) (two ∙ sym one) same ∙ fields_irreflexive (place_of a.table a.number) in
    cc

numbers_apart : (name : TableName) (row : Row) (rows : List Row) → row.table ≡ name → AllByRecursion (λ (other : Row). other.table ≡ name) rows → list_all (row_before row) rows ≡ true
    → AllByRecursion (λ (other : Line). other.0.0 ≢ row.number.0) (map contents_of rows)
numbers_apart name row [] is all before = tt
numbers_apart name row (other ∷ rows) is all before =
    let parts = and_parts (row_before row other) (list_all (row_before row) rows) before in
    (number_apart name row other is all.0 parts.0, numbers_apart name row rows is all.1 parts.1)

pub lines_apart : (name : TableName) (rows : List Row) → AllByRecursion (λ (row : Row). row.table ≡ name) rows → is_in_order row_before rows ≡ true → AreApart (map contents_of rows)
lines_apart name [] all ordered = tt
lines_apart name (row ∷ rows) all ordered =
    let parts = and_parts (list_all (row_before row) rows) (is_in_order row_before rows) ordered in
    (numbers_apart name row rows all.0 all.1 parts.0, lines_apart name rows all.1 parts.1)

before_kept_at : (row other : Row) (rows : List Row) (b : Bool) → row_before row other ≡ true → list_all (row_before row) rows ≡ true → list_all (row_before row) (cond b (other ∷ rows) rows) ≡ true
before_kept_at row other rows true first more = and_from (row_before row other) (list_all (row_before row) rows) first more
before_kept_at row other rows false first more = more

before_kept : (test : Row → Bool) (row : Row) (rows : List Row) → list_all (row_before row) rows ≡ true → list_all (row_before row) (filter test rows) ≡ true
before_kept test row [] all = refl
before_kept test row (other ∷ rows) all =
    let parts = and_parts (row_before row other) (list_all (row_before row) rows) all in
    before_kept_at row other (filter test rows) (test other) parts.0 (before_kept test row rows parts.1)

order_kept_at : (row : Row) (rows : List Row) (b : Bool) → list_all (row_before row) rows ≡ true → is_in_order row_before rows ≡ true → is_in_order row_before (cond b (row ∷ rows) rows) ≡ true
order_kept_at row rows true first more = and_from (list_all (row_before row) rows) (is_in_order row_before rows) first more
order_kept_at row rows false first more = more

order_kept : (test : Row → Bool) (rows : List Row) → is_in_order row_before rows ≡ true → is_in_order row_before (filter test rows) ≡ true
order_kept test [] ordered = refl
order_kept test (row ∷ rows) ordered =
    let parts = and_parts (list_all (row_before row) rows) (is_in_order row_before rows) ordered in
    order_kept_at row (filter test rows) (test row) (before_kept test row rows parts.0) (order_kept test rows parts.1)

-- the row is seen under its number, with its cells
abbrev pub IsSeen : Desk → ClientNo → TableName → Line → Type 0
IsSeen desk client name line = row_at name line.0 (laid_over desk.rows (open_of desk client)) ≡ Some line.1

-- rows that are seen of the table, no two with one number
pub record AreSeen (desk : Desk) (client : ClientNo) (name : TableName) (lines : List Line) : Type 0 where
  pub each : (line : Line) → Contains lines line → IsSeen desk client name line
  pub apart : AreApart lines

view_seen : RowLaws → (kept : Kept) (desk : Desk) (client : ClientNo) (name : TableName) → Stand kept desk → AreSeen desk client name (map contents_of (view desk.rows (open_of desk client) name))
view_seen laws kept desk client name s =
    let rising = rows_rise laws kept desk s in
    record {
      each = λ line has. (
          let (row, stands, same) = unmapped contents_of (view desk.rows (open_of desk client) name) line has in
          subst (IsSeen desk client name) same ((laws.viewed desk.rows (open_of desk client) name row rising).0 stands).1);
      apart = lines_apart name (view desk.rows (open_of desk client) name)
          (all_from (λ (row : Row). row.table ≡ name) (view desk.rows (open_of desk client) name) (λ row stands. ((laws.viewed desk.rows (open_of desk client) name row rising).0 stands).0))
          (order_kept (is_in name) (laid_over desk.rows (open_of desk client)) (laws.ordered desk.rows (open_of desk client) rising));
    }

-- those of them that pass a test
pub some_seen : RowLaws → (kept : Kept) (desk : Desk) (client : ClientNo) (name : TableName) (test : Line → Bool) → Stand kept desk
    → AreSeen desk client name (filter test (map contents_of (view desk.rows (open_of desk client) name)))
some_seen laws kept desk client name test s =
    let all = view_seen laws kept desk client name s in
    record {
      each = λ line has. all.each line (filtered_from test (map contents_of (view desk.rows (open_of desk client) name)) line has).0;
      apart = apart_kept test (map contents_of (view desk.rows (open_of desk client) name)) all.apart;
    }

-- ---- changes of rows that are seen

-- the row comes to have this content, or none
abbrev pub line_change : TableName → (Line → Option (List Cell)) → Line → RowChange
line_change name new line = record { table = name; row = line.0; old = Some line.1; new = new line }

not_equal : (a b : ℕ) → a ≢ b → (a == b) ≡ false
not_equal a b apart = grind (arith, nat_tests)

and_false : (a b : Bool) → b ≡ false → (a && b) ≡ false
and_false true b is = is
and_false false b is = refl

pub or_neither : (a b : Bool) → a ≡ false → b ≡ false → (a || b) ≡ false
or_neither true b one two = absurd (let e : true ≡ false = one in cc)
or_neither false b one two = two

unnamed : (name : TableName) (new : Line → Option (List Cell)) (line : Line) (lines : List Line) → AllByRecursion (λ (other : Line). other.0.0 ≢ line.0.0) lines → names_row name line.0 (map (line_change name new) lines) ≡ false
unnamed name new line [] all = refl
unnamed name new line (other ∷ lines) all =
    or_neither (is_of_row name line.0 (line_change name new other)) (names_row name line.0 (map (line_change name new) lines))
    (and_false (same_table name name) (other.0.0 == line.0.0) (not_equal other.0.0 line.0.0 all.0)) (unnamed name new line lines all.1)

pub rows_apart : (name : TableName) (new : Line → Option (List Cell)) (lines : List Line) → AreApart lines → rows_differ (map (line_change name new) lines) ≡ true
rows_apart name new [] all = refl
rows_apart name new (line ∷ lines) all =
    and_from (not (names_row name line.0 (map (line_change name new) lines))) (rows_differ (map (line_change name new) lines)) (ap not (unnamed name new line lines all.0)) (rows_apart name new lines all.1)
