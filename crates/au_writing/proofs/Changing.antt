-- When changes of rows that a client sees can be written.
use Rattle.std.proofs.Common.{◌≡◌, ◌≢◌, ◌∙◌, ◌⊎◌, inl, inr, ℕ, ◌≤◌, ◌+◌, true, false, List, [], ◌++◌, length, map, refl, sym, ap, subst, arith}
use Rattle.std.specs.Prelude.{◌==◌, nat_lt, IsSome, IsTrue, Option, Some}
use Rattle.std.specs.List.{AllByRecursion, Contains}
use Rattle.std.proofs.lemmas.Bool.{and_parts}
use Rattle.std.proofs.lemmas.Bool.Decides.{nat_tests}
use Rattle.std.proofs.lemmas.List.{append-nil, length-append, length-map}
use Rattle.au_base.specs.Limits.{TABLE_ROW_NUMBERS, TRANSACTION_CHANGES}
use Rattle.au_base.specs.Sameness.{same_table}
use Rattle.au_base.specs.declared.cell.Cell.{Cell}
use Rattle.au_base.specs.declared.numbers.ClientNo.{ClientNo}
use Rattle.au_base.specs.declared.numbers.RowNo.{RowNo}
use Rattle.au_base.specs.declared.table.TableName.{TableName}
use Rattle.au_choose.specs.Choosing.{are_too_many}
use Rattle.au_entries.specs.declared.kept.Kept.{Kept}
use Rattle.au_kept.specs.OpenChanges.{AreAmong, IsSoundChange}
use Rattle.au_query.specs.Combos.{Line}
use Rattle.au_txn.specs.declared.change.RowChange.{RowChange}
use Rattle.au_txn.specs.Desks.{Contents as Desk, IsWritable, is_open, key_of, open_of}
use Rattle.au_txn.specs.Keys.{KeysDiffer}
use Rattle.au_txn.specs.Rows.{row_at}
use Rattle.au_txn.specs.Transactions.{IsKeyLocked, IsNumber, IsRowLocked, MakesKey, is_of_row, laid_over, names_row}
use Rattle.au_writing.specs.Written.{CanBeWritten}
use Rattle.au_writing.proofs.Lists.{all_from, any_from, none, unmapped}
use Rattle.au_writing.proofs.Seen.{AreSeen, RowLaws, Stand, laid_used, line_change, rows_apart, seen_sound}
use Rattle.au_writing.proofs.Shown.{same_name}

-- ---- no changes

nothing_among : (desk : Desk) (table : TableName) (limit : ℕ) → AreAmong limit (IsNumber desk.rows (open_of desk) table) → AreAmong limit (λ number. IsNumber desk.rows (open_of desk) table number ⊎ IsTrue (names_row table number []))
nothing_among desk table limit (numbers, few, each) = (
  numbers,
  few,
  λ number is. elim is [
    | inl used ↦ each number used
    | inr named ↦ absurd (let e : false ≡ true = named in cc)
  ],
)

nothing_written : (kept : Kept) (desk : Desk) (client : ClientNo) → Stand kept desk → CanBeWritten kept desk client []
nothing_written kept desk client s =
    let own : open_of desk client ++ [] ≡ open_of desk client = append-nil (open_of desk client) in
    record {
      writable = tt;
      old = tt;
      keys = record {
        once = refl;
        differ = λ table. subst (λ (changes : List RowChange). KeysDiffer (key_of table desk.tables) table (laid_over desk.rows changes)) (sym own) (s.together.keyed.seen client table);
        unlocked = λ table key some made locked. none made.0 made.1;
      };
      sound = record {
        each = tt;
        short = subst (λ (changes : List RowChange). length changes ≤ TRANSACTION_CHANGES) (sym own) (s.together.changes.short client);
        few = λ table. nothing_among desk table TABLE_ROW_NUMBERS (s.together.changes.few table);
      };
    }

-- a statement that changes nothing can be written
pub none_written : (kept : Kept) (desk : Desk) (client : ClientNo) (changes : List RowChange) → Stand kept desk → changes ≡ [] → CanBeWritten kept desk client changes
none_written kept desk client changes s are = subst (CanBeWritten kept desk client) (sym are) (nothing_written kept desk client s)

-- ---- changes of rows that are seen

-- which rows they are: seen ones of an open table, of which no other client has a change, and not too many
pub record Changes (desk : Desk) (client : ClientNo) (name : TableName) (lines : List Line) : Type 0 where
  pub seen : AreSeen desk client name lines
  pub opened : IsTrue (is_open name desk.tables)
  pub free : (line : Line) → Contains lines line → ¬ IsRowLocked (open_of desk) client name line.0
  pub few : are_too_many (open_of desk client) lines ≡ false

-- what has still to be so of them: their new contents are sound, no new key is locked, and keys differ once they are made
pub record KeepsRest (kept : Kept) (desk : Desk) (client : ClientNo) (changes : List RowChange) : Type 0 where
  pub each : AllByRecursion (IsSoundChange kept.tables) changes
  pub differ : (table : TableName) → KeysDiffer (key_of table desk.tables) table (laid_over (laid_over desk.rows (open_of desk client)) changes)
  pub unlocked : (table : TableName) (key : List Cell) → key_of table desk.tables ≢ [] → MakesKey (key_of table desk.tables) table key changes
      → ¬ IsKeyLocked (key_of table desk.tables) (open_of desk) client table key

-- what holds of each line holds of each change
pub of_lines : (P : RowChange → Type 0) (name : TableName) (new : Line → Option (List Cell)) (lines : List Line) → ((line : Line) → Contains lines line → P (line_change name new line)) → AllByRecursion P (map (line_change name new) lines)
of_lines P name new lines each =
    all_from P (map (line_change name new) lines) (λ change has. (let (line, stands, same) = unmapped (line_change name new) lines change has in subst P same (each line stands)))

same_number : (a b : RowNo) → (a.0 == b.0) ≡ true → a ≡ b
same_number a b is = let e : a.0 ≡ b.0 = grind (arith, nat_tests) in ap (λ (n : ℕ). let r : RowNo = record { 0 = n } in r) e

-- a row that the changes name is one that is seen
named_line : (name table : TableName) (new : Line → Option (List Cell)) (lines : List Line) (number : RowNo) → IsTrue (names_row table number (map (line_change name new) lines)) → (line : Line) × Contains lines line × (name ≡ table) × (line.0 ≡ number)
named_line name table new lines number named =
    let (change, has, is) = any_from (is_of_row table number) (map (line_change name new) lines) named in
    let (line, stands, same) = unmapped (line_change name new) lines change has in
    let parts = and_parts (same_table change.table table) (change.row.0 == number.0) is in
    (line, stands, ap (λ (c : RowChange). c.table) same ∙ same_name change.table table parts.0, ap (λ (c : RowChange). c.row) same ∙ same_number change.row number parts.1)

some_cells : (content : Option (List Cell)) (cells : List Cell) → content ≡ Some cells → IsSome content
some_cells content cells is = subst IsSome (sym is) refl

used_numbers : RowLaws → (desk : Desk) (client : ClientNo) (name table : TableName) (new : Line → Option (List Cell)) (lines : List Line) → Changes desk client name lines → (number : RowNo)
    → IsTrue (names_row table number (map (line_change name new) lines)) → IsNumber desk.rows (open_of desk) table number
used_numbers laws desk client name table new lines c number named =
    let (line, stands, of, at) = named_line name table new lines number named in
    subst (λ (t : TableName). IsNumber desk.rows (open_of desk) t number) of
    (subst (IsNumber desk.rows (open_of desk) name) at
    (laid_used laws desk.rows (open_of desk) client name line.0 (some_cells (row_at name line.0 (laid_over desk.rows (open_of desk client))) line.1 (c.seen.each line stands))))

not_over : (limit m n : ℕ) → nat_lt limit (m + n) ≡ false → m + n ≤ limit
not_over limit m n is = grind (arith, nat_tests)

short_enough : (own : List RowChange) (name : TableName) (new : Line → Option (List Cell)) (lines : List Line) → are_too_many own lines ≡ false → length (own ++ map (line_change name new) lines) ≤ TRANSACTION_CHANGES
short_enough own name new lines few =
    let most = not_over TRANSACTION_CHANGES (length own) (length lines) few in
    subst (λ (n : ℕ). n ≤ TRANSACTION_CHANGES) (sym (length-append own (map (line_change name new) lines) ∙ ap (λ (n : ℕ). length own + n) (length-map lines (line_change name new)))) most

pub lines_written : RowLaws → (kept : Kept) (desk : Desk) (client : ClientNo) (name : TableName) (new : Line → Option (List Cell)) (lines : List Line) → Stand kept desk → Changes desk client name lines
    → KeepsRest kept desk client (map (line_change name new) lines) → CanBeWritten kept desk client (map (line_change name new) lines)
lines_written laws kept desk client name new lines s c k =
    let changes = map (line_change name new) lines in
    let own = open_of desk client in
    let once = rows_apart name new lines c.seen.apart in
    record {
      writable = of_lines (IsWritable desk.tables (open_of desk) client) name new lines (λ line stands. record {
        there = c.opened;
        free = c.free line stands;
        numbered = (seen_sound laws kept desk client name line.0 line.1 s (c.seen.each line stands)).numbered;
        content = inl refl;
      });
      old = laws.old_once (laid_over desk.rows own) changes once
          (of_lines (λ (change : RowChange). change.old ≡ row_at change.table change.row (laid_over desk.rows own)) name new lines (λ line stands. sym (c.seen.each line stands)));
      keys = record {
        once = once;
        differ = λ table. subst (KeysDiffer (key_of table desk.tables) table) (sym (laws.behind desk.rows own changes)) (k.differ table);
        unlocked = k.unlocked;
      };
      sound = record {
        each = k.each;
        short = short_enough own name new lines c.few;
        few = λ table. laws.used desk.rows (open_of desk) table TABLE_ROW_NUMBERS changes (s.together.changes.few table) (used_numbers laws desk client name table new lines c);
      };
    }
