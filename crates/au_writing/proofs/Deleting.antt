-- What a DELETE comes to can be written.
use Rattle.std.proofs.Common.{◌≡◌, ◌∙◌, ℕ, List, map, sym, ap, subst}
use Rattle.std.specs.Prelude.{Option, None}
use Rattle.std.specs.List.{Contains}
use Rattle.au_base.specs.declared.cell.Cell.{Cell}
use Rattle.au_base.specs.declared.numbers.ClientNo.{ClientNo}
use Rattle.au_base.specs.declared.numbers.RowNo.{RowNo}
use Rattle.au_base.specs.declared.table.TableName.{TableName}
use Rattle.au_entries.specs.declared.kept.Kept.{Kept}
use Rattle.au_kept.specs.OpenChanges.{IsSoundChange}
use Rattle.au_query.specs.Combos.{Line}
use Rattle.au_rows.specs.Held.{HasKey}
use Rattle.au_txn.specs.declared.change.RowChange.{RowChange}
use Rattle.au_txn.specs.Desks.{Contents as Desk, key_of, open_of}
use Rattle.au_txn.specs.Keys.{KeysDiffer}
use Rattle.au_txn.specs.Rows.{Row, row_at}
use Rattle.au_txn.specs.Transactions.{IsUnderOther, laid_over}
use Rattle.au_writing.specs.Written.{CanBeWritten}
use Rattle.au_writing.proofs.Changing.{Changes, lines_written, of_lines}
use Rattle.au_writing.proofs.Lists.{unmapped}
use Rattle.au_writing.proofs.Seen.{RowLaws, Stand, line_change, rows_apart, seen_sound}
use Rattle.rec_codec.specs.Changes.{put, row}

-- keys that differ still do, as the law has it
abbrev pub StaysDifferent : Type 0
StaysDifferent = (places : List ℕ) (table : TableName) (rows : List Row) (changes : List RowChange) → KeysDiffer places table rows
    → ((change : RowChange) (key : List Cell) (other : RowNo) → Contains changes change → change.table ≡ table → HasKey places key (row_at table change.row (laid_over rows changes)) → ¬ IsUnderOther places key table (laid_over rows changes) change.row other)
    → KeysDiffer places table (laid_over rows changes)

-- no content
abbrev pub gone : Line → Option (List Cell)
gone line = None

-- a row that can be written can go
gone_spelled : (name : TableName) (number : RowNo) (cells : List Cell) → put.IsSpellable (name, (number, cells)) → row.IsSpellable (name, number)
unfolding put row
gone_spelled name number cells h = (h.0, h.1.0)

gone_new : (name : TableName) (lines : List Line) (change : RowChange) → Contains (map (line_change name gone) lines) change → change.new ≡ None
gone_new name lines change has = let (line, stands, same) = unmapped (line_change name gone) lines change has in sym (ap (λ (c : RowChange). c.new) same)

no_key : (places : List ℕ) (key : List Cell) (content : Option (List Cell)) → content ≡ None → HasKey places key content → ⊥
no_key places key content is has = subst (HasKey places key) is has

pub rows_go : RowLaws → StaysDifferent → (kept : Kept) (desk : Desk) (client : ClientNo) (name : TableName) (lines : List Line) → Stand kept desk → Changes desk client name lines
    → CanBeWritten kept desk client (map (line_change name gone) lines)
rows_go laws stays kept desk client name lines s c =
    let changes = map (line_change name gone) lines in
    let seen = laid_over desk.rows (open_of desk client) in
    lines_written laws kept desk client name gone lines s c
    (record {
      each = of_lines (IsSoundChange kept.tables) name gone lines (λ line stands. (
          let sound = seen_sound laws kept desk client name line.0 line.1 s (c.seen.each line stands) in
          record {
            numbered = sound.numbered;
            fits = (let (table, has, named, fit) = sound.fits in (table, has, named, tt));
            spelled = gone_spelled name line.0 line.1 sound.spelled;
          }));
      differ = λ table. stays (key_of table desk.tables) table seen changes (s.together.keyed.seen client table)
          (λ change key other has of keyed under. no_key (key_of table desk.tables) key (row_at table change.row (laid_over seen changes))
          (ap (λ (t : TableName). row_at t change.row (laid_over seen changes)) (sym of) ∙ laws.once seen changes change (rows_apart name gone lines c.seen.apart) has ∙ gone_new name lines change has) keyed);
      unlocked = λ table key some made locked. (let (change, has, of, keyed) = made in no_key (key_of table desk.tables) key change.new (gone_new name lines change has) keyed);
    })
