-- What contracts see of a keeping.
use Rattle.std.specs.Prelude.{ℕ, List, [], map}
use Rattle.au_entries.specs.declared.kept.Kept.{Kept}
use Rattle.au_image.specs.Image.{IsDeskOf, open_table}
use Rattle.au_txn.specs.Desks.{Contents as Desk}
use Rattle.au_txn.specs.Keys.{IsKeyedDesk}
use Rattle.au_txn.specs.Logs.{Changes}
use Rattle.au_txn.specs.Rows.{of_triple}
use Rattle.au_replay.specs.Reading.{conditions}
use Rattle.au_kept.specs.OpenChanges.{AreSoundChanges}
use Rattle.au_kept.specs.Sound.{IsKept}

-- what is kept; each client's changes of rows that aren't committed; how many more rows and tables are sure to find their
-- memory; and how many more records
pub record Contents : Type 0 where
  pub kept : Kept
  pub logs : List Changes
  pub spare : ℕ
  pub room : ℕ

-- the tables and the rows that are kept, with the changes of each client over them, of which none is replayed
abbrev pub desk_of : Contents → Desk
desk_of contents = record {
  tables = map open_table contents.kept.tables;
  rows = map of_triple contents.kept.rows;
  logs = contents.logs;
  laid = [];
  spare = contents.spare;
}

-- What is kept is lawful, is whole and has a spelling. The desk is one of its tables, and nothing is replayed on it. The keys
-- of rows that are committed or changed keep their discipline. The changes of open transactions are sound.
pub record HoldsTogether (kept : Kept) (desk : Desk) : Type 0 where
  pub kept_is : IsKept conditions kept
  pub desk_is : IsDeskOf kept.tables desk
  pub keyed : IsKeyedDesk desk
  pub changes : AreSoundChanges kept.tables desk
