-- What is kept while it is built anew, change by change.
use Rattle.std.specs.Prelude.{◌≡◌, ◌≤◌, ⊤, false, not, IsSome, IsTrue, List, [], filter}
use Rattle.au_base.specs.Order.{placed}
use Rattle.au_base.specs.declared.numbers.ClientNo.{ClientNo}
use Rattle.au_entries.specs.declared.change.Change.{Change}
use Rattle.au_entries.specs.declared.change.Change.TheVariants.{Table, TableGone, Put, Gone}
use Rattle.au_entries.specs.declared.kept.Kept.{Kept}
use Rattle.au_entries.specs.Lawful.{IsLawful}
use Rattle.au_image.specs.Image.{IsDeskOf, kept_of, kept_rows}
use Rattle.au_kept.specs.declared.building.Building.{Building}
use Rattle.au_replay.specs.Reading.{conditions}
use Rattle.au_rows.specs.declared.table.Table.{Table as OpenTable}
use Rattle.au_txn.specs.Desks.{Contents as Desk, has_name, is_open, open_of, table_before}
use Rattle.au_txn.specs.Rows.{row_at}

-- what is kept in a building; the trail and the last stamp are as where nothing is kept
abbrev pub kept_in : Building → Kept
kept_in building = kept_of building.catalog building.grants (kept_rows building.desk) [] (record { 0 = 0 }) building.instance

-- no client has changes
abbrev pub IsQuiet : Desk → Type 0
IsQuiet desk = (client : ClientNo) → open_of desk client ≡ []

-- what holds of a building between two changes: what is kept is lawful, the desk is one of its tables, and no client has
-- changes
pub record IsFirm (building : Building) : Type 0 where
  pub lawful : IsLawful conditions (kept_in building)
  pub desk_is : IsDeskOf building.catalog.tables building.desk
  pub quiet : IsQuiet building.desk

-- the open tables after the change
abbrev pub opened_after : Change → List OpenTable → List OpenTable
opened_after (Table name columns key) tables = placed table_before (record { name = name; key = key }) tables
opened_after (TableGone name) tables = filter (λ other. not (has_name name other)) tables
opened_after _ tables = tables

-- the change can be made among the tables and rows of the desk
abbrev pub CanTake : Change → Desk → Type 0
CanTake (Put table number cells) desk = IsTrue (is_open table desk.tables) × (1 ≤ number.0)
CanTake (Gone table number) desk = IsTrue (is_open table desk.tables) × (1 ≤ number.0) × IsSome (row_at table number desk.rows)
CanTake (Table name columns key) desk = is_open name desk.tables ≡ false
CanTake (TableGone name) desk = IsTrue (is_open name desk.tables)
CanTake _ desk = ⊤
