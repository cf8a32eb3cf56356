-- Changes of what is kept that are ready to be made with no memory: which they are, what they fit, and what a step logs of
-- which they are a part.
use Rattle.std.specs.Prelude.{◌≡◌, ◌≢◌, ◌≤◌, ⊤, ℕ, Bool, true, false, List, [], ◌∷◌, ◌++◌, Option, Some, None, length, map}
use Rattle.std.specs.List.{AllByRecursion, filter, filter_map, flat_map}
use Rattle.au_base.specs.Limits.{LAST_MOMENT}
use Rattle.au_base.specs.declared.numbers.ClientNo.{ClientNo}
use Rattle.au_base.specs.declared.numbers.Stamp.{Stamp}
use Rattle.au_catalog.specs.Settling.{catalog_of}
use Rattle.au_catalog.specs.Staging.{edits_of}
use Rattle.au_catalog.specs.Staging as catalogs
use Rattle.au_entries.specs.declared.change.Change.{Change}
use Rattle.au_entries.specs.declared.change.Change.TheVariants.{Table, TableGone, Put, Gone, Start}
use Rattle.au_entries.specs.declared.kept.Kept.{Kept}
use Rattle.au_entries.specs.declared.trail_record.Record.{Record}
use Rattle.au_entries.specs.Changing.{changed_all, grant_changes}
use Rattle.au_entries.specs.Lawful.{IsWhole}
use Rattle.au_entries.specs.Replaying.{AllGoOn}
use Rattle.au_grants.specs.Staging as grants
use Rattle.au_kept.specs.declared.staged.Staged.{Staged}
use Rattle.au_kept.specs.declared.staged.TableEdit.{TableEdit}
use Rattle.au_kept.specs.declared.staged.TableEdit.TheVariants.{Open, Close}
use Rattle.au_kept.specs.Keeping.{Contents, desk_of}
pub use Rattle.au_kept.specs.OpenChanges.{content_change}
use Rattle.au_replay.specs.Reading.{conditions}
use Rattle.au_txn.specs.declared.finals.Final.{Final}
use Rattle.au_txn.specs.Desks.{Contents as Desk, open_of}
use Rattle.au_txn.specs.Finals.{AreFinals}
use Rattle.au_txn.specs.Rows.{triple_of}
use Rattle.au_txn.specs.Transactions.{laid_over, names_table}
use Rattle.rec_codec.specs.Changes.{IsChangeSpellable}
use Rattle.rec_codec.specs.Records.{trail_record}

-- the change is of a row
abbrev pub IsOfRow : Change → Type 0
IsOfRow (Put table number cells) = ⊤
IsOfRow (Gone table number) = ⊤
IsOfRow _ = ⊥

-- what a change is for the tables that are open for rows, where it is something for them
abbrev pub table_edit : Change → Option TableEdit
table_edit (Table name columns key) = Some (Open name key)
table_edit (TableGone name) = Some (Close name)
table_edit _ = None

-- the number of the instance that a change begins
abbrev pub start_of : Change → Option ℕ
start_of (Start instance) = Some instance
start_of _ = None

-- the second number, or the first where there is no second
abbrev pub later_start : Option ℕ → Option ℕ → Option ℕ
later_start None before = before
later_start (Some instance) before = Some instance

-- the number of the last instance that changes begin
abbrev pub last_start : List Change → Option ℕ
last_start [] = None
last_start (change ∷ changes) = later_start (last_start changes) (start_of change)

-- the number of an instance that begins, or else the one before
abbrev pub number_after : Option ℕ → ℕ → ℕ
number_after None before = before
number_after (Some instance) before = instance

-- what is ready are the changes, of which none is of a row
pub record IsStaged (changes : List Change) (staged : Staged) : Type 0 where
  pub catalog : staged.catalog.edits ≡ edits_of conditions.tree changes
  pub grants : staged.grants.changes ≡ flat_map grant_changes changes
  pub tables : staged.tables.items ≡ filter_map table_edit changes
  pub instance : staged.instance ≡ last_start changes
  pub rowless : AllByRecursion (λ change. ¬ IsOfRow change) changes

-- the edit opens a table
abbrev pub opens : TableEdit → Bool
opens (Open name key) = true
opens (Close name) = false

-- how many tables are opened
abbrev pub opened_count : List TableEdit → ℕ
opened_count edits = length (filter opens edits)

-- What is ready fits what is kept: the catalogue and the grants have no more entries than they had then, and there is room
-- for the tables that are opened.
pub record Fits (staged : Staged) (contents : Contents) : Type 0 where
  pub catalog : catalogs.Fits staged.catalog (catalog_of contents.kept)
  pub grants : grants.Fits staged.grants contents.kept.grants
  pub tables : opened_count staged.tables.items ≤ contents.spare

-- what becomes of a row, as a change
abbrev pub final_change : Final → Change
final_change final = content_change final.table final.row final.content

-- what is kept once the client's changes of rows are committed, where one commits
abbrev pub committed_for : Option ClientNo → Contents → Kept
committed_for None contents = contents.kept
committed_for (Some client) contents =
    record contents.kept { rows = map triple_of (laid_over (desk_of contents).rows (open_of (desk_of contents) client)) }

-- What a step logs: what becomes of the rows of the client that commits, where one does, and then these changes.
abbrev pub IsLogged : Option ClientNo → Contents → List Change → List Change → Type 0
IsLogged None contents changes logged = logged ≡ changes
IsLogged (Some client) contents changes logged =
    (finals : List Final) × AreFinals (desk_of contents).rows (open_of (desk_of contents) client) finals × (logged ≡ map final_change finals ++ changes)

-- no client but the one that commits has a change of a row of the table that the change drops
abbrev pub IsFree : Option ClientNo → Desk → Change → Type 0
IsFree commits desk (TableGone table) = (client : ClientNo) → commits ≢ Some client → names_table table (open_of desk client) ≡ false
IsFree commits desk _ = ⊤

-- The changes that are ready go on from what is kept, behind what becomes of the rows of the client that commits; all of it
-- leaves what is kept whole, and can be written with the records and the stamp; and no client but the one that commits has a
-- change of a row of a table that is dropped.
pub record CanSettle (contents : Contents) (commits : Option ClientNo) (changes : List Change) (records : List Record) (last : Stamp) : Type 0 where
  pub logged : List Change
  pub is_logged : IsLogged commits contents changes logged
  pub go_on : AllGoOn conditions false contents.kept logged
  pub whole : IsWhole (changed_all conditions.tree logged contents.kept)
  pub moment : last.0 ≤ LAST_MOMENT
  pub spelled : AllByRecursion IsChangeSpellable logged
  pub told : AllByRecursion trail_record.IsSpellable records
  pub settled : AllByRecursion (IsFree commits (desk_of contents)) changes
