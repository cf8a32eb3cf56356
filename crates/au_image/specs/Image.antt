-- The image of what is kept.
use Rattle.std.specs.Prelude.{◌≡◌, ◌≤◌, ℕ, List, [], ◌∷◌, ◌++◌, length, map}
use Rattle.std.specs.List.{AllByRecursion}
use Rattle.au_base.specs.Limits.{LAST_MOMENT}
use Rattle.au_base.specs.declared.numbers.ClientNo.{ClientNo}
use Rattle.au_base.specs.declared.numbers.Stamp.{Stamp}
use Rattle.au_catalog.specs.declared.catalog.Catalog.{Catalog}
use Rattle.au_entries.specs.declared.change.Change.{Change}
use Rattle.au_entries.specs.declared.change.Change.TheVariants.{Start}
use Rattle.au_entries.specs.declared.kept.Kept.{Kept}
use Rattle.au_entries.specs.declared.table.Table.{Table}
use Rattle.au_entries.specs.declared.trail_record.Record.{Record}
use Rattle.au_entries.specs.Changing.{KeptRow}
use Rattle.au_entries.specs.Frames.{trail_left}
pub use Rattle.au_entries.specs.Imaging.{archive_changes, enablement_change, fga_change, image_changes, nothing, object_change, policy_change, role_change, role_grant_change, row_change, system_change, table_change, user_change, written_condition, written_text}
use Rattle.au_grants.specs.Rights.{Grants}
use Rattle.au_image.specs.declared.told.Told.{Told}
use Rattle.au_rows.specs.declared.table.Table.{Table as OpenTable}
use Rattle.au_txn.specs.Desks.{Contents as Desk, open_of, replayer}
use Rattle.au_txn.specs.Rows.{triple_of}
use Rattle.au_txn.specs.Transactions.{laid_over}
use Rattle.rec_codec.specs.Changes.{IsChangeSpellable}
use Rattle.rec_codec.specs.Images.{Written}
use Rattle.rec_codec.specs.Records.{trail_record}
use Rattle.rec_codec.specs.declared.frame.Frame.{Frame}
use Rattle.rec_codec.specs.declared.frame.Frame.TheVariants.{Image}

-- what is kept, from its parts
abbrev pub kept_of : Catalog → Grants → List KeptRow → List Record → Stamp → ℕ → Kept
kept_of catalog grants rows trail last instance = record {
  users = catalog.users;
  roles = catalog.roles;
  grants = grants;
  tables = catalog.tables;
  rows = rows;
  policies = catalog.policies;
  enabled = catalog.enabled;
  fga = catalog.fga;
  trail = trail;
  archive = catalog.archive;
  last = last;
  instance = instance;
}

-- a table as it is open for rows: its name, and the places of its key's columns
abbrev pub open_table : Table → OpenTable
open_table table = record { name = table.name; key = table.key }

-- the committed rows of a desk, as what is kept lists them
abbrev pub kept_rows : Desk → List KeptRow
kept_rows desk = map triple_of desk.rows

-- The rows of a desk as the client sees them, as what is kept lists them: the committed rows with its own changes laid over
-- them, which is what its commit leaves.
abbrev pub rows_seen_by : ClientNo → Desk → List KeptRow
rows_seen_by client desk = map triple_of (laid_over desk.rows (open_of desk client))

-- the records that are told: of the trail those that the purge leaves, all where there is none, and the others behind them
abbrev pub trail_told : Told → List Record
trail_told told = trail_left told.purge told.trail.now ++ told.records.now

-- what is kept, with the rows as the client sees them, and with the trail and the last stamp that are told
abbrev pub kept_as_told : Catalog → Grants → Desk → ClientNo → Told → ℕ → Kept
kept_as_told catalog grants desk client told instance = kept_of catalog grants (rows_seen_by client desk) (trail_told told) told.last instance

-- the desk has the tables of a catalogue, and no row is replayed on it
pub record IsDeskOf (tables : List Table) (desk : Desk) : Type 0 where
  pub tables_are : desk.tables ≡ map open_table tables
  pub quiet : open_of desk replayer ≡ []

-- all that is kept has a spelling: each entry as the change that makes it so, and each record of the trail
pub record IsSpelled (kept : Kept) : Type 0 where
  pub entries : AllByRecursion IsChangeSpellable (image_changes kept)
  pub records : AllByRecursion trail_record.IsSpellable kept.trail

-- what is kept can be written as an image: it has a spelling, and its last stamp is a moment
pub record IsWritable (kept : Kept) : Type 0 where
  pub last : kept.last.0 ≤ LAST_MOMENT
  pub spelled : IsSpelled kept

-- the image of what is kept: all of it as changes of nothing, and its records
abbrev pub image_of : Kept → Frame
image_of kept = Image kept.last (image_changes kept) kept.trail

-- the end of its changes, behind the object privileges
abbrev pub audit_changes : Catalog → ℕ → List Change
audit_changes catalog instance =
    map policy_change catalog.policies
    ++ (map enablement_change catalog.enabled
    ++ (map fga_change catalog.fga
    ++ (archive_changes catalog.archive
    ++ Start instance ∷ [])))

-- the end of its changes, behind the grants of roles
abbrev pub stored_changes : Kept → List Change
stored_changes kept =
    map table_change kept.tables
    ++ (map row_change kept.rows
    ++ (map object_change kept.grants.object
    ++ (map policy_change kept.policies
    ++ (map enablement_change kept.enabled
    ++ (map fga_change kept.fga
    ++ (archive_changes kept.archive
    ++ Start kept.instance ∷ []))))))

-- the changes can be written, and they are as many as are still to come
abbrev pub IsReady : Written → List Change → Type 0
IsReady written changes = (written.changes ≡ length changes) × AllByRecursion IsChangeSpellable changes
