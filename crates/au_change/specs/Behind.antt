-- What comes of an UPDATE whose first rules are kept. Who reads the contracts needs none of it.
use Rattle.std.specs.Prelude.{◌≡◌, ◌⊎◌, IsTrue, List, [], Option, None, Some}
use Rattle.au_base.specs.declared.cell.Cell.{Cell}
use Rattle.au_base.specs.declared.code.Code.{Code}
use Rattle.au_base.specs.Codes.{KEY_PRESENT, LOCKED}
use Rattle.au_change.specs.declared.updating.Asked.{Asked}
use Rattle.au_change.specs.Updating.{rows_refusal, updated, updates}
use Rattle.au_choose.specs.Choosing.{range_in}
use Rattle.au_modify.specs.declared.modification.Modification.{Modification}
use Rattle.au_modify.specs.Keys.{AreTwoUnderOne, IsLockedKey, IsSomeKeyLocked}
use Rattle.au_modify.specs.Modifying.{Comes, Unless}
use Rattle.au_txn.specs.declared.change.RowChange.{RowChange}
use Rattle.au_txn.specs.Desks.{laid_by}
use Rattle.au_world.specs.BuiltInTables.{kind_of}
use Rattle.au_world.specs.declared.built_in.TableKind.TheVariants.{Created}
use Rattle.au_world.specs.Sights.{Sight, has_table, sight_of}
use Rattle.au_world.specs.Sound.{IsSoundFor}

-- what the client sees
abbrev pub sight_in : Asked → Sight
sight_in asked = sight_of asked.world asked.client

-- the world is sound for the client, and the table is a created one that is there, with this range
pub record IsAsked (asked : Asked) : Type 0 where
  pub sound : IsSoundFor asked.world asked.client
  pub there : IsTrue (has_table asked.world.catalog.now.tables asked.table.now)
  pub created : kind_of asked.table.now ≡ Created
  pub laid : laid_by asked.client asked.world.desk.now.laid ≡ []
  pub range : asked.range.now ≡ range_in (sight_in asked) asked.table.now

-- a new key of the update's changes is locked
abbrev pub IsLocked : Asked → Type 0
IsLocked asked =
    IsSomeKeyLocked (sight_in asked) asked.client asked.table.now (updates (sight_in asked) asked.session.now asked.table.now asked.update.now)

-- two rows have one key once it is done
abbrev pub IsDoubling : Asked → Type 0
IsDoubling asked =
    AreTwoUnderOne (sight_in asked) asked.table.now (updates (sight_in asked) asked.session.now asked.table.now asked.update.now)

-- what comes of it by its keys
abbrev pub BehindRows : Asked → Modification → Type 0
BehindRows asked modification =
    Unless (IsLocked asked) LOCKED
    (Unless (IsDoubling asked) KEY_PRESENT (λ done. done ≡ updated (sight_in asked) asked.session.now asked.table.now asked.update.now))
    modification

-- what comes of it row by row
abbrev pub BehindChoice : Asked → Modification → Type 0
BehindChoice asked modification =
    Comes (rows_refusal (sight_in asked) asked.session.now asked.table.now asked.update.now) (BehindRows asked) modification

-- what its keys refuse
abbrev pub IsKeyRefusal : Asked → Option Code → Type 0
IsKeyRefusal asked None = (¬ IsLocked asked) × (¬ IsDoubling asked)
IsKeyRefusal asked (Some code) = (IsLocked asked × (code ≡ LOCKED)) ⊎ ((¬ IsLocked asked) × IsDoubling asked × (code ≡ KEY_PRESENT))

-- the change makes a key that is locked
abbrev pub IsLockedChange : Asked → RowChange → Type 0
IsLockedChange asked change = (cells : List Cell) × (change.new ≡ Some cells) × IsLockedKey (sight_in asked) asked.client asked.table.now cells
