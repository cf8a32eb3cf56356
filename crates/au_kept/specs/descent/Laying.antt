-- How rows are laid on a desk on which no client has changes, one after another.
use Rattle.std.specs.Prelude.{◌≡◌, ℕ, []}
use Rattle.au_base.specs.declared.numbers.ClientNo.{ClientNo}
use Rattle.au_catalog.specs.declared.catalog.Catalog.{Catalog}
use Rattle.au_entries.specs.declared.kept.Kept.{Kept}
use Rattle.au_grants.specs.Rights.{Grants}
use Rattle.au_image.specs.Image.{kept_of}
use Rattle.au_replay.specs.Sights.{rows_seen}
use Rattle.au_txn.specs.Desks.{Contents as Desk}
use Rattle.au_txn.specs.Logs.{changes_of}

-- what is kept with the rows that are laid; the trail and the last stamp are as where nothing is kept
abbrev pub kept_seen : Catalog → Grants → Desk → ℕ → Kept
kept_seen catalog grants desk instance = kept_of catalog grants (rows_seen desk) [] (record { 0 = 0 }) instance

-- no client's list has changes
abbrev pub IsAlone : Desk → Type 0
IsAlone desk = (client : ClientNo) → changes_of client desk.logs ≡ []

-- the tables, the committed rows and the lists are as they were
pub record IsStill (before after : Desk) : Type 0 where
  pub tables : after.tables ≡ before.tables
  pub rows : after.rows ≡ before.rows
  pub logs : after.logs ≡ before.logs
