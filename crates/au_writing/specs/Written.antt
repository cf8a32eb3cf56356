-- When changes of rows can be written to a transaction.
use Rattle.std.specs.Prelude.{◌≡◌, List, map}
use Rattle.std.specs.List.{AllByRecursion}
use Rattle.au_base.specs.declared.numbers.ClientNo.{ClientNo}
use Rattle.au_catalog.specs.Settling.{catalog_of}
use Rattle.au_entries.specs.declared.kept.Kept.{Kept}
use Rattle.au_kept.specs.Writing.{KeepsKeys, KeepsSound}
use Rattle.au_txn.specs.declared.change.RowChange.{RowChange}
use Rattle.au_txn.specs.Desks.{Contents as Desk, IsWritable, open_of}
use Rattle.au_txn.specs.Rows.{of_triple}
use Rattle.au_txn.specs.Transactions.{AreFrom, laid_over}
use Rattle.au_world.specs.Sights.{Sight}

-- what the client sees is what is kept, with the changes of each client that the desk has over the committed rows
pub record Shows (kept : Kept) (desk : Desk) (client : ClientNo) (sight : Sight) : Type 0 where
  pub catalog : sight.catalog ≡ catalog_of kept
  pub committed : desk.rows ≡ map of_triple kept.rows
  pub rows : sight.rows ≡ desk.rows
  pub own : sight.own ≡ open_of desk client
  pub transactions : (other : ClientNo) → sight.transactions other ≡ open_of desk other

-- The client may make each change, which is of what it sees. Keys keep their discipline then, and open changes stay sound.
pub record CanBeWritten (kept : Kept) (desk : Desk) (client : ClientNo) (changes : List RowChange) : Type 0 where
  pub writable : AllByRecursion (IsWritable desk.tables (open_of desk) client) changes
  pub old : AreFrom (laid_over desk.rows (open_of desk client)) changes
  pub keys : KeepsKeys desk client changes
  pub sound : KeepsSound kept.tables desk client changes
