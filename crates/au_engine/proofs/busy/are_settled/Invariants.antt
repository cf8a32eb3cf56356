use Rattle.std.proofs.Common.{◌≡◌, [], take}
use Rattle.std.specs.Prelude.{filter}
use Rattle.au_base.specs.declared.numbers.ClientNo.{ClientNo}
use Rattle.au_txn.specs.Desks.{open_of}
use Rattle.au_txn.specs.Transactions.{names_table}
use Rattle.au_engine.proofs.busy.are_settled.Given as goal

abbrev pub invariant-loop-table : goal.invariant-loop-table
invariant-loop-table l = (client : ClientNo) → filter (λ table. names_table table (open_of l.desk client)) (take l.table-index l.tables) ≡ []
