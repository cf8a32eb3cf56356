use Rattle.std.proofs.Common.{◌≡◌, []}
use Rattle.au_base.specs.declared.numbers.ClientNo.{ClientNo}
use Rattle.au_txn.specs.Logs.{changes_of}
use Rattle.trials_kept.proofs.tried.Given as goal

abbrev pub invariant-loop-line : goal.invariant-loop-line
invariant-loop-line l = (client : ClientNo) → changes_of client l.keeping.logs ≡ []
