use Rattle.std.proofs.Common.{◌∙◌, ◌++◌, ap}
use Rattle.au_txn.specs.Desks.{open_of, replayer}
use Rattle.au_txn.specs.Logs.{changes_of}
use Rattle.au_txn.proofs.Laid.{laid-elsewhere}
use Rattle.au_txn.proofs.Pointed.{lone-key, lone-row}
use Rattle.au_txn.proofs.laws.lone_clients_meet_no_lock.Goals as goal

pub returns-clause-row : goal.returns-clause-row
returns-clause-row c = λ transactions client table row none locked. lone-row transactions client table row none locked

pub returns-clause-key : goal.returns-clause-key
returns-clause-key c = λ places transactions client table key none locked. lone-key places transactions client table key none locked

pub returns-clause-replay : goal.returns-clause-replay
returns-clause-replay c = λ desk table row none locked.
    lone-row (open_of desk) replayer table row (λ q ne. ap (λ xs. xs ++ changes_of q desk.logs) (laid-elsewhere q desk.laid ne) ∙ none q ne) locked
