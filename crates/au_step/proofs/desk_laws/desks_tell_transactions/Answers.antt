use Rattle.au_step.proofs.Desks.{desk_tells}
use Rattle.au_step.proofs.desk_laws.desks_tell_transactions.Goals as goal

pub returns : goal.returns
returns c = λ m client. desk_tells m.kept m.sessions client
