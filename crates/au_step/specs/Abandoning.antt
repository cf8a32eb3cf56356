-- The end of a session that isn't asked for.
use Rattle.std.specs.Prelude.{◌==◌, not, List, filter}
use Rattle.au_base.specs.declared.numbers.ClientNo.{ClientNo}
use Rattle.au_step.specs.State.{OpenSession, State}

-- the sessions of the other clients
abbrev pub sessions_without : ClientNo → List OpenSession → List OpenSession
sessions_without client sessions = filter (λ seat. not (seat.session.client.0 == client.0)) sessions

-- the client's session has ended, its transaction is lost, and nothing else is changed or recorded
abbrev pub abandoned : ClientNo → State → State
abandoned client m = record m { sessions = sessions_without client m.sessions }
