use Rattle.au_step.proofs.Clients.{logoff_off, step_one}
use Rattle.au_step.proofs.session_laws.clients_have_one_session.Goals as goal

pub returns-clause-one : goal.returns-clause-one
returns-clause-one c = step_one

pub returns-clause-off : goal.returns-clause-off
returns-clause-off c = logoff_off
