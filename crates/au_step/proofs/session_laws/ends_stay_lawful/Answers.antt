use Rattle.au_step.proofs.Clients.{without_off, without_one}
use Rattle.au_step.proofs.Logoffs.{abandoned_lawful}
use Rattle.au_step.proofs.session_laws.ends_stay_lawful.Goals as goal

pub returns-clause-lawful : goal.returns-clause-lawful
returns-clause-lawful c =
    abandoned_lawful (record {
      same = c.transactions_hold.ensures.same;
      written = c.transactions_hold.ensures.written;
      ended = c.transactions_hold.ensures.ended;
      settled = c.transactions_hold.ensures.settled;
    })

pub returns-clause-off : goal.returns-clause-off
returns-clause-off c = λ m client. without_off client m.sessions

pub returns-clause-one : goal.returns-clause-one
returns-clause-one c = λ m client one. without_one client m.sessions one
