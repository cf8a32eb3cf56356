use Rattle.au_calls.proofs.Going.{goes}
use Rattle.au_calls.proofs.Refused.{refused}
use Rattle.au_calls.proofs.Spelled.{spelled}
use Rattle.au_calls.proofs.Told.{told}
use Rattle.au_calls.proofs.Unique.{one}
use Rattle.au_calls.proofs.Whole.{stay, whole}
use Rattle.au_calls.proofs.laws.calls_hold.Goals as goal

pub returns-clause-one : goal.returns-clause-one
returns-clause-one c = one

pub returns-clause-refused : goal.returns-clause-refused
returns-clause-refused c = refused

pub returns-clause-goes : goal.returns-clause-goes
returns-clause-goes c = goes

pub returns-clause-whole : goal.returns-clause-whole
returns-clause-whole c = whole

pub returns-clause-stay : goal.returns-clause-stay
returns-clause-stay c = stay

pub returns-clause-told : goal.returns-clause-told
returns-clause-told c = told

pub returns-clause-written : goal.returns-clause-written
returns-clause-written c = spelled
