use Rattle.au_admin.proofs.Going.{goes}
use Rattle.au_admin.proofs.Refused.{refused}
use Rattle.au_admin.proofs.Spelled.{spelled}
use Rattle.au_admin.proofs.Told.{told}
use Rattle.au_admin.proofs.Unique.{one}
use Rattle.au_admin.proofs.Whole.{stay, whole}
use Rattle.au_admin.proofs.laws.administration_holds.Goals as goal

pub returns-clause-one : goal.returns-clause-one
returns-clause-one c = one c.rights_are_one.ensures c.calls_hold.ensures.one

pub returns-clause-refused : goal.returns-clause-refused
returns-clause-refused c = refused c.calls_hold.ensures.refused

pub returns-clause-goes : goal.returns-clause-goes
returns-clause-goes c = goes c.calls_hold.ensures.goes

pub returns-clause-whole : goal.returns-clause-whole
returns-clause-whole c = whole c.calls_hold.ensures.whole

pub returns-clause-stay : goal.returns-clause-stay
returns-clause-stay c = stay c.calls_hold.ensures.stay

pub returns-clause-told : goal.returns-clause-told
returns-clause-told c = told c.calls_hold.ensures.told

pub returns-clause-written : goal.returns-clause-written
returns-clause-written c = spelled c.same_is_equal.ensures.table c.same_is_equal.ensures.action c.calls_hold.ensures.written
