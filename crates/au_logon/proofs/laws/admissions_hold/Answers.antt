use Rattle.au_logon.proofs.Admitted as admitted
use Rattle.au_logon.proofs.laws.admissions_hold.Goals as goal

pub returns-clause-one : goal.returns-clause-one
returns-clause-one c = admitted.one

pub returns-clause-named : goal.returns-clause-named
returns-clause-named c = admitted.named

pub returns-clause-there : goal.returns-clause-there
returns-clause-there c = admitted.there

pub returns-clause-told : goal.returns-clause-told
returns-clause-told c = admitted.told

pub returns-clause-open_to : goal.returns-clause-open_to
returns-clause-open_to c = admitted.open_to

pub returns-clause-local_named : goal.returns-clause-local_named
returns-clause-local_named c = admitted.local_named

pub returns-clause-local_told : goal.returns-clause-local_told
returns-clause-local_told c = admitted.local_told

pub returns-clause-local_open : goal.returns-clause-local_open
returns-clause-local_open c = admitted.local_open
