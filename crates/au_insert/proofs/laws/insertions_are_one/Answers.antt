use Rattle.au_insert.proofs.Comings.{inserted_alike, inserted_once, inserted_refused}
use Rattle.au_insert.proofs.laws.insertions_are_one.Goals as goal

pub returns-clause-one : goal.returns-clause-one
returns-clause-one c = λ sight client session table insert one other a b. inserted_once sight client session table insert one other a b

pub returns-clause-refused : goal.returns-clause-refused
returns-clause-refused c = λ sight client session table insert modification is not_done. inserted_refused sight client session table insert modification not_done is

pub returns-clause-same : goal.returns-clause-same
returns-clause-same c = λ a b client session table insert modification same is. inserted_alike a b client session table insert modification same is
