use Rattle.au_txn.proofs.Pointed.{broken, stated, traced, undiffered}
use Rattle.au_txn.proofs.laws.clashes_are_told_before.Goals as goal

pub returns-clause-stated : goal.returns-clause-stated
returns-clause-stated c = λ places table rows changes differ none. stated places table rows changes differ none

pub returns-clause-broken : goal.returns-clause-broken
returns-clause-broken c = λ places table rows changes once it. broken places table rows changes once it

pub returns-clause-traced : goal.returns-clause-traced
returns-clause-traced c = λ places table rows changes keyed differ two. traced places table rows changes keyed differ two

pub returns-clause-doubled : goal.returns-clause-doubled
returns-clause-doubled c = λ places table rows keyed two differ. undiffered places table rows keyed two differ
