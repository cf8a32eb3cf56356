use Rattle.au_txn.proofs.FinalLemmas.{finals-settle, one-finals}
use Rattle.au_txn.proofs.laws.finals_settle.Goals as goal

pub returns-clause-settle : goal.returns-clause-settle
returns-clause-settle c = λ rows changes finals ordered are. finals-settle rows changes finals ordered are

pub returns-clause-one : goal.returns-clause-one
returns-clause-one c = λ rows changes a b first second. one-finals rows changes a b first second
