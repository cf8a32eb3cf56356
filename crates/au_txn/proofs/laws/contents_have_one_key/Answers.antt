use Rattle.au_txn.proofs.Pointed.{one-key}
use Rattle.au_txn.proofs.laws.contents_have_one_key.Goals as goal

pub returns : goal.returns
returns c = λ places key other content first second. one-key places key other content first second
