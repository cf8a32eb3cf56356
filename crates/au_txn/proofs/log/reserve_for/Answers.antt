use Rattle.au_txn.proofs.LogLemmas.{spare-push}
use Rattle.au_txn.proofs.log.reserve_for.Goals as goal

pub returns-in_ok-push-in-None-clause-room : goal.returns-in_ok-push-in-None-clause-room
returns-in_ok-push-in-None-clause-room c = λ q. rw c.in_ok-push-in-None.ensures.items (spare-push q _ _)
