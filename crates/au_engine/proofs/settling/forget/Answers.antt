use Rattle.std.proofs.Common.{◌∙◌, List, ap}
use Rattle.au_txn.specs.Logs.{Changes, changes_of}
use Rattle.au_engine.proofs.Settled.{forgotten_list}
use Rattle.au_engine.proofs.settling.forget.Goals as goal

pub returns-clause-lists : goal.returns-clause-lists
returns-clause-lists c = λ q. ap (λ (l : List Changes). changes_of q l) c.forget.ensures.lists ∙ forgotten_list c.args.client c.args.keeping.now.logs q
