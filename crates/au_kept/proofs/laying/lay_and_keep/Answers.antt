use Rattle.au_kept.proofs.Built.{none_listed}
use Rattle.au_txn.specs.Desks.{replayer}
use Rattle.au_kept.proofs.laying.lay_and_keep.Goals as goal

pub lay-requires-clause-listed : goal.lay-requires-clause-listed
lay-requires-clause-listed c = none_listed c.args.desk.now (c.requires.quiet replayer)
