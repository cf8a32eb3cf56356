use Rattle.std.proofs.Common.{arith}
use Rattle.std.proofs.lemmas.Grind.{common_steps}
use Rattle.au_txn.proofs.LogLemmas.{log_steps}
use Rattle.au_txn.proofs.log.append_for.Goals as goal

pub returns-in_default-clause-own : goal.returns-in_default-clause-own
returns-in_default-clause-own c = grind (arith, common_steps, log_steps)
