use Rattle.au_priv.proofs.Needing.{Needing}
use Rattle.au_priv.proofs.deciding.needed_for.Given as goal

abbrev pub invariant-loop-right : goal.invariant-loop-right
invariant-loop-right l = Needing l.case.grants.now l.case.known.now l.case.user.now l.rights l.right-index l.needed.privilege l.needed.role
