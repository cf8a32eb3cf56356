use Rattle.std.proofs.Common.{length}
use Rattle.au_grants.proofs.Reached.{Searching}
use Rattle.au_grants.proofs.searching.reach.Given as goal

abbrev pub invariant-loop-done : goal.invariant-loop-done
invariant-loop-done l = Searching l.roles l.user l.marks l.queue l.count l.done (length l.fn.queue)
