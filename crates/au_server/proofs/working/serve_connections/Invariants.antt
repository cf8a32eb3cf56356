use Rattle.au_server.specs.descent.Working.{HoldsNothing}
use Rattle.au_server.proofs.working.serve_connections.Given as goal

abbrev pub invariant-loop : goal.invariant-loop
invariant-loop g l = HoldsNothing l.doors l.stores l.at_door l.at_store
