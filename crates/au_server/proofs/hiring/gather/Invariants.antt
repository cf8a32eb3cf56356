use Rattle.std.specs.Prelude.{All}
use mathlib.Core.List.{IsPrefix}
use Rattle.au_turn.specs.Pass.{seen}
use Rattle.au_server.specs.descent.Working.{HoldsNothing, WorkedOn}
use Rattle.au_server.proofs.hiring.gather.Given as goal

abbrev pub invariant-loop-worker : goal.invariant-loop-worker
invariant-loop-worker g l = record {
  ready : HoldsNothing l.doors l.stores l.at_door l.at_store;
  door_seen : IsPrefix (seen l.initial.at_door) (seen l.at_door);
  store_seen : IsPrefix (seen l.initial.at_store) (seen l.at_store);
  all : All (λ w. WorkedOn l.doors l.stores w.doors.now w.stores.now w.at_door w.at_store) l.workers.items;
}

abbrev pub decreases-loop-worker : goal.decreases-loop-worker
decreases-loop-worker g l = goal.left-loop-worker g l
