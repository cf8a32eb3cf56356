use Rattle.au_turn.specs.Pass.{seen}
use Rattle.au_server.specs.descent.Working.{WorkedOn}
use Rattle.au_server.proofs.Returning.{all_rest, prefix_on}
use Rattle.au_server.proofs.hiring.gather.Goals as goal

pub loop-worker-preserved : goal.loop-worker-preserved
loop-worker-preserved g c = record {
  ready = record { door = c.join.ensures.own; door_idle = c.join.ensures.idle; store = c.join-in-Some.ensures.own; store_idle = c.join-in-Some.ensures.idle };
  door_seen = prefix_on (seen c.args.at_door.now) (seen c.loop-worker.at_door) (seen c.join.new.pass) c.loop-worker.invariant.door_seen c.join.ensures.first;
  store_seen = prefix_on (seen c.args.at_store.now) (seen c.loop-worker.at_store) (seen c.join-in-Some.new.pass) c.loop-worker.invariant.store_seen c.join-in-Some.ensures.first;
  all = all_rest c.loop-worker.workers.items c.pop.new.self.items _ c.pop.ensures.rest (λ w. WorkedOn c.args.doors.now c.args.stores.now w.doors.now w.stores.now w.at_door w.at_store) c.loop-worker.invariant.all;
}
