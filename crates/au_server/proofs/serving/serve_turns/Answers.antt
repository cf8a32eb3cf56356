use Rattle.std.proofs.Common.{◌++◌, ℕ, List, drop, inr, length, subst, sym, take}
use Rattle.std.specs.Prelude.{All}
use Rattle.au_store.specs.declared.entry.Entry.{Entry}
use Rattle.au_store.specs.History.{StandsFor}
use Rattle.au_turn.specs.Pass.{seen}
use Rattle.au_server.specs.declared.worker.Worker.{Worker}
use Rattle.au_server.specs.descent.Working.{EachPair, WorkedOn}
use Rattle.au_server.proofs.Returning.{begun_by, prefix_on}
use Rattle.au_server.proofs.Written.{all_written, worked_on}
use Rattle.au_server.proofs.serving.serve_turns.Goals as goal

pub returns-in-Ok-clause-door : goal.returns-in-Ok-clause-door
returns-in-Ok-clause-door g c =
    let closed = c.close.ensures.value in
    let gathered = prefix_on (seen c.args.at_door) (seen c.hire.new.at_door) (seen c.gather.new.at_door) c.hire.ensures.door_seen c.gather.ensures.door_seen in
    (closed.0, prefix_on (seen c.args.at_door) (seen c.gather.new.at_door) closed.0 gathered closed.1, closed.2)

pub returns-in-Ok-clause-store : goal.returns-in-Ok-clause-store
returns-in-Ok-clause-store g c =
    let closed = c.close-store.ensures.value in
    let gathered = prefix_on (seen c.in-Ok.at_store) (seen c.hire.new.at_store) (seen c.gather.new.at_store) c.hire.ensures.store_seen c.gather.ensures.store_seen in
    inr (begun_by (λ (l : List Entry). StandsFor g.D.Disk.told g.D.Disk.meaning g.D.Disk.faults c.close-store.result l) c.in-Ok.ensures.seen (prefix_on (seen c.in-Ok.at_store) (seen c.gather.new.at_store) closed.0 gathered closed.1) closed.2)

pub gather-requires-clause-all : goal.gather-requires-clause-all
gather-requires-clause-all g c κs within =
    let W : Type 0 = Worker g.row.L.Denot g.row.D.Denot g.row.C.Denot g.row.L-Link.Denot g.L.Lobby g.L.Link.Source g.L.Link.Stream g.L.Link.Sink in
    let hired = c.hire.new.workers in
    let doors = c.args.doors in
    let stores = c.in-Ok.stores in
    let worked = c.work_all.new.workers in
    let WorksOn : W → Type 0 = λ w. WorkedOn doors stores w.doors.now w.stores.now w.at_door w.at_store in
    let Works : W → W → Type 0 = λ w v. WorkedOn w.doors.now w.stores.now v.doors.now v.stores.now v.at_door v.at_store in
    let pairs : EachPair Works hired.items worked = subst (λ (l : List W). EachPair Works l worked) c.as_mut_slice.ensures.value c.work_all.ensures in
    subst (λ (n : ℕ). All WorksOn (take n (worked ++ drop (length worked) hired.items))) (sym hired.ok.0)
    (all_written {X = W} hired.items worked WorksOn Works
    (λ w v before after. worked_on doors w.doors.now v.doors.now stores w.stores.now v.stores.now v.at_door v.at_store before.doors_same before.stores_same after)
    c.hire.ensures.all pairs)
