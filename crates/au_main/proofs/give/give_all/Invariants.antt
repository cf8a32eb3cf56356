use Rattle.std.proofs.Common.{◌≡◌, length}
use Rattle.au_main.proofs.Giving.{HasGiven}
use Rattle.au_main.proofs.give.give_all.Given as goal

abbrev pub invariant-loop-rest : goal.invariant-loop-rest
invariant-loop-rest g l =
    let sink = g.W.Stream in
    record {
      given : HasGiven (sink.given l.fn.sink) (sink.given l.sink) l.bytes l.rest;
      well : sink.faults l.sink ≡ sink.faults l.fn.sink;
    }

abbrev pub decreases-loop-rest : goal.decreases-loop-rest
decreases-loop-rest g l = length l.rest
