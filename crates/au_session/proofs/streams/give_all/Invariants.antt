use Rattle.std.proofs.Common.{◌≡◌, length}
use Rattle.au_session.proofs.Giving.{HasGiven}
use Rattle.au_session.proofs.streams.give_all.Given as goal

abbrev pub invariant-loop-rest : goal.invariant-loop-rest
invariant-loop-rest g l =
    let s = g.K.Stream in
    record {
      given : HasGiven (s.given l.fn.link) (s.given l.link) l.bytes l.rest;
      left : s.left l.link ≡ s.left l.fn.link;
      taken : s.taken l.link ≡ s.taken l.fn.link;
      well : s.faults l.link ≡ s.faults l.fn.link;
    }

abbrev pub decreases-loop-rest : goal.decreases-loop-rest
decreases-loop-rest g l = length l.rest
