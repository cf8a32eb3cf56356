use Rattle.au_turn.specs.Pass.{IsIdle, IsPassOf}
use Rattle.au_session.specs.Session.{told_of}
use Rattle.au_session.specs.descent.Serving.{Serving}
use Rattle.au_session.proofs.serving.serve_requests.Given as goal

abbrev pub invariant-loop : goal.invariant-loop
invariant-loop g l =
    let s = g.K.Stream in
    record {
      own : IsPassOf l.turn l.pass;
      idle : IsIdle l.pass;
      serving : Serving l.client (told_of s.left s.taken s.given s.faults l.fn.link) (told_of s.left s.taken s.given s.faults l.link) l.fn.pass l.pass l.buffer.items;
    }
