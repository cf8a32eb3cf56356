use Rattle.std.specs.Prelude.{All}
use Rattle.au_io.specs.MemLink.{link_told}
use Rattle.au_io.specs.Visits.{IsFresh}
use Rattle.trials_server.proofs.outside.links_of.Given as goal

abbrev pub invariant-loop-visit : goal.invariant-loop-visit
invariant-loop-visit l = All (λ link. IsFresh (link_told link)) l.links.items
