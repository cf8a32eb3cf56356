use Rattle.std.specs.Prelude.{All}
use Rattle.au_io.specs.MemLink.{link_told}
use Rattle.au_io.specs.Visits.{IsFresh}
use Rattle.trials_io.proofs.links.fresh_links.Given as goal

abbrev pub invariant-loop-text : goal.invariant-loop-text
invariant-loop-text l = All (λ link. IsFresh (link_told link)) l.links.items
