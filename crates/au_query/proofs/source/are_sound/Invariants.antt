use Rattle.std.proofs.Common.{drop}
use Rattle.std.specs.Prelude.{◌↔◌}
use Rattle.au_query.specs.Combos.{AreSoundRows, views}
use Rattle.au_query.proofs.source.are_sound.Given as goal

abbrev pub invariant-loop-source : goal.invariant-loop-source
invariant-loop-source l = AreSoundRows (views (drop l.source-index l.sources)) ↔ AreSoundRows (views l.sources)
