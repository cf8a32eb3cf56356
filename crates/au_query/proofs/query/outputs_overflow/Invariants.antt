use Rattle.std.proofs.Common.{◌≡◌, drop}
use Rattle.au_query.specs.Combos.{overflows, views}
use Rattle.au_query.specs.descent.Outputs.{trees_in}
use Rattle.au_query.proofs.query.outputs_overflow.Given as goal

abbrev pub invariant-loop-output : goal.invariant-loop-output
invariant-loop-output l = overflows l.session (trees_in (drop l.output-index l.outputs)) (views l.sources) ≡ overflows l.session (trees_in l.outputs) (views l.sources)
