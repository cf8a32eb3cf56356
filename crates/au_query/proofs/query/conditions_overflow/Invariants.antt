use Rattle.std.proofs.Common.{◌≡◌, drop}
use Rattle.au_query.specs.Combos.{overflows, views}
use Rattle.au_query.proofs.query.conditions_overflow.Given as goal

abbrev pub invariant-loop-condition : goal.invariant-loop-condition
invariant-loop-condition l = overflows l.session (drop l.condition-index l.conditions) (views l.sources) ≡ overflows l.session l.conditions (views l.sources)
