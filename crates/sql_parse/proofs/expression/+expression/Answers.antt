use Rattle.std.proofs.Common.{rules, ◌∙◌}
use Rattle.sql_parse.specs.Symbols.{kinds}
use Rattle.sql_parse.specs.descent.Reading.{signed, summand}
use Rattle.sql_parse.specs.descent.Reading as spec
use Rattle.sql_parse.proofs.Turns.{many_more}
use Rattle.sql_parse.proofs.expression.+expression.Goals as goal

pub summation-loop-turn-preserved : goal.summation-loop-turn-preserved
summation-loop-turn-preserved t c =
    let inner = spec.inside c.args.depth in
    c.loop-turn.invariant ∙ many_more signed (summand inner) _ c.loop-turn._turn c.loop-turn.parts (kinds c.loop-turn.rest.now) (search rules) (search rules) ∙ search rules
