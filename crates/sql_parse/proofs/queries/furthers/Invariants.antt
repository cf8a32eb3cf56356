use Rattle.std.proofs.Common.{◌≡◌, ◌-◌}
use Rattle.sql_parse.specs.Symbols.{kinds}
use Rattle.sql_parse.specs.descent.Reading.{inside, many}
use Rattle.sql_parse.specs.descent.ReadQueries as spec
use Rattle.sql_parse.proofs.queries.furthers.Given as goal

abbrev pub invariant-loop-turn : goal.invariant-loop-turn
invariant-loop-turn l =
    spec.furthers (inside l.fn.depth) (kinds l.fn.tokens) ≡ many spec.goes_on (spec.further (inside l.fn.depth)) (l._turn-end - l._turn) l.parts (kinds l.rest)
