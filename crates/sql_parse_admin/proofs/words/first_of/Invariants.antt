use Rattle.std.proofs.Common.{◌≡◌, length}
use Rattle.sql_parse.specs.Privileges.{words}
use Rattle.sql_parse.specs.Symbols.{kinds}
use Rattle.sql_parse_admin.specs.descent.ReadWords as spec
use Rattle.sql_parse_admin.proofs.words.first_of.Given as goal

abbrev pub invariant-loop-each : goal.invariant-loop-each
invariant-loop-each g l = spec.first_of (λ x. words (g.T.Named.name_of x)) l.initial.each (kinds l.tokens) ≡ spec.first_of (λ x. words (g.T.Named.name_of x)) l.each (kinds l.tokens)

abbrev pub decreases-loop-each : goal.decreases-loop-each
decreases-loop-each g l = length l.each
