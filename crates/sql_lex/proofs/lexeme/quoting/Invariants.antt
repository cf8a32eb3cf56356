use Rattle.std.proofs.Common.{◌≡◌, false, [], length}
use Rattle.sql_lex.specs.descent.Scan.{quoting}
use Rattle.sql_lex.proofs.lexeme.quoting.Given as goal

abbrev pub invariant-loop-bytes : goal.invariant-loop-bytes
invariant-loop-bytes l = quoting false [] l.initial.bytes ≡ quoting l.is_quote l.found.items l.bytes

abbrev pub decreases-loop-bytes : goal.decreases-loop-bytes
decreases-loop-bytes l = length l.bytes
