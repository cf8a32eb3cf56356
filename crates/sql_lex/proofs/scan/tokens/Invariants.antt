use Rattle.std.proofs.Common.{◌≡◌, ◌+◌, length}
use Rattle.sql_lex.specs.Tokens.{LeadsTo}
use Rattle.sql_lex.proofs.scan.tokens.Given as goal

abbrev pub invariant-loop-rest : goal.invariant-loop-rest
invariant-loop-rest l = record {
  leads : LeadsTo 0 l.text l.tokens.items l.at l.rest;
  whole : l.at + length l.rest ≡ length l.text;
}

abbrev pub decreases-loop-rest : goal.decreases-loop-rest
decreases-loop-rest l = length l.rest
