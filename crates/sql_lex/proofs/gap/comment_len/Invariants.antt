use Rattle.std.proofs.Common.{◌≡◌, ◌+◌, length}
use Rattle.sql_lex.specs.descent.Scan.{comment_len}
use Rattle.sql_lex.proofs.gap.comment_len.Given as goal

abbrev pub invariant-loop-rest : goal.invariant-loop-rest
invariant-loop-rest l = record {
  same : comment_len 0 l.bytes ≡ comment_len l.len l.rest;
  long : l.len + length l.rest ≡ length l.bytes;
}

abbrev pub decreases-loop-rest : goal.decreases-loop-rest
decreases-loop-rest l = length l.rest
