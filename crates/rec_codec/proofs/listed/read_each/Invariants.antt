use Rattle.std.proofs.Common.{◌≡◌, ◌-◌}
use Rattle.rec_parts.specs.descent.Reading.{many_first}
use Rattle.rec_parts.specs.descent.LoopLaws.{with_front}
use Rattle.rec_codec.proofs.listed.read_each.Given as goal

abbrev pub invariant-loop : goal.invariant-loop
invariant-loop g l = with_front l.values (many_first g.T.Listed.first (l.count - l.counter) l.rest) ≡ many_first g.T.Listed.first l.count l.bytes
