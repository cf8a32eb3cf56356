use Rattle.std.proofs.Common.{◌≡◌, ◌-◌}
use Rattle.rec_parts.specs.descent.Reading.{many_first}
use Rattle.rec_parts.specs.descent.LoopLaws.{with_front}
use Rattle.rec_parts.proofs.spelled.read_many.Given as goal

abbrev pub invariant-loop : goal.invariant-loop
invariant-loop g l = with_front l.values (many_first g.T.Spelled.first (l.count - l.counter) l.rest) ≡ many_first g.T.Spelled.first l.count l.bytes
