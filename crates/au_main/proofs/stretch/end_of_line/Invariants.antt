use Rattle.std.proofs.Common.{take}
use Rattle.au_main.specs.Lines.{HasNoEnd}
use Rattle.au_main.proofs.stretch.end_of_line.Given as goal

abbrev pub invariant-loop-at : goal.invariant-loop-at
invariant-loop-at l = HasNoEnd (take l.at l.bytes)
