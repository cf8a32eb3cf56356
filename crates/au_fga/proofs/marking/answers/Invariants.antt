use Rattle.std.proofs.Common.{◌≡◌, map, take}
use Rattle.au_fga.specs.descent.Candidates.{answer}
use Rattle.au_fga.proofs.marking.answers.Given as goal

abbrev pub invariant-loop-table : goal.invariant-loop-table
invariant-loop-table l = l.met.items ≡ map (answer l.session (take l.table-index l.touched)) l.candidates
