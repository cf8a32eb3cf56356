use Rattle.std.proofs.Common.{◌≡◌, ◌-◌, Bool, drop, length, map}
use Rattle.au_fga.specs.declared.candidates.Candidate.{Candidate}
use Rattle.au_fga.proofs.Marked.{Marking}
use Rattle.au_fga.proofs.marking.mark_in_pieces.Given as goal

abbrev pub invariant-loop-from : goal.invariant-loop-from
invariant-loop-from l = (before : Candidate → Bool) → l.fn.met ≡ map before l.candidates → Marking l.session l.table l.candidates before l.rows l.met (drop l.from l.rows)

abbrev pub decreases-loop-from : goal.decreases-loop-from
decreases-loop-from l = length l.rows - l.from
