use Rattle.std.proofs.Common.{◌≡◌, ◌++◌, ◌||◌, Bool, drop, map, take}
use Rattle.au_fga.specs.declared.candidates.Candidate.{Candidate}
use Rattle.au_fga.specs.descent.Candidates.{hits}
use Rattle.au_fga.proofs.marking.mark.Given as goal

-- those before the place are marked
abbrev pub invariant-loop-place : goal.invariant-loop-place
invariant-loop-place l =
    (before : Candidate → Bool) → l.fn.met ≡ map before l.candidates
    → l.met ≡ map (λ (c : Candidate). before c || hits l.session l.table l.rows c) (take l.place l.candidates) ++ map before (drop l.place l.candidates)
