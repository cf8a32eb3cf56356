use Rattle.std.proofs.Common.{◌≡◌, ◌++◌, Bool, drop, map}
use Rattle.std.specs.List.{filter}
use Rattle.au_fga.specs.declared.candidates.Candidate.{Candidate}
use Rattle.au_fga.specs.descent.Candidates.{name_of}
use Rattle.au_fga.proofs.policies.names_of.Given as goal

-- the names of those that were marked, and of those that are left, are all
abbrev pub invariant-loop-place : goal.invariant-loop-place
invariant-loop-place l =
    (test : Candidate → Bool) → l.met ≡ map test l.candidates → l.names.items ++ map name_of (filter test (drop l.place l.candidates)) ≡ map name_of (filter test l.candidates)
