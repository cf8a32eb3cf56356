use Rattle.std.proofs.Common.{◌≡◌, ◌++◌, drop, map}
use Rattle.std.specs.List.{filter}
use Rattle.au_audit.specs.Firing.{fires}
use Rattle.au_base.specs.Codes.{DONE}
use Rattle.au_entries.specs.declared.fine_grained.FgaPolicy.{FgaPolicy}
use Rattle.au_expr.specs.Sessions.{Session}
use Rattle.au_fga.specs.Testing.{seen, truth_over}
use Rattle.au_fga.specs.descent.Candidates.{answer, name_of}
use Rattle.au_fga.proofs.candidates.candidates_of.Given as goal

-- the candidates that answer, and the policies that are left and fire, are all that fire
abbrev pub invariant-loop-policy : goal.invariant-loop-policy
invariant-loop-policy l =
    (session : Session) → map name_of (filter (answer session l.facts.touched) l.candidates.items)
    ++ map (λ (policy : FgaPolicy). policy.name) (filter (fires (truth_over session l.catalog.tables) DONE (seen l.facts)) (drop l.policy-index l.policy-items))
    ≡ map (λ (policy : FgaPolicy). policy.name) (filter (fires (truth_over session l.catalog.tables) DONE (seen l.facts)) l.catalog.fga)
