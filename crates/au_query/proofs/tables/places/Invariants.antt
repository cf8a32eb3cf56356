use Rattle.std.proofs.Common.{◌≡◌, ◌++◌, ℕ, drop, map, filter}
use Rattle.std.specs.List.{enumerate_from}
use Rattle.au_base.specs.Sameness.{same_table}
use Rattle.au_query.specs.declared.source.Source.{Source}
use Rattle.au_query.specs.Answers.{places_of}
use Rattle.au_query.proofs.tables.places.Given as goal

abbrev pub invariant-loop-place : goal.invariant-loop-place
invariant-loop-place l =
    l.places.items ++ map (λ (p : ℕ × Source). p.0) (filter (λ (p : ℕ × Source). same_table p.1.table l.table) (enumerate_from l.place (drop l.place l.sources)))
    ≡ places_of l.table l.sources
