use Rattle.std.proofs.Common.{◌≡◌, ◌<◌, ℕ, [], get_or, map}
use Rattle.au_replay.proofs.shape.names_differ.Given as goal

abbrev pub invariant-loop-at : goal.invariant-loop-at
invariant-loop-at l = (i j : ℕ) → i < j → j < l.at → get_or (map (λ column. column.name) l.columns) i [] ≡ get_or (map (λ column. column.name) l.columns) j [] → ⊥
