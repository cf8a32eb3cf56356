use Rattle.std.proofs.Common.{◌≡◌, ◌<◌, ℕ, [], get_or, map}
use Rattle.au_replay.proofs.shape.is_named_before.Given as goal

abbrev pub invariant-loop-i : goal.invariant-loop-i
invariant-loop-i l = (k : ℕ) → k < l.i → get_or (map (λ column. column.name) l.columns) k [] ≡ get_or (map (λ column. column.name) l.columns) l.at [] → ⊥
