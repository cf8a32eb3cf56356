use Rattle.std.proofs.Common.{◌≡◌, ℕ, List, map, take}
use Rattle.au_entries.specs.declared.policy.Enabled.{Enabled}
use Rattle.trials_calls.proofs.order.enabled_names.Given as goal

-- the names are those of the entries so far
abbrev pub invariant-loop-entry : goal.invariant-loop-entry
invariant-loop-entry l = l.names.items ≡ map (λ (entry : List ℕ × Enabled). entry.0) (take l.entry-index l.enabled)
