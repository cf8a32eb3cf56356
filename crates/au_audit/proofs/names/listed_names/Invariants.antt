use Rattle.std.proofs.Common.{◌≡◌, ◌||◌, ℕ, List, drop}
use Rattle.au_entries.specs.Enabling.{is_among, is_listed}
use Rattle.au_audit.proofs.names.listed_names.Given as goal

abbrev pub invariant-loop-entry : goal.invariant-loop-entry
invariant-loop-entry l = (user : List ℕ) → (is_among l.names.keys user || is_listed (drop l.entry-index l.listed) user) ≡ is_listed l.listed user
