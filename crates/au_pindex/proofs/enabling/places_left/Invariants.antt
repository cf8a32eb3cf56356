use Rattle.std.proofs.Common.{◌≡◌, ◌&&◌, ℕ, List, take}
use Rattle.std.specs.BTreeSet.{contains}
use Rattle.std.specs.List.{list_any}
use Rattle.std.specs.Ordering.{nat_cmp}
use Rattle.std.specs.Str.{bytes_eq}
use Rattle.au_entries.specs.declared.policy.AuditPolicy.{AuditPolicy}
use Rattle.au_entries.specs.declared.policy.Enabled.{Enabled}
use Rattle.au_pindex.specs.Places.{passes_at}
use Rattle.au_pindex.specs.descent.Edits.{is_left_by}
use Rattle.au_pindex.proofs.enabling.places_left.Given as goal

-- the places are those of the policies of the enablements so far
abbrev pub invariant-loop-entry : goal.invariant-loop-entry
invariant-loop-entry l =
    (at : ℕ) → contains nat_cmp l.places at ≡ passes_at (λ (policy : AuditPolicy). list_any (λ (entry : List ℕ × Enabled). is_left_by l.user entry.1 && bytes_eq policy.name entry.0) (take l.entry-index l.enabled)) l.policies at
