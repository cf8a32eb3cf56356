-- Places in lists that stand in order (what halving finds).
use Rattle.std.specs.Prelude.{◌≡◌, ◌≤◌, ℕ, List, length, true, false}
use Rattle.std.specs.List.Sorted.{IsPartitionPoint}
use Rattle.au_base.specs.Order.{fields_before}

-- the place behind the entries whose fields come before these, and before all others
abbrev pub IsPlaceOf : {X : Type 0} → (X → List (List ℕ)) → List (List ℕ) → List X → ℕ → Type 0
IsPlaceOf fields these entries place =
    (place ≤ length entries) × IsPartitionPoint (λ entry. fields_before (fields entry) these ≡ true) (λ entry. fields_before (fields entry) these ≡ false) entries place
