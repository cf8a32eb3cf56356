-- A loop that looks for the first of a list that is refused.
use Rattle.std.proofs.Common.{◌≡◌, ℕ, ◌+◌, ◌≤◌, ◌<◌, ◌⊎◌, inl, inr, List, Some, get_or, length, sym, subst, ap, ◌∙◌, arith}
use Rattle.std.specs.List.{slice_get}
use Rattle.std.proofs.lemmas.Bool.{cases_lt}
use Rattle.std.proofs.lemmas.Option.{same_Some, slice_get-get_or, slice_get_within}
use Rattle.au_base.specs.declared.code.Code.{Code}
use Rattle.au_priv.specs.Deciding.{FirstRefused, NoneRefused}

pub below_or_at : (k n : ℕ) → k < n + 1 → (k < n) ⊎ (k ≡ n)
below_or_at k n below = elim (cases_lt k n) [ inl less ↦ inl less | inr more ↦ inr (omega arith) ]

-- none of the first is refused
abbrev pub NoneBefore : {X : Type 0} → (X → Code → Type 0) → List X → ℕ → Type 0
NoneBefore {X} Refuses xs i = (k : ℕ) (x : X) (code : Code) → k < i → slice_get xs k ≡ Some x → ¬ Refuses x code

pub none_more : {X : Type 0} (Refuses : X → Code → Type 0) (xs : List X) (i : ℕ) (read : X) → i < length xs → read ≡ get_or xs i read
    → NoneBefore Refuses xs i → ((code : Code) → ¬ Refuses read code) → NoneBefore Refuses xs (i + 1)
none_more {X = X} Refuses xs i read within is before here k x code below at refuses = elim (below_or_at k i below) [
  | inl earlier ↦ before k x code earlier at refuses
  | inr same ↦ here code (subst (λ (y : X). Refuses y code) (same_Some x read (sym at ∙ (ap (λ (n : ℕ). slice_get xs n) same ∙ (slice_get-get_or xs i read within ∙ ap (λ (y : X). Some y) (sym is))))) refuses)
]

pub none_all : {X : Type 0} (Refuses : X → Code → Type 0) (xs : List X) (i : ℕ) → length xs ≤ i → NoneBefore Refuses xs i → NoneRefused Refuses xs
none_all Refuses xs i whole before k x code at = before k x code (omega (arith, slice_get_within xs k x at)) at

pub first_here : {X : Type 0} (Refuses : X → Code → Type 0) (xs : List X) (i : ℕ) (read : X) (code : Code) → i < length xs → read ≡ get_or xs i read
    → NoneBefore Refuses xs i → Refuses read code → FirstRefused Refuses xs code
first_here {X = X} Refuses xs i read code within is before refuses =
    (i, read, slice_get-get_or xs i read within ∙ ap (λ (y : X). Some y) (sym is), refuses, λ j y other less at. before j y other less at)
