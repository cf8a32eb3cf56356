-- Loops over changes, one step of them.
use Rattle.std.proofs.Common.{◌≡◌, ◌<◌, ◌∙◌, ◌+◌, ◌++◌, ◌∷◌, [], ℕ, List, length, drop, get_or, map, refl, sym, ap, ap₂, add-one, append_assoc}
use Rattle.std.proofs.Math.Seq.{drop-cons}
use Rattle.std.specs.Prelude.{Option, Some, None}
use Rattle.std.specs.List.{filter_map, flat_map}
use Rattle.std.proofs.lemmas.List.{map-append}
use Rattle.std.proofs.lemmas.List.Elements.{filter_map-append}
use Rattle.au_catalog.specs.Settling.{condition_texts, texts_in}
use Rattle.au_entries.specs.declared.change.Change.{Change}
use Rattle.au_kept.specs.Staging.{last_start, later_start, start_of}

-- what comes next, and what stands behind it
pub next : {X : Type 0} (xs : List X) (i : ℕ) (x : X) → i < length xs → x ≡ get_or xs i x → drop i xs ≡ x ∷ drop (i + 1) xs
next xs i x within is = drop-cons xs i x within ∙ ap₂ (λ y (n : ℕ). y ∷ drop n xs) (sym is) (sym (add-one i))

-- what each adds to a list, step by step
pub flat_step : {X Y : Type 0} (f : X → List Y) (x : X) (left rest : List X) (before after all : List Y) → left ≡ x ∷ rest → after ≡ before ++ f x → before ++ flat_map f left ≡ all → after ++ flat_map f rest ≡ all
flat_step f x left rest before after all at more so_far =
    ap (λ ys. ys ++ flat_map f rest) more ∙ append_assoc before (f x) (flat_map f rest) ∙ sym (ap (λ xs. before ++ flat_map f xs) at) ∙ so_far

pub filter_step : {X Y : Type 0} (f : X → Option Y) (x : X) (left rest : List X) (before after all : List Y) → left ≡ x ∷ rest → after ≡ before ++ filter_map f (x ∷ []) → before ++ filter_map f left ≡ all → after ++ filter_map f rest ≡ all
filter_step f x left rest before after all at more so_far =
    ap (λ ys. ys ++ filter_map f rest) more ∙ append_assoc before (filter_map f (x ∷ [])) (filter_map f rest) ∙ ap (λ ys. before ++ ys) (sym (filter_map-append f (x ∷ []) rest)) ∙ sym (ap (λ xs. before ++ filter_map f xs) at) ∙ so_far

pub texts_step : {Y : Type 0} (tree : List ℕ → Y) (x : Change) (left rest : List Change) (before after all : List Y) → left ≡ x ∷ rest → after ≡ before ++ map tree (texts_in x)
    → before ++ map tree (condition_texts left) ≡ all → after ++ map tree (condition_texts rest) ≡ all
texts_step tree x left rest before after all at more so_far =
    ap (λ ys. ys ++ map tree (condition_texts rest)) more ∙ append_assoc before (map tree (texts_in x)) (map tree (condition_texts rest)) ∙ ap (λ ys. before ++ ys) (sym (map-append tree (texts_in x) (condition_texts rest)))
    ∙ sym (ap (λ xs. before ++ map tree (condition_texts xs)) at) ∙ so_far

later_joined : (a b before : Option ℕ) → later_start (later_start a b) before ≡ later_start a (later_start b before)
later_joined None b before = refl
later_joined (Some n) b before = refl

pub start_step : (x : Change) (left rest : List Change) (before after all : Option ℕ) → left ≡ x ∷ rest → after ≡ later_start (start_of x) before → later_start (last_start left) before ≡ all → later_start (last_start rest) after ≡ all
start_step x left rest before after all at is so_far =
    ap (later_start (last_start rest)) is ∙ sym (later_joined (last_start rest) (start_of x) before) ∙ sym (ap (λ xs. later_start (last_start xs) before) at) ∙ so_far
