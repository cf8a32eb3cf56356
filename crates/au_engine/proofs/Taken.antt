-- A list of which one element more is taken.
use Rattle.std.proofs.Common.{◌≡◌, ◌∙◌, ◌<◌, ◌≤◌, ℕ, suc, zero, ◌+◌, Bool, false, List, [], ◌∷◌, ◌++◌, length, map, take, get_or, refl, ap, ap₂, sym, subst, add-one, arith}
use Rattle.std.specs.Prelude.{Option, Some, filter, if◌then◌else◌}
use Rattle.std.specs.List.{filter_map, flat_map}
use Rattle.std.proofs.lemmas.Grind.{flat_map-append}
use Rattle.std.proofs.lemmas.List.{append-nil}
use Rattle.std.proofs.lemmas.List.Elements.{filter-append, filter_map-append}

take_suc : {X : Type 0} (xs : List X) (i : ℕ) (item : X) → i < length xs → item ≡ get_or xs i item → take (suc i) xs ≡ take i xs ++ item ∷ []
take_suc [] i item within is = absurd (omega arith)
take_suc (x ∷ xs) zero item within is = ap (λ y. y ∷ []) (sym is)
take_suc (x ∷ xs) (suc i) item within is = ap (λ rest. x ∷ rest) (take_suc xs i item (omega arith) is)

pub take_one : {X : Type 0} (xs : List X) (i : ℕ) (item : X) → i < length xs → item ≡ get_or xs i item → take (i + 1) xs ≡ take i xs ++ item ∷ []
take_one xs i item within is = rw add-one (take_suc xs i item within is)

-- all is taken
pub take_all : {X : Type 0} (xs : List X) (i : ℕ) → length xs ≤ i → take i xs ≡ xs
take_all [] zero within = refl
take_all [] (suc i) within = refl
take_all (x ∷ xs) zero within = absurd (omega arith)
take_all (x ∷ xs) (suc i) within = ap (λ rest. x ∷ rest) (take_all xs i (omega arith))

-- one more that doesn't pass the test leaves none that does
pub none_more_named : {X : Type 0} (p : X → Bool) (xs : List X) (i : ℕ) (item : X) → i < length xs → item ≡ get_or xs i item → filter p (take i xs) ≡ [] → p item ≡ false → filter p (take (i + 1) xs) ≡ []
none_more_named {X} p xs i item within is none fails =
    ap (λ (l : List X). filter p l) (take_one xs i item within is)
    ∙ (filter-append p (take i xs) (item ∷ [])
    ∙ ap₂ (λ (a b : List X). a ++ b) none (ap (λ (b : Bool). if b then item ∷ [] else []) fails))

-- what one more adds
pub flat_more : {X Y : Type 0} (f : X → List Y) (xs : List X) (i : ℕ) (item : X) → i < length xs → item ≡ get_or xs i item → flat_map f (take (i + 1) xs) ≡ flat_map f (take i xs) ++ f item
flat_more {X} {Y} f xs i item within is =
    ap (λ (l : List X). flat_map f l) (take_one xs i item within is)
    ∙ (flat_map-append f (take i xs) (item ∷ []) ∙ ap (λ (l : List Y). flat_map f (take i xs) ++ l) (append-nil (f item)))

pub mapped_more_of : {X Y : Type 0} (h : X → Option Y) (xs : List X) (i : ℕ) (item : X) → i < length xs → item ≡ get_or xs i item → filter_map h (take (i + 1) xs) ≡ filter_map h (take i xs) ++ filter_map h (item ∷ [])
mapped_more_of {X} h xs i item within is =
    ap (λ (l : List X). filter_map h l) (take_one xs i item within is) ∙ filter_map-append h (take i xs) (item ∷ [])

-- the one that is there
pub one_there : {X : Type 0} (o : Option X) (there item : X) → o ≡ Some there → item ≡ there → item ∷ [] ≡ filter_map (λ (o : Option X). o) (o ∷ [])
one_there {X} o there item is same = subst (λ (o : Option X). item ∷ [] ≡ filter_map (λ (o : Option X). o) (o ∷ [])) (sym is) (ap (λ (x : X). x ∷ []) same)
