use Rattle.std.proofs.Common.{◌≡◌, ◌<◌, ◌⊎◌, ℕ, suc, zero, inl, inr, Bool, true, false, cond, List, [], ◌∷◌, length, get_or, take, refl, sym, ap, subst, ◌∙◌, arith}
use Rattle.std.specs.List.{Contains, filter, list_all}
use Rattle.std.proofs.lemmas.Bool.{and_parts}
use Rattle.std.proofs.lemmas.List.{get_or-take, get_or_read_under, length-take}
use Rattle.au_base.specs.Order.{IsNewAmong, IsTransitive, is_in_order, name_before}
use Rattle.au_base.specs.OrderLaws.{names_transitive}
use Rattle.trials_base.proofs.order.is_new_among.Goals as goal

-- what a filter keeps passes its test
passes_at : {X : Type 0} (test : X → Bool) (y : X) (rest : List X) (x : X) (b : Bool) → test y ≡ b → (Contains rest x → test x ≡ true) → Contains (cond b (y ∷ rest) rest) x → test x ≡ true
passes_at test y rest x true is more (zero, within, same) = ap test (sym same) ∙ is
passes_at test y rest x true is more (suc k, within, same) = more (k, omega arith, same)
passes_at test y rest x false is more has = more has

passes : {X : Type 0} (test : X → Bool) (xs : List X) (x : X) → Contains (filter test xs) x → test x ≡ true
passes test [] x (k, within, same) = absurd (omega arith)
passes test (y ∷ xs) x has = passes_at test y (filter test xs) x (test y) refl (passes test xs x) has

-- each element of a list in order comes before each later one
all_at : {X : Type 0} (test : X → Bool) (xs : List X) → list_all test xs ≡ true → (k : ℕ) (d : X) → k < length xs → test (get_or xs k d) ≡ true
all_at test [] all k d within = absurd (omega arith)
all_at test (y ∷ xs) all zero d within = (and_parts (test y) (list_all test xs) all).0
all_at test (y ∷ xs) all (suc k) d within = all_at test xs (and_parts (test y) (list_all test xs) all).1 k d (omega arith)

before_later : {X : Type 0} (before : X → X → Bool) (xs : List X) → is_in_order before xs ≡ true
    → (i j : ℕ) (d : X) → i < j → j < length xs → before (get_or xs i d) (get_or xs j d) ≡ true
before_later before [] ordered i j d one within = absurd (omega arith)
before_later before (x ∷ xs) ordered i zero d one within = absurd (omega arith)
before_later before (x ∷ xs) ordered zero (suc j) d one within = all_at (before x) xs (and_parts (list_all (before x) xs) (is_in_order before xs) ordered).0 j d (omega arith)
before_later before (x ∷ xs) ordered (suc i) (suc j) d one within = before_later before xs (and_parts (list_all (before x) xs) (is_in_order before xs) ordered).1 i j d (omega arith) (omega arith)

place_cases : (i j : ℕ) → (i < j) ⊎ ((i ≡ j) ⊎ (j < i))
place_cases zero zero = inr (inl refl)
place_cases zero (suc j) = inl (omega arith)
place_cases (suc i) zero = inr (inr (omega arith))
place_cases (suc i) (suc j) = elim (place_cases i j) [
  | inl less ↦ inl (omega arith)
  | inr more ↦ elim more [
    | inl same ↦ inr (inl (ap suc same))
    | inr above ↦ inr (inr (omega arith))
  ]
]

-- a value that comes before the element at its place is new among elements in order
new_at : {X : Type 0} (before : X → X → Bool) → IsTransitive before → (value : X) (xs : List X) (place : ℕ) → is_in_order before xs ≡ true
    → take place xs ≡ filter (λ other. before other value) xs
    → ((d : X) → place < length xs → before value (get_or xs place d) ≡ true)
    → IsNewAmong before value xs
new_at before joins value xs place ordered front next other (k, within, is) = elim (place_cases k place) [
  | inl less ↦ inl (passes (λ y. before y value) xs other (subst (λ ys. Contains ys other) front (k, omega (arith, length-take place xs), get_or-take place xs k other less ∙ is)))
  | inr more ↦ elim more [
    | inl same ↦ inr (subst (λ y. before value y ≡ true) (ap (λ i. get_or xs i other) (sym same) ∙ is) (next other (omega arith)))
    | inr above ↦ inr (subst (λ y. before value y ≡ true) is (joins value (get_or xs place other) (get_or xs k other) (next other (omega arith)) (before_later before xs ordered place k other above within)))
  ]
]

pub returns-in-Some : goal.returns-in-Some
returns-in-Some c holds =
    let names = c.args.names.now in
    let place = c.place_in_order.result in
    new_at name_before names_transitive c.args.name.now names place c.requires c.place_in_order.ensures.front
    (λ d within. ap (name_before c.args.name.now) (sym (get_or_read_under names place (length names) c.in-Some.next.now d c.in-Some.ensures.lookup.1 within refl)) ∙ (sym c.comes_before.ensures ∙ holds))

pub returns-in-None : goal.returns-in-None
returns-in-None c holds =
    new_at name_before names_transitive c.args.name.now c.args.names.now c.place_in_order.result c.requires c.place_in_order.ensures.front (λ d within. absurd (omega (arith, c.in-None.ensures.lookup)))
