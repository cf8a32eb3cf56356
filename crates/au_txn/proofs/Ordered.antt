-- Lists in order: what a filter, a join and a placing leave, and that their elements determine them.
use Rattle.std.proofs.Common.{◌≡◌, ◌∙◌, ◌⊎◌, inl, inr, Bool, true, false, not, cond, List, [], ◌∷◌, ◌++◌, refl, sym, ap, ap₂, subst}
use Rattle.std.specs.List.{filter, list_all}
use Rattle.std.proofs.lemmas.Bool.{and_parts, and_from}
use Rattle.au_base.specs.Order.{IsIrreflexive, IsTransitive, is_in_order, placed}

-- the list has the element
abbrev pub Has : {X : Type 0} → List X → X → Type 0
Has [] x = ⊥
Has (y ∷ ys) x = (y ≡ x) ⊎ Has ys x

pub all_from : {X : Type 0} (p : X → Bool) (xs : List X) → list_all p xs ≡ true → (x : X) → Has xs x → p x ≡ true
all_from p [] all x has = absurd has
all_from p (y ∷ ys) all x (inl same) = subst (λ z. p z ≡ true) same (and_parts (p y) (list_all p ys) all).0
all_from p (y ∷ ys) all x (inr later) = all_from p ys (and_parts (p y) (list_all p ys) all).1 x later

pub all_to : {X : Type 0} (p : X → Bool) (xs : List X) → ((x : X) → Has xs x → p x ≡ true) → list_all p xs ≡ true
all_to p [] each = refl
all_to p (y ∷ ys) each = and_from (p y) (list_all p ys) (each y (inl refl)) (all_to p ys (λ x has. each x (inr has)))

kept_at : {X : Type 0} (p : X → Bool) (y : X) (ys : List X) (b : Bool) → p y ≡ b → (x : X) → ((Has ys x) → p x ≡ true → Has (filter p ys) x)
    → Has (y ∷ ys) x → p x ≡ true → Has (cond b (y ∷ filter p ys) (filter p ys)) x
kept_at p y ys true e x rest (inl same) passes = inl same
kept_at p y ys true e x rest (inr later) passes = inr (rest later passes)
kept_at p y ys false e x rest (inl same) passes = absurd (let no : true ≡ false = sym passes ∙ (ap p (sym same) ∙ e) in cc)
kept_at p y ys false e x rest (inr later) passes = rest later passes

-- what passes is kept
pub kept : {X : Type 0} (p : X → Bool) (xs : List X) (x : X) → Has xs x → p x ≡ true → Has (filter p xs) x
kept p [] x has passes = absurd has
kept p (y ∷ ys) x has passes = kept_at p y ys (p y) refl x (kept p ys x) has passes

was_at : {X : Type 0} (p : X → Bool) (y : X) (ys : List X) (b : Bool) → p y ≡ b → (x : X) → (Has (filter p ys) x → Has ys x × (p x ≡ true))
    → Has (cond b (y ∷ filter p ys) (filter p ys)) x → Has (y ∷ ys) x × (p x ≡ true)
was_at p y ys true e x rest (inl same) = (inl same, ap p (sym same) ∙ e)
was_at p y ys true e x rest (inr later) = (inr (rest later).0, (rest later).1)
was_at p y ys false e x rest has = (inr (rest has).0, (rest has).1)

-- what is kept was there and passes
pub was : {X : Type 0} (p : X → Bool) (xs : List X) (x : X) → Has (filter p xs) x → Has xs x × (p x ≡ true)
was p [] x has = absurd has
was p (y ∷ ys) x has = was_at p y ys (p y) refl x (was p ys x) has

pub has-left : {X : Type 0} (xs ys : List X) (x : X) → Has xs x → Has (xs ++ ys) x
has-left [] ys x has = absurd has
has-left (y ∷ xs) ys x (inl same) = inl same
has-left (y ∷ xs) ys x (inr later) = inr (has-left xs ys x later)

pub has-right : {X : Type 0} (xs ys : List X) (x : X) → Has ys x → Has (xs ++ ys) x
has-right [] ys x has = has
has-right (y ∷ xs) ys x has = inr (has-right xs ys x has)

pub has-either : {X : Type 0} (xs ys : List X) (x : X) → Has (xs ++ ys) x → Has xs x ⊎ Has ys x
has-either [] ys x has = inr has
has-either (y ∷ xs) ys x (inl same) = inl (inl same)
has-either (y ∷ xs) ys x (inr later) = elim (has-either xs ys x later) [ inl one ↦ inl (inr one) | inr two ↦ inr two ]

pub first-before : {X : Type 0} (before : X → X → Bool) (x : X) (xs : List X) → is_in_order before (x ∷ xs) ≡ true → list_all (before x) xs ≡ true
first-before before x xs ordered = (and_parts (list_all (before x) xs) (is_in_order before xs) ordered).0

pub rest-ordered : {X : Type 0} (before : X → X → Bool) (x : X) (xs : List X) → is_in_order before (x ∷ xs) ≡ true → is_in_order before xs ≡ true
rest-ordered before x xs ordered = (and_parts (list_all (before x) xs) (is_in_order before xs) ordered).1

all-append : {X : Type 0} (p : X → Bool) (xs ys : List X) → list_all p xs ≡ true → list_all p ys ≡ true → list_all p (xs ++ ys) ≡ true
all-append p [] ys one two = two
all-append p (x ∷ xs) ys one two =
    let parts = and_parts (p x) (list_all p xs) one in
    and_from (p x) (list_all p (xs ++ ys)) parts.0 (all-append p xs ys parts.1 two)

-- a joined list is in order where both lists are, and the first comes before the second
pub joined-ordered : {X : Type 0} (before : X → X → Bool) (xs ys : List X) → is_in_order before xs ≡ true → is_in_order before ys ≡ true
    → ((x y : X) → Has xs x → Has ys y → before x y ≡ true) → is_in_order before (xs ++ ys) ≡ true
joined-ordered before [] ys one two across = two
joined-ordered before (x ∷ xs) ys one two across =
    and_from (list_all (before x) (xs ++ ys)) (is_in_order before (xs ++ ys))
    (all-append (before x) xs ys (first-before before x xs one) (all_to (before x) ys (λ y has. across x y (inl refl) has)))
    (joined-ordered before xs ys (rest-ordered before x xs one) two (λ z y has later. across z y (inr has) later))

filter-at : {X : Type 0} (before : X → X → Bool) (p : X → Bool) (x : X) (xs : List X) (b : Bool) → list_all (before x) xs ≡ true → is_in_order before (filter p xs) ≡ true
    → is_in_order before (cond b (x ∷ filter p xs) (filter p xs)) ≡ true
filter-at before p x xs true first rest = and_from (list_all (before x) (filter p xs)) (is_in_order before (filter p xs)) (all_to (before x) (filter p xs) (λ y has. all_from (before x) xs first y (was p xs y has).0)) rest
filter-at before p x xs false first rest = rest

-- what a filter keeps is in order
pub filter-ordered : {X : Type 0} (before : X → X → Bool) (p : X → Bool) (xs : List X) → is_in_order before xs ≡ true → is_in_order before (filter p xs) ≡ true
filter-ordered before p [] ordered = refl
filter-ordered before p (x ∷ xs) ordered = filter-at before p x xs (p x) (first-before before x xs ordered) (filter-ordered before p xs (rest-ordered before x xs ordered))

module _ {X : Type 0} (before : X → X → Bool) (transitive : IsTransitive before) (x : X) where
  across : (xs : List X) → ((y : X) → Has xs y → (before y x ≡ true) ⊎ (before x y ≡ true))
      → (y z : X) → Has (filter (λ other. before other x) xs) y → Has (x ∷ filter (λ other. not (before other x)) xs) z → before y z ≡ true
  across xs apart y z has (inl same) = subst (λ w. before y w ≡ true) same (was (λ other. before other x) xs y has).1
  across xs apart y z has (inr later) =
      let kept_z = was (λ other. not (before other x)) xs z later in
      elim (apart z kept_z.0) [
        | inl one ↦ absurd (let no : false ≡ true = ap not (sym one) ∙ kept_z.1 in cc)
        | inr two ↦ transitive y x z (was (λ other. before other x) xs y has).1 two
      ]

  behind : (xs : List X) → ((y : X) → Has xs y → (before y x ≡ true) ⊎ (before x y ≡ true))
      → (z : X) → Has (filter (λ other. not (before other x)) xs) z → before x z ≡ true
  behind xs apart z later =
      let kept_z = was (λ other. not (before other x)) xs z later in
      elim (apart z kept_z.0) [
        | inl one ↦ absurd (let no : false ≡ true = ap not (sym one) ∙ kept_z.1 in cc)
        | inr two ↦ two
      ]

  -- a new element leaves the list in order
  pub placed-ordered : (xs : List X) → is_in_order before xs ≡ true → ((y : X) → Has xs y → (before y x ≡ true) ⊎ (before x y ≡ true)) → is_in_order before (placed before x xs) ≡ true
  placed-ordered xs ordered apart =
      joined-ordered before (filter (λ other. before other x) xs) (x ∷ filter (λ other. not (before other x)) xs) (filter-ordered before (λ other. before other x) xs ordered)
      (and_from (list_all (before x) (filter (λ other. not (before other x)) xs)) (is_in_order before (filter (λ other. not (before other x)) xs))
      (all_to (before x) (filter (λ other. not (before other x)) xs) (behind xs apart)) (filter-ordered before (λ other. not (before other x)) xs ordered))
      (across xs apart)

-- what stands in a list with a new element
pub placed-has : {X : Type 0} (before : X → X → Bool) (x : X) (xs : List X) (y : X) → Has (placed before x xs) y → (x ≡ y) ⊎ Has xs y
placed-has before x xs y has = elim (has-either (filter (λ other. before other x) xs) (x ∷ filter (λ other. not (before other x)) xs) y has) [
  | inl one ↦ inr (was (λ other. before other x) xs y one).0
  | inr two ↦ elim two [
    | inl same ↦ inl same
    | inr later ↦ inr (was (λ other. not (before other x)) xs y later).0
  ]
]

pub placed-new : {X : Type 0} (before : X → X → Bool) (x : X) (xs : List X) → Has (placed before x xs) x
placed-new before x xs = has-right (filter (λ other. before other x) xs) (x ∷ filter (λ other. not (before other x)) xs) x (inl refl)

placed-either : {X : Type 0} (before : X → X → Bool) (x : X) (xs : List X) (y : X) (b : Bool) → before y x ≡ b → Has xs y → Has (placed before x xs) y
placed-either before x xs y true e has = has-left (filter (λ other. before other x) xs) (x ∷ filter (λ other. not (before other x)) xs) y (kept (λ other. before other x) xs y has e)
placed-either before x xs y false e has = has-right (filter (λ other. before other x) xs) (x ∷ filter (λ other. not (before other x)) xs) y (inr (kept (λ other. not (before other x)) xs y has (ap not e)))

pub placed-old : {X : Type 0} (before : X → X → Bool) (x : X) (xs : List X) (y : X) → Has xs y → Has (placed before x xs) y
placed-old before x xs y has = placed-either before x xs y (before y x) refl has

-- lists in order that have the same elements are equal
module _ {X : Type 0} (before : X → X → Bool) (transitive : IsTransitive before) (irreflexive : IsIrreflexive before) where
  never : (x : X) → before x x ≡ true → ⊥
  never x is = let no : true ≡ false = sym is ∙ irreflexive x in cc

  heads : (x y : X) (xs ys : List X) → list_all (before x) xs ≡ true → list_all (before y) ys ≡ true → Has (y ∷ ys) x → Has (x ∷ xs) y → x ≡ y
  heads x y xs ys one two (inl same) other = sym same
  heads x y xs ys one two (inr later) (inl same) = same
  heads x y xs ys one two (inr later) (inr behind) =
      absurd (never x (transitive x y x (all_from (before x) xs one y behind) (all_from (before y) ys two x later)))

  tails : (x y : X) (xs ys : List X) → x ≡ y → list_all (before x) xs ≡ true → (z : X) → Has xs z → Has (y ∷ ys) z → Has ys z
  tails x y xs ys same first z has (inl is) = absurd (never x (subst (λ w. before x w ≡ true) (sym (same ∙ is)) (all_from (before x) xs first z has)))
  tails x y xs ys same first z has (inr later) = later

  pub same_sorted : (a b : List X) → is_in_order before a ≡ true → is_in_order before b ≡ true
      → ((x : X) → Has a x → Has b x) → ((x : X) → Has b x → Has a x) → a ≡ b
  same_sorted [] [] oa ob ab ba = refl
  same_sorted [] (y ∷ ys) oa ob ab ba = absurd (ba y (inl refl))
  same_sorted (x ∷ xs) [] oa ob ab ba = absurd (ab x (inl refl))
  same_sorted (x ∷ xs) (y ∷ ys) oa ob ab ba =
      let fx = first-before before x xs oa in
      let fy = first-before before y ys ob in
      let same : x ≡ y = heads x y xs ys fx fy (ab x (inl refl)) (ba y (inl refl)) in
      ap₂ (λ z zs. z ∷ zs) same
      (same_sorted xs ys (rest-ordered before x xs oa) (rest-ordered before y ys ob)
      (λ z has. tails x y xs ys same fx z has (ab z (inr has)))
      (λ z has. tails y x ys xs (sym same) fy z has (ba z (inr has))))
