-- Which tests find an element of a list, and which lists have the same elements.
use Rattle.std.proofs.Common.{◌≡◌, ◌∙◌, Bool, true, false, cond, ◌||◌, inl, inr, List, [], ◌∷◌, refl, sym, ap, subst}
use Rattle.std.specs.Prelude.{Option, Some, None}
use Rattle.std.specs.List.{AllByRecursion, Contains, cons_option, filter, filter_map, list_any}
use Rattle.au_plan.proofs.Members.{any_from, here, none, split, there}

-- what holds of all holds of each element
pub each_at : {X : Type 0} (P : X → Type 0) (xs : List X) (x : X) → AllByRecursion P xs → Contains xs x → P x
each_at P [] x all has = absurd (none x has)
each_at P (y ∷ xs) x all has = elim (split y xs x has) [
  | inl same ↦ subst P same all.0
  | inr later ↦ each_at P xs x all.1 later
]

or_later : (a b : Bool) → b ≡ true → (a || b) ≡ true
or_later true b is = refl
or_later false b is = is

-- a test that an element passes finds one
pub any_with : {X : Type 0} (test : X → Bool) (xs : List X) (x : X) → Contains xs x → test x ≡ true → list_any test xs ≡ true
any_with test [] x has passes = absurd (none x has)
any_with test (y ∷ xs) x has passes = elim (split y xs x has) [
  | inl same ↦ ap (λ b. b || list_any test xs) (ap test same ∙ passes)
  | inr later ↦ or_later (test y) (list_any test xs) (any_with test xs x later passes)
]

both_ways : (a b : Bool) → (a ≡ true → b ≡ true) → (b ≡ true → a ≡ true) → a ≡ b
both_ways true true forth back = refl
both_ways true false forth back = sym (forth refl)
both_ways false true forth back = back refl
both_ways false false forth back = refl

-- lists with the same elements pass the same tests
pub same_any : {X : Type 0} (test : X → Bool) (xs ys : List X) → ((x : X) → Contains xs x → Contains ys x) → ((x : X) → Contains ys x → Contains xs x) → list_any test xs ≡ list_any test ys
same_any test xs ys forth back =
    both_ways (list_any test xs) (list_any test ys)
    (λ is. let found = any_from test xs is in any_with test ys found.0 (forth found.0 found.1) found.2)
    (λ is. let found = any_from test ys is in any_with test xs found.0 (back found.0 found.1) found.2)

stays_later : {X : Type 0} (b : Bool) (y : X) (rest : List X) (x : X) → Contains rest x → Contains (cond b (y ∷ rest) rest) x
stays_later true y rest x has = there y rest x has
stays_later false y rest x has = has

-- an element that passes stays in the filtered list
pub stays : {X : Type 0} (test : X → Bool) (xs : List X) (x : X) → Contains xs x → test x ≡ true → Contains (filter test xs) x
stays test [] x has passes = absurd (none x has)
stays test (y ∷ xs) x has passes = elim (split y xs x has) [
  | inl same ↦ subst (λ (b : Bool). Contains (cond b (y ∷ filter test xs) (filter test xs)) x) (sym (ap test same ∙ passes))
      (subst (λ z. Contains (y ∷ filter test xs) z) same (here y (filter test xs)))
  | inr later ↦ stays_later (test y) y (filter test xs) x (stays test xs x later passes)
]

pub record From {X Y : Type 0} (h : X → Option Y) (xs : List X) (y : Y) : Type 0 where
  pub element : X
  pub has : Contains xs element
  pub gives : h element ≡ Some y

given_at : {X Y : Type 0} (h : X → Option Y) (x : X) (xs : List X) (y : Y) (o : Option Y) → h x ≡ o → (Contains (filter_map h xs) y → From h xs y) → Contains (cons_option o (filter_map h xs)) y → From h (x ∷ xs) y
given_at h x xs y None is more has =
    let found = more has in
    record { element = found.element; has = there x xs found.element found.has; gives = found.gives }
given_at h x xs y (Some z) is more has = elim (split z (filter_map h xs) y has) [
  | inl same ↦ record { element = x; has = here x xs; gives = is ∙ ap Some same }
  | inr later ↦ (let found = more later in record { element = found.element; has = there x xs found.element found.has; gives = found.gives })
]

-- an element that is given comes from one of the list
pub given_from : {X Y : Type 0} (h : X → Option Y) (xs : List X) (y : Y) → Contains (filter_map h xs) y → From h xs y
given_from h [] y has = absurd (none y has)
given_from h (x ∷ xs) y has = given_at h x xs y (h x) refl (given_from h xs y) has

given_later : {Y : Type 0} (o : Option Y) (ys : List Y) (y : Y) → Contains ys y → Contains (cons_option o ys) y
given_later None ys y has = has
given_later (Some z) ys y has = there z ys y has

-- and what an element of the list gives is an element
pub given : {X Y : Type 0} (h : X → Option Y) (xs : List X) (x : X) (y : Y) → Contains xs x → h x ≡ Some y → Contains (filter_map h xs) y
given h [] x y has gives = absurd (none x has)
given h (z ∷ xs) x y has gives = elim (split z xs x has) [
  | inl same ↦ subst (λ o. Contains (cons_option o (filter_map h xs)) y) (sym (ap h same ∙ gives)) (here y (filter_map h xs))
  | inr later ↦ given_later (h z) (filter_map h xs) y (given h xs x y later gives)
]
