-- Elements of lists that are chosen, put in or left out, and how many different ones there can be.
use Rattle.std.proofs.Common.{◌≡◌, ◌∙◌, ◌⊎◌, inl, inr, suc, ◌≤◌, Bool, true, false, cond, List, [], ◌∷◌, length, map, refl, sym, ap, subst, arith}
use Rattle.std.specs.Prelude.{⊤}
use Rattle.std.specs.List.{AllByRecursion, Contains, filter}
use Rattle.std.specs.declared.cmp.Ordering.{Ordering}
use Rattle.std.specs.declared.cmp.Ordering.TheVariants.{Less, Equal, Greater}
use Rattle.std.specs.Ordering.{is_gt, is_lt}
use Rattle.std.proofs.lemmas.List.Elements.{Contains-append_left, Contains-append_right}
use Rattle.au_entries.specs.Changing.{put_in_order}
use Rattle.au_kept.proofs.Among.{here, none, split, there}

-- ---- each element

-- what holds of each element holds of all
pub all_from : {X : Type 0} (P : X → Type 0) (xs : List X) → ((x : X) → Contains xs x → P x) → AllByRecursion P xs
all_from P [] each = tt
all_from {X} P (x ∷ xs) each = (each x (here x xs), all_from P xs (λ (y : X) has. each y (there x xs y has)))

-- what is made of an element stands among what is made of all
pub mapped : {X Y : Type 0} (f : X → Y) (xs : List X) (x : X) → Contains xs x → Contains (map f xs) (f x)
mapped f [] x has = absurd (none x has)
mapped f (y ∷ xs) x has = elim (split y xs x has) [
  | inl same ↦ subst (λ z. Contains (f y ∷ map f xs) z) (ap f same) (here (f y) (map f xs))
  | inr later ↦ there (f y) (map f xs) (f x) (mapped f xs x later)
]

-- and what stands there is made of an element
pub unmapped : {X Y : Type 0} (f : X → Y) (xs : List X) (y : Y) → Contains (map f xs) y → (x : X) × Contains xs x × (f x ≡ y)
unmapped f [] y has = absurd (none y has)
unmapped f (x ∷ xs) y has = elim (split (f x) (map f xs) y has) [
  | inl same ↦ (x, here x xs, same)
  | inr later ↦ (let found = unmapped f xs y later in (found.0, there x xs found.0 found.1, found.2))
]

kept_at : {X : Type 0} (x y : X) (ys : List X) (b : Bool) → Contains ys x → Contains (cond b (y ∷ ys) ys) x
kept_at x y ys true has = there y ys x has
kept_at x y ys false has = has

first_at : {X : Type 0} (x : X) (ys : List X) (b : Bool) → b ≡ true → Contains (cond b (x ∷ ys) ys) x
first_at x ys true is = here x ys
first_at x ys false is = absurd (let e : false ≡ true = is in cc)

-- an element that passes the test is kept
pub filtered : {X : Type 0} (test : X → Bool) (xs : List X) (x : X) → Contains xs x → test x ≡ true → Contains (filter test xs) x
filtered test [] x has passes = absurd (none x has)
filtered {X} test (y ∷ xs) x has passes = elim (split y xs x has) [
  | inl same ↦ subst (λ (z : X). Contains (filter test (y ∷ xs)) z) same (first_at y (filter test xs) (test y) (ap test same ∙ passes))
  | inr later ↦ kept_at x y (filter test xs) (test y) (filtered test xs x later passes)
]

filtered_from_at : {X : Type 0} (test : X → Bool) (y : X) (ys : List X) (x : X) (b : Bool) → test y ≡ b → (Contains ys x → Contains ys x × (test x ≡ true)) → Contains (cond b (y ∷ ys) ys) x → ((y ≡ x) ⊎ Contains ys x) × (test x ≡ true)
filtered_from_at test y ys x true is more has = elim (split y ys x has) [
  | inl same ↦ (inl same, ap test (sym same) ∙ is)
  | inr later ↦ (inr later, (more later).1)
]
filtered_from_at test y ys x false is more has = (inr has, (more has).1)

-- an element that is kept is one that passes the test
pub filtered_from : {X : Type 0} (test : X → Bool) (xs : List X) (x : X) → Contains (filter test xs) x → Contains xs x × (test x ≡ true)
filtered_from test [] x has = absurd (none x has)
filtered_from {X} test (y ∷ xs) x has =
    let found = filtered_from_at test y (filter test xs) x (test y) refl (λ later. (later, (filtered_from test xs x later).1)) has in (
      elim found.0 [
        | inl same ↦ subst (λ (z : X). Contains (y ∷ xs) z) same (here y xs)
        | inr later ↦ there y xs x (filtered_from test xs x later).0
      ],
      found.1,
    )

-- an element that stands elsewhere than a new entry stays when that is put in
put_at : {X : Type 0} (order : X → Ordering) (entry : X) (xs : List X) (x : X) (o : Ordering) → order x ≡ o → Contains xs x → (order x ≡ Equal → ⊥) → Contains (put_in_order order entry xs) x
put_at {X} order entry xs x Less is has apart =
    Contains-append_left (filter (λ (y : X). is_lt (order y)) xs) (entry ∷ filter (λ (y : X). is_gt (order y)) xs) x (filtered (λ (y : X). is_lt (order y)) xs x has (ap is_lt is))
put_at order entry xs x Equal is has apart = absurd (apart is)
put_at {X} order entry xs x Greater is has apart =
    Contains-append_right (filter (λ (y : X). is_lt (order y)) xs) (entry ∷ filter (λ (y : X). is_gt (order y)) xs) x
    (there entry (filter (λ (y : X). is_gt (order y)) xs) x (filtered (λ (y : X). is_gt (order y)) xs x has (ap is_gt is)))

pub still_there : {X : Type 0} (order : X → Ordering) (entry : X) (xs : List X) (x : X) → Contains xs x → (order x ≡ Equal → ⊥) → Contains (put_in_order order entry xs) x
still_there order entry xs x has apart = put_at order entry xs x (order x) refl has apart

-- ---- how many

-- no two of the elements are the same
abbrev pub AreApart : {X : Type 0} → List X → Type 0
AreApart [] = ⊤
AreApart (x ∷ xs) = AllByRecursion (λ other. x ≡ other → ⊥) xs × AreApart xs

-- a list without one of its elements: it has one less, and each other one
record Without {X : Type 0} (x : X) (xs : List X) : Type 0 where
  rest : List X
  shorter : length xs ≡ suc (length rest)
  others : (y : X) → Contains xs y → (x ≡ y → ⊥) → Contains rest y

without : {X : Type 0} (x : X) (xs : List X) → Contains xs x → Without x xs
without x [] has = absurd (none x has)
without {X} x (y ∷ xs) has = elim (split y xs x has) [
  | inl same ↦ record {
    rest = xs;
    shorter = refl;
    others = λ (z : X) at apart. elim (split y xs z at) [
      | inl is ↦ absurd (apart (sym same ∙ is))
      | inr later ↦ later
    ];
  }
  | inr later ↦ (
      let less = without x xs later in record {
        rest = y ∷ less.rest;
        shorter = ap suc less.shorter;
        others = λ (z : X) at apart. elim (split y xs z at) [
          | inl is ↦ subst (λ (w : X). Contains (y ∷ less.rest) w) is (here y less.rest)
          | inr more ↦ there y less.rest z (less.others z more apart)
        ];
      })
]

others_left : {X : Type 0} (x : X) (xs rest : List X) → ((y : X) → Contains xs y → (x ≡ y → ⊥) → Contains rest y) → (chosen : List X) → AllByRecursion (λ other. x ≡ other → ⊥) chosen → AllByRecursion (Contains xs) chosen → AllByRecursion (Contains rest) chosen
others_left x xs rest others [] apart all = tt
others_left x xs rest others (y ∷ chosen) apart all = (others y all.0 apart.0, others_left x xs rest others chosen apart.1 all.1)

-- different elements of a list are no more than it has
pub no_more : {X : Type 0} (chosen xs : List X) → AreApart chosen → AllByRecursion (Contains xs) chosen → length chosen ≤ length xs
no_more [] xs apart all = omega arith
no_more (x ∷ chosen) xs apart all =
    let less = without x xs all.0 in
    let rest = no_more chosen less.rest apart.1 (others_left x xs less.rest less.others chosen apart.0 all.1) in
    let shorter = less.shorter in
    omega (arith, rest, shorter)
