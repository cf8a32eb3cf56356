-- The test LIKE holds exactly where the text can be cut into pieces that the pattern's characters name in order.
use Rattle.std.proofs.Common.{◌≡◌, ◌≢◌, ◌↔◌, ◌∙◌, refl, sym, ap, subst, ℕ, Bool, true, false, ◌||◌, ◌==◌, IsTrue, List, [], ◌∷◌, ◌++◌, length, arith, if◌then◌else◌, ◌⊎◌, inl, inr, eq-eqb}
use Rattle.std.specs.List.{list_any}
use Rattle.std.proofs.lemmas.Bool.{eqb-true, and_parts, and_from}
use Rattle.std.proofs.lemmas.Bool.Decides.{eqb_tells}
use Rattle.au_base.specs.Likes.{IsLike, IsNamedBy}
use Rattle.au_expr.specs.Likes.{likes, ends_of, begins_like, is_empty}

-- some end of the text passes the test
abbrev SomeEnd : (List ℕ → Bool) → List ℕ → Type 0
SomeEnd test text = (piece rest : List ℕ) × (text ≡ piece ++ rest) × (test rest ≡ true)

or_parts : (a b : Bool) → (a || b) ≡ true → (a ≡ true) ⊎ (b ≡ true)
or_parts true b h = inl refl
or_parts false b h = inr h

or_left : (a b : Bool) → a ≡ true → (a || b) ≡ true
or_left true b h = refl
or_left false b h = absurd (cc)

or_right : (a b : Bool) → b ≡ true → (a || b) ≡ true
or_right true b h = refl
or_right false b h = h

some_end : (test : List ℕ → Bool) (text : List ℕ) → list_any test (ends_of text) ≡ true → SomeEnd test text
some_end test [] h = ([], [], refl, elim (or_parts (test []) false h) [ inl passes ↦ passes | inr fails ↦ absurd (cc) ])
some_end test (x ∷ text) h = elim (or_parts (test (x ∷ text)) (list_any test (ends_of text)) h) [
  | inl passes ↦ ([], x ∷ text, refl, passes)
  | inr later ↦ (let found = some_end test text later in (x ∷ found.0, found.1, ap (λ t. x ∷ t) found.2, found.3))
]

end_passes : (test : List ℕ → Bool) (rest : List ℕ) → test rest ≡ true → list_any test (ends_of rest) ≡ true
end_passes test [] h = or_left (test []) false h
end_passes test (x ∷ rest) h = or_left (test (x ∷ rest)) (list_any test (ends_of rest)) h

passes_end : (test : List ℕ → Bool) (piece rest : List ℕ) → test rest ≡ true → list_any test (ends_of (piece ++ rest)) ≡ true
passes_end test [] rest h = end_passes test rest h
passes_end test (x ∷ piece) rest h = or_right (test (x ∷ (piece ++ rest))) (list_any test (ends_of (piece ++ rest))) (passes_end test piece rest h)

is_single : (piece : List ℕ) → length piece ≡ 1 → (x : ℕ) × (piece ≡ x ∷ [])
is_single [] h = absurd (omega (arith, h))
is_single (x ∷ []) h = (x, refl)
is_single (x ∷ y ∷ piece) h = absurd (omega (arith, h))

first_is : (x y : ℕ) (xs ys : List ℕ) → x ∷ xs ≡ y ∷ ys → x ≡ y
first_is x y xs ys h = cc

-- one character names another
names_one : (c x : ℕ) → (c == 95 || x == c) ≡ true → c ≢ 95 → x ∷ [] ≡ c ∷ []
names_one c x h other = elim (or_parts (c == 95) (x == c) h)
    [ inl is ↦ absurd (other (eqb-true c 95 is)) | inr is ↦ ap (λ y. y ∷ []) (eqb-true x c is) ]

named_one : (c x : ℕ) → (c ≢ 95 → x ≡ c) → (c == 95 || x == c) ≡ true
named_one c x h = elim (eqb_tells c 95)
    [ inl is ↦ or_left (c == 95) (x == c) is.0 | inr isnt ↦ or_right (c == 95) (x == c) (eq-eqb x c (h isnt.1)) ]

module _ (c : ℕ) (pattern : List ℕ) (cuts : (text : List ℕ) → likes pattern text ≡ true → IsLike pattern text) where
  percent : c ≡ 37 → (text : List ℕ) → list_any (likes pattern) (ends_of text) ≡ true → IsLike (c ∷ pattern) text
  percent is text h =
      let found = some_end (likes pattern) text h in
      (found.0, found.1, found.2, record { one = λ other. absurd (other is); same = λ other _. absurd (other is) }, cuts found.1 found.3)

  single : c ≢ 37 → (text : List ℕ) → begins_like c (likes pattern) text ≡ true → IsLike (c ∷ pattern) text
  single isnt [] h = absurd (cc)
  single isnt (x ∷ text) h =
      let parts = and_parts (c == 95 || x == c) (likes pattern text) h in
      (x ∷ [], text, refl, record { one = λ _. refl; same = λ _ other. names_one c x parts.0 other }, cuts text parts.1)

  cut : (text : List ℕ) → likes (c ∷ pattern) text ≡ true → IsLike (c ∷ pattern) text
  cut text h = elim (eqb_tells c 37) [
    | inl is ↦ percent is.1 text (subst (λ (b : Bool). (if b then list_any (likes pattern) (ends_of text) else begins_like c (likes pattern) text) ≡ true) is.0 h)
    | inr isnt ↦ single isnt.1 text (subst (λ (b : Bool). (if b then list_any (likes pattern) (ends_of text) else begins_like c (likes pattern) text) ≡ true) isnt.0 h)
  ]

pub likes_cuts : (pattern text : List ℕ) → likes pattern text ≡ true → IsLike pattern text
likes_cuts [] [] h = refl
likes_cuts [] (x ∷ text) h = absurd (cc)
likes_cuts (c ∷ pattern) text h = cut c pattern (likes_cuts pattern) text h

module _ (c : ℕ) (pattern : List ℕ) (tests : (text : List ℕ) → IsLike pattern text → likes pattern text ≡ true) where
  if_percent : (text : List ℕ) → (c == 37) ≡ true → list_any (likes pattern) (ends_of text) ≡ true → likes (c ∷ pattern) text ≡ true
  if_percent text is h = subst (λ (b : Bool). (if b then list_any (likes pattern) (ends_of text) else begins_like c (likes pattern) text) ≡ true) (sym is) h

  if_single : (text : List ℕ) → (c == 37) ≡ false → begins_like c (likes pattern) text ≡ true → likes (c ∷ pattern) text ≡ true
  if_single text isnt h = subst (λ (b : Bool). (if b then list_any (likes pattern) (ends_of text) else begins_like c (likes pattern) text) ≡ true) (sym isnt) h

  begins : c ≢ 37 → (text piece rest : List ℕ) → text ≡ piece ++ rest → IsNamedBy c piece → IsLike pattern rest → begins_like c (likes pattern) text ≡ true
  begins isnt text piece rest is named like =
      let one = is_single piece (named.one isnt) in
      let whole : text ≡ one.0 ∷ rest = is ∙ ap (λ p. p ++ rest) one.1 in
      let same = λ (other : c ≢ 95). first_is one.0 c [] [] (sym one.1 ∙ named.same isnt other) in
      subst (λ t. begins_like c (likes pattern) t ≡ true) (sym whole) (and_from (c == 95 || one.0 == c) (likes pattern rest) (named_one c one.0 same) (tests rest like))

  test : (text : List ℕ) → IsLike (c ∷ pattern) text → likes (c ∷ pattern) text ≡ true
  test text (piece, rest, is, named, like) = elim (eqb_tells c 37) [
    | inl is_one ↦ if_percent text is_one.0 (subst (λ t. list_any (likes pattern) (ends_of t) ≡ true) (sym is) (passes_end (likes pattern) piece rest (tests rest like)))
    | inr isnt ↦ if_single text isnt.0 (begins isnt.1 text piece rest is named like)
  ]

pub cuts_like : (pattern text : List ℕ) → IsLike pattern text → likes pattern text ≡ true
cuts_like [] text h = subst (λ t. is_empty t ≡ true) (sym h) refl
cuts_like (c ∷ pattern) text h = test c pattern (cuts_like pattern) text h

pub likes_tells : (pattern text : List ℕ) → IsTrue (likes pattern text) ↔ IsLike pattern text
likes_tells pattern text = (likes_cuts pattern text, cuts_like pattern text)

-- two tests of one fact answer the same
pub same_test : {P : Type 0} (a b : Bool) → IsTrue a ↔ P → IsTrue b ↔ P → a ≡ b
same_test true b tells other = sym (other.1 (tells.0 refl))
same_test false true tells other = tells.1 (other.0 refl)
same_test false false tells other = refl
