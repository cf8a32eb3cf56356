-- Marks: what is scanned is what the definition says.
use Rattle.std.proofs.Common.{◌≡◌, ℕ, Bool, true, false, ◌&&◌, List, [], ◌∷◌, ◌++◌, Option, Some, None, refl, sym, ap, subst, ◌∙◌, inl, inr}
use Rattle.std.specs.Prelude.{◌==◌, ◌||◌}
use Rattle.std.proofs.lemmas.Bool.{eqb-true}
use Rattle.sql_lex.specs.declared.token.Kind.{Kind}
use Rattle.sql_lex.specs.declared.token.Kind.TheVariants as kind
use Rattle.sql_lex.specs.declared.token.Mark.{Mark}
use Rattle.sql_lex.specs.declared.token.Mark.TheVariants as mark
use Rattle.sql_lex.specs.Bytes.{begins, begins_with}
use Rattle.sql_lex.specs.descent.Scan as read
use Rattle.sql_lex.specs.Tokens as g
use Rattle.sql_lex.specs.Tokens.{lengthens, spelling, StartsToken}
use Rattle.sql_lex.proofs.Choices.{given, some_is, chosen, guard, guard_not, both}

-- ---- two bytes

-- the mark is spelled so, and no byte behind it makes it longer
record IsWhole (m : Mark) (text : List ℕ) : Type 0 where
  spelled : spelling m ≡ text
  whole : (c : ℕ) → lengthens m c ≡ false

double_is : (a b : ℕ) (m : Mark) → read.double_mark a b ≡ Some m → IsWhole m (a ∷ b ∷ [])
unfolding read.double_mark
double_is a b m h =
    elim (chosen (a == 60 && b == 62) (Some mark.LessGreater) _ (Some m) h) [
      | inl t ↦ pair 60 62 mark.LessGreater t.0 t.1 (record { spelled = refl; whole = λ c. refl })
      | inr t ↦ elim (chosen (a == 33 && b == 61) (Some mark.NotEqual) _ (Some m) t.1) [
        | inl u ↦ pair 33 61 mark.NotEqual u.0 u.1 (record { spelled = refl; whole = λ c. refl })
        | inr u ↦ elim (chosen (a == 60 && b == 61) (Some mark.LessEqual) _ (Some m) u.1) [
          | inl v ↦ pair 60 61 mark.LessEqual v.0 v.1 (record { spelled = refl; whole = λ c. refl })
          | inr v ↦ elim (chosen (a == 62 && b == 61) (Some mark.GreaterEqual) _ (Some m) v.1) [
            | inl w ↦ pair 62 61 mark.GreaterEqual w.0 w.1 (record { spelled = refl; whole = λ c. refl })
            | inr w ↦ let x = guard (a == 61 && b == 62) (Some mark.Arrow) m w.1 in pair 61 62 mark.Arrow x.0 x.1 (record { spelled = refl; whole = λ c. refl })
          ]
        ]
      ]
    ]
  where
    pair : (x y : ℕ) (n : Mark) → (a == x && b == y) ≡ true → given n ≡ given m → IsWhole n (x ∷ y ∷ []) → IsWhole m (a ∷ b ∷ [])
    pair x y n same e w =
        let t = both (a == x) (b == y) same in
        rw (eqb-true a x t.0, eqb-true b y t.1) (subst (λ (q : Mark). IsWhole q (x ∷ y ∷ [])) (some_is n m e) w)

-- ---- one byte

-- a byte that would make the mark of two doesn't follow
apart : (a k : ℕ) (m : Mark) (c : ℕ) → read.double_mark a k ≡ Some m → read.double_mark a c ≡ None → (c == k) ≡ false
apart a k m c d h = go (c == k) refl
  where
    go : (v : Bool) → (c == k) ≡ v → v ≡ false
    go false e = refl
    go true e = let same : read.double_mark a c ≡ Some m = ap (read.double_mark a) (eqb-true c k e) ∙ d in absurd cc

-- the mark is spelled so, and what follows doesn't make it longer
record IsLongest (m : Mark) (text behind : List ℕ) : Type 0 where
  spelled : spelling m ≡ text
  longest : begins (lengthens m) behind ≡ false

begins_none : (p : ℕ → Bool) (i : List ℕ) → ((c : ℕ) → p c ≡ false) → begins p i ≡ false
begins_none p [] h = refl
begins_none p (c ∷ i) h = h c

equal_stops : (i : List ℕ) → read.double_at 61 i ≡ None → begins (lengthens mark.Equal) i ≡ false
unfolding read.double_mark
equal_stops [] h = refl
equal_stops (c ∷ i) h = apart 61 62 mark.Arrow c refl h

greater_stops : (i : List ℕ) → read.double_at 62 i ≡ None → begins (lengthens mark.Greater) i ≡ false
unfolding read.double_mark
greater_stops [] h = refl
greater_stops (c ∷ i) h = apart 62 61 mark.GreaterEqual c refl h

less_stops : (i : List ℕ) → read.double_at 60 i ≡ None → begins (lengthens mark.Less) i ≡ false
unfolding read.double_mark
less_stops [] h = refl
less_stops (c ∷ i) h = rw (apart 60 62 mark.LessGreater c refl h, apart 60 61 mark.LessEqual c refl h) refl

minus_stops : (v : Bool) (i : List ℕ) → v ≡ true → (v && begins_with 45 i) ≡ false → begins (lengthens mark.Minus) i ≡ false
minus_stops true i e h = h
minus_stops false i e h = absurd cc

single_is : (a : ℕ) (i : List ℕ) (m : Mark) → read.single_mark a ≡ Some m → read.double_at a i ≡ None → (a == 45 && begins_with 45 i) ≡ false → IsLongest m (a ∷ []) i
unfolding read.single_mark
single_is a i m h none dashes =
    elim (chosen (a == 40) (Some mark.OpenParenthesis) _ (Some m) h) [
      | inl t ↦ is 40 mark.OpenParenthesis t.0 t.1 (record { spelled = refl; longest = begins_none _ i (λ c. refl) })
      | inr t ↦ elim (chosen (a == 41) (Some mark.CloseParenthesis) _ (Some m) t.1) [
        | inl t ↦ is 41 mark.CloseParenthesis t.0 t.1 (record { spelled = refl; longest = begins_none _ i (λ c. refl) })
        | inr t ↦ elim (chosen (a == 44) (Some mark.Comma) _ (Some m) t.1) [
          | inl t ↦ is 44 mark.Comma t.0 t.1 (record { spelled = refl; longest = begins_none _ i (λ c. refl) })
          | inr t ↦ elim (chosen (a == 46) (Some mark.Period) _ (Some m) t.1) [
            | inl t ↦ is 46 mark.Period t.0 t.1 (record { spelled = refl; longest = begins_none _ i (λ c. refl) })
            | inr t ↦ elim (chosen (a == 59) (Some mark.Semicolon) _ (Some m) t.1) [
              | inl t ↦ is 59 mark.Semicolon t.0 t.1 (record { spelled = refl; longest = begins_none _ i (λ c. refl) })
              | inr t ↦ elim (chosen (a == 42) (Some mark.Asterisk) _ (Some m) t.1) [
                | inl t ↦ is 42 mark.Asterisk t.0 t.1 (record { spelled = refl; longest = begins_none _ i (λ c. refl) })
                | inr t ↦ elim (chosen (a == 43) (Some mark.Plus) _ (Some m) t.1) [
                  | inl t ↦ is 43 mark.Plus t.0 t.1 (record { spelled = refl; longest = begins_none _ i (λ c. refl) })
                  | inr t ↦ elim (chosen (a == 45) (Some mark.Minus) _ (Some m) t.1) [
                    | inl t ↦ is 45 mark.Minus t.0 t.1 (record { spelled = refl; longest = minus_stops (a == 45) i t.0 dashes })
                    | inr t ↦ elim (chosen (a == 61) (Some mark.Equal) _ (Some m) t.1) [
                      | inl t ↦ is 61 mark.Equal t.0 t.1 (record { spelled = refl; longest = equal_stops i (at 61 t.0) })
                      | inr t ↦ elim (chosen (a == 60) (Some mark.Less) _ (Some m) t.1) [
                        | inl t ↦ is 60 mark.Less t.0 t.1 (record { spelled = refl; longest = less_stops i (at 60 t.0) })
                        | inr t ↦ let x = guard (a == 62) (Some mark.Greater) m t.1 in is 62 mark.Greater x.0 x.1 (record { spelled = refl; longest = greater_stops i (at 62 x.0) })
                      ]
                    ]
                  ]
                ]
              ]
            ]
          ]
        ]
      ]
    ]
  where
    at : (x : ℕ) → (a == x) ≡ true → read.double_at x i ≡ None
    at x same = subst (λ (y : ℕ). read.double_at y i ≡ None) (eqb-true a x same) none

    is : (x : ℕ) (n : Mark) → (a == x) ≡ true → given n ≡ given m → IsLongest n (x ∷ []) i → IsLongest m (a ∷ []) i
    is x n same e w = rw (eqb-true a x same) (subst (λ (q : Mark). IsLongest q (x ∷ []) i) (some_is n m e) w)

-- ---- both

started : (bytes : List ℕ) (m : Mark) (text behind : List ℕ) → bytes ≡ text ++ behind → spelling m ≡ text → begins (lengthens m) behind ≡ false → StartsToken bytes (kind.Mark m) behind
started bytes m text behind e s h = (spelling m, e ∙ ap (λ (t : List ℕ). t ++ behind) (sym s), g.longest_mark h)

pub mark_sound : (b : ℕ) (i : List ℕ) (y : Kind × List ℕ) → read.mark_at b i ≡ Some y → StartsToken (b ∷ i) y.0 y.1
unfolding read.mark_at
mark_sound b i y h =
    let t = guard_not (b == 45 && begins_with 45 i) (read.first_mark i (read.double_at b i) (read.single_mark b)) y h in
    go i (read.double_at b i) refl t.0 t.1
  where
    single : (j : List ℕ) (s : Option Mark) → read.single_mark b ≡ s → read.double_at b j ≡ None → (b == 45 && begins_with 45 j) ≡ false → read.with_rest j s ≡ Some y → StartsToken (b ∷ j) y.0 y.1
    single j None at none dashes h = absurd cc
    single j (Some m) at none dashes h =
        let w = single_is b j m at none dashes in
        subst (λ (z : Kind × List ℕ). StartsToken (b ∷ j) z.0 z.1) (some_is (kind.Mark m, j) y h) (started (b ∷ j) m (b ∷ []) j refl w.spelled w.longest)

    go : (j : List ℕ) (d : Option Mark) → read.double_at b j ≡ d → (b == 45 && begins_with 45 j) ≡ false → read.first_mark j d (read.single_mark b) ≡ Some y → StartsToken (b ∷ j) y.0 y.1
    go [] (Some m) at dashes h = absurd cc
    go (c ∷ j) (Some m) at dashes h =
        let w = double_is b c m at in
        subst (λ (z : Kind × List ℕ). StartsToken (b ∷ c ∷ j) z.0 z.1) (some_is (kind.Mark m, j) y h) (started (b ∷ c ∷ j) m (b ∷ c ∷ []) j refl w.spelled (begins_none (lengthens m) j w.whole))
    go j None at dashes h = single j (read.single_mark b) refl at dashes h

alone : (a : ℕ) (m : Mark) (i : List ℕ) → (a == 45 && begins_with 45 i) ≡ false → read.double_at a i ≡ None → read.single_mark a ≡ Some m → read.mark_at a i ≡ Some (kind.Mark m, i)
unfolding read.mark_at
alone a m i dashes none s = rw (dashes, none, s) refl

never : (a : ℕ) (i : List ℕ) → ((c : ℕ) → read.double_mark a c ≡ None) → read.double_at a i ≡ None
never a [] h = refl
never a (c ∷ i) h = h c

neither : (a b : Bool) → (a || b) ≡ false → (a ≡ false) × (b ≡ false)
neither false b h = (refl, h)
neither true b h = absurd cc

equal_alone : (i : List ℕ) → begins (lengthens mark.Equal) i ≡ false → read.double_at 61 i ≡ None
unfolding read.double_mark
equal_alone [] h = refl
equal_alone (c ∷ i) h = rw h refl

greater_alone : (i : List ℕ) → begins (lengthens mark.Greater) i ≡ false → read.double_at 62 i ≡ None
unfolding read.double_mark
greater_alone [] h = refl
greater_alone (c ∷ i) h = rw h refl

less_alone : (i : List ℕ) → begins (lengthens mark.Less) i ≡ false → read.double_at 60 i ≡ None
unfolding read.double_mark
less_alone [] h = refl
less_alone (c ∷ i) h = let t = neither (c == 62) (c == 61) h in rw (t.0, t.1) refl

pub mark_complete : (m : Mark) (i : List ℕ) → begins (lengthens m) i ≡ false → read.lexeme (spelling m ++ i) ≡ Some (kind.Mark m, i)
unfolding read.lexeme read.mark_at read.single_mark read.double_mark
mark_complete mark.OpenParenthesis i h = alone 40 mark.OpenParenthesis i refl (never 40 i (λ c. refl)) refl
mark_complete mark.CloseParenthesis i h = alone 41 mark.CloseParenthesis i refl (never 41 i (λ c. refl)) refl
mark_complete mark.Comma i h = alone 44 mark.Comma i refl (never 44 i (λ c. refl)) refl
mark_complete mark.Period i h = alone 46 mark.Period i refl (never 46 i (λ c. refl)) refl
mark_complete mark.Semicolon i h = alone 59 mark.Semicolon i refl (never 59 i (λ c. refl)) refl
mark_complete mark.Asterisk i h = alone 42 mark.Asterisk i refl (never 42 i (λ c. refl)) refl
mark_complete mark.Plus i h = alone 43 mark.Plus i refl (never 43 i (λ c. refl)) refl
mark_complete mark.Minus i h = alone 45 mark.Minus i h (never 45 i (λ c. refl)) refl
mark_complete mark.Equal i h = alone 61 mark.Equal i refl (equal_alone i h) refl
mark_complete mark.Less i h = alone 60 mark.Less i refl (less_alone i h) refl
mark_complete mark.Greater i h = alone 62 mark.Greater i refl (greater_alone i h) refl
mark_complete mark.LessGreater i h = refl
mark_complete mark.NotEqual i h = refl
mark_complete mark.LessEqual i h = refl
mark_complete mark.GreaterEqual i h = refl
mark_complete mark.Arrow i h = refl
