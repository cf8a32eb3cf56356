-- When a reader reads exactly what a rule derives, and how that follows for lists of parts.
use Rattle.std.proofs.Common.{◌≡◌, ℕ, zero, suc, ◌<◌, ◌≤◌, Bool, true, false, cond, List, [], ◌∷◌, ◌++◌, length, get_or, Option, Some, None, refl, sym, ap, subst, ◌∙◌, append_assoc, arith, inl, inr}
use Rattle.std.specs.Prelude.{◌⊎◌, ◌==◌}
use Rattle.std.proofs.lemmas.List.{append-nil}
use Rattle.std.proofs.lemmas.Bool.{eqb-true}
use Rattle.std.proofs.lemmas.Slice.Eq.{bytes_eq-Decides}
use Rattle.sql_lex.specs.declared.token.Kind.{Kind}
use Rattle.sql_lex.specs.declared.token.Kind.TheVariants.{Word, Quoted, Number, Text, Mark}
use Rattle.sql_lex.specs.declared.token.Mark.{Mark as MarkName}
use Rattle.sql_lex.specs.declared.token.Mark.TheVariants as mark
use Rattle.sql_parse.specs.Symbols.{mark_number, same, sees, level, level_at}
use Rattle.sql_parse.specs.Rules.{After, after, Many, none, more, Parted, parted}
use Rattle.sql_parse.specs.descent.Reading as read
use Rattle.sql_parse.specs.descent.Reading.{◌>>=◌, under, behind, many}

-- the value of a step that gave one
pub bind_some : {A B : Type 0} (o : Option A) (f : A → Option B) (y : B) → (o >>= f) ≡ Some y → (x : A) × (o ≡ Some x) × (f x ≡ Some y)
bind_some None f y e = absurd cc
bind_some (Some x) f y e = (x, refl, e)

pub under_some : {A B : Type 0} (f : A → B) (o : Option (A × List Kind)) (y : B × List Kind) → under f o ≡ Some y → (x : A × List Kind) × (o ≡ Some x) × ((f x.0, x.1) ≡ y)
under_some f None y e = absurd cc
under_some f (Some x) y e = (x, refl, cc)

abbrev pub given : {A : Type 0} → A → Option A
given x = Some x

pub some_is : {A : Type 0} (x y : A) → given x ≡ given y → x ≡ y
some_is x y e = cc

-- which way a test went
pub chosen : {A : Type 0} (b : Bool) (x y z : A) → cond b x y ≡ z → ((b ≡ true) × (x ≡ z)) ⊎ ((b ≡ false) × (y ≡ z))
chosen true x y z e = inl (refl, e)
chosen false x y z e = inr (refl, e)

pub guard : {A : Type 0} (b : Bool) (o : Option A) (y : A) → cond b o None ≡ Some y → (b ≡ true) × (o ≡ Some y)
guard true o y e = (refl, e)
guard false o y e = absurd cc

pub guard_not : {A : Type 0} (b : Bool) (o : Option A) (y : A) → cond b None o ≡ Some y → (b ≡ false) × (o ≡ Some y)
guard_not true o y e = absurd cc
guard_not false o y e = (refl, e)

-- ---- tokens

abbrev marks : List MarkName
marks = mark.OpenParenthesis ∷ mark.CloseParenthesis ∷ mark.Comma ∷ mark.Period ∷ mark.Semicolon ∷ mark.Asterisk ∷ mark.Plus ∷ mark.Minus
    ∷ mark.Equal ∷ mark.Less ∷ mark.Greater ∷ mark.LessGreater ∷ mark.NotEqual ∷ mark.LessEqual ∷ mark.GreaterEqual ∷ mark.Arrow ∷ []

abbrev mark_at : ℕ → MarkName
mark_at n = get_or marks n mark.OpenParenthesis

mark_back : (m : MarkName) → mark_at (mark_number m) ≡ m
mark_back mark.OpenParenthesis = refl
mark_back mark.CloseParenthesis = refl
mark_back mark.Comma = refl
mark_back mark.Period = refl
mark_back mark.Semicolon = refl
mark_back mark.Asterisk = refl
mark_back mark.Plus = refl
mark_back mark.Minus = refl
mark_back mark.Equal = refl
mark_back mark.Less = refl
mark_back mark.Greater = refl
mark_back mark.LessGreater = refl
mark_back mark.NotEqual = refl
mark_back mark.LessEqual = refl
mark_back mark.GreaterEqual = refl
mark_back mark.Arrow = refl

pub mark_is : (a b : MarkName) → (mark_number a == mark_number b) ≡ true → a ≡ b
mark_is a b e = sym (mark_back a) ∙ ap mark_at (eqb-true (mark_number a) (mark_number b) e) ∙ mark_back b

pub same_is : (a b : Kind) → same a b ≡ true → a ≡ b
same_is (Word a) (Word b) e = ap (λ (w : List ℕ). Word w) ((bytes_eq-Decides a b).0 e)
same_is (Mark a) (Mark b) e = ap (λ (m : MarkName). Mark m) (mark_is a b e)
same_is (Word a) (Quoted b) e = absurd cc
same_is (Word a) (Number b) e = absurd cc
same_is (Word a) (Text b) e = absurd cc
same_is (Word a) (Mark b) e = absurd cc
same_is (Mark a) (Word b) e = absurd cc
same_is (Mark a) (Quoted b) e = absurd cc
same_is (Mark a) (Number b) e = absurd cc
same_is (Mark a) (Text b) e = absurd cc
same_is (Quoted a) b e = absurd cc
same_is (Number a) b e = absurd cc
same_is (Text a) b e = absurd cc

pub sees_is : (k : Kind) (i : List Kind) → sees k i ≡ true → i ≡ k ∷ behind i
sees_is k [] e = absurd cc
sees_is k (t ∷ ts) e = ap (λ (u : Kind). u ∷ ts) (sym (same_is k t e))

pub expect_is : (k : Kind) (i o : List Kind) → read.expect k i ≡ Some o → i ≡ k ∷ o
expect_is k i o e =
    let t = guard (sees k i) (Some (behind i)) o e in sees_is k i t.0 ∙ ap (λ (r : List Kind). k ∷ r) (some_is (behind i) o t.1)

-- a token that goes on further up is none that goes on here
pub not_seen : (k : Kind) (i : List Kind) (n : ℕ) → level k ≤ n → n < level_at i → sees k i ≡ false
not_seen k i n low high = go (sees k i) refl
  where
    go : (b : Bool) → sees k i ≡ b → b ≡ false
    go false e = refl
    go true e = let at : level_at i ≡ level k = ap level_at (sees_is k i e) in absurd (omega (arith, at))

-- ---- readers and rules

-- The reader gives what the rule derives, where the rule's part ends. `F` says where it ends.
pub record Exact {A : Type 0} (P : List Kind → A → List Kind → Type 0) (p : List Kind → Option (A × List Kind)) (F : List Kind → Type 0) : Type 0 where
  pub sound : (i : List Kind) (y : A × List Kind) → p i ≡ Some y → P i y.0 y.1
  pub complete : (i o : List Kind) (x : A) → P i x o → F o → p i ≡ Some (x, o)
  pub shorter : (i o : List Kind) (x : A) → P i x o → length o < length i

abbrev pub Above : ℕ → List Kind → Type 0
Above n o = n < level_at o

-- the same of what a loop takes, once it has seen that another begins
pub record Repeats {A : Type 0} (P : List Kind → A → List Kind → Type 0) (p : List Kind → Option (A × List Kind)) (starts : List Kind → Bool) (F : List Kind → Type 0) : Type 0 where
  pub sound : (i : List Kind) (y : A × List Kind) → starts i ≡ true → p i ≡ Some y → P i y.0 y.1
  pub complete : (i o : List Kind) (x : A) → P i x o → F o → p i ≡ Some (x, o)
  pub begins : (i o : List Kind) (x : A) → P i x o → starts i ≡ true
  pub follows : (i o : List Kind) (x : A) → P i x o → F i
  pub shorter : (i o : List Kind) (x : A) → P i x o → length o < length i

module _ {A : Type 0} (P : List Kind → A → List Kind → Type 0) (p : List Kind → Option (A × List Kind)) (starts : List Kind → Bool) (F : List Kind → Type 0) (r : Repeats P p starts F) where
  pub many_sound : (n : ℕ) (found : List A) (i : List Kind) (y : List A × List Kind) → many starts p n found i ≡ Some y → (xs : List A) × (y.0 ≡ found ++ xs) × Many P i xs y.1
  unfolding many
  many_sound zero found i y e =
      subst (λ (z : List A × List Kind). (xs : List A) × (z.0 ≡ found ++ xs) × Many P i xs z.1) (some_is (found, i) y e) ([], sym (append-nil found), none)
  many_sound (suc n) found i y e =
      elim (chosen (starts i) (p i >>= λ x. many starts p n (found ++ x.0 ∷ []) x.1) (Some (found, i)) (Some y) e) [
        | inl t ↦
            let b = bind_some (p i) (λ x. many starts p n (found ++ x.0 ∷ []) x.1) y t.1 in
            let others = many_sound n (found ++ b.0.0 ∷ []) b.0.1 y b.2 in
            (b.0.0 ∷ others.0, others.1 ∙ append_assoc found (b.0.0 ∷ []) others.0, more (r.sound i b.0 t.0 b.1) others.2)
        | inr t ↦ subst (λ (z : List A × List Kind). (xs : List A) × (z.0 ≡ found ++ xs) × Many P i xs z.1) (some_is (found, i) y t.1) ([], sym (append-nil found), none)
      ]

  pub many_follows : (i o : List Kind) (xs : List A) → Many P i xs o → F o → F i
  many_follows i o xs none f = f
  many_follows i o xs (more {m = m} {x = x} d ds) f = r.follows i m x d

  pub many_shorter : (i o : List Kind) (xs : List A) → Many P i xs o → length o ≤ length i
  many_shorter i o xs none = omega arith
  many_shorter i o xs (more {m = m} {x = x} {xs = ys} d ds) = omega (arith, r.shorter i m x d, many_shorter m o ys ds)

  pub many_complete : (n : ℕ) (found : List A) (i o : List Kind) (xs : List A) → Many P i xs o → F o → starts o ≡ false → length i ≤ n → many starts p n found i ≡ Some (found ++ xs, o)
  unfolding many
  many_complete zero found i o xs none f stops long = ap (λ (ys : List A). given (ys, o)) (sym (append-nil found))
  many_complete zero found i o xs (more {m = m} {x = x} d ds) f stops long = absurd (omega (arith, r.shorter i m x d))
  many_complete (suc n) found i o xs none f stops long = rw stops (ap (λ (ys : List A). given (ys, o)) (sym (append-nil found)))
  many_complete (suc n) found i o xs (more {m = m} {x = x} {xs = ys} d ds) f stops long =
      let goes : starts i ≡ true = r.begins i m x d in
      let one : p i ≡ Some (x, m) = r.complete i m x d (many_follows m o ys ds f) in
      let others : many starts p n (found ++ x ∷ []) m ≡ Some ((found ++ x ∷ []) ++ ys, o) = many_complete n (found ++ x ∷ []) m o ys ds f stops (omega (arith, r.shorter i m x d)) in
      rw (goes, one) (others ∙ ap (λ (zs : List A). given (zs, o)) (append_assoc found (x ∷ []) ys))

module _ {A : Type 0} (k : Kind) (P : List Kind → A → List Kind → Type 0) (p : List Kind → Option (A × List Kind)) (F : List Kind → Type 0) (r : Exact P p F) (itself : same k k ≡ true) (goes_on : (i : List Kind) → F (k ∷ i)) where
  pub after_repeats : Repeats (After k P) (read.after p) (sees k) F
  after_repeats = record {
    sound = λ i y s e. subst (λ (j : List Kind). After k P j y.0 y.1) (sym (sees_is k i s)) (after (r.sound (behind i) y e));
    complete = complete;
    begins = begins;
    follows = follows;
    shorter = shorter;
  }
    where
      complete : (i o : List Kind) (x : A) → After k P i x o → F o → read.after p i ≡ Some (x, o)
      complete i o x (after {i = j} d) f = r.complete j o x d f

      begins : (i o : List Kind) (x : A) → After k P i x o → sees k i ≡ true
      begins i o x (after d) = itself

      follows : (i o : List Kind) (x : A) → After k P i x o → F i
      follows i o x (after {i = j} d) = goes_on j

      shorter : (i o : List Kind) (x : A) → After k P i x o → length o < length i
      shorter i o x (after {i = j} d) = omega (arith, r.shorter j o x d)

  -- x {k x} ends where no k follows
  pub parted_exact : (G : List Kind → Type 0) → ((o : List Kind) → G o → F o) → ((o : List Kind) → G o → sees k o ≡ false) → Exact (Parted k P) (read.parted k p) G
  unfolding read.parted
  parted_exact G ends stops = record { sound = sound; complete = complete; shorter = shorter }
    where
      sound : (i : List Kind) (y : List A × List Kind) → read.parted k p i ≡ Some y → Parted k P i y.0 y.1
      sound i y e =
          let b = bind_some (p i) (λ x. many (sees k) (read.after p) (length x.1) (x.0 ∷ []) x.1) y e in
          let others = many_sound (After k P) (read.after p) (sees k) F after_repeats (length b.0.1) (b.0.0 ∷ []) b.0.1 y b.2 in
          subst (λ (xs : List A). Parted k P i xs y.1) (sym others.1) (parted (r.sound i b.0 b.1) others.2)

      complete : (i o : List Kind) (xs : List A) → Parted k P i xs o → G o → read.parted k p i ≡ Some (xs, o)
      complete i o xs (parted {m = m} {x = x} {xs = ys} d ds) g =
          let one : p i ≡ Some (x, m) = r.complete i m x d (many_follows (After k P) (read.after p) (sees k) F after_repeats m o ys ds (ends o g)) in
          rw one (many_complete (After k P) (read.after p) (sees k) F after_repeats (length m) (x ∷ []) m o ys ds (ends o g) (stops o g) (omega arith))

      shorter : (i o : List Kind) (xs : List A) → Parted k P i xs o → length o < length i
      shorter i o xs (parted {m = m} {x = x} {xs = ys} d ds) =
          omega (arith, r.shorter i m x d, many_shorter (After k P) (read.after p) (sees k) F after_repeats m o ys ds)
