-- What may follow a part, as a list of tokens; and parts that may be left out or stand in parentheses.
use Rattle.std.proofs.Common.{◌≡◌, ℕ, ◌<◌, Bool, true, false, cond, not, ◌&&◌, ◌||◌, List, [], ◌∷◌, length, Option, Some, None, refl, sym, subst, arith, inl, inr}
use Rattle.std.specs.Prelude.{codes, nat_lt, is_some}
use Rattle.std.specs.List.{list_all, list_any}
use Rattle.std.proofs.lemmas.Bool.{ltb-true}
use Rattle.sql_lex.specs.declared.token.Kind.{Kind}
use Rattle.sql_lex.specs.declared.token.Kind.TheVariants.{Word}
use Rattle.sql_parse.specs.Symbols.{same, sees, closing, semicolon, level}
use Rattle.sql_parse.specs.Rules.{After, after, Before, before, Maybe, without, written, Optional, absent, present}
use Rattle.sql_parse.specs.descent.Reading as read
use Rattle.sql_parse.specs.descent.Reading.{◌>>=◌, under, behind, expect, name_of}
use Rattle.sql_parse.specs.descent.ReadTables.{clause, closed, past}
use Rattle.sql_parse.proofs.Exact.{bind_some, under_some, some_is, chosen, same_is, sees_is, expect_is, Exact, Above}

-- nothing comes next, or one of these tokens
abbrev pub OneOf : List Kind → List Kind → Type 0
OneOf ks [] = Unit {0}
OneOf ks (t ∷ o) = list_any (λ k. same k t) ks ≡ true

among : (p : Kind → Bool) (ks : List Kind) (t : Kind) → list_all p ks ≡ true → list_any (λ k. same k t) ks ≡ true → p t ≡ true
among p [] t all any = absurd cc
among p (k ∷ ks) t all any = go (among p ks t) (same k t) (p k) refl refl all any
  where
    go : (list_all p ks ≡ true → list_any (λ k. same k t) ks ≡ true → p t ≡ true) → (b c : Bool) → same k t ≡ b → p k ≡ c → (c && list_all p ks) ≡ true → (b || list_any (λ k. same k t) ks) ≡ true → p t ≡ true
    go rest b false e h l m = absurd cc
    go rest true true e h l m = subst (λ (u : Kind). p u ≡ true) (same_is k t e) h
    go rest false true e h l m = rest l m

-- so what is true of each of the tokens is true of the next
pub unseen : (j : Kind) (ks : List Kind) (o : List Kind) → list_all (λ k. not (same j k)) ks ≡ true → OneOf ks o → sees j o ≡ false
unseen j ks [] all f = refl
unseen j ks (t ∷ o) all f = let it = among (λ k. not (same j k)) ks t all f in flip (same j t) it
  where
    flip : (b : Bool) → not b ≡ true → b ≡ false
    flip false h = refl
    flip true h = absurd cc

pub above : (n : ℕ) (ks : List Kind) (o : List Kind) → n < 7 → list_all (λ k. nat_lt n (level k)) ks ≡ true → OneOf ks o → Above n o
above n ks [] small all f = small
above n ks (t ∷ o) small all f = ltb-true n (level t) (among (λ k. nat_lt n (level k)) ks t all f)

abbrev pub nameless : Kind → Bool
nameless k = not (is_some (name_of k))

pub no_name : (ks : List Kind) (o : List Kind) → list_all nameless ks ≡ true → OneOf ks o → read.name o ≡ None
unfolding read.name
no_name ks [] all f = refl
no_name ks (t ∷ o) all f = go (name_of t) (among nameless ks t all f)
  where
    go : (x : Option (List ℕ)) → not (is_some x) ≡ true → (let pair : List ℕ → Option (List ℕ × List Kind) = λ n. Some (n, o) in (x >>= pair)) ≡ None
    go None h = refl
    go (Some x) h = absurd cc

abbrev pub WHERE : Kind
WHERE = Word (codes "WHERE")

abbrev pub ORDER : Kind
ORDER = Word (codes "ORDER")

-- what may follow a statement
abbrev pub LAST : List Kind
LAST = semicolon ∷ []

-- where a part ends whatever follows
abbrev pub Anywhere : List Kind → Type 0
Anywhere o = Unit {0}

-- ---- a clause that may be left out

pub clause_first : {A : Type 0} (k : Kind) (P : List Kind → A → List Kind → Type 0) (ks i o : List Kind) (x : Option A) → same k k ≡ true → Optional (After k P) i x o → OneOf ks o → OneOf (k ∷ ks) i
clause_first k P ks i [] x itself absent f = tt
clause_first k P ks i (t ∷ o) x itself absent f = go (same k t) f
  where
    go : (b : Bool) → list_any (λ k. same k t) ks ≡ true → (b || list_any (λ k. same k t) ks) ≡ true
    go true h = refl
    go false h = h
clause_first k P ks i o x itself (present (after d)) f = rw itself refl

module _ {A : Type 0} (k : Kind) (P : List Kind → A → List Kind → Type 0) (p : List Kind → Option (A × List Kind)) (F : List Kind → Type 0) (r : Exact P p F) (itself : same k k ≡ true) where
  pub clause_sound : (i : List Kind) (y : Option A × List Kind) → clause k p i ≡ Some y → Optional (After k P) i y.0 y.1
  clause_sound i y h =
      elim (chosen (sees k i) (under (λ x. Some x) (p (behind i))) (Some (None, i)) (Some y) h) [
        | inl t ↦
            let b = under_some (λ (x : A). Some x) (p (behind i)) y t.1 in
            subst (λ (z : Option A × List Kind). Optional (After k P) i z.0 z.1) b.2
            (present (subst (λ (j : List Kind). After k P j b.0.0 b.0.1) (sym (sees_is k i t.0)) (after (r.sound (behind i) b.0 b.1))))
        | inr t ↦ subst (λ (z : Option A × List Kind). Optional (After k P) i z.0 z.1) (some_is (None, i) y t.1) absent
      ]

  pub clause_complete : (i o : List Kind) (x : Option A) → Optional (After k P) i x o → F o → sees k o ≡ false → clause k p i ≡ Some (x, o)
  clause_complete i o x absent f stops = rw stops refl
  clause_complete i o x (present (after {i = j} {x = y} d)) f stops = rw (itself, r.complete j o y d f) refl

-- ---- a token that may be left out

pub past_sound : (k : Kind) (i : List Kind) → Maybe k i (past k i)
past_sound k i = go (sees k i) refl
  where
    go : (b : Bool) → sees k i ≡ b → Maybe k i (cond b (behind i) i)
    go true e = subst (λ (j : List Kind). Maybe k j (behind i)) (sym (sees_is k i e)) written
    go false e = without

pub past_complete : (k : Kind) (i o : List Kind) → same k k ≡ true → Maybe k i o → sees k o ≡ false → past k i ≡ o
past_complete k i o itself without stops = rw stops refl
past_complete k i o itself written stops = rw itself refl

-- ---- a part before a closing parenthesis

module _ {A : Type 0} (P : List Kind → A → List Kind → Type 0) (p : List Kind → Option (A × List Kind)) (F : List Kind → Type 0) (r : Exact P p F) (ends : (o : List Kind) → F (closing ∷ o)) where
  pub closed_exact : Exact (Before closing P) (closed p) Anywhere
  closed_exact = record { sound = sound; complete = complete; shorter = shorter }
    where
      sound : (i : List Kind) (y : A × List Kind) → closed p i ≡ Some y → Before closing P i y.0 y.1
      sound i y h =
          let b = bind_some (p i) (λ x. expect closing x.1 >>= λ o. Some (x.0, o)) y h in
          let c = bind_some (expect closing b.0.1) (λ o. Some (b.0.0, o)) y b.2 in
          subst (λ (z : A × List Kind). Before closing P i z.0 z.1) (some_is (b.0.0, c.0) y c.2)
          (before (subst (λ (o : List Kind). P i b.0.0 o) (expect_is closing b.0.1 c.0 c.1) (r.sound i b.0 b.1)))

      complete : (i o : List Kind) (x : A) → Before closing P i x o → Anywhere o → closed p i ≡ Some (x, o)
      complete i o x (before d) f = rw (r.complete i (closing ∷ o) x d (ends o)) refl

      shorter : (i o : List Kind) (x : A) → Before closing P i x o → length o < length i
      shorter i o x (before d) = omega (arith, r.shorter i (closing ∷ o) x d)
