-- The words of a name, and the first name whose words come next.
use Rattle.std.proofs.Common.{◌≡◌, ◌≤◌, List, [], ◌∷◌, ◌++◌, ℕ, Bool, true, false, cond, Option, Some, None, refl, sym, ap, subst, ◌∙◌, length, arith, lit<, Bor, eqb}
use Rattle.std.specs.List.{position_or_len, after_first, join_with_byte, starts_with}
use Rattle.std.proofs.lemmas.Bool.Decides.{Decides-eqb}
use Rattle.std.proofs.lemmas.List.{append-nil}
use Rattle.std.proofs.lemmas.List.Splits.{slice_split_first, length-slice_split, join_with_byte-slice_split}
use Rattle.std.proofs.lemmas.Slice.Eq.{starts_is}
use Rattle.std.proofs.lemmas.Str.Pattern.{IsSplitOnceResult, split_once_first}
use Rattle.sql_lex.specs.declared.token.Kind.{Kind}
use Rattle.sql_lex.specs.declared.token.Kind.TheVariants.{Word}
use Rattle.sql_parse.specs.Privileges.{tokens_of, words}
use Rattle.sql_parse.specs.Symbols.{sees}
use Rattle.sql_parse.specs.descent.Reading.{behind, expect}
use Rattle.sql_parse.proofs.Exact.{some_is, guard, sees_is}
use Rattle.sql_parse_admin.specs.descent.ReadWords.{begins, past_words, found_or, first_of}

-- ---- the words of a name

pub words_first : (name : List ℕ) (x : Bor (List ℕ) × Bor (List ℕ)) → IsSplitOnceResult 32 name (Some x) → words name ≡ x.0.now ∷ words x.1.now
words_first name x h =
    let s = split_once_first 32 name (Some x) h (lit< tt) in
    slice_split_first (λ b. eqb b 32) name 0 s.0 ∙ ap (λ w. w ∷ words (after_first (λ b. eqb b 32) name)) (sym s.1) ∙ ap (λ o. x.0.now ∷ words o) (sym s.2)

no_blank : (name : List ℕ) → position_or_len (λ b. eqb b 32) name ≡ length name → words name ≡ name ∷ []
no_blank [] h = refl
no_blank (b ∷ name) h = go (eqb b 32) refl (λ e. no_blank name (omega (arith, rw e at h)))
  where
    go : (t : Bool) → eqb b 32 ≡ t → (eqb b 32 ≡ false → words name ≡ name ∷ []) → words (b ∷ name) ≡ (b ∷ name) ∷ []
    go true e others = absurd (omega (arith, rw e at h))
    go false e others = rw (e, others e) refl

pub one_word : (name : List ℕ) → IsSplitOnceResult 32 name None → words name ≡ name ∷ []
one_word name h = no_blank name (split_once_first 32 name None h (lit< tt))

-- ---- past them

pub last_word : (name : List ℕ) (i : List Kind) (r : Option (List Kind)) → words name ≡ name ∷ [] → r ≡ expect (Word name) i → r ≡ past_words (words name) i
last_word name i r one is = rw one is

pub no_word : (name w : List ℕ) (ws : List (List ℕ)) (i : List Kind) → words name ≡ w ∷ ws → expect (Word w) i ≡ None → past_words (words name) i ≡ None
no_word name w ws i parts is = rw parts (go (sees (Word w) i) is)
  where
    go : (t : Bool) → cond t (Some (behind i)) None ≡ None → cond t (past_words ws (behind i)) None ≡ None
    go true e = absurd cc
    go false e = refl

pub next_word : (name w : List ℕ) (ws : List (List ℕ)) (i o : List Kind) → words name ≡ w ∷ ws → expect (Word w) i ≡ Some o → past_words (words name) i ≡ past_words ws o
next_word name w ws i o parts is = rw parts (go (sees (Word w) i) is)
  where
    go : (t : Bool) → cond t (Some (behind i)) None ≡ Some o → cond t (past_words ws (behind i)) None ≡ past_words ws o
    go true e = cc
    go false e = absurd cc

-- ---- a name that begins with another word

first_front : (w : List ℕ) (ws : List (List ℕ)) → (rest : List ℕ) × (join_with_byte 32 (w ∷ ws) ≡ w ++ rest)
first_front w [] = ([], sym (append-nil w))
first_front w (v ∷ ws) = (32 ∷ join_with_byte 32 (v ∷ ws), refl)

first_unseen : (name w rest : List ℕ) (i : List Kind) → name ≡ w ++ rest → begins name i ≡ false → sees (Word w) i ≡ false
first_unseen name w rest i whole h = go (sees (Word w) i) refl
  where
    go : (b : Bool) → sees (Word w) i ≡ b → b ≡ false
    go false s = refl
    go true s =
        let other : starts_with (λ a b. eqb a b) name w ≡ false = subst (λ (j : List Kind). begins name j ≡ false) (sees_is (Word w) i s) h in
        let front : starts_with (λ a b. eqb a b) name w ≡ true = (starts_is Decides-eqb name w (starts_with (λ a b. eqb a b) name w) refl).1 rest whole in absurd cc

pub not_begun : (name : List ℕ) (i : List Kind) → begins name i ≡ false → past_words (words name) i ≡ None
not_begun name i h = go (words name) refl
  where
    go : (ws : List (List ℕ)) → words name ≡ ws → past_words ws i ≡ None
    go [] parts =
        let some : 1 ≤ length (words name) = omega (arith, length-slice_split (λ b. eqb b 32) name) in absurd (omega (arith, rw parts at some))
    go (w ∷ ws) parts =
        let f = first_front w ws in
        let whole : name ≡ w ++ f.0 = sym (join_with_byte-slice_split 32 name) ∙ ap (λ (xs : List (List ℕ)). join_with_byte 32 xs) parts ∙ f.1 in
        rw (first_unseen name w f.0 i whole h) refl

-- ---- the first name whose words come next

words_sound : (ws : List (List ℕ)) (i o : List Kind) → past_words ws i ≡ Some o → i ≡ tokens_of ws ++ o
words_sound [] i o h = some_is i o h
words_sound (w ∷ ws) i o h =
    let t = guard (sees (Word w) i) (past_words ws (behind i)) o h in
    sees_is (Word w) i t.0 ∙ ap (λ (j : List Kind). Word w ∷ j) (words_sound ws (behind i) o t.1)

pub first_sound : {A : Type 0} (words_of : A → List (List ℕ)) (xs : List A) (i : List Kind) (y : A × List Kind) → first_of words_of xs i ≡ Some y → i ≡ tokens_of (words_of y.0) ++ y.1
first_sound words_of [] i y h = absurd cc
first_sound {A} words_of (x ∷ xs) i y h = go (first_sound words_of xs i y) (past_words (words_of x) i) refl h
  where
    go : (first_of words_of xs i ≡ Some y → i ≡ tokens_of (words_of y.0) ++ y.1) → (o : Option (List Kind)) → past_words (words_of x) i ≡ o → found_or x o (first_of words_of xs i) ≡ Some y → i ≡ tokens_of (words_of y.0) ++ y.1
    go others (Some o) at h = subst (λ (z : A × List Kind). i ≡ tokens_of (words_of z.0) ++ z.1) (some_is (x, o) y h) (words_sound (words_of x) i o at)
    go others None at h = others h
