-- Blanks and comments: what is scanned is what the definition says.
use Rattle.std.proofs.Common.{◌≡◌, ℕ, ◌+◌, Bool, true, false, ◌&&◌, List, [], ◌∷◌, ◌++◌, length, take, drop, Option, Some, None, refl, sym, ap, subst, ◌∙◌, append_assoc, arith, inl, inr, length-append}
use Rattle.std.specs.Prelude.{◌==◌, not, codes}
use Rattle.std.specs.Str.{is_utf8}
use Rattle.std.proofs.lemmas.Bool.{eqb-true}
use Rattle.std.proofs.lemmas.List.{take_at, drop_at, take-append-drop}
use Rattle.std.proofs.lemmas.Str.{IsUtf8-from_is_utf8, is_utf8-from_IsUtf8}
use Rattle.sql_lex.specs.Bytes.{is_blank, is_line_byte, begins_with}
use Rattle.sql_lex.specs.descent.Scan as read
use Rattle.sql_lex.specs.descent.Scan.{behind}
use Rattle.sql_lex.specs.Tokens as g
use Rattle.sql_lex.specs.Tokens.{has_no_end, StartsGap, StartsNoGap, IsGap}
use Rattle.sql_lex.proofs.Choices.{given, some_is, chosen, guard, both, begins_is}
use Rattle.sql_lex.proofs.Runs.{front_run, past_run, run_of}

-- ---- comments of several lines

abbrev with_end : List ℕ → List ℕ → List ℕ
with_end text rest = text ++ 42 ∷ 47 ∷ rest

no_pair : (v : Bool) (text i o : List ℕ) → i ≡ with_end text o → (v && begins_with 47 i) ≡ false → not (v && begins_with 47 text) ≡ true
no_pair false text i o e h = refl
no_pair true [] i o e h = refl
no_pair true (c ∷ text) i o e h = let no : (c == 47) ≡ false = rw e at h in rw no refl

comment_split : (k : ℕ) (i : List ℕ) (n : ℕ) → read.comment_len k i ≡ Some n → (text o : List ℕ) × (i ≡ with_end text o) × (has_no_end text ≡ true) × (n ≡ k + length text)
unfolding read.comment_len
comment_split k [] n h = absurd cc
comment_split k (b ∷ i) n h =
    elim (chosen (b == 42 && begins_with 47 i) (Some k) (read.comment_len (k + 1) i) (Some n) h) [
      | inl t ↦
          let e = both (b == 42) (begins_with 47 i) t.0 in
          let same = some_is k n t.1 in
          ([], behind i, ap (λ (c : ℕ). c ∷ i) (eqb-true b 42 e.0) ∙ ap (λ (r : List ℕ). 42 ∷ r) (begins_is 47 i e.1), refl, omega (arith, same))
      | inr t ↦
          let r = comment_split (k + 1) i n t.1 in
          (b ∷ r.0, r.1, ap (λ (j : List ℕ). b ∷ j) r.2, rw (no_pair (b == 42) r.0 i r.1 r.2 t.0, r.3) refl, omega (arith, r.4))
    ]

unpaired : (v : Bool) (text o : List ℕ) → not (v && begins_with 47 text) ≡ true → (v && begins_with 47 (with_end text o)) ≡ false
unpaired false text o h = refl
unpaired true [] o h = refl
unpaired true (c ∷ text) o h = go (c == 47) h
  where
    go : (w : Bool) → not w ≡ true → w ≡ false
    go false h = refl
    go true h = absurd cc

comment_joined : (k : ℕ) (text o : List ℕ) → has_no_end text ≡ true → read.comment_len k (with_end text o) ≡ Some (k + length text)
unfolding read.comment_len
comment_joined k [] o h = let zero : k ≡ k + 0 = omega arith in ap (λ (n : ℕ). given n) zero
comment_joined k (b ∷ text) o h =
    let t = both (not (b == 42 && begins_with 47 text)) (has_no_end text) h in
    let more : (k + 1) + length text ≡ k + length (b ∷ text) = omega arith in
    rw (unpaired (b == 42) text o t.0) (comment_joined (k + 1) text o t.1 ∙ ap (λ (n : ℕ). given n) more)

-- the front and the rest of a comment's bytes
taken : (i text o : List ℕ) (n : ℕ) → i ≡ with_end text o → n ≡ length text → take n i ≡ text
taken i text o n e same = ap (take n) e ∙ take_at text (42 ∷ 47 ∷ o) n (sym same)

dropped : (i text o : List ℕ) (n : ℕ) → i ≡ with_end text o → n ≡ length text → drop (n + 2) i ≡ o
dropped i text o n e same =
    let long : length (text ++ 42 ∷ 47 ∷ []) ≡ n + 2 = omega (arith, length-append text (42 ∷ 47 ∷ [])) in
    ap (drop (n + 2)) (e ∙ sym (append_assoc text (42 ∷ 47 ∷ []) o)) ∙ drop_at (text ++ 42 ∷ 47 ∷ []) o (n + 2) long

block_sound : (i o : List ℕ) → read.block i ≡ Some o → StartsGap (47 ∷ 42 ∷ i) o
unfolding read.block
block_sound i o h = go (read.comment_len 0 i) refl h
  where
    go : (l : Option ℕ) → read.comment_len 0 i ≡ l → read.block_of_len i l ≡ Some o → StartsGap (47 ∷ 42 ∷ i) o
    go None at h = absurd cc
    go (Some n) at h =
        let t = guard (is_utf8 (take n i)) (Some (drop (n + 2) i)) o h in
        let s = comment_split 0 i n at in
        let len : n ≡ length s.0 = omega (arith, s.4) in
        let ends : s.1 ≡ o = sym (dropped i s.0 s.1 n s.2 len) ∙ some_is (drop (n + 2) i) o t.1 in
        let text_utf8 : is_utf8 s.0 ≡ true = subst (λ (x : List ℕ). is_utf8 x ≡ true) (taken i s.0 s.1 n s.2 len) t.0 in (
          codes "/*" ++ (s.0 ++ codes "*/"),
          ap (λ (r : List ℕ). 47 ∷ 42 ∷ r) (s.2 ∙ ap (λ (r : List ℕ). with_end s.0 r) ends ∙ sym (append_assoc s.0 (42 ∷ 47 ∷ []) o)),
          g.block_comment s.3 (IsUtf8-from_is_utf8 s.0 text_utf8),
        )

block_complete : (text o : List ℕ) → has_no_end text ≡ true → is_utf8 text ≡ true → (i : List ℕ) → i ≡ with_end text o → read.block i ≡ Some o
unfolding read.block
block_complete text o h u i e =
    let at : read.comment_len 0 i ≡ Some (0 + length text) = ap (read.comment_len 0) e ∙ comment_joined 0 text o h in
    let zero : 0 + length text ≡ length text = omega arith in
    rw (at, zero, taken i text o (length text) e refl, u, dropped i text o (length text) e refl) refl

-- ---- comments of one line

line_sound : (i o : List ℕ) → read.line i ≡ Some o → StartsGap (45 ∷ 45 ∷ i) o
unfolding read.line
line_sound i o h =
    let t = guard (is_utf8 (read.front is_line_byte i)) (Some (read.past is_line_byte i)) o h in
    let ends : read.past is_line_byte i ≡ o = some_is (read.past is_line_byte i) o t.1 in
    subst (λ (r : List ℕ). StartsGap (45 ∷ 45 ∷ i) r) ends (
      codes "--" ++ read.front is_line_byte i,
      ap (λ (r : List ℕ). 45 ∷ 45 ∷ r) (sym (take-append-drop _ i)),
      g.line_comment (run_of is_line_byte i) (IsUtf8-from_is_utf8 _ t.0),
    )

-- ---- all

pub gap_sound : (i o : List ℕ) → read.gap i ≡ Some o → StartsGap i o
unfolding read.gap
gap_sound [] o h = absurd cc
gap_sound (b ∷ i) o h =
    elim (chosen (is_blank b) (Some i) _ (Some o) h) [
      | inl t ↦ (b ∷ [], ap (λ (r : List ℕ). b ∷ r) (some_is i o t.1), g.blank t.0)
      | inr t ↦ elim (chosen (b == 45 && begins_with 45 i) (read.line (behind i)) _ (Some o) t.1) [
        | inl u ↦
            let e = both (b == 45) (begins_with 45 i) u.0 in
            let here : b ∷ i ≡ 45 ∷ 45 ∷ behind i = ap (λ (c : ℕ). c ∷ i) (eqb-true b 45 e.0) ∙ ap (λ (r : List ℕ). 45 ∷ r) (begins_is 45 i e.1) in
            subst (λ (j : List ℕ). StartsGap j o) (sym here) (line_sound (behind i) o u.1)
        | inr u ↦
            let v = guard (b == 47 && begins_with 42 i) (read.block (behind i)) o u.1 in
            let e = both (b == 47) (begins_with 42 i) v.0 in
            let here : b ∷ i ≡ 47 ∷ 42 ∷ behind i = ap (λ (c : ℕ). c ∷ i) (eqb-true b 47 e.0) ∙ ap (λ (r : List ℕ). 47 ∷ r) (begins_is 42 i e.1) in
            subst (λ (j : List ℕ). StartsGap j o) (sym here) (block_sound (behind i) o v.1)
      ]
    ]

pub gap_complete : (text o : List ℕ) → IsGap text o → read.gap (text ++ o) ≡ Some o
unfolding read.gap read.line
gap_complete text o (g.blank e) = rw e refl
gap_complete text o (g.line_comment {text = t} r u) = rw (front_run is_line_byte t o r, past_run is_line_byte t o r, is_utf8-from_IsUtf8 t u) refl
gap_complete text o (g.block_comment {text = t} n u) = block_complete t o n (is_utf8-from_IsUtf8 t u) ((t ++ codes "*/") ++ o) (append_assoc t (codes "*/") o)

-- a gap at the front is found
pub gap_found : (i o : List ℕ) → StartsGap i o → read.gap i ≡ Some o
gap_found i o s = ap read.gap s.1 ∙ gap_complete s.0 o s.2

pub no_gap : (i : List ℕ) → read.gap i ≡ None → StartsNoGap i
no_gap i h = λ o s. let found = gap_found i o s in absurd cc

pub one_gap : (i o p : List ℕ) → StartsGap i o → StartsGap i p → o ≡ p
one_gap i o p s t = some_is o p (sym (gap_found i o s) ∙ gap_found i p t)
