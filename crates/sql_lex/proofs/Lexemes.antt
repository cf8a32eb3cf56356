-- Tokens: what is scanned is what the definition says.
use Rattle.std.proofs.Common.{◌≡◌, ℕ, ◌<◌, ◌≤◌, ◌^◌, Bool, true, false, cond, List, [], ◌∷◌, ◌++◌, length, map, Option, Some, None, refl, sym, ap, subst, ◌∙◌, append_assoc, inl, inr, pos}
use Rattle.std.specs.Prelude.{◌==◌, nat_le, nat_lt, codes}
use Rattle.std.specs.Char.{to_ascii_uppercase}
use Rattle.std.specs.Str.{is_utf8}
use Rattle.std.specs.Str.Parse.{digits_value}
use Rattle.std.proofs.lemmas.Bool.{eqb-true}
use Rattle.std.proofs.lemmas.List.{append-nil, take-append-drop}
use Rattle.std.proofs.lemmas.Str.{IsUtf8-from_is_utf8, is_utf8-from_IsUtf8}
use Rattle.au_base.specs.Naming.{IsName}
use Rattle.sql_lex.specs.declared.token.Kind.{Kind}
use Rattle.sql_lex.specs.declared.token.Kind.TheVariants as kind
use Rattle.sql_lex.specs.Bytes.{is_digit, is_letter, is_quotable, is_word_byte, begins, begins_with}
use Rattle.sql_lex.specs.descent.Scan as read
use Rattle.sql_lex.specs.descent.Scan.{behind, front, past, is_name}
use Rattle.sql_lex.specs.Tokens as g
use Rattle.sql_lex.specs.Tokens.{doubled, Spells, StartsToken, StartsNoToken}
use Rattle.sql_lex.proofs.Choices.{given, some_is, chosen, guard, guard_not, begins_is}
use Rattle.sql_lex.proofs.Runs.{front_run, past_run, run_of, begins_run}
use Rattle.sql_lex.proofs.Decisions.{at_most, at_most_too, below, below_too, letter_in_word, digit_no_letter, name_is, name_test}
use Rattle.sql_lex.proofs.Marks.{mark_sound, mark_complete}

digit_in_number : (b : ℕ) → is_digit b ≡ true → is_digit b ≡ true
digit_in_number b h = h

-- ---- words, names and numbers

word_sound : (i : List ℕ) (y : Kind × List ℕ) → begins is_letter i ≡ true → read.word i ≡ Some y → StartsToken i y.0 y.1
unfolding read.word
word_sound i y letter h =
    let t = guard (nat_le (length (front is_word_byte i)) 128) (Some (kind.Word (map to_ascii_uppercase (front is_word_byte i)), past is_word_byte i)) y h in
    let e : i ≡ front is_word_byte i ++ past is_word_byte i = sym (take-append-drop _ i) in
    let run = run_of is_word_byte i in
    let first = begins_run is_word_byte is_letter i (front is_word_byte i) (past is_word_byte i) letter_in_word e run letter in
    subst (λ (z : Kind × List ℕ). StartsToken i z.0 z.1) (some_is (kind.Word (map to_ascii_uppercase (front is_word_byte i)), past is_word_byte i) y t.1)
    (front is_word_byte i, e, g.word first run (at_most (length (front is_word_byte i)) 128 t.0))

word_complete : (text o : List ℕ) → g.IsRun is_word_byte text o → length text ≤ 128 → read.word (text ++ o) ≡ Some (kind.Word (map to_ascii_uppercase text), o)
unfolding read.word
word_complete text o run short =
    rw (front_run is_word_byte text o run, past_run is_word_byte text o run, at_most_too (length text) 128 short) refl

number_sound : (i : List ℕ) (y : Kind × List ℕ) → begins is_digit i ≡ true → read.number i ≡ Some y → StartsToken i y.0 y.1
unfolding read.number
number_sound i y digit h =
    let v = digits_value 10 (front is_digit i) in
    let t = guard_not (begins is_word_byte (past is_digit i)) (cond (nat_lt v (10 ^ 18)) (Some (kind.Number (pos v), past is_digit i)) None) y h in
    let u = guard (nat_lt v (10 ^ 18)) (Some (kind.Number (pos v), past is_digit i)) y t.1 in
    let e : i ≡ front is_digit i ++ past is_digit i = sym (take-append-drop _ i) in
    let run = run_of is_digit i in
    let first = begins_run is_digit is_digit i (front is_digit i) (past is_digit i) digit_in_number e run digit in
    subst (λ (z : Kind × List ℕ). StartsToken i z.0 z.1) (some_is (kind.Number (pos v), past is_digit i) y u.1)
    (front is_digit i, e, g.number first run t.0 (below v (10 ^ 18) u.0))

number_complete : (text o : List ℕ) → g.IsRun is_digit text o → begins is_word_byte o ≡ false → digits_value 10 text < 10 ^ 18
    → read.number (text ++ o) ≡ Some (kind.Number (pos (digits_value 10 text)), o)
unfolding read.number
number_complete text o run stops small =
    rw (past_run is_digit text o run, stops, front_run is_digit text o run, below_too (digits_value 10 text) (10 ^ 18) small) refl

quoted_sound : (i : List ℕ) (y : Kind × List ℕ) → read.quoted i ≡ Some y → StartsToken (34 ∷ i) y.0 y.1
unfolding read.quoted
quoted_sound i y h =
    let name = front is_quotable i in
    let rest = past is_quotable i in
    let t = guard (begins_with 34 rest) (cond (is_name name) (Some (kind.Quoted name, behind rest)) None) y h in
    let u = guard (is_name name) (Some (kind.Quoted name, behind rest)) y t.1 in
    let e : i ≡ name ++ rest = sym (take-append-drop _ i) in
    let all : i ≡ (name ++ codes "\"") ++ behind rest =
    e ∙ ap (λ (r : List ℕ). name ++ r) (begins_is 34 rest t.0) ∙ sym (append_assoc name (codes "\"") (behind rest)) in
    subst (λ (z : Kind × List ℕ). StartsToken (34 ∷ i) z.0 z.1) (some_is (kind.Quoted name, behind rest) y u.1)
    (codes "\"" ++ (name ++ codes "\""), ap (λ (r : List ℕ). 34 ∷ r) all, g.quoted_name (run_of is_quotable i).passes (name_is name u.0))

quoted_complete : (name o i : List ℕ) → i ≡ name ++ 34 ∷ o → g.IsRun is_quotable name (34 ∷ o) → IsName name → read.quoted i ≡ Some (kind.Quoted name, o)
unfolding read.quoted
quoted_complete name o i e run is =
    rw (e, past_run is_quotable name (34 ∷ o) run, front_run is_quotable name (34 ∷ o) run, name_test name is) refl

-- ---- text literals

-- what was found before, and what the literal goes on with; the flag puts the quote back
abbrev Closes : Bool → List ℕ → List ℕ → List ℕ × List ℕ → Type 0
Closes m found i y = (u : List ℕ) × (y.0 ≡ found ++ u) × (cond m (39 ∷ i) i ≡ doubled u ++ 39 ∷ y.1) × (begins_with 39 y.1 ≡ false)

quoting_found : (m : Bool) (found i : List ℕ) (y : List ℕ × List ℕ) → read.quoting m found i ≡ Some y → Closes m found i y
unfolding read.quoting
quoting_found false found [] y h = absurd cc
quoting_found true found [] y h =
    subst (λ (z : List ℕ × List ℕ). Closes true found [] z) (some_is (found, []) y h) ([], sym (append-nil found), refl, refl)
quoting_found false found (b ∷ i) y h =
    elim (chosen (b == 39) (read.quoting true found i) (read.quoting false (found ++ b ∷ []) i) (Some y) h) [
      | inl t ↦ subst (λ (c : ℕ). Closes false found (c ∷ i) y) (sym (eqb-true b 39 t.0)) (quoting_found true found i y t.1)
      | inr t ↦
          let r = quoting_found false (found ++ b ∷ []) i y t.1 in
          (b ∷ r.0, r.1 ∙ append_assoc found (b ∷ []) r.0, rw t.0 (ap (λ (j : List ℕ). b ∷ j) r.2), r.3)
    ]
quoting_found true found (b ∷ i) y h =
    elim (chosen (b == 39) (read.quoting false (found ++ 39 ∷ []) i) (Some (found, b ∷ i)) (Some y) h) [
      | inl t ↦
          let r = quoting_found false (found ++ 39 ∷ []) i y t.1 in
          subst (λ (c : ℕ). Closes true found (c ∷ i) y) (sym (eqb-true b 39 t.0)) (39 ∷ r.0, r.1 ∙ append_assoc found (39 ∷ []) r.0, ap (λ (j : List ℕ). 39 ∷ 39 ∷ j) r.2, r.3)
      | inr t ↦ subst (λ (z : List ℕ × List ℕ). Closes true found (b ∷ i) z) (some_is (found, b ∷ i) y t.1) ([], sym (append-nil found), refl, t.0)
    ]

quoting_again : (found text o : List ℕ) → begins_with 39 o ≡ false → read.quoting false found (doubled text ++ 39 ∷ o) ≡ Some (found ++ text, o)
unfolding read.quoting
quoting_again found [] [] h = ap (λ (u : List ℕ). given (u, [])) (sym (append-nil found))
quoting_again found [] (b ∷ o) h = rw h (ap (λ (u : List ℕ). given (u, b ∷ o)) (sym (append-nil found)))
quoting_again found (b ∷ text) o h = go (b == 39) refl (quoting_again (found ++ b ∷ []) text o h ∙ ap (λ (u : List ℕ). given (u, o)) (append_assoc found (b ∷ []) text))
  where
    go : (v : Bool) → (b == 39) ≡ v → read.quoting false (found ++ b ∷ []) (doubled text ++ 39 ∷ o) ≡ Some (found ++ b ∷ text, o)
        → read.quoting false found (cond v (39 ∷ 39 ∷ doubled text) (b ∷ doubled text) ++ 39 ∷ o) ≡ Some (found ++ b ∷ text, o)
    go true e r = subst (λ (c : ℕ). read.quoting false (found ++ c ∷ []) (doubled text ++ 39 ∷ o) ≡ Some (found ++ b ∷ text, o)) (eqb-true b 39 e) r
    go false e r = rw e r

literal_sound : (i : List ℕ) (y : Kind × List ℕ) → read.literal i ≡ Some y → StartsToken (39 ∷ i) y.0 y.1
unfolding read.literal
literal_sound i y h = go (read.quoting false [] i) refl h
  where
    go : (q : Option (List ℕ × List ℕ)) → read.quoting false [] i ≡ q → read.text_of q ≡ Some y → StartsToken (39 ∷ i) y.0 y.1
    go None at h = absurd cc
    go (Some x) at h =
        let t = guard (is_utf8 x.0) (Some (kind.Text x.0, x.1)) y h in
        let r = quoting_found false [] i x at in
        let all : i ≡ (doubled x.0 ++ codes "'") ++ x.1 =
        r.2 ∙ ap (λ (u : List ℕ). doubled u ++ 39 ∷ x.1) (sym r.1) ∙ sym (append_assoc (doubled x.0) (codes "'") x.1) in
        subst (λ (z : Kind × List ℕ). StartsToken (39 ∷ i) z.0 z.1) (some_is (kind.Text x.0, x.1) y t.1)
        (codes "'" ++ (doubled x.0 ++ codes "'"), ap (λ (j : List ℕ). 39 ∷ j) all, g.text_literal r.3 (IsUtf8-from_is_utf8 x.0 t.0))

literal_complete : (text o i : List ℕ) → i ≡ doubled text ++ 39 ∷ o → begins_with 39 o ≡ false → is_utf8 text ≡ true → read.literal i ≡ Some (kind.Text text, o)
unfolding read.literal
literal_complete text o i e stops u =
    let q : read.quoting false [] i ≡ Some (text, o) = ap (read.quoting false []) e ∙ quoting_again [] text o stops in
    rw (q, u) refl

-- ---- all

pub token_sound : (i : List ℕ) (y : Kind × List ℕ) → read.lexeme i ≡ Some y → StartsToken i y.0 y.1
unfolding read.lexeme
token_sound [] y h = absurd cc
token_sound (b ∷ i) y h =
    elim (chosen (is_letter b) (read.word (b ∷ i)) _ (Some y) h) [
      | inl t ↦ word_sound (b ∷ i) y t.0 t.1
      | inr t ↦ elim (chosen (is_digit b) (read.number (b ∷ i)) _ (Some y) t.1) [
        | inl u ↦ number_sound (b ∷ i) y u.0 u.1
        | inr u ↦ elim (chosen (b == 34) (read.quoted i) _ (Some y) u.1) [
          | inl v ↦ subst (λ (c : ℕ). StartsToken (c ∷ i) y.0 y.1) (sym (eqb-true b 34 v.0)) (quoted_sound i y v.1)
          | inr v ↦ elim (chosen (b == 39) (read.literal i) _ (Some y) v.1) [
            | inl w ↦ subst (λ (c : ℕ). StartsToken (c ∷ i) y.0 y.1) (sym (eqb-true b 39 w.0)) (literal_sound i y w.1)
            | inr w ↦ mark_sound b i y w.1
          ]
        ]
      ]
    ]

token_complete : (text o : List ℕ) (k : Kind) → Spells text o k → read.lexeme (text ++ o) ≡ Some (k, o)
unfolding read.lexeme
token_complete [] o k (g.word first run short) = absurd cc
token_complete (b ∷ text) o k (g.word first run short) = rw first (word_complete (b ∷ text) o run short)
token_complete text o k (g.quoted_name {name = n} all is) =
    quoted_complete n o ((n ++ codes "\"") ++ o) (append_assoc n (codes "\"") o) (record { passes = all; stops = refl }) is
token_complete [] o k (g.number first run stops small) = absurd cc
token_complete (b ∷ text) o k (g.number first run stops small) =
    rw (digit_no_letter b first, first) (number_complete (b ∷ text) o run stops small)
token_complete text o k (g.text_literal {text = t} stops u) =
    literal_complete t o ((doubled t ++ codes "'") ++ o) (append_assoc (doubled t) (codes "'") o) stops (is_utf8-from_IsUtf8 t u)
token_complete text o k (g.longest_mark {m = m} h) = mark_complete m o h

-- a token at the front is found
pub token_found : (i : List ℕ) (k : Kind) (o : List ℕ) → StartsToken i k o → read.lexeme i ≡ Some (k, o)
token_found i k o s = ap read.lexeme s.1 ∙ token_complete s.0 o k s.2

pub no_token : (i : List ℕ) → read.lexeme i ≡ None → StartsNoToken i
no_token i h = λ k o s. let found = token_found i k o s in absurd cc

-- one token stands at the front
pub one_token : (i : List ℕ) (k l : Kind) (o p : List ℕ) → StartsToken i k o → StartsToken i l p → (k ≡ l) × (o ≡ p)
one_token i k l o p s t =
    let same : (k, o) ≡ (l, p) = some_is (k, o) (l, p) (sym (token_found i k o s) ∙ token_found i l p t) in
    (ap (λ (z : Kind × List ℕ). z.0) same, ap (λ (z : Kind × List ℕ). z.1) same)
