-- Fronts of patterns and texts, and what is like the rest.
use Rattle.std.proofs.Common.{◌≡◌, ◌≢◌, ◌∙◌, ◌==◌, true, false, ℕ, suc, ◌≤◌, List, [], ◌∷◌, ◌++◌, length, drop, refl, sym, ap, subst, arith, append_assoc, length-append}
use Rattle.std.proofs.lemmas.List.{drop-append-le}
use Rattle.std.proofs.lemmas.Bool.Decides.{nat_tests}
use Rattle.std.proofs.lemmas.Str.{chars-nil, encodes-chars}
use Rattle.std.proofs.Math.Seq.{drop-append_seam}
use Rattle.std.specs.Prelude.{IsUtf8}
use Rattle.std.specs.Str.{chars}
use lib.Utf8.{encodes}
use Rattle.au_base.specs.Likes.{GoOn, IsLike, IsNamedBy, NameEach}

pub any_named : (piece : List ℕ) → IsNamedBy 37 piece
any_named piece = record { one = λ ne. absurd (ne refl); same = λ ne _. absurd (ne refl) }

one_named : (c x : ℕ) → (c ≢ 95 → x ≡ c) → IsNamedBy c (x ∷ [])
one_named c x same = record { one = λ _. refl; same = λ _ ne. ap (λ y. y ∷ []) (same ne) }

-- a front whose characters name each other can be put before
names-onto : (names named pattern text : List ℕ) → NameEach names named → IsLike pattern text → IsLike (names ++ pattern) (named ++ text)
names-onto [] named pattern text each like = subst (λ n. IsLike pattern (n ++ text)) (sym each) like
names-onto (c ∷ names) [] pattern text each like = absurd each
names-onto (c ∷ names) (x ∷ named) pattern text each like =
    (x ∷ [], named ++ text, refl, one_named c x each.1, names-onto names named pattern text each.2 like)

head_is : (x y : ℕ) (xs ys : List ℕ) → x ∷ xs ≡ y ∷ ys → x ≡ y
head_is x y xs ys is = cc

tail_is : (x y : ℕ) (xs ys : List ℕ) → x ∷ xs ≡ y ∷ ys → xs ≡ ys
tail_is x y xs ys is = cc

-- a character that isn't `%` names exactly the first one
pub record TakesOne (c : ℕ) (pattern text : List ℕ) : Type 0 where
  pub first : ℕ
  pub rest : List ℕ
  pub text_is : text ≡ first ∷ rest
  pub named : c ≢ 95 → first ≡ c
  pub like : IsLike pattern rest

takes_piece : (c : ℕ) (piece rest text pattern : List ℕ) → c ≢ 37 → text ≡ piece ++ rest → IsNamedBy c piece → IsLike pattern rest → TakesOne c pattern text
takes_piece c [] rest text pattern ne is named like = absurd (omega (arith, named.one ne))
takes_piece c (x ∷ []) rest text pattern ne is named like =
    record { first = x; rest = rest; text_is = is; named = λ other. head_is x c [] [] (named.same ne other); like = like }
takes_piece c (x ∷ y ∷ piece) rest text pattern ne is named like = absurd (omega (arith, named.one ne))

pub takes_one : (c : ℕ) (pattern text : List ℕ) → c ≢ 37 → IsLike (c ∷ pattern) text → TakesOne c pattern text
takes_one c pattern text ne like = takes_piece c like.0 like.1 text pattern ne like.2 like.3 like.4

-- a text that is like names before a pattern begins with what they name
pub record Begins (names pattern text : List ℕ) : Type 0 where
  pub named : List ℕ
  pub rest : List ℕ
  pub text_is : text ≡ named ++ rest
  pub long : length named ≡ length names
  pub like : IsLike pattern rest

begins : (names named pattern text : List ℕ) → NameEach names named → IsLike (names ++ pattern) text → Begins names pattern text
begins [] named pattern text each like = record { named = []; rest = text; text_is = refl; long = refl; like = like }
begins (c ∷ names) [] pattern text each like = absurd each
begins (c ∷ names) (x ∷ named) pattern text each like =
    let one = takes_one c (names ++ pattern) text each.0 like in
    let more = begins names named pattern one.rest each.2 one.like in
    record {
      named = one.first ∷ more.named;
      rest = more.rest;
      text_is = one.text_is ∙ ap (λ t. one.first ∷ t) more.text_is;
      long = ap suc more.long;
      like = more.like;
    }

length-each : (names named : List ℕ) → NameEach names named → length named ≡ length names
length-each [] named each = ap length each
length-each (c ∷ names) [] each = absurd each
length-each (c ∷ names) (x ∷ named) each = ap suc (length-each names named each.2)

drop-all : (xs : List ℕ) → drop (length xs) xs ≡ []
drop-all [] = refl
drop-all (x ∷ xs) = drop-all xs

later_part : (a b c d : List ℕ) → a ++ b ≡ c ++ d → length a ≤ length c → b ≡ drop (length a) c ++ d
later_part a b c d is le = sym (drop-append_seam a b) ∙ ap (drop (length a)) is ∙ drop-append-le (length a) c d le

-- what is like the whole is like the rest, and the other way round
pub like-rest : (pattern text later rest : List ℕ) → GoOn pattern text later rest → IsLike pattern text → IsLike later rest
like-rest pattern text later rest on like =
    let whole : IsLike (on.names ++ later) text = subst (λ p. IsLike p text) on.pattern_is like in
    let found = begins on.names on.named later text on.each whole in
    let long : length on.named ≡ length found.named = length-each on.names on.named on.each ∙ sym found.long in
    let part : rest ≡ drop (length on.named) found.named ++ found.rest = later_part on.named rest found.named found.rest (sym on.text_is ∙ found.text_is) (omega (arith, long)) in
    let none : drop (length on.named) found.named ≡ [] = ap (λ n. drop n found.named) long ∙ drop-all found.named in
    subst (IsLike later) (sym (part ∙ ap (λ front. front ++ found.rest) none)) found.like

pub rest-like : (pattern text later rest : List ℕ) → GoOn pattern text later rest → IsLike later rest → IsLike pattern text
rest-like pattern text later rest on like =
    subst (λ p. IsLike p text) (sym on.pattern_is)
    (subst (IsLike (on.names ++ later)) (sym on.text_is) (names-onto on.names on.named later rest on.each like))

-- some end of the text is like the pattern, where a front of both is gone and `%` comes
pub end-rest : (pattern text later rest : List ℕ) → GoOn pattern text (37 ∷ later) rest → IsLike (37 ∷ pattern) text → IsLike (37 ∷ later) rest
end-rest pattern text later rest on like =
    let whole : IsLike (on.names ++ 37 ∷ later) like.1 = subst (λ p. IsLike p like.1) on.pattern_is like.4 in
    let found = begins on.names on.named (37 ∷ later) like.1 on.each whole in
    let tail = found.like in
    let long : length on.named ≡ length found.named = length-each on.names on.named on.each ∙ sym found.long in
    let cut : on.named ++ rest ≡ (like.0 ++ found.named) ++ found.rest =
    sym on.text_is ∙ like.2 ∙ ap (λ t. like.0 ++ t) found.text_is ∙ sym (append_assoc like.0 found.named found.rest) in
    let part = later_part on.named rest (like.0 ++ found.named) found.rest cut (simp length-append (omega (arith, long))) in
    let front = drop (length on.named) (like.0 ++ found.named) in (
      front ++ tail.0,
      tail.1,
      part ∙ ap (λ t. front ++ t) tail.2 ∙ sym (append_assoc front tail.0 tail.1),
      any_named (front ++ tail.0),
      tail.4,
    )

pub rest-end : (pattern text later rest : List ℕ) → GoOn pattern text (37 ∷ later) rest → IsLike (37 ∷ later) rest → IsLike (37 ∷ pattern) text
rest-end pattern text later rest on like =
    ([], text, refl, any_named [], rest-like pattern text (37 ∷ later) rest on like)

-- the first character of a text can be left out where the text itself isn't like the pattern
end_later : (pattern text piece rest later : List ℕ) (x : ℕ) → text ≡ x ∷ later → ¬ (IsLike pattern text) → text ≡ piece ++ rest → IsLike pattern rest → IsLike (37 ∷ pattern) later
end_later pattern text [] rest later x is not here like = absurd (not (subst (IsLike pattern) (sym here) like))
end_later pattern text (y ∷ piece) rest later x is not here like =
    (piece, rest, tail_is x y later (piece ++ rest) (sym is ∙ here), any_named piece, like)

pub end-later : (pattern text later : List ℕ) (x : ℕ) → text ≡ x ∷ later → ¬ (IsLike pattern text) → IsLike (37 ∷ pattern) text → IsLike (37 ∷ pattern) later
end-later pattern text later x is not like = end_later pattern text like.0 like.1 later x is not like.2 like.4

pub later-end : (pattern text later : List ℕ) (x : ℕ) → text ≡ x ∷ later → IsLike (37 ∷ pattern) later → IsLike (37 ∷ pattern) text
later-end pattern text later x is like = (x ∷ like.0, like.1, is ∙ ap (λ t. x ∷ t) like.2, any_named (x ∷ like.0), like.4)

no_end : (pattern piece rest : List ℕ) → [] ≡ piece ++ rest → ¬ (IsLike pattern []) → ¬ (IsLike pattern rest)
no_end pattern [] rest is not like = not (subst (IsLike pattern) (sym is) like)
no_end pattern (x ∷ piece) rest is not like = cc

-- the empty text has no other end
pub end-none : (pattern text : List ℕ) → text ≡ [] → ¬ (IsLike pattern text) → ¬ (IsLike (37 ∷ pattern) text)
end-none pattern text none not like =
    no_end pattern like.0 like.1 (sym none ∙ like.2) (λ here. not (subst (IsLike pattern) (sym none) here)) like.4

-- one more character on each side
each-more : (names named : List ℕ) (c x : ℕ) → NameEach names named → c ≢ 37 → (c ≢ 95 → x ≡ c) → NameEach (names ++ c ∷ []) (named ++ x ∷ [])
each-more [] named c x each ne same = subst (λ n. NameEach (c ∷ []) (n ++ x ∷ [])) (sym each) (ne, same, refl)
each-more (d ∷ names) [] c x each ne same = absurd each
each-more (d ∷ names) (y ∷ named) c x each ne same = (each.0, each.1, each-more names named c x each.2 ne same)

pub go_on-more : (pattern text later rest later' rest' : List ℕ) (c x : ℕ) → GoOn pattern text later rest → later ≡ c ∷ later' → rest ≡ x ∷ rest' → c ≢ 37 → (c ≢ 95 → x ≡ c)
    → GoOn pattern text later' rest'
go_on-more pattern text later rest later' rest' c x on one two ne same =
    record {
      names = on.names ++ c ∷ [];
      named = on.named ++ x ∷ [];
      pattern_is = on.pattern_is ∙ ap (λ p. on.names ++ p) one ∙ sym (append_assoc on.names (c ∷ []) later');
      text_is = on.text_is ∙ ap (λ t. on.named ++ t) two ∙ sym (append_assoc on.named (x ∷ []) rest');
      each = each-more on.names on.named c x on.each ne same;
    }

-- the text isn't like the pattern where the next characters differ, or the text is at its end
pub differs : (pattern text later rest later' rest' : List ℕ) (c x : ℕ) → GoOn pattern text later rest → later ≡ c ∷ later' → rest ≡ x ∷ rest' → c ≢ 37 → ¬ (c ≢ 95 → x ≡ c) → ¬ (IsLike pattern text)
differs pattern text later rest later' rest' c x on one two ne not like =
    let here : IsLike (c ∷ later') rest = subst (λ p. IsLike p rest) one (like-rest pattern text later rest on like) in
    let taken = takes_one c later' rest ne here in
    not (λ other. head_is x taken.first rest' taken.rest (sym two ∙ taken.text_is) ∙ taken.named other)

pub differs-end : (pattern text later rest later' : List ℕ) (c : ℕ) → GoOn pattern text later rest → later ≡ c ∷ later' → rest ≡ [] → c ≢ 37 → ¬ (IsLike pattern text)
differs-end pattern text later rest later' c on one none ne like =
    let here : IsLike (c ∷ later') rest = subst (λ p. IsLike p rest) one (like-rest pattern text later rest on like) in
    let taken = takes_one c later' rest ne here in
    let no : [] ≡ taken.first ∷ taken.rest = sym none ∙ taken.text_is in
    cc

-- only the empty text has no characters
pub chars_none : (bytes : List ℕ) → IsUtf8 bytes → chars bytes ≡ [] → bytes ≡ []
chars_none bytes utf8 none = sym (encodes-chars bytes utf8) ∙ ap encodes none

none_of : (bytes : List ℕ) → true ≡ (length bytes == 0) → bytes ≡ []
none_of [] is = refl
none_of (x ∷ bytes) is = absurd (grind (arith, nat_tests, is))

some_of : (bytes : List ℕ) → false ≡ (length bytes == 0) → ¬ (bytes ≡ [])
some_of [] is none = cc is
some_of (x ∷ bytes) is none = cc none

-- pattern and text end together
pub whole : (pattern text names : List ℕ) (rest : List ℕ) → GoOn pattern text names (chars rest) → names ≡ [] → true ≡ (length rest == 0) → IsLike pattern text
whole pattern text names rest on none empty =
    rest-like pattern text names (chars rest) on (subst (λ n. IsLike n (chars rest)) (sym none) (ap chars (none_of rest empty) ∙ chars-nil))

-- the pattern ends before the text
pub text_left : (pattern text names : List ℕ) (rest : List ℕ) → GoOn pattern text names (chars rest) → IsUtf8 rest → names ≡ [] → false ≡ (length rest == 0) → ¬ (IsLike pattern text)
text_left pattern text names rest on utf8 none some like =
    some_of rest some (chars_none rest utf8 (subst (λ n. IsLike n (chars rest)) none (like-rest pattern text names (chars rest) on like)))
