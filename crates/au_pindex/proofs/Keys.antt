-- Keys that are the same, and buckets to which the keys of a list are added one after another.
use Rattle.std.proofs.Common.{◌≡◌, ◌∙◌, refl, sym, ap, ℕ, suc, ◌+◌, ◌<◌, Bool, true, false, ◌||◌, ◌&&◌, List, ◌∷◌, length, get_or, drop, add-one, drop-cons}
use Rattle.std.proofs.lemmas.Map.Text.{is_eq-slice_cmp}
use Rattle.std.specs.Cmp.Lexicographic.{slice_cmp}
use Rattle.std.specs.List.{list_any}
use Rattle.std.specs.Ordering.{is_eq, nat_cmp, ordering_then}
use Rattle.std.specs.Str.{bytes_eq}
use Rattle.std.specs.declared.cmp.Ordering.{Ordering}
use Rattle.std.specs.declared.cmp.Ordering.TheVariants.{Less, Equal, Greater}
use Rattle.au_base.specs.declared.table.TableName.{TableName}
use Rattle.au_base.specs.Sameness.{same_table}
use Rattle.au_pindex.specs.Indexing.{table_cmp}

both_equal : (a b : Ordering) → is_eq (ordering_then a b) ≡ (is_eq a && is_eq b)
both_equal Less b = refl
both_equal Equal b = refl
both_equal Greater b = refl

-- tables are equal in their order where they are the same
pub table_same : (a b : TableName) → is_eq (table_cmp a b) ≡ same_table a b
table_same a b =
    both_equal (slice_cmp nat_cmp a.owner b.owner) (slice_cmp nat_cmp a.name b.name)
    ∙ ap (λ z. z && is_eq (slice_cmp nat_cmp a.name b.name)) (is_eq-slice_cmp a.owner b.owner)
    ∙ ap (λ z. bytes_eq a.owner b.owner && z) (is_eq-slice_cmp a.name b.name)

-- names are equal in their order where their bytes are
pub name_same : (a b : List ℕ) → is_eq (slice_cmp nat_cmp a b) ≡ bytes_eq a b
name_same a b = is_eq-slice_cmp a b

-- a place that is added at a key, by a test of keys for their order
pub added_at : {K : Type 0} (cmp : K → K → Ordering) (same : K → K → Bool) → ((a b : K) → is_eq (cmp a b) ≡ same a b)
    → (key k other : K) (placed new old : Bool) → k ≡ key → new ≡ ((is_eq (cmp k other) && placed) || old) → new ≡ ((same key other && placed) || old)
added_at cmp same told key k other placed new old is added =
    added ∙ ap (λ n. (is_eq (cmp n other) && placed) || old) is ∙ ap (λ b. (b && placed) || old) (told key other)

-- ---- one key after another

turned : (t r s old : Bool) → ((r && s) || ((t && s) || old)) ≡ (((t || r) && s) || old)
turned true true true old = refl
turned true true false old = refl
turned true false true old = refl
turned true false false old = refl
turned false true true old = refl
turned false true false old = refl
turned false false true old = refl
turned false false false old = refl

-- what the keys that are left add to buckets to which the first is added is what all add
pub next_key : {X : Type 0} (test : X → Bool) (xs : List X) (i : ℕ) (x : X) (place old new whole : Bool) → i < length xs → x ≡ get_or xs i x → new ≡ ((test x && place) || old)
    → ((list_any test (drop i xs) && place) || old) ≡ whole → ((list_any test (drop (i + 1) xs) && place) || new) ≡ whole
next_key test xs i x place old new whole within is added so_far =
    ap (λ z. (list_any test (drop (i + 1) xs) && place) || z) added
    ∙ turned (test x) (list_any test (drop (i + 1) xs)) place old
    ∙ ap (λ ys. (list_any test ys && place) || old) (sym (front xs i x within is)) ∙ so_far
  where
    front : {X : Type 0} (xs : List X) (i : ℕ) (x : X) → i < length xs → x ≡ get_or xs i x → drop i xs ≡ x ∷ drop (i + 1) xs
    front xs i x within is = rw (add-one, drop-cons xs i x) (ap (λ z. z ∷ drop (suc i) xs) (sym is))

-- the same of what is taken from the buckets of keys
pub next_taken : {X : Type 0} (test : X → Bool) (xs : List X) (i : ℕ) (x : X) (old new whole : Bool) → i < length xs → x ≡ get_or xs i x → new ≡ (test x || old)
    → (list_any test (drop i xs) || old) ≡ whole → (list_any test (drop (i + 1) xs) || new) ≡ whole
next_taken test xs i x old new whole within is taken so_far =
    ap (λ z. list_any test (drop (i + 1) xs) || z) taken
    ∙ exchanged (test x) (list_any test (drop (i + 1) xs)) old
    ∙ ap (λ ys. list_any test ys || old) (sym (front xs i x within is)) ∙ so_far
  where
    exchanged : (t r old : Bool) → (r || (t || old)) ≡ ((t || r) || old)
    exchanged true true old = refl
    exchanged true false old = refl
    exchanged false true old = refl
    exchanged false false old = refl

    front : {X : Type 0} (xs : List X) (i : ℕ) (x : X) → i < length xs → x ≡ get_or xs i x → drop i xs ≡ x ∷ drop (i + 1) xs
    front xs i x within is = rw (add-one, drop-cons xs i x) (ap (λ z. z ∷ drop (suc i) xs) (sym is))

-- ---- five tests, the last first

or_true : (a : Bool) → (a || true) ≡ true
or_true true = refl
or_true false = refl

or_none : (a : Bool) → (a || false) ≡ a
or_none true = refl
or_none false = refl

two_back : (d e : Bool) → (e || (d || false)) ≡ (d || e)
two_back true e = or_true e
two_back false e = or_none e

three_back : (c d e : Bool) → (e || (d || (c || false))) ≡ (c || (d || e))
three_back true d e = ap (λ z. e || z) (or_true d) ∙ or_true e
three_back false d e = two_back d e

four_back : (b c d e : Bool) → (e || (d || (c || (b || false)))) ≡ (b || (c || (d || e)))
four_back true c d e = ap (λ z. e || (d || z)) (or_true c) ∙ ap (λ z. e || z) (or_true d) ∙ or_true e
four_back false c d e = three_back c d e

pub five_back : (a b c d e : Bool) → (e || (d || (c || (b || (a || false))))) ≡ (a || (b || (c || (d || e))))
five_back true b c d e = ap (λ z. e || (d || (c || z))) (or_true b) ∙ ap (λ z. e || (d || z)) (or_true c) ∙ ap (λ z. e || z) (or_true d) ∙ or_true e
five_back false b c d e = four_back b c d e

pub in_turn : (a b c d e none one two three four five : Bool) → none ≡ false → one ≡ (a || none) → two ≡ (b || one) → three ≡ (c || two) → four ≡ (d || three) → five ≡ (e || four)
    → five ≡ (a || (b || (c || (d || e))))
in_turn a b c d e none one two three four five is_none is_one is_two is_three is_four is_five =
    is_five ∙ ap (λ z. e || z) (is_four ∙ ap (λ z. d || z) (is_three ∙ ap (λ z. c || z) (is_two ∙ ap (λ z. b || z) (is_one ∙ ap (λ z. a || z) is_none))))
    ∙ five_back a b c d e
