-- What counts once stands once: things that differ by a test are without repeats.
use Rattle.std.proofs.Common.{◌≡◌, ◌==◌, ◌∙◌, ◌≤◌, ℕ, suc, Bool, true, false, not, cond, List, [], ◌∷◌, filter, length, refl, sym, ap, arith}
use Rattle.std.specs.Prelude.{◌↔◌, IsTrue}
use Rattle.std.specs.Cmp.{IsEquivalence}
use Rattle.std.specs.List.{AllByRecursion, IsDistinct}
use Rattle.std.specs.Set.{distinct_count}
use Rattle.std.proofs.lemmas.Bool.Decides.{nat_tests}
use Rattle.std.proofs.lemmas.Map.Made.{distinct_count-from_IsDistinct}
use Rattle.au_calls.specs.Once.{once}
use Rattle.rec_parts.specs.Spelling.{is_without_repeats}

all_kept_at : {X : Type 0} (P : X → Type 0) (x : X) (ys : List X) (b : Bool) → P x → AllByRecursion P ys → AllByRecursion P (cond b (x ∷ ys) ys)
all_kept_at P x ys true here more = (here, more)
all_kept_at P x ys false here more = more

-- what holds of all holds of those that a filter keeps
pub all_kept : {X : Type 0} (P : X → Type 0) (test : X → Bool) (xs : List X) → AllByRecursion P xs → AllByRecursion P (filter test xs)
all_kept P test [] all = tt
all_kept P test (x ∷ xs) all = all_kept_at P x (filter test xs) (test x) all.0 (all_kept P test xs all.1)

passed_at : {X : Type 0} (P : X → Type 0) (x : X) (ys : List X) (b : Bool) → (b ≡ true → P x) → AllByRecursion P ys → AllByRecursion P (cond b (x ∷ ys) ys)
passed_at P x ys true here more = (here refl, more)
passed_at P x ys false here more = more

-- those that a filter keeps pass its test
pub all_passed : {X : Type 0} (P : X → Type 0) (test : X → Bool) → ((x : X) → test x ≡ true → P x) → (xs : List X) → AllByRecursion P (filter test xs)
all_passed P test goes [] = tt
all_passed P test goes (x ∷ xs) = passed_at P x (filter test xs) (test x) (goes x) (all_passed P test goes xs)

distinct_at : {X : Type 0} (same : X → X → Bool) (x : X) (ys : List X) (b : Bool) → AllByRecursion (λ y. same x y ≡ false) ys → IsDistinct same ys → IsDistinct same (cond b (x ∷ ys) ys)
unfolding IsDistinct
distinct_at same x ys true first more = (first, more)
distinct_at same x ys false first more = more

-- a filter keeps things apart
pub distinct_kept : {X : Type 0} (same : X → X → Bool) (test : X → Bool) (xs : List X) → IsDistinct same xs → IsDistinct same (filter test xs)
unfolding IsDistinct
distinct_kept same test [] apart = tt
distinct_kept same test (x ∷ xs) apart =
    distinct_at same x (filter test xs) (test x) (all_kept (λ y. same x y ≡ false) test xs apart.0) (distinct_kept same test xs apart.1)

false_of_not : (b : Bool) → not b ≡ true → b ≡ false
false_of_not false is = refl
false_of_not true is = absurd (let e : false ≡ true = is in cc)

-- what counts once stands once
pub once_distinct : {X : Type 0} (same : X → X → Bool) → ((a b : X) → same a b ≡ same b a) → (xs : List X) → IsDistinct same (once same xs)
unfolding IsDistinct
once_distinct same swap [] = tt
once_distinct same swap (x ∷ xs) = (
  all_passed (λ y. same x y ≡ false) (λ other. not (same other x)) (λ y passes. swap x y ∙ false_of_not (same y x) passes) (once same xs),
  distinct_kept same (λ other. not (same other x)) (once same xs) (once_distinct same swap xs),
)

pub all_once : {X : Type 0} (P : X → Type 0) (same : X → X → Bool) (xs : List X) → AllByRecursion P xs → AllByRecursion P (once same xs)
all_once P same [] all = tt
all_once P same (x ∷ xs) all = (all.0, all_kept P (λ other. not (same other x)) (once same xs) (all_once P same xs all.1))

fewer_at : {X : Type 0} (b : Bool) (x : X) (ys : List X) (n : ℕ) → length ys ≤ n → length (cond b (x ∷ ys) ys) ≤ suc n
fewer_at true x ys n few = omega (arith, few)
fewer_at false x ys n few = omega (arith, few)

pub filter_fewer : {X : Type 0} (test : X → Bool) (xs : List X) → length (filter test xs) ≤ length xs
filter_fewer test [] = omega arith
filter_fewer test (x ∷ xs) = fewer_at (test x) x (filter test xs) (length xs) (filter_fewer test xs)

-- no more things count once than there are
pub once_fewer : {X : Type 0} (same : X → X → Bool) (xs : List X) → length (once same xs) ≤ length xs
once_fewer same [] = omega arith
once_fewer same (x ∷ xs) =
    let kept = filter_fewer (λ other. not (same other x)) (once same xs) in let more = once_fewer same xs in omega (arith, kept, more)

same_number : (m n : ℕ) → m ≡ n → (m == n) ≡ true
same_number m n same = grind (arith, nat_tests)

-- things apart are without repeats
pub no_repeats : {X : Type 0} (same : X → X → Bool) → IsEquivalence same → (xs : List X) → IsDistinct same xs → is_without_repeats same xs ≡ true
no_repeats same laws xs apart = same_number (distinct_count same xs) (length xs) (distinct_count-from_IsDistinct laws xs apart)

-- ---- a test of equality

is_one : {X : Type 0} (same : X → X → Bool) → ((a b : X) → IsTrue (same a b) ↔ (a ≡ b)) → (a b : X) (one other : Bool) → same a b ≡ one → same b a ≡ other → one ≡ other
is_one same equal a b true true is are = refl
is_one same equal a b false false is are = refl
is_one same equal a b true false is are = let e : true ≡ false = sym ((equal b a).1 (sym ((equal a b).0 is))) ∙ are in absurd cc
is_one same equal a b false true is are = let e : true ≡ false = sym ((equal a b).1 (sym ((equal b a).0 are))) ∙ is in absurd cc

-- a test that tells whether two things are equal is an equivalence
pub equivalence : {X : Type 0} (same : X → X → Bool) → ((a b : X) → IsTrue (same a b) ↔ (a ≡ b)) → IsEquivalence same
equivalence same equal = record {
  refl = λ x. (equal x x).1 refl;
  symm = λ x y. is_one same equal x y (same x y) (same y x) refl refl;
  congr = λ x y z is. ap (λ w. same w z) ((equal x y).0 is);
}
