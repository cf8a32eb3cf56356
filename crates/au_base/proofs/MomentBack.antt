-- The text of a moment reads as that moment, and as no other.
use Rattle.std.proofs.Common.{◌≡◌, ◌∙◌, ◌<◌, ◌+◌, ◌*◌, ◌/◌, ◌%◌, ◌++◌, ◌∷◌, [], ℕ, List, Option, Some, None, MatchOption, true, arith, sym, ap, get_or, drop}
use Rattle.std.specs.Char.{is_ascii_digit, digit_value}
use Rattle.std.proofs.lemmas.Bool.Decides.{nat_tests}
use Rattle.au_base.specs.declared.calendar.Civil.{Civil}
use Rattle.au_base.specs.Calendar.{moment_of}
use Rattle.au_base.specs.Moments.{IsMomentText, TellsMoment, TellsNoMoment, fraction_of, front, six}
use Rattle.au_base.proofs.MomentDigits.{digit_of}

is_digit : (d : ℕ) → d < 10 → is_ascii_digit (48 + d) ≡ true
is_digit d small = grind (arith, nat_tests)

value : (d : ℕ) → d < 10 → digit_value (48 + d) ≡ d
value d small = digit_of (48 + d) (omega arith) (omega arith) ∙ omega arith

six_digits : (a b c d e f : ℕ) → a < 10 → b < 10 → c < 10 → d < 10 → e < 10 → f < 10
    → fraction_of (46 ∷ (48 + a) ∷ (48 + b) ∷ (48 + c) ∷ (48 + d) ∷ (48 + e) ∷ (48 + f) ∷ []) ≡ Some (((((a * 10 + b) * 10 + c) * 10 + d) * 10 + e) * 10 + f)
six_digits a b c d e f ha hb hc hd he hf =
    rw (
      is_digit a ha,
      is_digit b hb,
      is_digit c hc,
      is_digit d hd,
      is_digit e he,
      is_digit f hf,
      value a ha,
      value b hb,
      value c hc,
      value d hd,
      value e he,
      value f hf,
    ) (ap (λ n. Some n) (omega arith))

pub fraction_back : (micro : ℕ) → micro < 1_000_000 → fraction_of (46 ∷ six micro) ≡ Some micro
fraction_back micro small =
    six_digits (micro / 10_000 / 10) (micro / 10_000 % 10) (micro / 100 % 100 / 10) (micro / 100 % 100 % 10) (micro % 100 / 10) (micro % 100 % 10)
    (omega arith) (omega arith) (omega arith) (omega arith) (omega arith) (omega arith)
    ∙ ap (λ n. Some n) (omega arith)

two_same : (n m : ℕ) → 48 + n / 10 ≡ 48 + m / 10 → 48 + n % 10 ≡ 48 + m % 10 → n ≡ m
two_same n m tens ones = omega arith

pub same_civil : (c k : Civil) (end : List ℕ) → front c ++ 46 ∷ six c.micro ≡ front k ++ end → c.micro < 1_000_000 → fraction_of end ≡ Some k.micro → c ≡ k
same_civil c k end e small fraction =
    let y : c.year / 100 ≡ k.year / 100 = two_same _ _ (ap (λ t. get_or t 0 0) e) (ap (λ t. get_or t 1 0) e) in
    let z : c.year % 100 ≡ k.year % 100 = two_same _ _ (ap (λ t. get_or t 2 0) e) (ap (λ t. get_or t 3 0) e) in
    let year : c.year ≡ k.year = omega arith in
    let month : c.month ≡ k.month = two_same _ _ (ap (λ t. get_or t 5 0) e) (ap (λ t. get_or t 6 0) e) in
    let day : c.day ≡ k.day = two_same _ _ (ap (λ t. get_or t 8 0) e) (ap (λ t. get_or t 9 0) e) in
    let hour : c.hour ≡ k.hour = two_same _ _ (ap (λ t. get_or t 11 0) e) (ap (λ t. get_or t 12 0) e) in
    let minute : c.minute ≡ k.minute = two_same _ _ (ap (λ t. get_or t 14 0) e) (ap (λ t. get_or t 15 0) e) in
    let second : c.second ≡ k.second = two_same _ _ (ap (λ t. get_or t 17 0) e) (ap (λ t. get_or t 18 0) e) in
    let tail : 46 ∷ six c.micro ≡ end = ap (λ t. drop 19 t) e in
    let read : Some c.micro ≡ Some k.micro = sym (fraction_back c.micro small) ∙ ap fraction_of tail ∙ fraction in
    let micro : c.micro ≡ k.micro = cc read in
    λ i. record { year = year i; month = month i; day = day i; hour = hour i; minute = minute i; second = second i; micro = micro i }

pub back : (moment : ℕ) (text : List ℕ) (answer : Option ℕ) → IsMomentText moment text → MatchOption answer (TellsNoMoment text) (TellsMoment text) → answer ≡ Some moment
back moment text None told none =
    absurd (none told.0 told.1 (46 ∷ six (told.0).micro, told.3, fraction_back (told.0).micro told.1.micro))
back moment text (Some n) told some =
    let same = same_civil told.0 some.0 some.2.0 (sym told.3 ∙ some.2.1) told.1.micro some.2.2 in
    ap (λ m. Some m) (some.3 ∙ ap moment_of (sym same) ∙ told.2)
