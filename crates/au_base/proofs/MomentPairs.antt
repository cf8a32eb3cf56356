-- What the digits of a date and a time say.
use Rattle.std.proofs.Common.{◌≡◌, ◌+◌, ◌*◌, ◌/◌, ◌%◌, ◌≤◌, ◌++◌, ℕ, List, ◌∷◌, pos, arith, refl, subst, get_or, drop, length}
use Rattle.jiff_core.proofs.CalendarLemmas.{days_in_month_bounds}
use Rattle.au_base.specs.declared.calendar.Civil.{Civil}
use Rattle.au_base.specs.Calendar.{IsCivil, IsDay, month_days}
use Rattle.au_base.specs.Moments.{IsPair, front}

pub pair_is : (a b n m : ℕ) → IsPair a b n → IsPair a b m → n ≡ m
pair_is a b n m x y =
    let tens : 48 + n / 10 ≡ 48 + m / 10 = cc (x.1, y.1) in
    let ones : 48 + n % 10 ≡ 48 + m % 10 = cc (x.1, y.1) in
    omega arith

pub same_date : (k : Civil) (text end : List ℕ) (century year month day : ℕ) → IsCivil k → text ≡ front k ++ end
    → IsPair (get_or text 0 0) (get_or text 1 0) century → IsPair (get_or text 2 0) (get_or text 3 0) year
    → IsPair (get_or text 5 0) (get_or text 6 0) month → IsPair (get_or text 8 0) (get_or text 9 0) day
    → (k.year ≡ century * 100 + year) × (k.month ≡ month) × (k.day ≡ day)
same_date k text end century year month day civil e hc hy hm hd =
    let c = pair_is _ _ (k.year / 100) century (omega (arith, civil.date.year_to), refl) (subst (λ t. IsPair (get_or t 0 0) (get_or t 1 0) century) e hc) in
    let y = pair_is _ _ (k.year % 100) year (omega arith, refl) (subst (λ t. IsPair (get_or t 2 0) (get_or t 3 0) year) e hy) in
    let m = pair_is _ _ k.month month (omega (arith, civil.date.month_to), refl) (subst (λ t. IsPair (get_or t 5 0) (get_or t 6 0) month) e hm) in
    let short : month_days k.year k.month ≤ 31 = (days_in_month_bounds (pos k.year) k.month).0 in
    let d = pair_is _ _ k.day day (omega (arith, civil.date.day_to), refl) (subst (λ t. IsPair (get_or t 8 0) (get_or t 9 0) day) e hd) in
    (omega arith, m, d)

pub date_told : (k : Civil) (text end : List ℕ) (century year month day : ℕ) → IsCivil k → text ≡ front k ++ end
    → IsPair (get_or text 0 0) (get_or text 1 0) century → IsPair (get_or text 2 0) (get_or text 3 0) year
    → IsPair (get_or text 5 0) (get_or text 6 0) month → IsPair (get_or text 8 0) (get_or text 9 0) day
    → IsDay (century * 100 + year) month day
date_told k text end century year month day civil e hc hy hm hd =
    let same = same_date k text end century year month day civil e hc hy hm hd in
    rw (same.0, same.1, same.2) at civil.date

first_bytes : (text : List ℕ) → 19 ≤ length text
    → text ≡ get_or text 0 0 ∷ get_or text 1 0 ∷ get_or text 2 0 ∷ get_or text 3 0 ∷ get_or text 4 0 ∷ get_or text 5 0 ∷ get_or text 6 0 ∷ get_or text 7 0 ∷ get_or text 8 0 ∷ get_or text 9 0
    ∷ get_or text 10 0 ∷ get_or text 11 0 ∷ get_or text 12 0 ∷ get_or text 13 0 ∷ get_or text 14 0 ∷ get_or text 15 0 ∷ get_or text 16 0 ∷ get_or text 17 0 ∷ get_or text 18 0 ∷ drop 19 text
first_bytes (a ∷ b ∷ c ∷ d ∷ e ∷ f ∷ g ∷ h ∷ i ∷ j ∷ k ∷ l ∷ m ∷ n ∷ o ∷ p ∷ q ∷ r ∷ s ∷ rest) enough = refl
first_bytes _ enough = absurd (omega arith)

-- the separators stand where they do in a date and a time
pub record HasMarks (text : List ℕ) : Type 0 where
  pub long : 19 ≤ length text
  pub first_dash : get_or text 4 0 ≡ 45
  pub second_dash : get_or text 7 0 ≡ 45
  pub space : get_or text 10 0 ≡ 32
  pub first_colon : get_or text 13 0 ≡ 58
  pub second_colon : get_or text 16 0 ≡ 58

-- each pair of digits is that number
pub record HasPairs (text : List ℕ) (century year month day hour minute second : ℕ) : Type 0 where
  pub century_is : IsPair (get_or text 0 0) (get_or text 1 0) century
  pub year_is : IsPair (get_or text 2 0) (get_or text 3 0) year
  pub month_is : IsPair (get_or text 5 0) (get_or text 6 0) month
  pub day_is : IsPair (get_or text 8 0) (get_or text 9 0) day
  pub hour_is : IsPair (get_or text 11 0) (get_or text 12 0) hour
  pub minute_is : IsPair (get_or text 14 0) (get_or text 15 0) minute
  pub second_is : IsPair (get_or text 17 0) (get_or text 18 0) second

pub spelled : (text : List ℕ) (century year month day hour minute second micro : ℕ) → HasMarks text → HasPairs text century year month day hour minute second
    → text ≡ front (record { year = century * 100 + year; month = month; day = day; hour = hour; minute = minute; second = second; micro = micro }) ++ drop 19 text
spelled text century year month day hour minute second micro marks pairs =
    let high : (century * 100 + year) / 100 ≡ century = omega (arith, pairs.year_is.0) in
    let low : (century * 100 + year) % 100 ≡ year = omega (arith, pairs.year_is.0) in
    rw (high, low) (cc (
      first_bytes text marks.long,
      marks.first_dash,
      marks.second_dash,
      marks.space,
      marks.first_colon,
      marks.second_colon,
      pairs.century_is.1,
      pairs.year_is.1,
      pairs.month_is.1,
      pairs.day_is.1,
      pairs.hour_is.1,
      pairs.minute_is.1,
      pairs.second_is.1,
    ))
