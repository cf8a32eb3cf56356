-- The days of this calendar are those of the crate `jiff`.
use Rattle.std.proofs.Common.{◌≡◌, ◌∙◌, ℕ, zero, suc, ◌+◌, ◌-◌, ◌≤◌, ℤ, pos, negsuc, refl, ap, arith, sym, zero-add}
use Rattle.std.specs.Prelude.{◌-ℤ◌, ◌+ℤ◌, ◌≤ℤ◌, unsigned_abs}
use Rattle.std.proofs.lemmas.Int.{by_lt_z}
use Rattle.jiff_core.specs.Calendar.{IsYear, IsCivilDate, days_in_year, days_in_month, days_from_civil, day_count, day_of_year}
use Rattle.jiff_core.specs.Calendar as jiff
use Rattle.jiff_core.proofs.SignedLemmas.{signed_arith}
use Rattle.jiff_core.proofs.CalendarLemmas.{day_count-epoch, day_count-lt_year, days_from_civil-day_count, days_of_months-zero}
use Rattle.au_base.specs.Calendar.{IsDay, days_of_years, days_of_months, days_to, year_days}

abbrev before : ℕ
before = 11_970

year_after : (k : ℕ) → pos (k + before) -ℤ pos 10_000 ≡ pos (1970 + k)
year_after k = omega (arith, signed_arith)

jiff_step : (n : ℕ) → jiff.days_of_years (suc n) ≡ jiff.days_of_years n + days_in_year (pos n -ℤ pos 10_000)
unfolding jiff.days_of_years
jiff_step n = refl

step : (k : ℕ) → days_of_years (suc k) ≡ days_of_years k + year_days (1970 + k)
unfolding days_of_years
step k = refl

none : days_of_years 0 ≡ 0
unfolding days_of_years
none = refl

years : (k : ℕ) → jiff.days_of_years (k + before) ≡ days_of_years k + jiff.days_of_years before
years zero = let same : 0 + before ≡ before = refl in rw none (sym (zero-add (jiff.days_of_years before)))
years (suc k) =
    let next : suc k + before ≡ suc (k + before) = omega arith in
    let same : days_in_year (pos (k + before) -ℤ pos 10_000) ≡ year_days (1970 + k) = ap days_in_year (year_after k) in
    rw (next, jiff_step (k + before), same, step k, years k) (omega arith)

months : (y n : ℕ) → jiff.days_of_months (pos y) n ≡ days_of_months y n
unfolding days_of_months jiff.days_of_months
months y zero = refl
months y (suc n) = ap (λ d. d + days_in_month (pos y) (suc n)) (months y n)

counted : (year month day : ℕ) → 1970 ≤ year → 1 ≤ day → day_count (pos year) month day ≡ days_to year month day + day_count (pos 1970) 1 1
unfolding day_count
counted year month day h first =
    let left : day_count (pos year) month day ≡ jiff.days_of_years (year + 10_000) + (jiff.days_of_months (pos year) (month - 1) + day - 1) = refl in
    let right : day_count (pos 1970) 1 1 ≡ jiff.days_of_years before + (jiff.days_of_months (pos 1970) 0 + 1 - 1) = refl in
    let at : year + 10_000 ≡ (year - 1970) + before = omega arith in
    rw (left, right, at, years (year - 1970), months year (month - 1), days_of_months-zero (pos 1970)) (omega arith)

-- the number of a day from 1970 on
pub number_of : (year month day : ℕ) → 1970 ≤ year → 1 ≤ day → days_from_civil (pos year) month day ≡ pos (days_to year month day)
unfolding days_from_civil
number_of year month day h first = rw (counted year month day h first) (omega (arith, signed_arith))

-- a day that isn't before 1970-01-01 is in a year from 1970 on
not_before : (y : ℤ) (month day n : ℕ) → IsCivilDate y month day → days_from_civil y month day ≡ pos n → pos 1970 ≤ℤ y
not_before y month day n civil e =
    let count = rw e at (days_from_civil-day_count y month day) in
    by_lt_z y (pos 1970)
    (λ lt. absurd (omega (arith, count, day_count-epoch, day_count-lt_year y month day (pos 1970) 1 1 civil (omega arith) lt)))
    (λ le. le)

as_day_from : (y : ℤ) (month day n : ℕ) → pos 1970 ≤ℤ y → IsCivilDate y month day → days_from_civil y month day ≡ pos n
    → IsDay (unsigned_abs y) month day × (days_to (unsigned_abs y) month day ≡ n)
as_day_from (pos year) month day n low civil e =
    let from : 1970 ≤ year = omega (arith, signed_arith) in
    let to : year ≤ 9999 = omega (arith, signed_arith, civil.0) in
    let number : pos (days_to year month day) ≡ pos n = sym (number_of year month day from civil.2.0) ∙ e in
    (record { year_from = from; year_to = to; month_from = civil.1.0; month_to = civil.1.1; day_from = civil.2.0; day_to = civil.2.1 }, cc number)
as_day_from (negsuc year) month day n low civil e = absurd (omega (arith, signed_arith))

pub as_day : (y : ℤ) (month day n : ℕ) → IsCivilDate y month day → days_from_civil y month day ≡ pos n
    → IsDay (unsigned_abs y) month day × (days_to (unsigned_abs y) month day ≡ n)
as_day y month day n civil e = as_day_from y month day n (not_before y month day n civil e) civil e

-- a date of the crate `jiff`, counted from its first one
pub same_day : (y : ℤ) (m d year month day n : ℕ) → IsCivilDate y m d → y ≡ pos year → pos m ≡ pos month → pos d ≡ pos day → 1970 ≤ year
    → days_from_civil y m d +ℤ pos 4_371_587 ≡ pos n → IsDay year month day × (n ≡ days_to year month day + 4_371_587)
same_day y m d year month day n civil ey em ed from e =
    let m_is : m ≡ month = cc in
    let d_is : d ≡ day = cc in
    let here : IsCivilDate (pos year) month day = rw (ey, m_is, d_is) at civil in
    let count : days_from_civil (pos year) month day +ℤ pos 4_371_587 ≡ pos n = rw (ey, m_is, d_is) at e in
    let number = rw (number_of year month day from here.2.0) at count in
    let to : year ≤ 9999 = omega (arith, signed_arith, here.0) in
    (record { year_from = from; year_to = to; month_from = here.1.0; month_to = here.1.1; day_from = here.2.0; day_to = here.2.1 }, omega (arith, signed_arith, number))
