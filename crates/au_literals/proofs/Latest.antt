-- No date and time of the calendar is over the last moment.
use Rattle.std.proofs.Common.{◌≡◌, ◌+◌, ◌-◌, ◌≤◌, ◌<◌, inl, inr, ℕ, zero, suc, Bool, true, false, List, refl, sym, arith, subst}
use Rattle.std.specs.Prelude.{if◌then◌else◌}
use Rattle.std.proofs.lemmas.Bool.{cases_lt}
use Rattle.au_base.specs.Calendar.{IsDay, days_of_months, days_of_years, days_to, is_leap, moment_of, month_days, year_days}
use Rattle.au_base.specs.Limits.{LAST_MOMENT}
use Rattle.au_base.specs.Moments.{TellsMoment}

grows : (days : ℕ → ℕ) → ((k : ℕ) → days k ≤ days (suc k)) → (m n : ℕ) → m ≤ n → days m ≤ days n
grows days step m zero h = let none : m ≡ 0 = omega arith in subst (λ k. days k ≤ days 0) (sym none) (omega arith)
grows days step m (suc n) h =
    elim (cases_lt m (suc n)) [
      | inl below ↦ (
          let here : days m ≤ days n = grows days step m n (omega arith) in
          let there : days n ≤ days (suc n) = step n in
          omega arith)
      | inr above ↦ (let same : suc n ≡ m = omega arith in subst (λ k. days k ≤ days (suc n)) same (omega arith))
    ]

years_step : (k : ℕ) → days_of_years (suc k) ≡ days_of_years k + year_days (1970 + k)
unfolding days_of_years
years_step k = refl

months_step : (year k : ℕ) → days_of_months year (suc k) ≡ days_of_months year k + month_days year (suc k)
unfolding days_of_months
months_step year k = refl

twelve : (year : ℕ) → days_of_months year 12 ≡ year_days year
unfolding days_of_months
twelve year =
    let sum : (leap : Bool) → 0 + 31 + (if leap then 29 else 28) + 31 + 30 + 31 + 30 + 31 + 31 + 30 + 31 + 30 + 31 ≡ (if leap then 366 else 365) =
    elim [ true ↦ refl | false ↦ refl ] in
    sum (is_leap year)

years_grow : (k : ℕ) → days_of_years k ≤ days_of_years (suc k)
years_grow k = rw (years_step k) (omega arith)

months_grow : (year k : ℕ) → days_of_months year k ≤ days_of_months year (suc k)
months_grow year k = rw (months_step year k) (omega arith)

-- a month ends with its year at the latest
in_year : (year month day : ℕ) → IsDay year month day → days_of_months year (month - 1) + (day - 1) < days_of_months year month
in_year year month day is =
    let at : suc (month - 1) ≡ month = omega (arith, is.month_from) in
    let step : days_of_months year (suc (month - 1)) ≡ days_of_months year (month - 1) + month_days year (suc (month - 1)) = months_step year (month - 1) in
    let here : days_of_months year month ≡ days_of_months year (month - 1) + month_days year month = rw at at step in
    omega (arith, is.day_from, is.day_to)

-- the days from 1970 up to the end of 9999
all_days : days_of_years 8030 ≡ 2_932_897
unfolding days_of_years
all_days = refl

days_under : (year month day : ℕ) → IsDay year month day → days_to year month day < 2_932_897
days_under year month day is =
    let at : 1970 + (year - 1970) ≡ year = omega (arith, is.year_from) in
    let whole : days_of_months year month ≤ days_of_months year 12 = grows (days_of_months year) (months_grow year) month 12 is.month_to in
    let inside = in_year year month day is in
    let days = twelve year in
    let next : days_of_years (suc (year - 1970)) ≡ days_of_years (year - 1970) + year_days year = rw at at (years_step (year - 1970)) in
    let last : days_of_years (suc (year - 1970)) ≤ days_of_years 8030 = grows days_of_years years_grow (suc (year - 1970)) 8030 (omega (arith, is.year_to, is.year_from)) in
    let all = all_days in
    omega arith

pub latest : (text : List ℕ) (moment : ℕ) → TellsMoment text moment → moment ≤ LAST_MOMENT
latest text moment (c, civil, spells, is) =
    let days = days_under c.year c.month c.day civil.date in
    let within : moment_of c ≤ LAST_MOMENT = omega (arith, days, civil.hour, civil.minute, civil.second, civil.micro) in
    subst (λ (m : ℕ). m ≤ LAST_MOMENT) (sym is) within
