-- The calendar counted out gives back each date and time.
use Rattle.std.proofs.Common.{◌≡◌, ◌+◌, ◌-◌, ◌*◌, ◌/◌, ◌%◌, ◌<◌, ◌≤◌, inl, inr, ℕ, zero, suc, Bool, true, false, nat_le, refl, arith, sym, subst}
use Rattle.std.specs.Prelude.{if◌then◌else◌}
use Rattle.std.proofs.lemmas.Bool.{cases_lt}
use Rattle.std.proofs.lemmas.Bool.Decides.{nat_tests}
use Rattle.au_base.specs.declared.calendar.Civil.{Civil}
use Rattle.au_base.specs.Calendar.{IsCivil, IsDay, civil_at, days_of_months, days_of_years, days_to, is_leap, moment_of, month_days, months_passed, passed, year_days, years_passed}

grows : (days : ℕ → ℕ) → ((k : ℕ) → days k ≤ days (suc k)) → (m n : ℕ) → m ≤ n → days m ≤ days n
grows days step m zero h = let none : m ≡ 0 = omega arith in subst (λ k. days k ≤ days 0) (sym none) (omega arith)
grows days step m (suc n) h =
    elim (cases_lt m (suc n)) [
      | inl below ↦ (
          let here : days m ≤ days n = grows days step m n (omega arith) in
          let there : days n ≤ days (suc n) = step n in
          omega arith)
      | inr above ↦ (let same : suc n ≡ m = omega arith in subst (λ k. days k ≤ days (suc n)) same (omega arith))
    ]

passed-yes : (days : ℕ → ℕ) (n day : ℕ) → days (suc n) ≤ day → passed days (suc n) day ≡ passed days n day + 1
unfolding passed
passed-yes days n day h = let yes : nat_le (days (suc n)) day ≡ true = grind (arith, nat_tests) in rw yes refl

passed-no : (days : ℕ → ℕ) (n day : ℕ) → day < days (suc n) → passed days (suc n) day ≡ passed days n day
unfolding passed
passed-no days n day h = let no : nat_le (days (suc n)) day ≡ false = grind (arith, nat_tests) in rw no (omega arith)

passed-zero : (days : ℕ → ℕ) (day : ℕ) → passed days 0 day ≡ 0
unfolding passed
passed-zero days day = refl

-- what has passed is counted where it begins no later and the next one ends later
passed-is : (days : ℕ → ℕ) → ((k : ℕ) → days k ≤ days (suc k)) → (n day m : ℕ) → m ≤ n → days m ≤ day → (m < n → day < days (suc m)) → passed days n day ≡ m
passed-is days step zero day m h from to = rw (passed-zero days day) (omega arith)
passed-is days step (suc n) day m h from to =
    elim (cases_lt m (suc n)) [
      | inl below ↦ (
          let later : days (suc m) ≤ days (suc n) = grows days step (suc m) (suc n) (omega arith) in
          let here : day < days (suc m) = to (omega arith) in
          rw (passed-no days n day (omega arith)) (passed-is days step n day m (omega arith) from (λ _. here)))
      | inr above ↦ (
          let same : m ≡ suc n = omega arith in
          let last : days (suc n) ≤ day = subst (λ k. days k ≤ day) same from in
          let before : days n ≤ days (suc n) = step n in
          rw (passed-yes days n day last, passed-is days step n day n (omega arith) (omega arith) (λ h. absurd (omega arith))) (omega arith))
    ]

years-step : (k : ℕ) → days_of_years (suc k) ≡ days_of_years k + year_days (1970 + k)
unfolding days_of_years
years-step k = refl

months-step : (year k : ℕ) → days_of_months year (suc k) ≡ days_of_months year k + month_days year (suc k)
unfolding days_of_months
months-step year k = refl

twelve : (year : ℕ) → days_of_months year 12 ≡ year_days year
unfolding days_of_months
twelve year =
    let sum : (leap : Bool) → 0 + 31 + (if leap then 29 else 28) + 31 + 30 + 31 + 30 + 31 + 31 + 30 + 31 + 30 + 31 ≡ (if leap then 366 else 365) =
    elim [ true ↦ refl | false ↦ refl ] in
    sum (is_leap year)

years-grow : (k : ℕ) → days_of_years k ≤ days_of_years (suc k)
years-grow k = rw (years-step k) (omega arith)

months-grow : (year k : ℕ) → days_of_months year k ≤ days_of_months year (suc k)
months-grow year k = rw (months-step year k) (omega arith)

-- a month ends with its year at the latest
in_year : (year month day : ℕ) → IsDay year month day → days_of_months year (month - 1) + (day - 1) < days_of_months year month
in_year year month day is =
    let at : suc (month - 1) ≡ month = omega (arith, is.month_from) in
    let step : days_of_months year (suc (month - 1)) ≡ days_of_months year (month - 1) + month_days year (suc (month - 1)) = months-step year (month - 1) in
    let here : days_of_months year month ≡ days_of_months year (month - 1) + month_days year month = rw at at step in
    omega (arith, is.day_from, is.day_to)

years-back : (year month day : ℕ) → IsDay year month day → years_passed (days_to year month day) ≡ year - 1970
years-back year month day is =
    let at : 1970 + (year - 1970) ≡ year = omega (arith, is.year_from) in
    let whole : days_of_months year month ≤ days_of_months year 12 = grows (days_of_months year) (months-grow year) month 12 is.month_to in
    let inside = in_year year month day is in
    let days = twelve year in
    let next : days_of_years (suc (year - 1970)) ≡ days_of_years (year - 1970) + year_days year = rw at at (years-step (year - 1970)) in
    passed-is days_of_years years-grow 8029 (days_to year month day) (year - 1970) (omega (arith, is.year_to)) (omega arith) (λ _. omega arith)

months-back : (year month day : ℕ) → IsDay year month day → months_passed year (days_of_months year (month - 1) + (day - 1)) ≡ month - 1
months-back year month day is =
    let at : suc (month - 1) ≡ month = omega (arith, is.month_from) in
    let inside = in_year year month day is in
    passed-is (days_of_months year) (months-grow year) 11 (days_of_months year (month - 1) + (day - 1)) (month - 1) (omega (arith, is.month_to)) (omega arith)
    (λ _. rw at inside)

pub back : (c : Civil) → IsCivil c → civil_at (moment_of c) ≡ c
back c is =
    let day = days_to c.year c.month c.day in
    let micros = ((c.hour * 60 + c.minute) * 60 + c.second) * 1_000_000 + c.micro in
    let on : moment_of c / 86_400_000_000 ≡ day = omega (arith, is.hour, is.minute, is.second, is.micro) in
    let at : moment_of c % 86_400_000_000 ≡ micros = omega (arith, is.hour, is.minute, is.second, is.micro) in
    let years = years-back c.year c.month c.day is.date in
    let months = months-back c.year c.month c.day is.date in
    let rest : day - days_of_years (c.year - 1970) ≡ days_of_months c.year (c.month - 1) + (c.day - 1) = omega arith in
    let year : 1970 + (c.year - 1970) ≡ c.year = omega (arith, is.date.year_from) in
    rw (on, at, years, rest, year, months) (
    let month : 1 + (c.month - 1) ≡ c.month = omega (arith, is.date.month_from) in
    let date : 1 + (days_of_months c.year (c.month - 1) + (c.day - 1) - days_of_months c.year (c.month - 1)) ≡ c.day = omega (arith, is.date.day_from) in
    let hour : micros / 3_600_000_000 ≡ c.hour = omega (arith, is.hour, is.minute, is.second, is.micro) in
    let minute : micros / 60_000_000 % 60 ≡ c.minute = omega (arith, is.hour, is.minute, is.second, is.micro) in
    let second : micros / 1_000_000 % 60 ≡ c.second = omega (arith, is.hour, is.minute, is.second, is.micro) in
    let micro : micros % 1_000_000 ≡ c.micro = omega (arith, is.micro) in
    λ i. record { year = c.year; month = month i; day = date i; hour = hour i; minute = minute i; second = second i; micro = micro i })
