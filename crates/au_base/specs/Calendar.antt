-- The civil calendar from 1970 to 9999 (ISO 8601, the proleptic Gregorian calendar), by counting days.
use Rattle.std.specs.Prelude.{ℕ, zero, suc, ◌+◌, ◌-◌, ◌*◌, ◌/◌, ◌%◌, ◌<◌, ◌≤◌, ◌==◌, ◌&&◌, ◌||◌, nat_le, not, Bool, if◌then◌else◌}
use Rattle.au_base.specs.declared.calendar.Civil.{Civil}

-- every fourth year, but of the centuries only every fourth
abbrev pub is_leap : ℕ → Bool
is_leap year = (year % 4 == 0) && (not (year % 100 == 0) || (year % 400 == 0))

abbrev pub year_days : ℕ → ℕ
year_days year = if is_leap year then 366 else 365

abbrev pub month_days : ℕ → ℕ → ℕ
month_days year month =
    if month == 2 then (if is_leap year then 29 else 28)
    else (if (month == 4) || (month == 6) || (month == 9) || (month == 11) then 30 else 31)

-- the days of the first n years from 1970 on
unfoldable pub days_of_years : ℕ → ℕ
days_of_years zero = 0
days_of_years (suc n) = days_of_years n + year_days (1970 + n)

-- the days of the first n months of a year
unfoldable pub days_of_months : ℕ → ℕ → ℕ
days_of_months year zero = 0
days_of_months year (suc n) = days_of_months year n + month_days year (suc n)

-- the days from 1970-01-01 to the date
abbrev pub days_to : ℕ → ℕ → ℕ → ℕ
days_to year month day = days_of_years (year - 1970) + days_of_months year (month - 1) + (day - 1)

-- a date of the calendar
pub record IsDay (year month day : ℕ) : Type 0 where
  pub year_from : 1970 ≤ year
  pub year_to : year ≤ 9999
  pub month_from : 1 ≤ month
  pub month_to : month ≤ 12
  pub day_from : 1 ≤ day
  pub day_to : day ≤ month_days year month

-- a date and a time of day
pub record IsCivil (c : Civil) : Type 0 where
  pub date : IsDay c.year c.month c.day
  pub hour : c.hour < 24
  pub minute : c.minute < 60
  pub second : c.second < 60
  pub micro : c.micro < 1_000_000

-- microseconds since 1970
abbrev pub moment_of : Civil → ℕ
moment_of c =
    (((days_to c.year c.month c.day * 24 + c.hour) * 60 + c.minute) * 60 + c.second) * 1_000_000 + c.micro

-- of the first n years or months, how many have passed by that day, where `days k` is how many days the first k have
unfoldable pub passed : (ℕ → ℕ) → ℕ → ℕ → ℕ
passed days zero day = 0
passed days (suc n) day = passed days n day + (if nat_le (days (suc n)) day then 1 else 0)

-- years from 1970 to 9998 that have passed by the day so many days after 1970-01-01
abbrev pub years_passed : ℕ → ℕ
years_passed day = passed days_of_years 8029 day

-- months but the last that have passed by that day of a year, counted from 0
abbrev pub months_passed : ℕ → ℕ → ℕ
months_passed year day = passed (days_of_months year) 11 day

-- the date of a day and the time at some microseconds of it
abbrev pub civil_on : (years days months micros : ℕ) → Civil
civil_on years days months micros =
    record {
      year = 1970 + years;
      month = 1 + months;
      day = 1 + (days - days_of_months (1970 + years) months);
      hour = micros / 3_600_000_000;
      minute = micros / 60_000_000 % 60;
      second = micros / 1_000_000 % 60;
      micro = micros % 1_000_000;
    }

-- the same, where the day of the year is known
abbrev pub civil_in_year : (years days micros : ℕ) → Civil
civil_in_year years days micros = civil_on years days (months_passed (1970 + years) days) micros

-- the same, where the number of the day is known
abbrev pub civil_on_day : (day micros : ℕ) → Civil
civil_on_day day micros = civil_in_year (years_passed day) (day - days_of_years (years_passed day)) micros

-- the date and the time of a moment
abbrev pub civil_at : ℕ → Civil
civil_at moment = civil_on_day (moment / 86_400_000_000) (moment % 86_400_000_000)
