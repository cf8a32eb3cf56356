-- Reading the text of a TIMESTAMP literal: the date and time that its bytes would spell, and whether they do.
use Rattle.std.specs.Prelude.{ℕ, ◌+◌, ◌-◌, ◌*◌, Bool, ◌&&◌, nat_le, nat_lt, if◌then◌else◌, List, ◌++◌, drop, slice_index, Option, Some, None}
use Rattle.std.specs.Str.{bytes_eq}
use Rattle.au_base.specs.declared.calendar.Civil.{Civil}
use Rattle.au_base.specs.Calendar.{moment_of, month_days}
use Rattle.au_base.specs.Moments.{fraction_of, front}

-- the number that two digits would be
abbrev pub pair_at : List ℕ → ℕ → ℕ
pair_at t i = (slice_index t i - 48) * 10 + (slice_index t (i + 1) - 48)

abbrev pub civil_with : List ℕ → Option ℕ → Option Civil
civil_with t None = None
civil_with t (Some micro) =
    Some (record {
      year = pair_at t 0 * 100 + pair_at t 2;
      month = pair_at t 5;
      day = pair_at t 8;
      hour = pair_at t 11;
      minute = pair_at t 14;
      second = pair_at t 17;
      micro = micro;
    })

-- the date and time that the bytes would spell
abbrev pub civil_in : List ℕ → Option Civil
civil_in t = civil_with t (fraction_of (drop 19 t))

-- whether it is a date of the years 1970 to 9999 and a time of day
abbrev pub is_civil : Civil → Bool
is_civil c =
    nat_le 1970 c.year && (nat_le c.year 9999 && (nat_le 1 c.month && (nat_le c.month 12 && (nat_le 1 c.day && (nat_le c.day (month_days c.year c.month)
    && (nat_lt c.hour 24 && (nat_lt c.minute 60 && (nat_lt c.second 60 && nat_lt c.micro 1_000_000))))))))

abbrev pub moment_at : List ℕ → Option Civil → Option ℕ
moment_at t None = None
moment_at t (Some c) = if is_civil c && bytes_eq (front c ++ drop 19 t) t then Some (moment_of c) else None

-- the moment that a text is read as
unfoldable pub moment_read : List ℕ → Option ℕ
moment_read t = moment_at t (civil_in t)
