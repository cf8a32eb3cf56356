-- The text of a moment, `YYYY-MM-DD HH:MM:SS.ffffff`, and the texts that are read as one
-- (SQL Language Reference, "Datetime Literals"; the years 1970 to 9999 are this project's profile).
use Rattle.std.specs.Prelude.{◌≡◌, ℕ, ◌+◌, ◌-◌, ◌*◌, ◌^◌, ◌/◌, ◌%◌, ◌<◌, ◌==◌, ◌&&◌, nat_le, List, [], ◌∷◌, ◌++◌, length, if◌then◌else◌, Option, Some, None}
use Rattle.std.specs.List.{list_all}
use Rattle.std.specs.Char.{is_ascii_digit}
use Rattle.std.specs.Str.Parse.{digits_value}
use Rattle.au_base.specs.declared.calendar.Civil.{Civil}
use Rattle.au_base.specs.Calendar.{IsCivil, moment_of, civil_at}

-- two decimal digits
abbrev pub two : ℕ → List ℕ
two n = (48 + n / 10) ∷ (48 + n % 10) ∷ []

-- four decimal digits
abbrev pub four : ℕ → List ℕ
four n = two (n / 100) ++ two (n % 100)

-- six decimal digits
abbrev pub six : ℕ → List ℕ
six n = two (n / 10_000) ++ two (n / 100 % 100) ++ two (n % 100)

-- the date and the time up to the second
abbrev pub front : Civil → List ℕ
front c =
    four c.year ++ 45 ∷ two c.month ++ 45 ∷ two c.day ++ 32 ∷ two c.hour ++ 58 ∷ two c.minute ++ 58 ∷ two c.second

-- the date and the time, whole
abbrev pub civil_text : Civil → List ℕ
civil_text c = front c ++ 46 ∷ six c.micro

-- the text of a moment
unfoldable pub text_of_moment : ℕ → List ℕ
text_of_moment moment = civil_text (civil_at moment)

-- the microseconds that up to six digits behind a point stand for, and none for no fraction
abbrev pub fraction_of : List ℕ → Option ℕ
fraction_of [] = Some 0
fraction_of (b ∷ digits) =
    if b == 46 && (nat_le 1 (length digits) && (nat_le (length digits) 6 && list_all is_ascii_digit digits))
    then Some (digits_value 10 digits * 10 ^ (6 - length digits)) else None

-- the text is a date and a time, with a fraction or without
abbrev pub Spells : Civil → List ℕ → Type 0
Spells c text = (end : List ℕ) × (text ≡ front c ++ end) × (fraction_of end ≡ Some c.micro)

-- the text is read as that moment
abbrev pub TellsMoment : List ℕ → ℕ → Type 0
TellsMoment text moment = (c : Civil) × IsCivil c × Spells c text × (moment ≡ moment_of c)

-- the text is read as no moment
abbrev pub TellsNoMoment : List ℕ → Type 0
TellsNoMoment text = (c : Civil) → IsCivil c → ¬ (Spells c text)

-- the text is that of some date and time at the moment
abbrev pub IsMomentText : ℕ → List ℕ → Type 0
IsMomentText moment text = (c : Civil) × IsCivil c × (moment_of c ≡ moment) × (text ≡ civil_text c)

-- two digits that are a number
abbrev pub IsPair : ℕ → ℕ → ℕ → Type 0
IsPair a b n = (n < 100) × (a ∷ b ∷ [] ≡ two n)
