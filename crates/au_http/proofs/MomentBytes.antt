-- The text of a moment is ASCII.
use Rattle.std.proofs.Common.{◌+◌, ◌/◌, ◌%◌, ◌<◌, ◌==◌, ◌||◌, ℕ, zero, suc, Bool, true, false, if◌then◌else◌, List, [], ◌∷◌, IsAscii, arith, lt_of_le_of_lt, subst, sym}
use Rattle.std.specs.Prelude.{⊤}
use Rattle.au_base.specs.declared.calendar.Civil.{Civil}
use Rattle.au_base.specs.Calendar.{IsCivil, is_leap, month_days}
use Rattle.au_base.specs.Moments.{civil_text, IsMomentText}

AreSmall : List ℕ → Type 0
AreSmall [] = ⊤
AreSmall (b ∷ bytes) = (b < 128) × AreSmall bytes

ascii : (bytes : List ℕ) → AreSmall bytes → IsAscii bytes
unfolding AreSmall
ascii [] s i = omega arith
ascii (b ∷ bytes) s zero = s.0
ascii (b ∷ bytes) s (suc i) = ascii bytes s.1 i

tens : (n : ℕ) → n < 100 → 48 + n / 10 < 128
tens n h = omega arith

ones : (n : ℕ) → 48 + n % 10 < 128
ones n = omega arith

either : (test : Bool) (a b : ℕ) → a < 100 → b < 100 → (if test then a else b) < 100
either true a b s t = s
either false a b s t = t

month_small : (year month : ℕ) → month_days year month < 100
month_small year month =
    either (month == 2) _ _ (either (is_leap year) 29 28 (omega arith) (omega arith))
    (either ((month == 4) || (month == 6) || (month == 9) || (month == 11)) 30 31 (omega arith) (omega arith))

civil_small : (c : Civil) → IsCivil c → AreSmall (civil_text c)
unfolding AreSmall
civil_small c is =
    let days = month_small c.year c.month in
    let y : c.year / 100 < 100 = omega (arith, is.date.year_to) in
    let z : c.year % 100 < 100 = omega arith in
    let m : c.month < 100 = omega (arith, is.date.month_to) in
    let d : c.day < 100 = lt_of_le_of_lt is.date.day_to days in
    let h : c.hour < 100 = omega (arith, is.hour) in
    let i : c.minute < 100 = omega (arith, is.minute) in
    let s : c.second < 100 = omega (arith, is.second) in
    let f : c.micro / 10_000 < 100 = omega (arith, is.micro) in
    let g : c.micro / 100 % 100 < 100 = omega arith in
    let k : c.micro % 100 < 100 = omega arith in
    let dash : 45 < 128 = omega arith in
    let space : 32 < 128 = omega arith in
    let colon : 58 < 128 = omega arith in
    let dot : 46 < 128 = omega arith in
    (tens (c.year / 100) y, (ones (c.year / 100), (tens (c.year % 100) z, (ones (c.year % 100), (dash, (tens (c.month) m, (ones (c.month), (dash, (tens (c.day) d, (ones (c.day), (space, (tens (c.hour) h, (ones (c.hour), (colon, (tens (c.minute) i, (ones (c.minute), (colon, (tens (c.second) s, (ones (c.second), (dot, (tens (c.micro / 10_000) f, (ones (c.micro / 10_000), (tens (c.micro / 100 % 100) g, (ones (c.micro / 100 % 100), (tens (c.micro % 100) k, (ones (c.micro % 100), tt))))))))))))))))))))))))))

pub moment_ascii : (moment : ℕ) (text : List ℕ) → IsMomentText moment text → IsAscii text
moment_ascii moment text (c, is, at, e) = subst IsAscii (sym e) (ascii (civil_text c) (civil_small c is))
