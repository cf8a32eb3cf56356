-- Decimal digits.
use Rattle.std.proofs.Common.{◌≡◌, ℕ, ◌<◌, ◌-◌, true, false, List, length, get_or, refl, arith}
use Rattle.std.specs.Prelude.{nat_lt, IsAscii}
use Rattle.std.specs.List.{list_all}
use Rattle.std.specs.Char.{digit_value}
use Rattle.std.proofs.lemmas.Bool.Decides.{nat_tests}
use Rattle.std.proofs.lemmas.List.Sums.{AllPass-from_list_all}
use Rattle.std.proofs.lemmas.List.Elements.{All-get_or, All-from_get_or}
use Rattle.std.proofs.lemmas.Str.Ascii.{IsAscii-from_all}
use Rattle.sql_lex.specs.Bytes.{is_digit, is_word_byte}

below : (c : ℕ) → is_digit c ≡ true → nat_lt c 58 ≡ true
below c h = grind (arith, nat_tests)

above : (c : ℕ) → is_digit c ≡ true → nat_lt c 48 ≡ false
above c h = grind (arith, nat_tests)

pub digit_of : (c : ℕ) → is_digit c ≡ true → digit_value c ≡ c - 48
digit_of c h = rw (above c h, below c h) refl

pub digit_at : (ds : List ℕ) (i : ℕ) → i < length ds → list_all is_digit ds ≡ true → is_digit (get_or ds i 0) ≡ true
digit_at ds i inside h = All-get_or (λ x. is_digit x ≡ true) ds i 0 inside (AllPass-from_list_all is_digit ds h)

word_byte_ascii : (b : ℕ) → is_word_byte b ≡ true → b < 128
word_byte_ascii b h = grind (arith, nat_tests)

pub word_ascii : (text : List ℕ) → list_all is_word_byte text ≡ true → IsAscii text
word_ascii text h =
    IsAscii-from_all text (All-from_get_or (λ b. b < 128) text 0 (λ i inside. word_byte_ascii (get_or text i 0) (All-get_or (λ x. is_word_byte x ≡ true) text i 0 inside (AllPass-from_list_all is_word_byte text h))))
