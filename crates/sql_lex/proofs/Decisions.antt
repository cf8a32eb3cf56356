-- What the tests of names, texts and digits decide.
use Rattle.std.proofs.Common.{◌≡◌, ℕ, ◌<◌, ◌≤◌, Bool, true, false, ◌&&◌, List, length, refl, arith}
use Rattle.std.specs.Prelude.{nat_le, nat_lt, IsUtf8}
use Rattle.std.specs.Str.{is_utf8}
use Rattle.std.proofs.lemmas.Bool.Decides.{nat_tests}
use Rattle.std.proofs.lemmas.Str.{IsUtf8-from_is_utf8, is_utf8-from_IsUtf8}
use Rattle.au_base.specs.Naming.{IsName}
use Rattle.sql_lex.specs.Bytes.{is_digit, is_letter, is_word_byte}
use Rattle.sql_lex.specs.descent.Scan.{is_name}
use Rattle.sql_lex.proofs.Choices.{both}

pub at_most : (a b : ℕ) → nat_le a b ≡ true → a ≤ b
at_most a b h = grind (arith, nat_tests)

pub at_most_too : (a b : ℕ) → a ≤ b → nat_le a b ≡ true
at_most_too a b h = grind (arith, nat_tests)

pub below : (a b : ℕ) → nat_lt a b ≡ true → a < b
below a b h = grind (arith, nat_tests)

pub below_too : (a b : ℕ) → a < b → nat_lt a b ≡ true
below_too a b h = grind (arith, nat_tests)

pub not_below : (a b : ℕ) → b ≤ a → nat_lt a b ≡ false
not_below a b h = grind (arith, nat_tests)

pub letter_in_word : (b : ℕ) → is_letter b ≡ true → is_word_byte b ≡ true
letter_in_word b h = rw h refl

pub digit_no_letter : (b : ℕ) → is_digit b ≡ true → is_letter b ≡ false
digit_no_letter b h = grind (arith, nat_tests)

pub name_is : (name : List ℕ) → is_name name ≡ true → IsName name
name_is name h =
    let t = both (nat_le 1 (length name)) (nat_le (length name) 128 && is_utf8 name) h in
    let u = both (nat_le (length name) 128) (is_utf8 name) t.1 in
    let some = at_most 1 (length name) t.0 in
    (record { some = omega arith; capped = at_most (length name) 128 u.0 }, IsUtf8-from_is_utf8 name u.1)

pub name_test : (name : List ℕ) → IsName name → is_name name ≡ true
name_test name h =
    let some = h.0.some in
    rw (at_most_too 1 (length name) (omega arith), at_most_too (length name) 128 h.0.capped, is_utf8-from_IsUtf8 name h.1) refl

pub no_name : (name : List ℕ) → ¬ (IsName name) → is_name name ≡ false
no_name name h = go (is_name name) refl
  where
    go : (v : Bool) → is_name name ≡ v → v ≡ false
    go false e = refl
    go true e = absurd (h (name_is name e))

pub no_utf8 : (text : List ℕ) → ¬ (IsUtf8 text) → is_utf8 text ≡ false
no_utf8 text h = go (is_utf8 text) refl
  where
    go : (v : Bool) → is_utf8 text ≡ v → v ≡ false
    go false e = refl
    go true e = absurd (h (IsUtf8-from_is_utf8 text e))
