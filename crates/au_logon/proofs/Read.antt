-- What a text is read as is text, and the user whom it names has a name.
use Rattle.std.proofs.Common.{◌≡◌, ◌≤◌, ◌<◌, ◌-◌, ◌∙◌, ℕ, Bool, true, false, not, ◌&&◌, ◌==◌, nat_le, if◌then◌else◌, List, [], ◌∷◌, length, map, take, drop, get_or, refl, ap, subst, arith}
use Rattle.std.specs.Prelude.{Option, Some, None, slice_index}
use Rattle.std.specs.Char.{to_ascii_uppercase}
use Rattle.std.specs.Str.{IsUtf8}
use Rattle.std.proofs.lemmas.Bool.{and_parts}
use Rattle.std.proofs.lemmas.Bool.Decides.{nat_tests}
use Rattle.std.proofs.lemmas.Str.{IsCharBoundary-after_ascii, IsCharBoundary-before_ascii, IsUtf8-between, IsUtf8-from_ascii}
use Rattle.std.proofs.lemmas.Str.Ascii.{IsAscii-cons, IsAscii-nil}
use Rattle.au_audit.specs.Statements.{logon_user}
use Rattle.au_base.specs.Found.{MakesExactly}
use Rattle.au_base.specs.Naming.{IsName, IsNameLong, between, identifier_of, is_quoted}
use Rattle.au_logon.proofs.Raised.{raised}
use Rattle.au_logon.specs.Admitting.{names_nobody}

-- 34 is a byte of ASCII
quoted_parts : (text : List ℕ) → is_quoted text ≡ true → (2 ≤ length text) × (get_or text 0 0 ≡ 34) × (get_or text (length text - 1) 0 ≡ 34)
quoted_parts text is =
    let parts = and_parts (nat_le 2 (length text)) (slice_index text 0 == 34 && slice_index text (length text - 1) == 34) is in
    let quotes = and_parts (slice_index text 0 == 34) (slice_index text (length text - 1) == 34) parts.1 in
    (let long = parts.0 in grind (arith, nat_tests), (let first = quotes.0 in grind (arith, nat_tests)), let last = quotes.1 in grind (arith, nat_tests))

between_text : (text : List ℕ) → IsUtf8 text → is_quoted text ≡ true → IsUtf8 (between text)
between_text text utf8 is =
    let parts = quoted_parts text is in
    let long = parts.0 in
    let first : get_or text 0 0 < 128 = (let q = parts.1 in omega arith) in
    let last : get_or text (length text - 1) 0 < 128 = (let q = parts.2 in omega arith) in
    let count : length text - 1 - 1 ≡ length text - 2 = omega arith in
    subst (λ (n : ℕ). IsUtf8 (take n (drop 1 text))) count
    (IsUtf8-between text 1 (length text - 1) utf8 (omega arith) (IsCharBoundary-after_ascii text 0 utf8 (omega arith) first) (IsCharBoundary-before_ascii text (length text - 1) (omega arith) last))

identifier_at : (text : List ℕ) (b : Bool) → is_quoted text ≡ b → IsUtf8 text → IsUtf8 (if b then between text else map to_ascii_uppercase text)
identifier_at text true is utf8 = between_text text utf8 is
identifier_at text false is utf8 = raised text utf8

-- an identifier of a text is text
pub identifier_text : (text : List ℕ) → IsUtf8 text → IsUtf8 (identifier_of text)
identifier_text text utf8 = identifier_at text (is_quoted text) refl utf8

-- the name has as many bytes as one may have
abbrev is_long : List ℕ → Bool
is_long name = nat_le 1 (length name) && nat_le (length name) 128

long_from : (name : List ℕ) → is_long name ≡ true → IsNameLong name
long_from name is =
    let parts = and_parts (nat_le 1 (length name)) (nat_le (length name) 128) is in
    let low = parts.0 in
    let high = parts.1 in
    record { some = grind (arith, nat_tests); capped = grind (arith, nat_tests) }

mark_named : IsName (63 ∷ [])
mark_named = (record { some = omega arith; capped = omega arith }, IsUtf8-from_ascii (63 ∷ []) (IsAscii-cons 63 [] (omega arith) IsAscii-nil))

named_at : (name : List ℕ) (b : Bool) → is_long name ≡ b → IsUtf8 name → IsName (if b then name else 63 ∷ [])
named_at name true is utf8 = (long_from name is, utf8)
named_at name false is utf8 = mark_named

-- the user whom a text names has a name
pub user_named : (text : List ℕ) → IsUtf8 text → IsName (logon_user text)
user_named text utf8 = named_at (identifier_of text) (is_long (identifier_of text)) refl (identifier_text text utf8)

nobody_at : (name : List ℕ) (b : Bool) → is_long name ≡ b → ¬ IsName name → IsUtf8 name → ◌≡◌ {A = Bool × List ℕ} (true, 63 ∷ []) (not b, if b then name else 63 ∷ [])
nobody_at name true is none utf8 = absurd (none (long_from name is, utf8))
nobody_at name false is none utf8 = refl

-- where the identifier of a text is no name, the text names nobody
pub read_nobody : (text mark : List ℕ) (answer : Option (List ℕ)) → IsUtf8 text → answer ≡ None → MakesExactly (IsName (identifier_of text)) (identifier_of text) answer → mark ≡ 63 ∷ []
    → ◌≡◌ {A = Bool × List ℕ} (true, mark) (names_nobody text, logon_user text)
read_nobody text mark None utf8 is none marks =
    ap (λ (name : List ℕ). (λ (pair : Bool × List ℕ). pair) (true, name)) marks ∙ nobody_at (identifier_of text) (is_long (identifier_of text)) refl none (identifier_text text utf8)
read_nobody text mark (Some name) utf8 is makes marks = absurd (let e : Some name ≡ None = is in cc)
