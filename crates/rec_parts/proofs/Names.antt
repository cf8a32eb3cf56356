-- The tests of names decide what a name is.
use Rattle.std.proofs.Common.{◌≡◌, ℕ, Bool, true, false, List, length, refl}
use Rattle.std.specs.Prelude.{nat_le, ◌&&◌}
use Rattle.std.specs.Str.{is_utf8}
use Rattle.std.proofs.lemmas.Bool.{leb-true, le-leb, and_parts, and_from}
use Rattle.std.proofs.lemmas.Str.{IsUtf8-from_is_utf8, is_utf8-from_IsUtf8}
use Rattle.au_base.specs.Naming.{IsName}
use Rattle.rec_parts.specs.descent.Parts.{is_name}

pub IsName-from_is_name : (bytes : List ℕ) → is_name bytes ≡ true → IsName bytes
IsName-from_is_name bytes h =
    let a = and_parts (nat_le 1 (length bytes)) (nat_le (length bytes) 128 && is_utf8 bytes) h in
    let b = and_parts (nat_le (length bytes) 128) (is_utf8 bytes) a.1 in
    (record { some = leb-true _ _ a.0; capped = leb-true _ _ b.0 }, IsUtf8-from_is_utf8 bytes b.1)

pub is_name-from_IsName : (bytes : List ℕ) → IsName bytes → is_name bytes ≡ true
is_name-from_IsName bytes h =
    and_from (nat_le 1 (length bytes)) (nat_le (length bytes) 128 && is_utf8 bytes) (le-leb _ _ h.0.some)
    (and_from (nat_le (length bytes) 128) (is_utf8 bytes) (le-leb _ _ h.0.capped) (is_utf8-from_IsUtf8 bytes h.1))

-- a test that is true exactly where the fact holds is false where it doesn't
pub fails : (P : Type 0) (b : Bool) → (b ≡ true → P) → (P → ⊥) → b ≡ false
fails P true h absent = absurd (absent (h refl))
fails P false h absent = refl
