-- A text in upper case is text.
use Rattle.std.proofs.Common.{◌≡◌, ◌<◌, ◌≤◌, ◌+◌, ◌/◌, ◌%◌, ◌∙◌, ℕ, nat_lt, Bool, true, false, cond, inl, inr, List, [], ◌∷◌, ◌++◌, map, refl, sym, ap, arith}
use Rattle.std.specs.Char.{to_ascii_uppercase}
use Rattle.std.specs.Str.{IsUtf8}
use Rattle.std.proofs.Math.Utf8.{encode, encodes, low_scalar, scalar, scalars}
use Rattle.std.proofs.lemmas.Bool.{and_from, and_parts, cases_lt, ltb-true}
use Rattle.std.proofs.lemmas.Str.{encode_ascii}
use Rattle.std.proofs.lemmas.Str.Ascii.{uppercase_ascii, uppercase_is}

-- what isn't ASCII stays
steady : (b : ℕ) → 128 ≤ b → to_ascii_uppercase b ≡ b
steady b high = (uppercase_is b).2 (omega arith)

long_at : (c : ℕ) (x y z : Bool) (short : List ℕ) → x ≡ false
    → map to_ascii_uppercase
    (cond x short (cond y ((192 + c / 64) ∷ (128 + c % 64) ∷ []) (cond z ((224 + c / 4096) ∷ (128 + c / 64 % 64) ∷ (128 + c % 64) ∷ []) ((240 + c / 262144) ∷ (128 + c / 4096 % 64) ∷ (128 + c / 64 % 64) ∷ (128 + c % 64) ∷ []))))
    ≡ cond x short (cond y ((192 + c / 64) ∷ (128 + c % 64) ∷ []) (cond z ((224 + c / 4096) ∷ (128 + c / 64 % 64) ∷ (128 + c % 64) ∷ []) ((240 + c / 262144) ∷ (128 + c / 4096 % 64) ∷ (128 + c / 64 % 64) ∷ (128 + c % 64) ∷ [])))
long_at c true y z short is = absurd (let e : true ≡ false = is in cc)
long_at c false true z short is = λ i. steady (192 + c / 64) (omega arith) i ∷ steady (128 + c % 64) (omega arith) i ∷ []
long_at c false false true short is = λ i. steady (224 + c / 4096) (omega arith) i ∷ steady (128 + c / 64 % 64) (omega arith) i ∷ steady (128 + c % 64) (omega arith) i ∷ []
long_at c false false false short is =
    λ i. steady (240 + c / 262144) (omega arith) i ∷ steady (128 + c / 4096 % 64) (omega arith) i ∷ steady (128 + c / 64 % 64) (omega arith) i ∷ steady (128 + c % 64) (omega arith) i ∷ []

not_short : (c : ℕ) (b : Bool) → nat_lt c 128 ≡ b → 128 ≤ c → b ≡ false
not_short c true is high = (let less : c < 128 = ltb-true c 128 is in absurd (omega arith))
not_short c false is high = refl

-- the bytes of a character that isn't of ASCII stay
long : (c : ℕ) → 128 ≤ c → map to_ascii_uppercase (encode c) ≡ encode c
unfolding encode
long c high = long_at c (nat_lt c 128) (nat_lt c 2048) (nat_lt c 65536) (c ∷ []) (not_short c (nat_lt c 128) refl high)

-- the bytes of a character in upper case are those of the character that is its upper case
letter : (c : ℕ) → map to_ascii_uppercase (encode c) ≡ encode (to_ascii_uppercase c)
letter c = elim (cases_lt c 128) [
  | inl low ↦ ap (map to_ascii_uppercase) (encode_ascii c low) ∙ sym (encode_ascii (to_ascii_uppercase c) (uppercase_ascii c low))
  | inr high ↦ long c high ∙ ap encode (sym (steady c high))
]

scalar_stays : (c : ℕ) → scalar c ≡ true → scalar (to_ascii_uppercase c) ≡ true
scalar_stays c is = elim (cases_lt c 128) [
  | inl low ↦ (let small = uppercase_ascii c low in low_scalar (to_ascii_uppercase c) (omega arith))
  | inr high ↦ ap scalar (steady c high) ∙ is
]

map_joined : (f : ℕ → ℕ) (xs ys : List ℕ) → map f (xs ++ ys) ≡ map f xs ++ map f ys
map_joined f [] ys = refl
map_joined f (x ∷ xs) ys = ap (λ (rest : List ℕ). f x ∷ rest) (map_joined f xs ys)

letters : (cs : List ℕ) → scalars cs ≡ true → (scalars (map to_ascii_uppercase cs) ≡ true) × (encodes (map to_ascii_uppercase cs) ≡ map to_ascii_uppercase (encodes cs))
letters [] is = (refl, refl)
letters (c ∷ cs) is =
    let parts = and_parts (scalar c) (scalars cs) is in
    let rest = letters cs parts.1 in (
      and_from (scalar (to_ascii_uppercase c)) (scalars (map to_ascii_uppercase cs)) (scalar_stays c parts.0) rest.0,
      (λ i. sym (letter c) i ++ rest.1 i) ∙ sym (map_joined to_ascii_uppercase (encode c) (encodes cs)),
    )

pub raised : (text : List ℕ) → IsUtf8 text → IsUtf8 (map to_ascii_uppercase text)
raised text utf8 =
    let made = letters utf8.0 utf8.1.0 in
    (map to_ascii_uppercase utf8.0, (made.0, made.1 ∙ ap (map to_ascii_uppercase) utf8.1.1))
