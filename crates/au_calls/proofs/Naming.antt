-- Texts as names.
use Rattle.std.proofs.Common.{◌≡◌, ℕ, ◌<◌, ◌≤◌, Bool, true, false, List, Option, Some, None, length, refl, ap, arith}
use Rattle.std.specs.Prelude.{if◌then◌else◌, nat_le}
use Rattle.std.specs.Str.{IsUtf8, is_utf8}
use Rattle.std.proofs.lemmas.Bool.{and_from, and_parts, le-leb, leb-true}
use Rattle.std.proofs.lemmas.Str.{IsUtf8-from_is_utf8, is_utf8-from_IsUtf8}
use Rattle.au_base.specs.Found.{MakesExactly}
use Rattle.au_base.specs.Naming.{IsName, identifier_of}
use Rattle.au_calls.specs.Literals.{is_name, name_of}

none_at : {X : Type 0} (b : Bool) (x : X) → (b ≡ true → ⊥) → None ≡ (if b then Some x else None)
none_at true x isnt = absurd (isnt refl)
none_at false x isnt = refl

some_at : {X : Type 0} (b : Bool) (x y : X) → b ≡ true → x ≡ y → Some x ≡ (if b then Some y else None)
some_at true x y is same = ap Some same
some_at false x y is same = absurd (let e : false ≡ true = is in cc)

long_enough : (bytes : List ℕ) → 0 < length bytes → nat_le 1 (length bytes) ≡ true
long_enough bytes some = le-leb 1 (length bytes) (omega arith)

some_there : (bytes : List ℕ) → nat_le 1 (length bytes) ≡ true → 0 < length bytes
some_there bytes is = let e : 1 ≤ length bytes = leb-true 1 (length bytes) is in omega arith

-- a text of UTF-8 is a name where what it names is one
is_name_from : (text : List ℕ) → IsUtf8 text → IsName (identifier_of text) → is_name text ≡ true
is_name_from text utf8 (long, named) =
    and_from _ _ (is_utf8-from_IsUtf8 text utf8)
    (and_from _ _ (is_utf8-from_IsUtf8 (identifier_of text) named)
    (and_from _ _ (long_enough (identifier_of text) long.some) (le-leb (length (identifier_of text)) 128 long.capped)))

-- and what such a text names is a name
pub to_name : (text : List ℕ) → is_name text ≡ true → IsName (identifier_of text)
to_name text is =
    let outer = and_parts (is_utf8 text) _ is in
    let inner = and_parts (is_utf8 (identifier_of text)) _ outer.1 in
    let sizes = and_parts (nat_le 1 (length (identifier_of text))) _ inner.1 in (
      record { some = some_there (identifier_of text) sizes.0; capped = leb-true (length (identifier_of text)) 128 sizes.1 },
      IsUtf8-from_is_utf8 (identifier_of text) inner.0,
    )

pub name_made : (text : List ℕ) (answer : Option (List ℕ)) → IsUtf8 text → MakesExactly (IsName (identifier_of text)) (identifier_of text) answer → answer ≡ name_of text
name_made text (Some name) utf8 (named, is) = some_at (is_name text) name (identifier_of text) (is_name_from text utf8 named) is
name_made text None utf8 isnt = none_at (is_name text) (identifier_of text) (λ is. isnt (to_name text is))

-- what isn't UTF-8 is no name
pub no_text : (text : List ℕ) → (IsUtf8 text → ⊥) → None ≡ name_of text
no_text text isnt = none_at (is_name text) (identifier_of text) (λ is. isnt (IsUtf8-from_is_utf8 text (and_parts (is_utf8 text) _ is).0))

pub no_text_at : (text : List ℕ) (answer : Option (List ℕ)) → answer ≡ None → MakesExactly (IsUtf8 text) text answer → None ≡ name_of text
no_text_at text None is isnt = no_text text isnt
no_text_at text (Some made) is makes = absurd (let e : Some made ≡ None = is in cc)
