-- Readers that give what is spelled, and nothing else.
use Rattle.std.specs.Prelude.{◌≡◌, ℕ, ◌<◌, ◌++◌, List, get_or, Option, Some}
use Rattle.rec_parts.specs.Spelling.{Spelling}

-- each number is a byte
abbrev pub IsBytes : List ℕ → Type 0
IsBytes bytes = (i : ℕ) → get_or bytes i 0 < 256

-- the value is spelled at the front of the bytes, and the others stand behind it
pub record Takes {X : Type 0} (s : Spelling X) (bytes : List ℕ) (x : X × List ℕ) : Type 0 where
  pub spellable : s.IsSpellable x.0
  pub parts : bytes ≡ s.spelled x.0 ++ x.1
  pub rest_fits : IsBytes x.1

-- what is read at the front of bytes is spelled there, and what is spelled there is read, whatever follows it
pub record IsExact {X : Type 0} (s : Spelling X) (first : List ℕ → Option (X × List ℕ)) : Type 0 where
  pub takes : (bytes : List ℕ) (x : X × List ℕ) → IsBytes bytes → first bytes ≡ Some x → Takes s bytes x
  pub again : (x : X) (rest : List ℕ) → s.IsSpellable x → first (s.spelled x ++ rest) ≡ Some (x, rest)
