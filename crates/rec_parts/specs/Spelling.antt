-- How values are spelled as bytes.
use Rattle.std.specs.Prelude.{◌≡◌, ℕ, ◌<◌, ◌^◌, ◌++◌, ◌∷◌, [], List, length, Option, Some, None, Bool, IsTrue, ◌==◌, ⊤}
use Rattle.std.specs.List.{flat_map, AllByRecursion}
use Rattle.std.specs.Int.{Width, byte_len, to_be_bytes}
use Rattle.std.specs.Set.{distinct_count}

-- the bytes of each value, and which values have a spelling
pub record Spelling (X : Type 0) : Type 1 where
  pub spelled : X → List ℕ
  pub IsSpellable : X → Type 0

-- a byte
abbrev pub byte : Spelling ℕ
byte = record { spelled = λ n. n ∷ []; IsSpellable = λ n. n < 256 }

-- a number of several bytes, the high one first
abbrev pub number : Width → Spelling ℕ
number w = record { spelled = to_be_bytes w; IsSpellable = λ n. n < 256 ^ byte_len w }

-- so many bytes
abbrev pub run : ℕ → Spelling (List ℕ)
run n = record { spelled = λ bytes. bytes; IsSpellable = λ bytes. length bytes ≡ n }

-- bytes behind their count
abbrev pub long : Spelling ℕ → Spelling (List ℕ)
long count = record { spelled = λ bytes. count.spelled (length bytes) ++ bytes; IsSpellable = λ bytes. count.IsSpellable (length bytes) }

-- a byte 0, or a byte 1 and the value
abbrev pub option_spelled : {X : Type 0} → Spelling X → Option X → List ℕ
option_spelled s None = 0 ∷ []
option_spelled s (Some x) = 1 ∷ s.spelled x

abbrev pub IsOptionSpellable : {X : Type 0} → Spelling X → Option X → Type 0
IsOptionSpellable s None = ⊤
IsOptionSpellable s (Some x) = s.IsSpellable x

abbrev pub option : {X : Type 0} → Spelling X → Spelling (Option X)
option s = record { spelled = option_spelled s; IsSpellable = IsOptionSpellable s }

-- values behind their count
abbrev pub counted : {X : Type 0} → Spelling ℕ → Spelling X → Spelling (List X)
counted count s = record {
  spelled = λ xs. count.spelled (length xs) ++ flat_map s.spelled xs;
  IsSpellable = λ xs. count.IsSpellable (length xs) × AllByRecursion s.IsSpellable xs;
}

-- two values, one behind the other
abbrev pub pair : {A B : Type 0} → Spelling A → Spelling B → Spelling (A × B)
pair a b = record { spelled = λ x. a.spelled x.0 ++ b.spelled x.1; IsSpellable = λ x. a.IsSpellable x.0 × b.IsSpellable x.1 }

-- only the values that pass the test
abbrev pub such_that : {X : Type 0} → Spelling X → (X → Bool) → Spelling X
such_that s test = record { spelled = s.spelled; IsSpellable = λ x. s.IsSpellable x × IsTrue (test x) }

-- only the values of which a fact holds
abbrev pub only : {X : Type 0} → Spelling X → (X → Type 0) → Spelling X
only s Holds = record { spelled = s.spelled; IsSpellable = λ x. s.IsSpellable x × Holds x }

-- a value that is spelled by its parts
abbrev pub by_parts : {X Y : Type 0} → Spelling X → (Y → X) → Spelling Y
by_parts s parts = record { spelled = λ y. s.spelled (parts y); IsSpellable = λ y. s.IsSpellable (parts y) }

-- nothing stands for the one value
abbrev pub nothing : Spelling (Unit {0})
nothing = record { spelled = λ x. []; IsSpellable = λ x. ⊤ }

-- this byte, and the value behind it
abbrev pub led_by : {X : Type 0} → ℕ → Spelling X → Spelling X
led_by sign s = record { spelled = λ x. sign ∷ s.spelled x; IsSpellable = s.IsSpellable }

-- a byte that stands for the value
abbrev pub coded : {X : Type 0} → (X → ℕ) → Spelling X
coded code_of = record { spelled = λ x. code_of x ∷ []; IsSpellable = λ x. ⊤ }

-- no two are the same: there are as many different ones as there are
abbrev pub is_without_repeats : {X : Type 0} → (X → X → Bool) → List X → Bool
is_without_repeats same xs = distinct_count same xs == length xs
