-- What is given to a sink.
use Rattle.std.specs.Prelude.{◌≡◌, ℕ, List, ◌++◌, Option}
use Rattle.std.specs.Io.KnownBytes.{Appends}
use Rattle.au_main.specs.declared.status.Status.{Status}
use Rattle.au_main.specs.declared.status.Status.TheVariants.{Done, Usage, ReadFault, WriteFault, DiskFault, Unformatted, Formatted, Damaged, BadLine, TooLong, LobbyFault, Memory, Worn}

-- a front of the bytes was given
abbrev pub AppendsFront : Option (List ℕ) → Option (List ℕ) → List ℕ → Type 0
AppendsFront old new bytes = (front rest : List ℕ) × (bytes ≡ front ++ rest) × Appends old new front

-- the first bytes were given whole, and behind them a front of the others
abbrev pub AppendsBehind : Option (List ℕ) → Option (List ℕ) → List ℕ → List ℕ → Type 0
AppendsBehind old new first bytes = (front rest : List ℕ) × (bytes ≡ front ++ rest) × Appends old new (first ++ front)

-- what comes of giving a text, by how it ends: all of it was given, or a front of it, or, without memory for it, nothing
abbrev pub GivesText : List ℕ → Status → (given gave : Option (List ℕ)) → Type 0
GivesText text Done given gave = Appends given gave text
GivesText text WriteFault given gave = AppendsFront given gave text
GivesText text Memory given gave = gave ≡ given
GivesText text Usage given gave = ⊥
GivesText text ReadFault given gave = ⊥
GivesText text DiskFault given gave = ⊥
GivesText text Unformatted given gave = ⊥
GivesText text Formatted given gave = ⊥
GivesText text (Damaged area at) given gave = ⊥
GivesText text (BadLine n) given gave = ⊥
GivesText text TooLong given gave = ⊥
GivesText text LobbyFault given gave = ⊥
GivesText text Worn given gave = ⊥
