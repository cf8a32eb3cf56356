-- The part of a script that was taken of its source and not handed out as lines yet.
use Rattle.std.specs.Prelude.{◌≡◌, ℕ, ◌+◌, ◌<◌, List, [], ◌∷◌, ◌++◌, length, Bool, true, false, Option}
use Rattle.std.specs.Io.KnownBytes.{Consumes, IsAtEnd, Keeps}
use Rattle.au_io.specs.Faults.{HasRisen}
use Rattle.au_main.specs.declared.refill.Refill.{Refill}
use Rattle.au_main.specs.declared.refill.Refill.TheVariants.{More, End, Failed, Beyond}
use Rattle.au_main.specs.Lines.{HasNoEnd, LF, script_limit}

-- its bytes, and how many bytes were taken of the source so far, these among them
pub record Stretch : Type 0 where
  pub bytes : List ℕ
  pub taken : ℕ

-- where an end was found, what stood before it was moved behind the line, and the end is gone; else all was moved
abbrev pub IsMoved : List ℕ → List ℕ → List ℕ → List ℕ → Bool → Type 0
IsMoved old new line longer true = (piece : List ℕ) × HasNoEnd piece × (old ≡ piece ++ LF ∷ new) × (longer ≡ line ++ piece)
IsMoved old new line longer false = HasNoEnd old × (new ≡ []) × (longer ≡ line ++ old)

-- more bytes were taken of the source, or there were none, or the script has too many of them
abbrev pub IsRefilled : Stretch → Stretch → Option (List ℕ) → Option (List ℕ) → Refill → Type 0
IsRefilled old new left now More = Consumes left now new.bytes × (new.taken ≡ old.taken + length new.bytes) × (0 < length new.bytes)
IsRefilled old new left now End = Keeps left now × IsAtEnd now × (new.bytes ≡ []) × (new.taken ≡ old.taken)
IsRefilled old new left now Failed = Keeps left now × (new.bytes ≡ []) × (new.taken ≡ old.taken)
IsRefilled old new left now Beyond = (more : List ℕ) × Consumes left now more × (0 < length more) × (old.taken ≡ script_limit)

-- the count of faults rose where the source failed, and nowhere else
abbrev pub IsRefillCause : ℕ → ℕ → Refill → Type 0
IsRefillCause before now Failed = HasRisen before now
IsRefillCause before now More = now ≡ before
IsRefillCause before now End = now ≡ before
IsRefillCause before now Beyond = now ≡ before
