-- The next line of a script.
use Rattle.std.specs.Prelude.{◌≡◌, ℕ, ◌+◌, ◌<◌, List, [], ◌∷◌, ◌++◌, length, Option}
use Rattle.std.specs.Io.KnownBytes.{Consumes, IsAtEnd}
use Rattle.au_io.specs.Faults.{HasRisen}
use Rattle.au_script.specs.Lines.{line_limit}
use Rattle.au_main.specs.declared.line.Line.{Line}
use Rattle.au_main.specs.declared.line.Line.TheVariants.{Ended, Last, End, Overlong, Failed, Beyond}
use Rattle.au_main.specs.Lines.{HasNoEnd, LF, script_limit}
use Rattle.au_main.specs.descent.Stretch.{Stretch}

-- all that a begun line has so far, with a script's bytes behind its limit
pub record IsBeyond (taken : ℕ) (begun got : List ℕ) : Type 0 where
  pub within : List ℕ
  pub more : List ℕ
  pub split : begun ≡ within ++ more
  pub whole : HasNoEnd within
  pub some : 0 < length more
  pub count : taken + length got ≡ script_limit + length more

-- the next line, of what was pending and what the source gave in this call
abbrev pub IsNext : Stretch → Stretch → List ℕ → Option (List ℕ) → Line → Type 0
IsNext old new got now (Ended line) = HasNoEnd line.items × (old.bytes ++ got ≡ line.items ++ LF ∷ new.bytes) × (new.taken ≡ old.taken + length got)
IsNext old new got now (Last line) = HasNoEnd line.items × (old.bytes ++ got ≡ line.items) × IsAtEnd now × (0 < length line.items) × (new.taken ≡ old.taken + length got)
IsNext old new got now End = (old.bytes ++ got ≡ []) × IsAtEnd now
-- longer than a line with its CR may be
IsNext old new got now Overlong = HasNoEnd (old.bytes ++ got) × (line_limit + 1 < length (old.bytes ++ got))
IsNext old new got now Failed = HasNoEnd (old.bytes ++ got)
IsNext old new got now Beyond = IsBeyond old.taken (old.bytes ++ got) got

-- the same, with what the call took of the source
pub record NextLine (old new : Stretch) (left now : Option (List ℕ)) (line : Line) : Type 0 where
  pub got : List ℕ
  pub taken : Consumes left now got
  pub next : IsNext old new got now line

-- some bytes were taken, or none
abbrev pub Takes : Option (List ℕ) → Option (List ℕ) → Type 0
Takes left now = (got : List ℕ) × Consumes left now got

-- the count of faults rose where the source failed, and nowhere else
abbrev pub IsNextCause : ℕ → ℕ → Line → Type 0
IsNextCause before now Failed = HasRisen before now
IsNextCause before now (Ended line) = now ≡ before
IsNextCause before now (Last line) = now ≡ before
IsNextCause before now End = now ≡ before
IsNextCause before now Overlong = now ≡ before
IsNextCause before now Beyond = now ≡ before
