-- What a call does to a source or a sink, as far as it tells its bytes.
use Rattle.std.specs.Prelude.{◌≡◌, ◌↔◌, ℕ, ◌<◌, ◌≤◌, List, Option, None, length, take}
use Rattle.std.specs.Io.KnownBytes.{Consumes, Keeps, IsAtEnd, append_known}
use Rattle.au_io.specs.Faults.{HasRisen}
use Rattle.au_io.specs.declared.source.Took.{Took}
use Rattle.au_io.specs.declared.source.Took.TheVariants as took
use Rattle.au_io.specs.declared.sink.Gave.{Gave}
use Rattle.au_io.specs.declared.sink.Gave.TheVariants as gave

-- known bytes grow by these, and what isn't told stays untold
abbrev pub Grows : Option (List ℕ) → Option (List ℕ) → List ℕ → Type 0
Grows old new bytes = new ≡ append_known old bytes

-- what isn't told stays untold, and what is told stays told
abbrev pub StaysTold : Option (List ℕ) → Option (List ℕ) → Type 0
StaysTold old new = (new ≡ None) ↔ (old ≡ None)

-- the bytes put in the room were the first of those left; the end is told only where none is left
abbrev pub Takes : Option (List ℕ) → Option (List ℕ) → List ℕ → Took → Type 0
Takes old new room (took.Bytes n) = (0 < n) × (n ≤ length room) × Consumes old new (take n room)
Takes old new room took.End = Keeps old new × IsAtEnd new
Takes old new room took.Failed = Keeps old new

-- the bytes put in the room follow those taken before
abbrev pub TakesMore : Option (List ℕ) → Option (List ℕ) → List ℕ → Took → Type 0
TakesMore old new room (took.Bytes n) = Grows old new (take n room)
TakesMore old new room took.End = new ≡ old
TakesMore old new room took.Failed = new ≡ old

-- the count of faults rose where the call failed, and nowhere else
abbrev pub IsTakeCause : ℕ → ℕ → Took → Type 0
IsTakeCause before now (took.Bytes n) = now ≡ before
IsTakeCause before now took.End = now ≡ before
IsTakeCause before now took.Failed = (before ≤ now) × HasRisen before now

-- the bytes that were taken are the first of those offered, and follow those given before
abbrev pub Gives : Option (List ℕ) → Option (List ℕ) → List ℕ → Gave → Type 0
Gives old new bytes (gave.Bytes n) = (0 < n) × (n ≤ length bytes) × Grows old new (take n bytes)
Gives old new bytes gave.Failed = new ≡ old

-- the count of faults rose where the call failed, and nowhere else
abbrev pub IsGiveCause : ℕ → ℕ → Gave → Type 0
IsGiveCause before now (gave.Bytes n) = now ≡ before
IsGiveCause before now gave.Failed = (before ≤ now) × HasRisen before now
