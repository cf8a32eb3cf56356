-- What came of a call on a connection.
use Rattle.std.specs.Prelude.{◌≡◌, ◌≢◌, ℕ, List, [], ◌++◌}
use Rattle.std.specs.Io.KnownBytes.{Consumes, IsAtEnd}
use mathlib.Core.List.{IsPrefix}
use Rattle.au_io.specs.Faults.{HasRisen}
use Rattle.au_io.specs.Stream.{Grows}
use Rattle.au_io.specs.Visits.{Told}
use Rattle.au_session.specs.declared.ended.Ended.{Ended}
use Rattle.au_session.specs.declared.ended.Ended.TheVariants as ended

-- bytes were taken, and put behind those of the buffer
pub record IsTaken (old new : List ℕ) (f g : Told) : Type 0 where
  pub bytes : List ℕ
  pub buffer : new ≡ old ++ bytes
  pub left : Consumes f.left g.left bytes
  pub taken : Grows f.taken g.taken bytes
  pub given : g.given ≡ f.given
  pub well : g.faults ≡ f.faults

-- why no bytes were put behind those of the buffer: the connection ended, with an empty buffer or with another; it failed; or
-- there was no memory for what was taken
abbrev pub EndsTaking : (bytes buffer : List ℕ) → (f g : Told) → Ended → Type 0
EndsTaking bytes buffer f g ended.Closed = (bytes ≡ []) × (buffer ≡ []) × IsAtEnd g.left × (g.faults ≡ f.faults)
EndsTaking bytes buffer f g ended.Cut = (bytes ≡ []) × (buffer ≢ []) × IsAtEnd g.left × (g.faults ≡ f.faults)
EndsTaking bytes buffer f g ended.LinkFault = (bytes ≡ []) × HasRisen f.faults g.faults
EndsTaking bytes buffer f g ended.Memory = g.faults ≡ f.faults
EndsTaking bytes buffer f g (ended.Refused status) = ⊥

-- bytes were taken, or none, and not put behind those of the buffer
pub record IsUntaken (buffer : List ℕ) (f g : Told) (end : Ended) : Type 0 where
  pub bytes : List ℕ
  pub left : Consumes f.left g.left bytes
  pub taken : Grows f.taken g.taken bytes
  pub given : g.given ≡ f.given
  pub why : EndsTaking bytes buffer f g end

-- this text was given, nothing was taken, and there was no fault
pub record IsGiven (text : List ℕ) (f g : Told) : Type 0 where
  pub given : Grows f.given g.given text
  pub left : g.left ≡ f.left
  pub taken : g.taken ≡ f.taken
  pub well : g.faults ≡ f.faults

-- a front of this text was given, nothing was taken, and there was a fault
pub record IsGivenInPart (text : List ℕ) (f g : Told) : Type 0 where
  pub front : List ℕ
  pub begins : IsPrefix front text
  pub given : Grows f.given g.given front
  pub left : g.left ≡ f.left
  pub taken : g.taken ≡ f.taken
  pub rose : HasRisen f.faults g.faults

-- a response wasn't given whole: the connection failed, or there was no memory for it
abbrev pub IsUngiven : List ℕ → (f g : Told) → Ended → Type 0
IsUngiven text f g ended.LinkFault = IsGivenInPart text f g
IsUngiven text f g ended.Memory = g ≡ f
IsUngiven text f g _ = ⊥

-- the refusal with this status was given, or the connection failed
abbrev pub IsRefusedBy : ℕ → List ℕ → (f g : Told) → Ended → Type 0
IsRefusedBy status text f g (ended.Refused given) = (given ≡ status) × IsGiven text f g
IsRefusedBy status text f g ended.LinkFault = IsGivenInPart text f g
IsRefusedBy status text f g _ = ⊥
