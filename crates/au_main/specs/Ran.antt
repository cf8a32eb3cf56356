-- How a run over the lines of a script goes.
use Rattle.std.specs.Prelude.{◌≡◌, ◌≢◌, ◌⊎◌, ◌≤◌, ℕ, ◌+◌, ◌<◌, List, [], ◌∷◌, ◌++◌, length, map, flat_map, Option, IfSome}
use Rattle.std.specs.List.{AllZip}
use Rattle.std.specs.Io.KnownBytes.{Consumes, Appends, IsAtEnd}
use Rattle.au_io.specs.Areas.{Areas}
use Rattle.au_io.specs.Disk.{Meaning}
use Rattle.au_io.specs.Faults.{HasRisen}
use Rattle.au_io.specs.Moments.{Leaves, LeavesSince}
use Rattle.au_io.specs.Time.{Reads}
use Rattle.au_journal.specs.declared.doubt.Doubt.TheVariants.{Settled}
use Rattle.au_script.specs.declared.lines.ScriptLine.{ScriptLine}
use Rattle.au_script.specs.Lines.{Says, SaysNothing}
use Rattle.au_store.specs.declared.open_fault.OpenFault.{OpenFault}
use Rattle.au_store.specs.declared.open_fault.OpenFault.TheVariants as fault
use Rattle.au_store.specs.History.{Reached, reached_of}
use Rattle.au_store.specs.Starting.{IsOpened, IsSeated, IsStarted, NoneIsBare, OpenCause, OpenLeaves, OpenSays, OpensInVain}
use Rattle.au_store.specs.Stored.{Stored}
use Rattle.au_main.specs.declared.status.Status.{Status}
use Rattle.au_main.specs.declared.status.Status.TheVariants.{Done, Usage, ReadFault, WriteFault, DiskFault, Unformatted, Formatted, Damaged, BadLine, TooLong, LobbyFault, Memory, Worn}
use Rattle.au_main.specs.Answers.{Answer, IsLegalBy, LeavesDoubt, ReadAll, RepliesLead, UnmendedInDoubt, asked, asks_of, readings_of, texts}
use Rattle.au_main.specs.Given.{AppendsBehind}
use Rattle.au_main.specs.Lines.{AreLines, ended, last_line, BeginsWithLines, TakenLines, TakenOf, script_limit}
use Rattle.au_main.specs.Means.{Means}
use Rattle.au_main.specs.OnDisk.{IsOnDisk, RecoversAfter, RecoversAlong}

-- These lines were done in the store as it was opened, and it went on to what it is now. Each ask has one answer, at the
-- clock's next reading unless an earlier step's doubt couldn't be mended. The store as it was opened and the steps that were
-- replied to, in order, are a legal list; and so are the answers, each in its place, for which the store stands.
pub record Ran {D C : Type 0} (means : Means D C) (lines : List (List ℕ)) (opened here : Stored D C) (answers : List Answer) (text : List ℕ) : Type 0 where
  pub script : List ScriptLine
  pub spelled : AllZip Says lines script
  pub asks : map asked answers ≡ asks_of script
  pub read : ReadAll (means.ticking opened.clock) (means.ticking here.clock) (flat_map readings_of answers)
  pub history : RepliesLead means opened here answers
  pub legal : IsLegalBy means opened here answers
  pub unmended : UnmendedInDoubt answers
  pub in_doubt : here.seat.doubt ≢ Settled → LeavesDoubt answers
  pub on_disk : means.told → IsOnDisk (reached_of means.faults opened) here.state answers (means.meaning opened.disk) (means.meaning here.disk) here.seat
  pub text_is : text ≡ texts answers

-- the source was taken to its end, and all its lines were done
pub record RanToEnd {D C : Type 0} (means : Means D C) (left now : Option (List ℕ)) (opened here : Stored D C) (answers : List Answer) (given gave : Option (List ℕ)) : Type 0 where
  pub lines : List (List ℕ)
  pub rest : List ℕ
  pub text : List ℕ
  pub whole : AreLines (lines ++ rest ∷ [])
  pub taken : Consumes left now (ended lines ++ rest)
  pub at_end : IsAtEnd now
  pub ran : Ran means (lines ++ last_line rest) opened here answers text
  pub given_all : Appends given gave text

-- the lines before line n, which counts from 1, were done, and line n is no script line; of the source so much was taken
pub record RanToBadLine {D C : Type 0} (means : Means D C) (n : ℕ) (left now : Option (List ℕ)) (opened here : Stored D C) (answers : List Answer) (given gave : Option (List ℕ)) : Type 0 where
  pub lines : List (List ℕ)
  pub bad : List ℕ
  pub got : List ℕ
  pub text : List ℕ
  pub number : n ≡ length lines + 1
  pub whole : AreLines (lines ++ bad ∷ [])
  pub stands : IfSome left (BeginsWithLines (lines ++ bad ∷ []))
  pub taken : Consumes left now (ended lines ++ got)
  pub of_bad : TakenOf bad got now
  pub says_nothing : SaysNothing bad
  pub ran : Ran means lines opened here answers text
  pub given_all : Appends given gave text

-- the source failed behind these lines, which were done, in a line that has no end yet
pub record RanToFault {D C : Type 0} (means : Means D C) (left now : Option (List ℕ)) (opened here : Stored D C) (answers : List Answer) (given gave : Option (List ℕ)) : Type 0 where
  pub lines : List (List ℕ)
  pub begun : List ℕ
  pub text : List ℕ
  pub whole : AreLines (lines ++ begun ∷ [])
  pub taken : Consumes left now (ended lines ++ begun)
  pub ran : Ran means lines opened here answers text
  pub given_all : Appends given gave text

-- as many bytes as a script may have were taken, and then more; the lines that end among them were done
pub record RanToLimit {D C : Type 0} (means : Means D C) (left now : Option (List ℕ)) (opened here : Stored D C) (answers : List Answer) (given gave : Option (List ℕ)) : Type 0 where
  pub lines : List (List ℕ)
  pub begun : List ℕ
  pub more : List ℕ
  pub text : List ℕ
  pub whole : AreLines (lines ++ begun ∷ [])
  pub taken : Consumes left now (ended lines ++ (begun ++ more))
  pub full : length (ended lines ++ begun) ≡ script_limit
  pub beyond : 0 < length more
  pub ran : Ran means lines opened here answers text
  pub given_all : Appends given gave text

-- these lines were done, and so much was taken of the source; the texts of all answers but perhaps the last were given, and a
-- front of that one's
pub record RanToFront {D C : Type 0} (means : Means D C) (left now : Option (List ℕ)) (opened here : Stored D C) (answers : List Answer) (given gave : Option (List ℕ)) : Type 0 where
  pub lines : List (List ℕ)
  pub got : List ℕ
  pub text : List ℕ
  pub told : List Answer
  pub last : List Answer
  pub whole : AreLines lines
  pub taken : Consumes left now got
  pub begins : TakenLines lines got now
  pub ran : Ran means lines opened here answers text
  pub split : answers ≡ told ++ last
  pub one : length last ≤ 1
  pub given_front : AppendsBehind given gave (texts told) (texts last)

-- what a run came to, by its end; no other end comes
abbrev pub RanTo : {D C : Type 0} → Means D C → Status → (left now : Option (List ℕ)) (opened here : Stored D C) → List Answer → (given gave : Option (List ℕ)) → Type 0
RanTo means Done left now opened here answers given gave = RanToEnd means left now opened here answers given gave
RanTo means (BadLine n) left now opened here answers given gave = RanToBadLine means n left now opened here answers given gave
RanTo means ReadFault left now opened here answers given gave = RanToFault means left now opened here answers given gave
RanTo means WriteFault left now opened here answers given gave = RanToFront means left now opened here answers given gave
RanTo means TooLong left now opened here answers given gave = RanToLimit means left now opened here answers given gave
RanTo means Memory left now opened here answers given gave = RanToFront means left now opened here answers given gave
RanTo means Usage left now opened here answers given gave = ⊥
RanTo means DiskFault left now opened here answers given gave = ⊥
RanTo means Unformatted left now opened here answers given gave = ⊥
RanTo means Formatted left now opened here answers given gave = ⊥
RanTo means (Damaged area at) left now opened here answers given gave = ⊥
RanTo means LobbyFault left now opened here answers given gave = ⊥
RanTo means Worn left now opened here answers given gave = ⊥

-- the source's count of faults rose where the run ended by a read fault, and nowhere else
abbrev pub IsReadCause : Status → ℕ → ℕ → Type 0
IsReadCause ReadFault before now = HasRisen before now
IsReadCause _ before now = now ≡ before

-- the sink's count of faults rose where the run ended by a write fault, and nowhere else
abbrev pub IsWriteCause : Status → ℕ → ℕ → Type 0
IsWriteCause WriteFault before now = HasRisen before now
IsWriteCause _ before now = now ≡ before

-- how a run ends where no store was opened
abbrev pub status_of : OpenFault → Status
status_of fault.Disk = DiskFault
status_of fault.Unformatted = Unformatted
status_of (fault.Damaged area at) = Damaged area at
status_of fault.Worn = Worn
status_of fault.Memory = Memory

-- what a crash leaves while the store is opened; or it recovers to what the run came by
abbrev pub RunLeaves : Meaning → ℕ → Reached → List Answer → Areas → Type 0
RunLeaves old reading opened answers all = OpenLeaves old reading all ⊎ RecoversAlong opened answers all

-- a store was opened on the disk at the clock's next reading, as the next instance over what the disk recovers to, in the
-- area that is selected there, behind what stands there and under its limit; the lines of the source were done in it up to this end, and disk and clock came back
pub record HasRun {D C : Type 0} (means : Means D C) (status : Status) (left now : Option (List ℕ)) (disk last : D) (clock clocked : C) (given gave : Option (List ℕ)) : Type 0 where
  pub opened : Stored D C
  pub closed : Stored D C
  pub answers : List Answer
  pub starts : IsStarted opened.reading opened.state
  pub begins : means.told → IsOpened (means.meaning disk).reads opened.reading opened.state
  pub seated : means.told → IsSeated (means.meaning disk).reads opened.reading opened.seat
  pub read : Reads (means.ticking clock) (means.ticking opened.clock) opened.reading
  pub well : means.faults opened.disk ≡ means.faults disk
  pub ran : RanTo means status left now opened closed answers given gave
  pub disk_is : closed.disk ≡ last
  pub clock_is : closed.clock ≡ clocked
  -- where in no image at entry the selected area ends where its bodies end
  pub any_moment : means.told → NoneIsBare (means.meaning disk) → LeavesSince (RunLeaves (means.meaning disk) opened.reading (reached_of means.faults opened) answers) (means.meaning disk) (means.meaning last)
  pub at_last : means.told → Leaves (RecoversAfter closed.state answers) (means.meaning last)

-- no store was opened, and why; and what that left of the clock and the disk
pub record IsUnopened {D C : Type 0} (means : Means D C) (status : Status) (disk last : D) (clock clocked : C) : Type 0 where
  pub why : OpenFault
  pub status_is : status ≡ status_of why
  pub says : means.told → OpenSays (means.meaning disk).reads why
  pub in_vain : OpensInVain means.told means.meaning means.ticking disk last clock clocked why
  pub cause : OpenCause why (means.faults disk) (means.faults last)
