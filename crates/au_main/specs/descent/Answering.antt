-- What a line of a script comes to, over a store.
use Rattle.std.specs.Prelude.{◌≡◌, ◌≢◌, ◌⊎◌, ℕ, List, [], ◌∷◌, ◌++◌, Option}
use Rattle.std.specs.Io.KnownBytes.{Appends}
use Rattle.au_base.specs.declared.ask.Ask.{Ask}
use Rattle.au_base.specs.declared.reply.Said.TheVariants.{Disk}
use Rattle.au_io.specs.Disk.{Passes}
use Rattle.au_journal.specs.declared.doubt.Doubt.TheVariants.{Settled}
use Rattle.au_journal.specs.declared.seat.Seat.{Seat}
use Rattle.au_step.specs.State.{State}
use Rattle.au_script.specs.declared.lines.ScriptLine.{ScriptLine}
use Rattle.au_script.specs.declared.lines.ScriptLine.TheVariants as line
use Rattle.au_script.specs.Labels.{Label, number_of}
use Rattle.au_script.specs.Lines.{Says, SaysNothing}
use Rattle.au_store.specs.declared.entry.Entry.{Entry}
use Rattle.au_store.specs.History.{StandsFor}
use Rattle.au_store.specs.Steps.{StepsBy, event_at}
use Rattle.au_store.specs.Stored.{Stored}
use Rattle.au_main.specs.declared.status.Status.{Status}
use Rattle.au_main.specs.declared.status.Status.TheVariants.{Done, Usage, ReadFault, WriteFault, DiskFault, Unformatted, Formatted, Damaged, BadLine, TooLong, LobbyFault, Memory, Worn}
use Rattle.au_main.specs.Answers.{Answer, AnswerTells, Made, ReadAll, Unmended, asked, labels_after, line_of, readings_of, said_of}
use Rattle.au_main.specs.Given.{AppendsFront}
use Rattle.au_main.specs.Means.{Means}
use Rattle.au_main.specs.OnDisk.{StepsOnDisk}

-- the state by the answer: a reply is a step, and at any other answer it stays
abbrev pub StateBy : State → Answer → State → Type 0
StateBy m (Made client ask reading said) n = StepsBy m (event_at client ask reading) said n
StateBy m (Unmended client ask) n = n ≡ m

-- whether a step is in doubt by the answer: none is, unless the disk failed; what couldn't mend leaves the doubt that stood
abbrev pub DoubtBy : Answer → Seat → Seat → Type 0
DoubtBy (Made client ask reading said) s t = said ≢ Disk → t.doubt ≡ Settled
DoubtBy (Unmended client ask) s t = (s.doubt ≢ Settled) × (t ≡ s)

-- the ask of the client with this number is answered so, and the store goes from s to t
pub record Answers {D C : Type 0} (means : Means D C) (s t : Stored D C) (client : ℕ) (ask : Ask) (answer : Answer) : Type 0 where
  pub asks : asked answer ≡ (client, ask)
  pub read : ReadAll (means.ticking s.clock) (means.ticking t.clock) (readings_of answer)
  pub state : StateBy s.state answer t.state
  pub history : (entries : List Entry) → StandsFor means.told means.meaning means.faults s entries → (made : List Entry) × AnswerTells answer made × StandsFor means.told means.meaning means.faults t (entries ++ made)
  pub doubt : DoubtBy answer s.seat t.seat
  pub on_disk : means.told → StepsOnDisk s.state t.state answer (means.meaning s.disk) (means.meaning t.disk) s.seat t.seat
  pub time : Passes (means.meaning s.disk) (means.meaning t.disk)

-- what a line comes to, where these labels were used before: nothing where it is skipped, else an answer and its text
abbrev pub Does : {D C : Type 0} → Means D C → List Label → (s t : Stored D C) → ScriptLine → List ℕ → Type 0
Does means used s t line.Skip text = (t ≡ s) × (text ≡ [])
Does means used s t (line.Ask label ask) text = (answer : Answer) × Answers means s t (number_of used label) ask answer × (text ≡ line_of (said_of answer))

-- a script line was answered, where these labels were used before, and this is the text that it is owed
pub record AnswersLine {D C : Type 0} (means : Means D C) (used : List Label) (s t : Stored D C) (bytes : List ℕ) (text : List ℕ) : Type 0 where
  pub said : ScriptLine
  pub spelled : Says bytes said
  pub does : Does means used s t said text

-- nothing was done
abbrev pub DidNothing : {D C : Type 0} → Stored D C → Stored D C → Option (List ℕ) → Option (List ℕ) → Type 0
DidNothing s t given gave = (t ≡ s) × (gave ≡ given)

-- a line was answered, and the text that it is owed was given; from now on the line's label is among those used
pub record Answered {D C : Type 0} (means : Means D C) (used using : List Label) (s t : Stored D C) (bytes : List ℕ) (given gave : Option (List ℕ)) : Type 0 where
  pub text : List ℕ
  pub of_line : AnswersLine means used s t bytes text
  pub labels : using ≡ labels_after used (of_line.said ∷ [])
  pub given_all : Appends given gave text

-- a line was answered, and a front of the text that it is owed was given
pub record AnsweredInPart {D C : Type 0} (means : Means D C) (used : List Label) (s t : Stored D C) (bytes : List ℕ) (given gave : Option (List ℕ)) : Type 0 where
  pub text : List ℕ
  pub of_line : AnswersLine means used s t bytes text
  pub given_front : AppendsFront given gave text

-- a line found no memory: it did nothing, or its text was not given
abbrev pub FoundNoMemory : {D C : Type 0} → Means D C → List Label → (s t : Stored D C) → List ℕ → Option (List ℕ) → Option (List ℕ) → Type 0
FoundNoMemory means used s t bytes given gave = DidNothing s t given gave ⊎ AnsweredInPart means used s t bytes given gave

-- an ask was answered, and the text was given
pub record Told {D C : Type 0} (means : Means D C) (s t : Stored D C) (client : ℕ) (ask : Ask) (given gave : Option (List ℕ)) : Type 0 where
  pub answer : Answer
  pub answers : Answers means s t client ask answer
  pub given_all : Appends given gave (line_of (said_of answer))

-- an ask was answered, and a front of the text was given
pub record ToldInPart {D C : Type 0} (means : Means D C) (s t : Stored D C) (client : ℕ) (ask : Ask) (given gave : Option (List ℕ)) : Type 0 where
  pub answer : Answer
  pub answers : Answers means s t client ask answer
  pub given_front : AppendsFront given gave (line_of (said_of answer))

-- what becomes of a last line, which has this number
abbrev pub EndsLast : {D C : Type 0} → Means D C → (used using : List Label) → ℕ → Status → (s t : Stored D C) (bytes : List ℕ) (given gave : Option (List ℕ)) → Type 0
EndsLast means used using number Done s t bytes given gave = Answered means used using s t bytes given gave
EndsLast means used using number (BadLine k) s t bytes given gave = (k ≡ number) × SaysNothing bytes × DidNothing s t given gave
EndsLast means used using number WriteFault s t bytes given gave = AnsweredInPart means used s t bytes given gave
EndsLast means used using number Memory s t bytes given gave = FoundNoMemory means used s t bytes given gave
EndsLast means used using number ReadFault s t bytes given gave = ⊥
EndsLast means used using number TooLong s t bytes given gave = ⊥
EndsLast means used using number Usage s t bytes given gave = ⊥
EndsLast means used using number DiskFault s t bytes given gave = ⊥
EndsLast means used using number Unformatted s t bytes given gave = ⊥
EndsLast means used using number Formatted s t bytes given gave = ⊥
EndsLast means used using number (Damaged area at) s t bytes given gave = ⊥
EndsLast means used using number LobbyFault s t bytes given gave = ⊥
EndsLast means used using number Worn s t bytes given gave = ⊥
