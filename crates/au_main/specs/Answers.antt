-- What the asks of a script come to.
use Rattle.std.specs.Prelude.{◌≡◌, ℕ, List, [], ◌∷◌, ◌++◌, flat_map, Option, Some, None, ⊤}
use Rattle.au_base.specs.declared.ask.Ask.{Ask}
use Rattle.au_base.specs.declared.numbers.ClientNo.{ClientNo}
use Rattle.au_base.specs.declared.reply.Said.{Said}
use Rattle.au_base.specs.declared.reply.Said.TheVariants.{Replied, Disk, Full, Memory}
use Rattle.au_http.specs.Replies.{said_text}
use Rattle.au_io.specs.Time.{Ticking, after_reading}
use Rattle.au_script.specs.declared.lines.ScriptLine.{ScriptLine}
use Rattle.au_script.specs.declared.lines.ScriptLine.TheVariants as line
use Rattle.au_script.specs.Labels.{Label, number_of, used_with}
use Rattle.au_store.specs.declared.entry.Entry.{Entry}
use Rattle.au_store.specs.declared.entry.Entry.TheVariants.{Stepped}
use Rattle.au_store.specs.History.{Fails, Leads, StandsFor, TriedTells, first_of}
use Rattle.au_store.specs.Stored.{Stored}
use Rattle.au_main.specs.Lines.{with_end}
use Rattle.au_main.specs.Means.{Means}

-- what a client's ask came to: at the clock's reading this was said, or an earlier step's doubt couldn't be mended, where
-- the clock wasn't read and it is said that the disk failed
pub data Answer : Type 0 where
  Made : ClientNo → Ask → ℕ → Said → Answer
  Unmended : ClientNo → Ask → Answer

-- the labels used behind these lines, in the order of their first use, where these were used before them
abbrev pub labels_after : List Label → List ScriptLine → List Label
labels_after used [] = used
labels_after used (line.Skip ∷ script) = labels_after used script
labels_after used (line.Ask label ask ∷ script) = labels_after (used_with used label) script

-- the asks of these lines with the numbers of their clients, where these labels were used before them
abbrev pub asks_after : List Label → List ScriptLine → List (ℕ × Ask)
asks_after used [] = []
asks_after used (line.Skip ∷ script) = asks_after used script
asks_after used (line.Ask label ask ∷ script) = (number_of used label, ask) ∷ asks_after (used_with used label) script

-- the asks of a script with the numbers of their clients, which count from 1 by the first use of their labels
abbrev pub asks_of : List ScriptLine → List (ℕ × Ask)
asks_of script = asks_after [] script

abbrev pub asked : Answer → ℕ × Ask
asked (Made client ask reading said) = (client.0, ask)
asked (Unmended client ask) = (client.0, ask)

abbrev pub said_of : Answer → Said
said_of (Made client ask reading said) = said
said_of (Unmended client ask) = Disk

-- the reading that the clock gave for it, where it was read
abbrev pub readings_of : Answer → List ℕ
readings_of (Made client ask reading said) = reading ∷ []
readings_of (Unmended client ask) = []

-- the step that the answer stands for: a reply is one, and nothing else is
abbrev pub steps_said : ClientNo → Ask → ℕ → Said → List Entry
steps_said client ask reading (Replied reply) = Stepped client ask reading reply ∷ []
steps_said client ask reading Disk = []
steps_said client ask reading (Full needed limit) = []
steps_said client ask reading Memory = []

abbrev pub steps_of : Answer → List Entry
steps_of (Made client ask reading said) = steps_said client ask reading said
steps_of (Unmended client ask) = []

-- the text of what was said, on a line
abbrev pub line_of : Said → List ℕ
line_of said = with_end (said_text said)

-- the texts of the answers, each on a line
abbrev pub texts : List Answer → List ℕ
texts answers = flat_map (λ a. line_of (said_of a)) answers

-- the readings that a clock gave, one after another, where it tells them
abbrev pub ReadAll : Option Ticking → Option Ticking → List ℕ → Type 0
ReadAll None new readings = ⊤
ReadAll (Some t) new [] = new ≡ Some t
ReadAll (Some t) new (reading ∷ readings) = (reading ≡ t.next) × ReadAll (Some (after_reading t)) new readings

-- the entries that the answer leaves in the store's history
abbrev pub AnswerTells : Answer → List Entry → Type 0
AnswerTells (Made client ask reading said) made = TriedTells client ask reading said made
AnswerTells (Unmended client ask) made = Fails client ask None made

-- the answers, one after another, leave these entries
abbrev pub AllTell : List Answer → List Entry → Type 0
AllTell [] entries = entries ≡ []
AllTell (a ∷ answers) entries = (made rest : List Entry) × AnswerTells a made × AllTell answers rest × (entries ≡ made ++ rest)

-- The store as it was opened, and the entries of the answers, are a legal list of the store: a reply is a step, and where
-- the disk failed or the journal was full an entry of that stands in the step's place. The store stands for the list.
pub record IsLegalBy {D C : Type 0} (means : Means D C) (opened here : Stored D C) (answers : List Answer) : Type 0 where
  pub entries : List Entry
  pub of_answers : AllTell answers entries
  pub stands : StandsFor means.told means.meaning means.faults here (first_of means.faults opened ++ entries)

-- The store as it was opened, and the entries of the replies alone, are a legal list too. It leads to the state, the used
-- length and the limit of the store; the count of faults is that of the opening.
abbrev pub RepliesLead : {D C : Type 0} → Means D C → (opened here : Stored D C) → List Answer → Type 0
RepliesLead means opened here answers =
    Leads (first_of means.faults opened ++ flat_map steps_of answers)
    (record { state = here.state; used = here.seat.used; limit = here.seat.limit; faults = means.faults opened.disk })

-- each of them is of a step that couldn't mend an earlier one's doubt
abbrev pub AreUnmended : List Answer → Type 0
AreUnmended [] = ⊤
AreUnmended (Made client ask reading said ∷ answers) = ⊥
AreUnmended (Unmended client ask ∷ answers) = AreUnmended answers

-- behind these answers a step is in doubt: it was tried and the disk failed, and no step since could mend that
pub record LeavesDoubt (answers : List Answer) : Type 0 where
  pub before : List Answer
  pub client : ClientNo
  pub ask : Ask
  pub reading : ℕ
  pub since : List Answer
  pub split : answers ≡ before ++ Made client ask reading Disk ∷ since
  pub unmended : AreUnmended since

-- no step failed to mend but where one is in doubt
abbrev pub UnmendedInDoubt : List Answer → Type 0
UnmendedInDoubt answers = (before rest : List Answer) (client : ClientNo) (ask : Ask) → answers ≡ before ++ Unmended client ask ∷ rest → LeavesDoubt before
