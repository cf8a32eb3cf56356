-- What the command `sample` gives: the summary of what the sample's asks leave in a new store.
use Rattle.std.specs.Prelude.{◌≡◌, ℕ, ◌+◌, Bool, true, false, ◌&&◌, List, [], ◌∷◌, length, filter, codes, if◌then◌else◌, Option}
use Rattle.std.specs.Int.RustNames.{unsigned_abs}
use Rattle.std.specs.Io.KnownBytes.{Appends}
use Rattle.std.specs.Str.{bytes_eq}
use Rattle.au_base.specs.declared.ask.Ask.{Ask}
use Rattle.au_base.specs.declared.cell.Cell.{Cell}
use Rattle.au_base.specs.declared.cell.Cell.TheVariants as cell
use Rattle.au_base.specs.declared.numbers.ClientNo.{ClientNo}
use Rattle.au_base.specs.declared.numbers.RowNo.{RowNo}
use Rattle.au_base.specs.declared.reply.Reply.{Reply}
use Rattle.au_base.specs.declared.table.TableName.{TableName}
use Rattle.au_base.specs.BuiltIn.{sys}
use Rattle.au_entries.specs.declared.kept.Kept.{Kept}
use Rattle.au_entries.specs.declared.trail_record.Record.{Record}
use Rattle.au_entries.specs.declared.trail_record.RecordKind.{RecordKind}
use Rattle.au_entries.specs.declared.trail_record.RecordKind.TheVariants.{Standard, FineGrained}
use Rattle.au_gen.specs.Sample.{sample}
use Rattle.au_opening.specs.Opening.{opening}
use Rattle.au_report.specs.declared.summary.Summary.{Summary}
use Rattle.au_report.specs.Summaries.{summary_text}
use Rattle.au_step.specs.Runs.{Happening, Run, asks}
use Rattle.au_step.specs.State.{State, start}
use Rattle.au_store.specs.Steps.{event_at}
use Rattle.au_main.specs.declared.status.Status.{Status}
use Rattle.au_main.specs.declared.status.Status.TheVariants.{Done, Usage, ReadFault, WriteFault, DiskFault, Unformatted, Formatted, Damaged, BadLine, TooLong, LobbyFault, Memory, Worn}
use Rattle.au_main.specs.Given.{AppendsFront}

-- ---- the asks

-- the password of SYS in the new store
unfoldable pub sample_password : List ℕ
sample_password = codes "p"

-- the reading of the clock at which the store is opened; each later one is one more
abbrev pub first_reading : ℕ
first_reading = 1_000_000

-- the store as it is opened: the start of an instance over what a new store keeps
unfoldable pub sample_start : State
sample_start = start (opening sample_password) first_reading

-- the client that asks
abbrev pub asker : ClientNo
asker = record { 0 = 1 }

-- the client asks these, one at each reading from this one on
abbrev pub asked_from : ℕ → List Ask → List Happening
asked_from reading [] = []
asked_from reading (ask ∷ more) = asks (event_at asker ask reading) ∷ asked_from (reading + 1) more

-- asked in the state m, at readings from this one on, these asks are steps that are given these replies, and the state goes on
-- to n
unfoldable pub AskedThrough : State → ℕ → List Ask → List Reply → State → Type 0
AskedThrough m reading wanted replies n = Run m (asked_from reading wanted) replies n

-- all asks of the sample are steps from the opening on, with these replies, and this is the state behind them
abbrev pub IsSampled : (seed rows : ℕ) → List Reply → State → Type 0
IsSampled seed rows replies here = AskedThrough sample_start (first_reading + 1) (sample seed rows) replies here

-- ---- the summary

-- the row is one of SYS's table PAY, which the sample fills
abbrev pub is_of_pay : TableName × RowNo × List Cell → Bool
is_of_pay row = bytes_eq row.0.owner sys && bytes_eq row.0.name (codes "PAY")

abbrev pub is_fine_kind : RecordKind → Bool
is_fine_kind Standard = false
is_fine_kind FineGrained = true

-- a fine-grained policy demanded the record
abbrev pub is_fine : Record → Bool
is_fine entry = is_fine_kind entry.kind

-- one for such a record, else nothing
abbrev pub fine_count : Record → ℕ
fine_count entry = if is_fine entry then 1 else 0

-- the number in a cell, without its sign; what is no number counts as 0
abbrev pub number_of : Cell → ℕ
number_of (cell.Num number) = unsigned_abs number
number_of cell.Null = 0
number_of (cell.Text text) = 0
number_of (cell.Moment moment) = 0

-- the number in the first cell of a row
abbrev pub first_number : List Cell → ℕ
first_number [] = 0
first_number (first ∷ cells) = number_of first

-- the number in the first cell of the first row
abbrev pub number_in : List (List Cell) → ℕ
number_in [] = 0
number_in (row ∷ rows) = first_number row

-- the number in the last of the answers
abbrev pub last_number : List Reply → ℕ
last_number [] = 0
last_number (reply ∷ []) = number_in reply.rows
last_number (reply ∷ next ∷ replies) = last_number (next ∷ replies)

-- the summary of so many asks, the last of which was answered by this number, where this is kept behind them
abbrev pub summary_of : (asked high : ℕ) → Kept → Summary
summary_of asked high kept = record {
  asks = asked;
  rows = length (filter is_of_pay kept.rows);
  high = high;
  records = length kept.trail;
  fine = length (filter is_fine kept.trail);
}

-- the text is that of the summary of the sample
pub record IsSummary (seed rows : ℕ) (text : List ℕ) : Type 0 where
  pub replies : List Reply
  pub here : State
  pub sampled : IsSampled seed rows replies here
  pub text_is : text ≡ summary_text (summary_of (length (sample seed rows)) (last_number replies) here.kept)

-- ---- how it ends

-- what comes of the command, by how it ends: the text of the summary was given, or a front of it, or, without memory, nothing;
-- no other end comes
abbrev pub SampleTo : Status → (seed rows : ℕ) → (given gave : Option (List ℕ)) → Type 0
SampleTo Done seed rows given gave = (text : List ℕ) × IsSummary seed rows text × Appends given gave text
SampleTo WriteFault seed rows given gave = (text : List ℕ) × IsSummary seed rows text × AppendsFront given gave text
SampleTo Memory seed rows given gave = gave ≡ given
SampleTo Usage seed rows given gave = ⊥
SampleTo ReadFault seed rows given gave = ⊥
SampleTo DiskFault seed rows given gave = ⊥
SampleTo Unformatted seed rows given gave = ⊥
SampleTo Formatted seed rows given gave = ⊥
SampleTo (Damaged area at) seed rows given gave = ⊥
SampleTo (BadLine n) seed rows given gave = ⊥
SampleTo TooLong seed rows given gave = ⊥
SampleTo LobbyFault seed rows given gave = ⊥
SampleTo Worn seed rows given gave = ⊥
