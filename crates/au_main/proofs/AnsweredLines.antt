-- One line of a script, and one step.
use Rattle.std.proofs.Common.{◌≡◌, ◌≢◌, inl, inr, ℕ, List, [], ◌∷◌, refl, ap, ◌∙◌, subst}
use Rattle.std.specs.Prelude.{Option, Some, None, Result, Ok, Err, OnOk}
use Rattle.std.specs.Io.KnownBytes.{Appends}
use Rattle.std.proofs.KnownBytes.{Appends-nil}
use Rattle.au_base.specs.declared.ask.Ask.{Ask}
use Rattle.au_base.specs.declared.numbers.ClientNo.{ClientNo}
use Rattle.au_base.specs.declared.reply.Said.{Said}
use Rattle.au_base.specs.declared.reply.Said.TheVariants.{Disk}
use Rattle.au_entries.specs.declared.kept.Kept.{Kept}
use Rattle.au_io.specs.Disk.{Passes}
use Rattle.au_io.specs.Moments.{LeavesSince}
use Rattle.au_io.specs.Time.{Ticking, Reads}
use Rattle.au_journal.specs.declared.doubt.Doubt.TheVariants.{Settled}
use Rattle.au_step.specs.State.{State}
use Rattle.au_step.specs.Step.{Event}
use Rattle.au_script.specs.declared.lines.ScriptLine.TheVariants as line
use Rattle.au_script.specs.Labels.{Label, number_of, used_with}
use Rattle.au_script.specs.Lines.{Says}
use Rattle.au_store.specs.History.{HistoryGoesOn}
use Rattle.au_store.specs.Steps.{StepLeaves, StepsBy, event_at}
use Rattle.au_store.specs.Doubts.{IsStoodOn}
use Rattle.au_store.specs.Stored.{Stored, IsKeptOn}
use Rattle.au_main.specs.Answers.{Answer, Made, Unmended, ReadAll, line_of, said_of}
use Rattle.au_main.specs.Given.{AppendsFront}
use Rattle.au_main.specs.Means.{Means}
use Rattle.au_main.specs.descent.Answering.{Answered, AnsweredInPart, Answers, Told, ToldInPart}

read_one : (t u : Option Ticking) (reading : ℕ) → Reads t u reading → ReadAll t u (reading ∷ [])
read_one None u reading h = tt
read_one (Some t) u reading h = h

read_none : (t : Option Ticking) → ReadAll t t []
read_none None = tt
read_none (Some t) = refl

state_stays : (m n : State) (event : Event) (said : Said) → said ≡ Disk → StepsBy m event said n → n ≡ m
state_stays m n event said is step = subst (λ (a : Said). StepsBy m event a n) is step

-- this is said to the ask of the client with this number
abbrev pub AnswersBy : {D C : Type 0} → Means D C → (s t : Stored D C) → ℕ → Ask → Said → Type 0
AnswersBy means s t client ask said = (answer : Answer) × Answers means s t client ask answer × (said ≡ said_of answer)

-- what a step of the store did is an answer to the ask
pub answers_by : {D C : Type 0} (means : Means D C) (s t : Stored D C) (client : ClientNo) (ask : Ask) (said : Said)
    → StepsBy s.state (event_at client ask t.reading) said t.state
    → HistoryGoesOn means.told means.meaning means.faults means.ticking client ask s t said
    → (said ≢ Disk → t.seat.doubt ≡ Settled)
    → (means.told → said ≢ Disk → IsKeptOn t.state.kept (means.meaning t.disk) t.seat)
    → (means.told → (doubted : Kept) → IsStoodOn s.state.kept doubted (means.meaning s.disk) s.seat
    → LeavesSince (StepLeaves s.state (event_at client ask t.reading) doubted) (means.meaning s.disk) (means.meaning t.disk))
    → Passes (means.meaning s.disk) (means.meaning t.disk)
    → AnswersBy means s t client.0 ask said
answers_by means s t client ask said step (inl tries) settled kept leaves time = (
  Made client ask t.reading said,
  record {
    asks = refl;
    read = read_one (means.ticking s.clock) (means.ticking t.clock) t.reading tries.0.read;
    state = step;
    history = tries.1;
    doubt = settled;
    on_disk = λ told. record { settled = settled; kept = kept told; wrote = λ is. let some = tries.0.wrote is in (some.0, some.1, some.2); doubts = tries.0.doubts told; any_moment = leaves told };
    time = time;
  },
  refl,
)
answers_by means s t client ask said step (inr tries) settled kept leaves time = (
  Unmended client ask,
  record {
    asks = refl;
    read = rw tries.0.clock (read_none (means.ticking s.clock));
    state = state_stays s.state t.state (event_at client ask t.reading) said tries.0.failed step;
    history = tries.1;
    doubt = (tries.0.stood, tries.0.seat);
    on_disk = λ told. record { doubted = tries.0.doubted told; any_moment = tries.0.any_moment told };
    time = time;
  },
  tries.0.failed,
)

-- an ask was answered, and its text was given, or a front of it
module _ {D C : Type 0} (means : Means D C) (s t : Stored D C) (client : ℕ) (ask : Ask) (said : Said) (text : List ℕ) (g h : Option (List ℕ)) where
  pub told_all : AnswersBy means s t client ask said → text ≡ line_of said → Appends g h text → Told means s t client ask g h
  told_all by is gives = record {
    answer = by.0;
    answers = by.1;
    given_all = subst (λ (b : List ℕ). Appends g h b) (is ∙ ap line_of by.2) gives;
  }

  pub told_in_part : AnswersBy means s t client ask said → text ≡ line_of said → AppendsFront g h text → ToldInPart means s t client ask g h
  told_in_part by is gives = record {
    answer = by.0;
    answers = by.1;
    given_front = subst (λ (b : List ℕ). AppendsFront g h b) (is ∙ ap line_of by.2) gives;
  }

pub Answered-skip : {D C : Type 0} (means : Means D C) (used : List Label) (s : Stored D C) (bytes : List ℕ) (g : Option (List ℕ)) → Says bytes line.Skip → Answered means used used s s bytes g g
Answered-skip means used s bytes g spelled = record {
  text = [];
  of_line = record { said = line.Skip; spelled = spelled; does = (refl, refl) };
  labels = refl;
  given_all = Appends-nil g;
}

-- what is so at no error, of what a call says at none
pub on_ok : {X E : Type 0} (r : Result X E) (P Q : Type 0) → (P → Q) → OnOk r P → OnOk r Q
on_ok (Ok x) P Q f p = f p
on_ok (Err e) P Q f p = tt

pub Answered-told : {D C : Type 0} (means : Means D C) (used using : List Label) (s t : Stored D C) (bytes label : List ℕ) (client : ℕ) (ask : Ask) (g h : Option (List ℕ))
    → Says bytes (line.Ask label ask) → client ≡ number_of used label → using ≡ used_with used label → Told means s t client ask g h → Answered means used using s t bytes g h
Answered-told means used using s t bytes label client ask g h spelled number labels told = record {
  text = line_of (said_of told.answer);
  of_line = record {
    said = line.Ask label ask;
    spelled = spelled;
    does = (told.answer, subst (λ (n : ℕ). Answers means s t n ask told.answer) number told.answers, refl);
  };
  labels = labels;
  given_all = told.given_all;
}

pub Answered-told_in_part : {D C : Type 0} (means : Means D C) (used : List Label) (s t : Stored D C) (bytes label : List ℕ) (client : ℕ) (ask : Ask) (g h : Option (List ℕ))
    → Says bytes (line.Ask label ask) → client ≡ number_of used label → ToldInPart means s t client ask g h → AnsweredInPart means used s t bytes g h
Answered-told_in_part means used s t bytes label client ask g h spelled number told = record {
  text = line_of (said_of told.answer);
  of_line = record {
    said = line.Ask label ask;
    spelled = spelled;
    does = (told.answer, subst (λ (n : ℕ). Answers means s t n ask told.answer) number told.answers, refl);
  };
  given_front = told.given_front;
}
