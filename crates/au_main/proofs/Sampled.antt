-- The asks of a sample, one after another, and how the command ends.
use Rattle.std.proofs.Common.{◌≡◌, ◌≢◌, ◌≤◌, ◌<◌, inl, inr, ℕ, zero, suc, ◌+◌, ◌-◌, ◌^◌, List, [], ◌∷◌, ◌++◌, length, take, refl, sym, ap, ◌∙◌, subst, arith}
use Rattle.std.specs.Prelude.{Option, Some, None}
use Rattle.std.specs.List.{slice_get}
use Rattle.std.proofs.Math.Nat.{min-eq_left}
use Rattle.std.proofs.lemmas.List.{take_more, take_all, length-take-le}
use Rattle.std.proofs.lemmas.Option.{slice_get_within, get_or_from_slice_get}
use Rattle.au_base.specs.declared.ask.Ask.{Ask}
use Rattle.au_base.specs.declared.reply.Reply.{Reply}
use Rattle.au_base.specs.declared.reply.Said.{Said}
use Rattle.au_base.specs.declared.reply.Said.TheVariants.{Replied, Disk}
use Rattle.au_entries.specs.declared.kept.Kept.{Kept}
use Rattle.au_gen.specs.Sample.{sample}
use Rattle.au_io.specs.Areas.{Areas, IsBounded}
use Rattle.au_io.specs.Disk.{Meaning}
use Rattle.au_io.specs.Moments.{Leaves}
use Rattle.au_io.specs.Time.{Ticking, Reads}
use Rattle.au_journal.specs.declared.seat.Seat.{Seat}
use Rattle.au_opening.specs.Opening.{opening}
use Rattle.au_report.specs.Summaries.{summary_text}
use Rattle.au_step.specs.Abandoning.{abandoned}
use Rattle.au_step.specs.Runs.{Happening, Run, asks, ends}
use Rattle.au_step.specs.State.{State, start}
use Rattle.au_step.specs.Step.{Event, Step}
use Rattle.au_store.specs.Creating.{IsMade}
use Rattle.au_store.specs.History.{HistoryGoesOn}
use Rattle.au_store.specs.Looking.{ReadsUpTo}
use Rattle.au_store.specs.Recovery.{ReadsAs, RecoversTo}
use Rattle.au_store.specs.Starting.{IsOpened}
use Rattle.au_store.specs.Steps.{StepsBy, event_at}
use Rattle.au_store.specs.Stored.{Stored, IsKeptOn}
use Rattle.au_main.specs.declared.status.Status.{Status}
use Rattle.au_main.specs.declared.status.Status.TheVariants.{Done, Usage, ReadFault, WriteFault, DiskFault, Unformatted, Formatted, Damaged, BadLine, TooLong, LobbyFault, Memory, Worn}
use Rattle.au_main.specs.Complete.{IsDoneOrShort, NoneRose}
use Rattle.au_main.specs.Given.{GivesText}
use Rattle.au_main.specs.Means.{Means}
use Rattle.au_main.specs.Ran.{IsWriteCause}
use Rattle.au_main.specs.Samples.{AskedThrough, IsSummary, SampleTo, asked_from, asker, first_reading, last_number, number_in, sample_password, sample_start, summary_of}
use Rattle.au_main.specs.descent.Sampling.{AreAllAsked, IsAsked, IsReplied}

-- ---- one step

-- what was replied to is a step
pub is_replied : {D C : Type 0} (means : Means D C) (s t : Stored D C) (ask : Ask) (reply : Reply) (said : Said) → said ≡ Replied reply → StepsBy s.state (event_at asker ask t.reading) said t.state
    → HistoryGoesOn means.told means.meaning means.faults means.ticking asker ask s t said
    → (means.told → said ≢ Disk → IsKeptOn t.state.kept (means.meaning t.disk) t.seat)
    → IsReplied means s t ask reply
is_replied means s t ask reply said is step (inl tries) kept = record {
  reading = t.reading;
  read = tries.0.read;
  step = subst (λ (x : Said). StepsBy s.state (event_at asker ask t.reading) x t.state) is step;
  kept = λ told. kept told (λ no. let e : Replied reply ≡ Disk = sym is ∙ no in cc);
}
is_replied means s t ask reply said is step (inr tries) kept = absurd (let e : Replied reply ≡ Disk = sym is ∙ tries.0.failed in cc)

-- ---- asks, one after another

asked_from-push : (reading at : ℕ) (wanted : List Ask) (ask : Ask) → at ≡ reading + length wanted
    → asked_from reading (wanted ++ ask ∷ []) ≡ asked_from reading wanted ++ asks (event_at asker ask at) ∷ []
asked_from-push reading at [] ask is =
    let same : reading ≡ at = omega arith in
    ap (λ (n : ℕ). asks (event_at asker ask n) ∷ []) same
asked_from-push reading at (first ∷ wanted) ask is =
    let more : at ≡ (reading + 1) + length wanted = omega arith in
    ap (λ (l : List Happening). asks (event_at asker first reading) ∷ l) (asked_from-push (reading + 1) at wanted ask more)

Run-push : (m n k : State) (happened : List Happening) (event : Event) (replies : List Reply) (reply : Reply) → Run m happened replies n → Step n event reply k
    → Run m (happened ++ asks event ∷ []) (replies ++ reply ∷ []) k
Run-push m n k [] event [] reply run step = (k, subst (λ (x : State). Step x event reply k) run step, refl)
Run-push m n k [] event (one ∷ replies) reply run step = absurd run
Run-push m n k (asks first ∷ happened) event [] reply run step = absurd run
Run-push m n k (asks first ∷ happened) event (one ∷ replies) reply run step = (run.0, run.1, Run-push run.0 n k happened event replies reply run.2 step)
Run-push m n k (ends client ∷ happened) event replies reply run step = Run-push (abandoned client m) n k happened event replies reply run step

last_number-push : (replies : List Reply) (reply : Reply) → last_number (replies ++ reply ∷ []) ≡ number_in reply.rows
last_number-push [] reply = refl
last_number-push (one ∷ []) reply = refl
last_number-push (one ∷ next ∷ replies) reply = last_number-push (next ∷ replies) reply

AskedThrough-none : (m : State) (reading : ℕ) → AskedThrough m reading [] [] m
unfolding AskedThrough
AskedThrough-none m reading = refl

AskedThrough-push : (m n k : State) (reading at : ℕ) (wanted : List Ask) (ask : Ask) (replies : List Reply) (reply : Reply) → AskedThrough m reading wanted replies n → at ≡ reading + length wanted
    → Step n (event_at asker ask at) reply k → AskedThrough m reading (wanted ++ ask ∷ []) (replies ++ reply ∷ []) k
unfolding AskedThrough
AskedThrough-push m n k reading at wanted ask replies reply through is step =
    subst (λ (l : List Happening). Run m l (replies ++ reply ∷ []) k) (sym (asked_from-push reading at wanted ask is))
    (Run-push m n k (asked_from reading wanted) (event_at asker ask at) replies reply through step)

-- ---- the clock

-- it reads this next, and then one more each time
abbrev pub ticking_from : ℕ → Ticking
ticking_from reading = record { next = reading; step = 1 }

pub ticked : (t u : Option Ticking) (reading next : ℕ) → t ≡ Some (ticking_from next) → Reads t u reading → next + 1 ≤ 2 ^ 64 - 1 → (reading ≡ next) × (u ≡ Some (ticking_from (next + 1)))
ticked t u reading next is read fits =
    let known = subst (λ (x : Option Ticking). Reads x u reading) is read in
    (known.0, known.1 ∙ ap (λ (n : ℕ). Some (ticking_from n)) (min-eq_left fits))

-- ---- the asks of the sample

-- so many of its asks were done, and the number in the last answer is this
pub record SoFar {D C : Type 0} (means : Means D C) (seed rows : ℕ) (opened here : Stored D C) (place high : ℕ) : Type 0 where
  pub asked : IsAsked (take place (sample seed rows)) opened.state here.state high
  pub ticks : means.ticking here.clock ≡ Some (ticking_from (first_reading + 1 + place))
  pub kept : IsKeptOn here.state.kept (means.meaning here.disk) here.seat
  pub within : place ≤ length (sample seed rows)

past_end : (list : List Ask) (i : ℕ) → None ≡ slice_get list i → length list ≤ i
past_end [] i none = omega arith
past_end (first ∷ list) zero none = absurd (cc none)
past_end (first ∷ list) (suc i) none = let more = past_end list i none in omega arith

module _ {D C : Type 0} (means : Means D C) (seed rows : ℕ) (opened : Stored D C) where
  pub SoFar-none : means.ticking opened.clock ≡ Some (ticking_from (first_reading + 1)) → IsKeptOn opened.state.kept (means.meaning opened.disk) opened.seat → SoFar means seed rows opened opened 0 0
  SoFar-none ticks kept = record {
    asked = record { replies = []; through = AskedThrough-none opened.state (first_reading + 1); last = refl };
    ticks = ticks;
    kept = kept;
    within = omega arith;
  }

  pub within_sample : (place : ℕ) (ask : Ask) → Some ask ≡ slice_get (sample seed rows) place → place < length (sample seed rows)
  within_sample place ask is = slice_get_within (sample seed rows) place ask (sym is)

  taken : (place : ℕ) (ask : Ask) → Some ask ≡ slice_get (sample seed rows) place → take (place + 1) (sample seed rows) ≡ take place (sample seed rows) ++ ask ∷ []
  taken place ask is =
      take_more (sample seed rows) place ask (within_sample place ask is)
      ∙ ap (λ (x : Ask). take place (sample seed rows) ++ x ∷ []) (get_or_from_slice_get (sample seed rows) place ask ask (sym is))

  pub SoFar-more : (s t : Stored D C) (place high number : ℕ) (ask : Ask) (reply : Reply) → means.told → SoFar means seed rows opened s place high → Some ask ≡ slice_get (sample seed rows) place
      → first_reading + 1 + place + 1 ≤ 2 ^ 64 - 1 → IsReplied means s t ask reply → number ≡ number_in reply.rows → SoFar means seed rows opened t (place + 1) number
  SoFar-more s t place high number ask reply told so_far is fits replied number_is =
      let least = within_sample place ask is in
      let known = ticked (means.ticking s.clock) (means.ticking t.clock) replied.reading (first_reading + 1 + place) so_far.ticks replied.read fits in
      let many : length (take place (sample seed rows)) ≡ place = length-take-le place (sample seed rows) so_far.within in
      let at : replied.reading ≡ (first_reading + 1) + length (take place (sample seed rows)) = (let first = known.0 in omega arith) in
      let next : first_reading + 1 + place + 1 ≡ first_reading + 1 + (place + 1) = omega arith in
      let through = AskedThrough-push opened.state s.state t.state (first_reading + 1) replied.reading (take place (sample seed rows)) ask so_far.asked.replies reply so_far.asked.through at replied.step in
      record {
        asked = subst (λ (l : List Ask). IsAsked l opened.state t.state number) (sym (taken place ask is))
            (record { replies = so_far.asked.replies ++ reply ∷ []; through = through; last = number_is ∙ sym (last_number-push so_far.asked.replies reply) });
        ticks = known.1 ∙ ap (λ (n : ℕ). Some (ticking_from n)) next;
        kept = replied.kept told;
        within = (let some = least in omega arith);
      }

  -- no ask is left
  pub SoFar-all : (s : Stored D C) (place high : ℕ) → SoFar means seed rows opened s place high → None ≡ slice_get (sample seed rows) place → AreAllAsked seed rows opened.state s.state place high
  SoFar-all s place high so_far is =
      let past = past_end (sample seed rows) place is in
      record {
        asked = subst (λ (l : List Ask). IsAsked l opened.state s.state high) (take_all place (sample seed rows) past) so_far.asked;
        counted = (let within = so_far.within in omega arith);
      }

-- ---- the store

-- what was looked at is what is kept
pub kept_is : (kept found : Kept) (used : ℕ) (m : Meaning) (seat : Seat)
    → ((all : Areas) (kept other : Kept) → IsBounded all → ReadsAs kept all → ReadsAs other all → kept ≡ other)
    → ((all : Areas) (kept : Kept) → RecoversTo kept all → ReadsAs kept all)
    → IsBounded m.reads → m.images m.reads → IsKeptOn kept m seat → ReadsUpTo found used m.reads → found ≡ kept
kept_is kept found used m seat one reads bounded image settled looked = one m.reads found kept bounded looked.reads (reads m.reads kept (settled.leaves m.reads image))

-- a new store is opened in its first state
pub start_is : (limit reading : ℕ) (m : Meaning) (state : State)
    → ((all : Areas) (kept : Kept) (reading : ℕ) (m : State) → IsBounded all → RecoversTo kept all → IsOpened all reading m → m ≡ start kept reading)
    → IsBounded m.reads → m.images m.reads → Leaves (IsMade limit (opening sample_password)) m → IsOpened m.reads reading state → reading ≡ first_reading → state ≡ sample_start
unfolding sample_start
start_is limit reading m state law bounded image made opened is =
    law m.reads (opening sample_password) reading state bounded (made m.reads image).recovers opened ∙ ap (λ (n : ℕ). start (opening sample_password) n) is

-- ---- how the command ends

-- the text is that of the summary
pub summary_is : (seed rows count high : ℕ) (from here : State) (kept : Kept) (text : List ℕ) → from ≡ sample_start → AreAllAsked seed rows from here count high → kept ≡ here.kept
    → text ≡ summary_text (summary_of count high kept) → IsSummary seed rows text
summary_is seed rows count high from here kept text begins all kept_is text_is = record {
  replies = all.asked.replies;
  here = here;
  sampled = subst (λ (m : State). AskedThrough m (first_reading + 1) (sample seed rows) all.asked.replies here) begins all.asked.through;
  text_is = text_is
      ∙ ap (λ (n : ℕ). summary_text (summary_of n high kept)) all.counted
      ∙ ap (λ (n : ℕ). summary_text (summary_of (length (sample seed rows)) n kept)) all.asked.last
      ∙ ap (λ (k : Kept). summary_text (summary_of (length (sample seed rows)) (last_number all.asked.replies) k)) kept_is;
}

module _ (seed rows : ℕ) (given gave : Option (List ℕ)) where
  pub sample_given : (text : List ℕ) → IsSummary seed rows text → (status : Status) → GivesText text status given gave → SampleTo status seed rows given gave
  sample_given text is Done gives = (text, is, gives)
  sample_given text is WriteFault gives = (text, is, gives)
  sample_given text is Memory gives = gives
  sample_given text is Usage gives = absurd gives
  sample_given text is ReadFault gives = absurd gives
  sample_given text is DiskFault gives = absurd gives
  sample_given text is Unformatted gives = absurd gives
  sample_given text is Formatted gives = absurd gives
  sample_given text is (Damaged area at) gives = absurd gives
  sample_given text is (BadLine n) gives = absurd gives
  sample_given text is TooLong gives = absurd gives
  sample_given text is LobbyFault gives = absurd gives
  sample_given text is Worn gives = absurd gives

  -- no end but these
  pub sample_ends : (P : Status → Type 0) → P Done → P WriteFault → P Memory → (status : Status) → SampleTo status seed rows given gave → P status
  sample_ends P done fault memory Done to = done
  sample_ends P done fault memory WriteFault to = fault
  sample_ends P done fault memory Memory to = memory
  sample_ends P done fault memory Usage to = absurd to
  sample_ends P done fault memory ReadFault to = absurd to
  sample_ends P done fault memory DiskFault to = absurd to
  sample_ends P done fault memory Unformatted to = absurd to
  sample_ends P done fault memory Formatted to = absurd to
  sample_ends P done fault memory (Damaged area at) to = absurd to
  sample_ends P done fault memory (BadLine n) to = absurd to
  sample_ends P done fault memory TooLong to = absurd to
  sample_ends P done fault memory LobbyFault to = absurd to
  sample_ends P done fault memory Worn to = absurd to

  pub sample_completes : (before now : ℕ) (status : Status) → SampleTo status seed rows given gave → IsWriteCause status before now → NoneRose before now → IsDoneOrShort status
  sample_completes before now status to =
      sample_ends (λ (s : Status). IsWriteCause s before now → NoneRose before now → IsDoneOrShort s) (λ _ _. inl refl) (λ cause none. absurd (none cause)) (λ _ _. inr refl) status to
