-- Histories, and runs over lines, that go on by one.
use Rattle.std.proofs.Common.{◌≡◌, ◌≢◌, ◌⊎◌, ◌≤◌, inl, inr, ⊎_elim, ℕ, ◌+◌, Bool, true, false, if◌then◌else◌, List, [], ◌∷◌, ◌++◌, length, refl, sym, ap, ◌∙◌, subst, append-nil, append_assoc, length-append, arith}
use Rattle.std.specs.Prelude.{Option, Some, None, flat_map}
use Rattle.std.specs.List.{AllByRecursion, AllZip, list_any}
use Rattle.std.specs.Str.{bytes_eq}
use Rattle.std.proofs.lemmas.List.{map-append}
use Rattle.std.proofs.lemmas.List.Concat.{flat_map-append}
use Rattle.au_base.specs.declared.ask.Ask.{Ask}
use Rattle.au_base.specs.declared.numbers.ClientNo.{ClientNo}
use Rattle.au_base.specs.declared.reply.Reply.{Reply}
use Rattle.au_base.specs.declared.reply.Said.TheVariants.{Replied, Disk, Full, Memory}
use Rattle.au_io.specs.Moments.{CountsNow, OnlyNow}
use Rattle.au_io.specs.Time.{Ticking, Reads, after_reading}
use Rattle.au_journal.specs.declared.doubt.Doubt.{Doubt}
use Rattle.au_journal.specs.declared.doubt.Doubt.TheVariants.{Settled, Body, Gate, Edge, Other, Head}
use Rattle.au_step.specs.State.{State}
use Rattle.au_script.specs.declared.lines.ScriptLine.{ScriptLine}
use Rattle.au_script.specs.declared.lines.ScriptLine.TheVariants as line
use Rattle.au_script.specs.Labels.{Label, number_of, used_with}
use Rattle.au_script.specs.Lines.{Says}
use Rattle.au_journal.specs.declared.seat.Seat.{Seat}
use Rattle.au_store.specs.declared.entry.Entry.{Entry}
use Rattle.au_store.specs.declared.entry.Entry.TheVariants.{Opened, Stepped, Faulted, Filled}
use Rattle.au_store.specs.History.{GoesOver, IsFaulted, IsStepped, IsUnchanged, MendsDoubts, Reached, StandsFor, first_of, is_doubtful, reached_of}
use Rattle.au_store.specs.Steps.{event_at}
use Rattle.au_store.specs.Stored.{Stored, IsKeptOn}
use Rattle.au_main.specs.Answers.{AllTell, Answer, AnswerTells, IsLegalBy, LeavesDoubt, Made, Unmended, ReadAll, UnmendedInDoubt, asks_after, asks_of, labels_after, line_of, readings_of, said_of, steps_of, texts}
use Rattle.au_main.specs.Means.{Means}
use Rattle.au_main.specs.Ran.{Ran}
use Rattle.au_main.specs.descent.Answering.{Answers, AnswersLine, Does, DoubtBy, StateBy}
use Rattle.au_main.proofs.OnDisk.{AreUnmended-push, IsOnDisk-none, IsOnDisk-more}

-- ---- lists

pub AllByRecursion-append : {X : Type 0} (P : X → Type 0) (xs ys : List X) → AllByRecursion P xs → AllByRecursion P ys → AllByRecursion P (xs ++ ys)
AllByRecursion-append P [] ys h g = g
AllByRecursion-append P (x ∷ xs) ys h g = (h.0, AllByRecursion-append P xs ys h.1 g)

AllZip-append : {A B : Type 0} (R : A → B → Type 0) (xs xs' : List A) (ys ys' : List B) → AllZip R xs ys → AllZip R xs' ys' → AllZip R (xs ++ xs') (ys ++ ys')
AllZip-append R [] xs' [] ys' h g = g
AllZip-append R (x ∷ xs) xs' (y ∷ ys) ys' h g = (h.0, AllZip-append R xs xs' ys ys' h.1 g)
AllZip-append R [] xs' (y ∷ ys) ys' h g = absurd h
AllZip-append R (x ∷ xs) xs' [] ys' h g = absurd h

-- ---- readings

ReadAll-nil : (t : Option Ticking) → ReadAll t t []
ReadAll-nil None = tt
ReadAll-nil (Some t) = refl

ReadAll-one : (t u : Option Ticking) (reading : ℕ) → Reads t u reading → ReadAll t u (reading ∷ [])
ReadAll-one None u reading h = tt
ReadAll-one (Some t) u reading h = h

ReadAll-append : (t u v : Option Ticking) (a b : List ℕ) → ReadAll t u a → ReadAll u v b → ReadAll t v (a ++ b)
ReadAll-append None u v a b h k = tt
ReadAll-append (Some t) u v [] b h k = subst (λ x. ReadAll x v b) h k
ReadAll-append (Some t) u v (r ∷ a) b h k = (h.0, ReadAll-append (Some (after_reading t)) u v a b h.1 k)

-- ---- histories

steps_of-push : (answers : List Answer) (a : Answer) → flat_map steps_of (answers ++ a ∷ []) ≡ flat_map steps_of answers ++ steps_of a
steps_of-push answers a = flat_map-append steps_of answers (a ∷ []) ∙ ap (λ l. flat_map steps_of answers ++ l) (append-nil (steps_of a))

over_append : (p q r : Reached) (xs ys : List Entry) → GoesOver p xs q → GoesOver q ys r → GoesOver p (xs ++ ys) r
over_append p q r [] ys over more = subst (λ (x : Reached). GoesOver x ys r) over more
over_append p q r (entry ∷ xs) ys over more = (over.0, over.1, over_append over.0 q r xs ys over.2 more)

-- the same place, but for the count of faults
abbrev counted : ℕ → Reached → Reached
counted faults p = record { state = p.state; used = p.used; limit = p.limit; faults = faults }

abbrev at : State → ℕ → ℕ → ℕ → Reached
at state used limit faults = record { state = state; used = used; limit = limit; faults = faults }

same_place : (faults : ℕ) (p q : Reached) → q.state ≡ p.state → q.used ≡ p.used → q.limit ≡ p.limit → counted faults q ≡ counted faults p
same_place faults p q state used limit =
    ap (λ (s : State). at s q.used q.limit faults) state ∙ ap (λ (x : ℕ). at p.state x q.limit faults) used ∙ ap (λ (x : ℕ). at p.state p.used x faults) limit

-- one entry alone
module _ (faults : ℕ) (p q : Reached) where
  one_step : (client : ClientNo) (ask : Ask) (reading : ℕ) (reply : Reply) → GoesOver p (Stepped client ask reading reply ∷ []) q
      → GoesOver (counted faults p) (Stepped client ask reading reply ∷ []) (counted faults q)
  one_step client ask reading reply over =
      let step = subst (λ (x : Reached). IsStepped p (event_at client ask reading) reply x) (sym over.2) over.1 in (
        counted faults q,
        record { step = step.step; frame = step.frame; writes = step.writes; within = step.within; used = step.used; limit = step.limit; faults = refl },
        refl,
      )

  one_fault : (client : ClientNo) (ask : Ask) (reading count : ℕ) → GoesOver p (Faulted client ask (Some reading) count ∷ []) q → counted faults q ≡ counted faults p
  one_fault client ask reading count over =
      let fault = subst (λ (x : Reached). IsFaulted p count x) (sym over.2) over.1.1 in same_place faults p q fault.state fault.used fault.limit

  one_unmended : (client : ClientNo) (ask : Ask) (count : ℕ) → GoesOver p (Faulted client ask None count ∷ []) q → counted faults q ≡ counted faults p
  one_unmended client ask count over =
      let fault = subst (λ (x : Reached). IsFaulted p count x) (sym over.2) over.1 in same_place faults p q fault.state fault.used fault.limit

  one_filled : (client : ClientNo) (ask : Ask) (reading needed : ℕ) → GoesOver p (Filled client ask reading needed ∷ []) q → counted faults q ≡ counted faults p
  one_filled client ask reading needed over =
      let still = subst (λ (x : Reached). IsUnchanged p x) (sym over.2) over.1.1 in same_place faults p q still.state still.used still.limit

  -- what an answer tells: a reply is one more step, and anything else is none
  steps_go : (a : Answer) (made : List Entry) → AnswerTells a made → GoesOver p made q → GoesOver (counted faults p) (steps_of a) (counted faults q)
  steps_go (Made client ask reading (Replied reply)) made tells over = one_step client ask reading reply (subst (λ (l : List Entry). GoesOver p l q) tells over)
  steps_go (Made client ask reading Disk) made tells over = one_fault client ask reading tells.0 (subst (λ (l : List Entry). GoesOver p l q) tells.1 over)
  steps_go (Made client ask reading (Full needed limit)) made tells over = one_filled client ask reading needed (subst (λ (l : List Entry). GoesOver p l q) tells over)
  steps_go (Made client ask reading Memory) made tells over = ap (counted faults) (subst (λ (l : List Entry). GoesOver p l q) tells over)
  steps_go (Unmended client ask) made tells over = one_unmended client ask tells.0 (subst (λ (l : List Entry). GoesOver p l q) tells.1 over)

-- a store in doubt says so in its first entry, which is no mend that failed
doubtful_so : (doubt : Doubt) → doubt ≢ Settled → is_doubtful doubt ≡ true
doubtful_so Settled unsettled = absurd (unsettled refl)
doubtful_so Body unsettled = refl
doubtful_so Gate unsettled = refl
doubtful_so Edge unsettled = refl
doubtful_so Other unsettled = refl
doubtful_so Head unsettled = refl

first_mends : (first : Entry) → ((client : ClientNo) (ask : Ask) (count : ℕ) → Faulted client ask None count ≢ first) → MendsDoubts (first ∷ [])
first_mends first other [] rest client ask count split = absurd (other client ask count (let same : Faulted client ask None count ≡ first = cc in same))
first_mends first other (b ∷ before) rest client ask count split = absurd (let sizes = ap length split in omega (arith, sizes, length-append before (Faulted client ask None count ∷ rest)))

-- any store stands for its first entry, so what it goes on by leads from where it was
first_stands : {D C : Type 0} (means : Means D C) (s : Stored D C) → StandsFor means.told means.meaning means.faults s (first_of means.faults s)
first_stands means s = record {
  leads = refl;
  mends = first_mends (Opened s.state s.seat.used s.seat.limit (means.faults s.disk) (is_doubtful s.seat.doubt))
      (λ client ask count is. let no : Faulted client ask None count ≡ Opened s.state s.seat.used s.seat.limit (means.faults s.disk) (is_doubtful s.seat.doubt) = is in cc);
  in_doubt = λ unsettled. inr (doubtful_so s.seat.doubt unsettled, tt);
}

answer_goes : {D C : Type 0} (means : Means D C) (faults : ℕ) (s t : Stored D C) (a : Answer)
    → ((entries : List Entry) → StandsFor means.told means.meaning means.faults s entries → (made : List Entry) × AnswerTells a made × StandsFor means.told means.meaning means.faults t (entries ++ made))
    → GoesOver (counted faults (reached_of means.faults s)) (steps_of a) (counted faults (reached_of means.faults t))
answer_goes means faults s t a history =
    let on = history (first_of means.faults s) (first_stands means s) in
    steps_go faults (reached_of means.faults s) (reached_of means.faults t) a on.0 on.1 on.2.leads

-- where the disk failed the state stays
goes_state : (m n : State) (a : Answer) → StateBy m a n → said_of a ≡ Disk → n ≡ m
goes_state m n (Made client ask reading (Replied reply)) state is = absurd (let no : Replied reply ≡ Disk = is in cc)
goes_state m n (Made client ask reading Disk) state is = state
goes_state m n (Made client ask reading (Full needed limit)) state is = state
goes_state m n (Made client ask reading Memory) state is = state
goes_state m n (Unmended client ask) state is = state

-- ---- the store's list

AllTell-push : (answers : List Answer) (a : Answer) (entries made : List Entry) → AllTell answers entries → AnswerTells a made → AllTell (answers ++ a ∷ []) (entries ++ made)
AllTell-push [] a entries made of is = (made, [], is, refl, ap (λ (l : List Entry). l ++ made) of ∙ sym (append-nil made))
AllTell-push (first ∷ answers) a entries made of is = (
  of.0,
  of.1 ++ made,
  of.2,
  AllTell-push answers a of.1 made of.3 is,
  ap (λ (l : List Entry). l ++ made) of.4 ∙ append_assoc of.0 of.1 made,
)

IsLegalBy-push : {D C : Type 0} (means : Means D C) (o s t : Stored D C) (answers : List Answer) (a : Answer) → IsLegalBy means o s answers
    → ((entries : List Entry) → StandsFor means.told means.meaning means.faults s entries → (made : List Entry) × AnswerTells a made × StandsFor means.told means.meaning means.faults t (entries ++ made))
    → IsLegalBy means o t (answers ++ a ∷ [])
IsLegalBy-push means o s t answers a legal history =
    let on = history (first_of means.faults o ++ legal.entries) legal.stands in
    record {
      entries = legal.entries ++ on.0;
      of_answers = AllTell-push answers a legal.entries on.0 legal.of_answers on.1;
      stands = subst (λ (l : List Entry). StandsFor means.told means.meaning means.faults t l) (append_assoc (first_of means.faults o) legal.entries on.0) on.2;
    }

-- ---- doubts

-- where an element stands in a list that goes on by one
last_or_before : {X : Type 0} (xs before rest : List X) (x y : X) → xs ++ x ∷ [] ≡ before ++ y ∷ rest → ((before ≡ xs) × (y ≡ x)) ⊎ ((more : List X) × (xs ≡ before ++ y ∷ more))
last_or_before [] [] rest x y is = inl (refl, (let same : y ≡ x = cc in same))
last_or_before [] (b ∷ before) rest x y is = absurd (let sizes = ap length is in omega (arith, sizes, length-append before (y ∷ rest)))
last_or_before (a ∷ xs) [] rest x y is = inr (xs, (let same : a ∷ xs ≡ y ∷ xs = cc in same))
last_or_before (a ∷ xs) (b ∷ before) rest x y is =
    let head : a ≡ b = cc in
    let tail : xs ++ x ∷ [] ≡ before ++ y ∷ rest = cc in
    ⊎_elim
    (λ (here : (before ≡ xs) × (y ≡ x)). inl (let same : b ∷ before ≡ a ∷ xs = cc (head, here.0) in same, here.1))
    (λ (there : (more : List _) × (xs ≡ before ++ y ∷ more)). inr (there.0, (let same : a ∷ xs ≡ b ∷ (before ++ y ∷ there.0) = cc (head, there.1) in same)))
    (last_or_before xs before rest x y tail)

LeavesDoubt-last : (answers : List Answer) (client : ClientNo) (ask : Ask) (reading : ℕ) → LeavesDoubt (answers ++ Made client ask reading Disk ∷ [])
LeavesDoubt-last answers client ask reading = record { before = answers; client = client; ask = ask; reading = reading; since = []; split = refl; unmended = tt }

LeavesDoubt-more : (answers : List Answer) (client : ClientNo) (ask : Ask) → LeavesDoubt answers → LeavesDoubt (answers ++ Unmended client ask ∷ [])
LeavesDoubt-more answers client ask doubt = let a = Unmended client ask in record {
  before = doubt.before;
  client = doubt.client;
  ask = doubt.ask;
  reading = doubt.reading;
  since = doubt.since ++ a ∷ [];
  split = ap (λ (l : List Answer). l ++ a ∷ []) doubt.split ∙ append_assoc doubt.before (Made doubt.client doubt.ask doubt.reading Disk ∷ doubt.since) (a ∷ []);
  unmended = AreUnmended-push doubt.since client ask doubt.unmended;
}

-- what stands in the list before it goes on by one
UnmendedInDoubt-push : (answers : List Answer) (a : Answer) → UnmendedInDoubt answers → ((client : ClientNo) (ask : Ask) → Unmended client ask ≡ a → LeavesDoubt answers)
    → UnmendedInDoubt (answers ++ a ∷ [])
UnmendedInDoubt-push answers a each last before rest client ask is = ⊎_elim
    (λ (here : (before ≡ answers) × (Unmended client ask ≡ a)). subst LeavesDoubt (sym here.0) (last client ask here.1))
    (λ (there : (more : List Answer) × (answers ≡ before ++ Unmended client ask ∷ more)). each before there.0 client ask there.1)
    (last_or_before answers before rest a (Unmended client ask) is)

unmended_push : (answers : List Answer) (a : Answer) (s t : Seat) → UnmendedInDoubt answers → (s.doubt ≢ Settled → LeavesDoubt answers) → DoubtBy a s t → UnmendedInDoubt (answers ++ a ∷ [])
unmended_push answers (Made client ask reading said) s t each doubt by =
    UnmendedInDoubt-push answers (Made client ask reading said) each (λ other first is. absurd (let no : Unmended other first ≡ Made client ask reading said = is in cc))
unmended_push answers (Unmended client ask) s t each doubt by = UnmendedInDoubt-push answers (Unmended client ask) each (λ other first is. doubt by.0)

doubt_push : (answers : List Answer) (a : Answer) (s t : Seat) → (s.doubt ≢ Settled → LeavesDoubt answers) → DoubtBy a s t → t.doubt ≢ Settled → LeavesDoubt (answers ++ a ∷ [])
doubt_push answers (Made client ask reading (Replied reply)) s t doubt by unsettled = absurd (unsettled (by (λ is. let no : Replied reply ≡ Disk = is in cc)))
doubt_push answers (Made client ask reading Disk) s t doubt by unsettled = LeavesDoubt-last answers client ask reading
doubt_push answers (Made client ask reading (Full needed limit)) s t doubt by unsettled = absurd (unsettled (by (λ is. let no : Full needed limit ≡ Disk = is in cc)))
doubt_push answers (Made client ask reading Memory) s t doubt by unsettled = absurd (unsettled (by (λ is. let no : Memory ≡ Disk = is in cc)))
doubt_push answers (Unmended client ask) s t doubt by unsettled = LeavesDoubt-more answers client ask (doubt by.0)

-- ---- runs over lines

asks_after-append : (used : List Label) (s t : List ScriptLine) → asks_after used (s ++ t) ≡ asks_after used s ++ asks_after (labels_after used s) t
asks_after-append used [] t = refl
asks_after-append used (line.Skip ∷ s) t = asks_after-append used s t
asks_after-append used (line.Ask label ask ∷ s) t = ap (λ xs. (number_of used label, ask) ∷ xs) (asks_after-append (used_with used label) s t)

labels_after-append : (used : List Label) (s t : List ScriptLine) → labels_after used (s ++ t) ≡ labels_after (labels_after used s) t
labels_after-append used [] t = refl
labels_after-append used (line.Skip ∷ s) t = labels_after-append used s t
labels_after-append used (line.Ask label ask ∷ s) t = labels_after-append (used_with used label) s t

used_with-below : (used : List Label) (label : Label) (b : Bool) → length (if b then used else used ++ label ∷ []) ≤ length used + 1
used_with-below used label true = omega arith
used_with-below used label false = omega (arith, length-append used (label ∷ []))

-- a line has at most one label that wasn't used before
pub labels_after-below : (used : List Label) (said : ScriptLine) → length (labels_after used (said ∷ [])) ≤ length used + 1
labels_after-below used line.Skip = omega arith
labels_after-below used (line.Ask label ask) = used_with-below used label (list_any (bytes_eq label) used)

-- these lines were done, and these labels are used behind them
pub record RanWith {D C : Type 0} (means : Means D C) (used : List Label) (lines : List (List ℕ)) (opened here : Stored D C) (answers : List Answer) (text : List ℕ) : Type 0 where
  pub ran : Ran means lines opened here answers text
  pub labels : used ≡ labels_after [] ran.script

-- a store was opened, and no line was done yet
Ran-opened : {D C : Type 0} (means : Means D C) (s : Stored D C)
    → CountsNow (means.meaning s.disk) → OnlyNow (means.meaning s.disk) → s.seat.doubt ≡ Settled → (means.told → IsKeptOn s.state.kept (means.meaning s.disk) s.seat)
    → Ran means [] s s [] []
Ran-opened means s counts only settled kept = record {
  script = [];
  spelled = tt;
  asks = refl;
  read = ReadAll-nil (means.ticking s.clock);
  history = refl;
  legal = record { entries = []; of_answers = refl; stands = first_stands means s };
  unmended = λ before rest client ask is. absurd (let sizes = ap length is in omega (arith, sizes, length-append before (Unmended client ask ∷ rest)));
  in_doubt = λ unsettled. absurd (unsettled settled);
  on_disk = λ told. IsOnDisk-none (reached_of means.faults s) (means.meaning s.disk) s.seat counts only settled (kept told);
  text_is = refl;
}

pub Ran-none : {D C : Type 0} (means : Means D C) (s : Stored D C)
    → CountsNow (means.meaning s.disk) → OnlyNow (means.meaning s.disk) → s.seat.doubt ≡ Settled → (means.told → IsKeptOn s.state.kept (means.meaning s.disk) s.seat)
    → RanWith means [] [] s s [] []
unfolding Ran-opened
Ran-none means s counts only settled kept =
    record { ran = Ran-opened means s counts only settled kept; labels = refl }

Ran-skip : {D C : Type 0} (means : Means D C) (lines : List (List ℕ)) (bytes : List ℕ) (o s : Stored D C) (answers : List Answer) (text : List ℕ)
    → Says bytes line.Skip → Ran means lines o s answers text → Ran means (lines ++ bytes ∷ []) o s answers text
Ran-skip means lines bytes o s answers text spelled ran = record {
  script = ran.script ++ line.Skip ∷ [];
  spelled = AllZip-append Says lines (bytes ∷ []) ran.script (line.Skip ∷ []) ran.spelled (spelled, tt);
  asks = ran.asks ∙ sym (asks_after-append [] ran.script (line.Skip ∷ []) ∙ append-nil (asks_of ran.script));
  read = ran.read;
  history = ran.history;
  legal = ran.legal;
  unmended = ran.unmended;
  in_doubt = ran.in_doubt;
  on_disk = ran.on_disk;
  text_is = ran.text_is;
}

RanWith-skip : {D C : Type 0} (means : Means D C) (used : List Label) (lines : List (List ℕ)) (bytes : List ℕ) (o s : Stored D C) (answers : List Answer) (text : List ℕ)
    → Says bytes line.Skip → RanWith means used lines o s answers text → RanWith means used (lines ++ bytes ∷ []) o s answers text
unfolding Ran-skip
RanWith-skip means used lines bytes o s answers text spelled done = record {
  ran = Ran-skip means lines bytes o s answers text spelled done.ran;
  labels = done.labels ∙ sym (labels_after-append [] done.ran.script (line.Skip ∷ []));
}

Ran-ask : {D C : Type 0} (means : Means D C) (used : List Label) (lines : List (List ℕ)) (bytes label : List ℕ) (ask : Ask) (a : Answer) (o s t : Stored D C) (answers : List Answer) (text : List ℕ)
    → Says bytes (line.Ask label ask) → (done : RanWith means used lines o s answers text) → Answers means s t (number_of used label) ask a
    → Ran means (lines ++ bytes ∷ []) o t (answers ++ a ∷ []) (text ++ line_of (said_of a))
Ran-ask means used lines bytes label ask a o s t answers text spelled done answer =
    let ran = done.ran in
    let opened = reached_of means.faults o in
    let faults = opened.faults in
    let before = counted faults (reached_of means.faults s) in
    let here = counted faults (reached_of means.faults t) in
    let history : GoesOver opened (flat_map steps_of answers ++ steps_of a) here =
    over_append opened before here (flat_map steps_of answers) (steps_of a) ran.history (answer_goes means faults s t a answer.history) in
    record {
      script = ran.script ++ line.Ask label ask ∷ [];
      spelled = AllZip-append Says lines (bytes ∷ []) ran.script (line.Ask label ask ∷ []) ran.spelled (spelled, tt);
      asks = rw (map-append, ran.asks, asks_after-append) (ap (λ x. asks_of ran.script ++ x ∷ []) (answer.asks ∙ ap (λ u. (number_of u label, ask)) done.labels));
      read = rw (flat_map-append readings_of answers (a ∷ []), append-nil (readings_of a))
          (ReadAll-append (means.ticking o.clock) (means.ticking s.clock) (means.ticking t.clock) (flat_map readings_of answers) (readings_of a) ran.read answer.read);
      history = subst (λ (l : List Entry). GoesOver opened l here) (sym (steps_of-push answers a)) history;
      legal = IsLegalBy-push means o s t answers a ran.legal answer.history;
      unmended = unmended_push answers a s.seat t.seat ran.unmended ran.in_doubt answer.doubt;
      in_doubt = doubt_push answers a s.seat t.seat ran.in_doubt answer.doubt;
      on_disk = λ told. IsOnDisk-more opened before t.state answers (means.meaning o.disk) (means.meaning s.disk) (means.meaning t.disk) s.seat t.seat (ran.on_disk told) ran.history answer.time
          a (goes_state s.state t.state a answer.state) (answer.on_disk told);
      text_is = rw ran.text_is (sym (flat_map-append (λ x. line_of (said_of x)) answers (a ∷ []) ∙ ap (λ l. texts answers ++ l) (append-nil (line_of (said_of a)))));
    }

RanWith-ask : {D C : Type 0} (means : Means D C) (used : List Label) (lines : List (List ℕ)) (bytes label : List ℕ) (ask : Ask) (a : Answer) (o s t : Stored D C) (answers : List Answer) (text : List ℕ)
    → Says bytes (line.Ask label ask) → RanWith means used lines o s answers text → Answers means s t (number_of used label) ask a
    → RanWith means (used_with used label) (lines ++ bytes ∷ []) o t (answers ++ a ∷ []) (text ++ line_of (said_of a))
unfolding Ran-ask
RanWith-ask means used lines bytes label ask a o s t answers text spelled done answer = record {
  ran = Ran-ask means used lines bytes label ask a o s t answers text spelled done answer;
  labels = ap (λ u. used_with u label) done.labels ∙ sym (labels_after-append [] done.ran.script (line.Ask label ask ∷ []));
}

-- one more line was done, which had one answer or none
pub record OneMore {D C : Type 0} (means : Means D C) (used : List Label) (lines : List (List ℕ)) (bytes : List ℕ) (opened here : Stored D C) (answers : List Answer) (text more : List ℕ) : Type 0 where
  pub last : List Answer
  pub one : length last ≤ 1
  pub more_is : more ≡ texts last
  pub done : RanWith means used (lines ++ bytes ∷ []) opened here (answers ++ last) (text ++ more)

Ran-does : {D C : Type 0} (means : Means D C) (used : List Label) (lines : List (List ℕ)) (bytes : List ℕ) (said : ScriptLine) (o s t : Stored D C) (answers : List Answer) (text more : List ℕ)
    → Says bytes said → RanWith means used lines o s answers text → Does means used s t said more → OneMore means (labels_after used (said ∷ [])) lines bytes o t answers text more
Ran-does means used lines bytes line.Skip o s t answers text more spelled done does = record {
  last = [];
  one = omega arith;
  more_is = does.1;
  done = rw (does.0, does.1, append-nil text, append-nil answers) (RanWith-skip means used lines bytes o s answers text spelled done);
}
Ran-does means used lines bytes (line.Ask label ask) o s t answers text more spelled done does = record {
  last = does.0 ∷ [];
  one = omega arith;
  more_is = does.2 ∙ sym (append-nil (line_of (said_of does.0)));
  done = rw does.2 (RanWith-ask means used lines bytes label ask does.0 o s t answers text spelled done does.1);
}

pub Ran-more : {D C : Type 0} (means : Means D C) (used : List Label) (lines : List (List ℕ)) (bytes : List ℕ) (o s t : Stored D C) (answers : List Answer) (text more : List ℕ)
    → RanWith means used lines o s answers text → (of_line : AnswersLine means used s t bytes more) → OneMore means (labels_after used (of_line.said ∷ [])) lines bytes o t answers text more
Ran-more means used lines bytes o s t answers text more done of_line = Ran-does means used lines bytes of_line.said o s t answers text more of_line.spelled done of_line.does
