-- A history that a store stands for goes on by one entry.
use Rattle.std.proofs.Common.{◌≡◌, ◌≢◌, ◌⊎◌, inl, inr, ⊎_elim, ℕ, true, List, [], ◌∷◌, ◌++◌, length, length-append, Option, Some, None, refl, sym, ◌∙◌, ap, subst, append-nil, append_assoc, arith}
use Rattle.std.specs.List.{AllByRecursion}
use Rattle.au_base.specs.declared.ask.Ask.{Ask}
use Rattle.au_base.specs.declared.numbers.ClientNo.{ClientNo}
use Rattle.au_base.specs.declared.reply.Said.{Said}
use Rattle.au_base.specs.declared.reply.Said.TheVariants as said
use Rattle.au_entries.specs.declared.kept.Kept.{Kept}
use Rattle.au_io.specs.Disk.{Meaning}
use Rattle.au_io.specs.Faults.{HasRisen}
use Rattle.au_io.specs.Time.{Ticking}
use Rattle.au_journal.specs.declared.doubt.Doubt.{Doubt}
use Rattle.au_journal.specs.declared.doubt.Doubt.TheVariants.{Settled, Body, Gate, Edge, Other, Head}
use Rattle.au_journal.specs.declared.seat.Seat.{Seat}
use Rattle.au_journal.specs.Seats.{mended}
use Rattle.au_step.specs.Abandoning.{abandoned}
use Rattle.au_step.specs.State.{State}
use Rattle.au_step.specs.Step.{Event}
use Rattle.au_store.specs.declared.entry.Entry.{Entry}
use Rattle.au_store.specs.declared.entry.Entry.TheVariants.{Opened, Stepped, Abandoned, Faulted, Filled}
use Rattle.au_store.specs.Doubts.{IsStoodOn}
use Rattle.au_store.specs.History.{BeginsInDoubt, Fails, GoesBy, GoesOver, HistoryGoesOn, IsDoubtIn, IsLeftInDoubt, IsQuiet, Leads, LeavesInDoubt, ListGoesOn, MendsDoubts, Reached, StandsFor, TriedTells, first_of, is_doubtful, reached_of}
use Rattle.au_store.specs.Steps.{Exceeds, HasFrameWithin, IsMovedTo, IsTried, IsUnmended, StepCause, StepDoubts, StepMoves, StepsBy, event_at}
use Rattle.au_store.specs.Stored.{Stored}

over_push : (p q r : Reached) (entries : List Entry) (entry : Entry) → GoesOver p entries q → GoesBy q entry r → GoesOver p (entries ++ entry ∷ []) r
over_push p q r [] entry over goes = (r, subst (λ (x : Reached). GoesBy x entry r) over goes, refl)
over_push p q r (first ∷ entries) entry over goes = (over.0, over.1, over_push over.0 q r entries entry over.2 goes)

leads_push : (p q : Reached) (entries : List Entry) (entry : Entry) → Leads entries p → GoesBy p entry q → Leads (entries ++ entry ∷ []) q
leads_push p q [] entry leads goes = absurd leads
leads_push p q (Opened m used limit faults doubtful ∷ entries) entry leads goes = over_push (record { state = m; used = used; limit = limit; faults = faults }) p q entries entry leads goes
leads_push p q (Stepped client ask reading reply ∷ entries) entry leads goes = absurd leads
leads_push p q (Abandoned client ∷ entries) entry leads goes = absurd leads
leads_push p q (Faulted client ask reading count ∷ entries) entry leads goes = absurd leads
leads_push p q (Filled client ask reading needed ∷ entries) entry leads goes = absurd leads

abbrev at : State → ℕ → ℕ → ℕ → Reached
at state used limit faults = record { state = state; used = used; limit = limit; faults = faults }

leads_still : (m n : State) (u v l k f g : ℕ) (entries : List Entry) → n ≡ m → v ≡ u → k ≡ l → g ≡ f → Leads entries (at m u l f) → Leads (entries ++ []) (at n v k g)
leads_still m n u v l k f g entries state used limit faults leads =
    let same : at n v k g ≡ at m u l f =
    ap (λ (s : State). at s v k g) state ∙ ap (λ (x : ℕ). at m x k g) used ∙ ap (λ (x : ℕ). at m u x g) limit ∙ ap (λ (x : ℕ). at m u l x) faults in
    subst (λ (es : List Entry). Leads es (at n v k g)) (sym (append-nil entries)) (subst (λ (q : Reached). Leads entries q) (sym same) leads)

quiet_push : (entries : List Entry) (entry : Entry) → AllByRecursion IsQuiet entries → IsQuiet entry → AllByRecursion IsQuiet (entries ++ entry ∷ [])
quiet_push [] entry quiet is = (is, tt)
quiet_push (first ∷ entries) entry quiet is = (quiet.0, quiet_push entries entry quiet.1 is)

begins_push : (entries : List Entry) (entry : Entry) → BeginsInDoubt entries → IsQuiet entry → BeginsInDoubt (entries ++ entry ∷ [])
begins_push [] entry begins is = absurd begins
begins_push (Opened m used limit faults doubtful ∷ entries) entry begins is = (begins.0, quiet_push entries entry begins.1 is)
begins_push (Stepped client ask reading reply ∷ entries) entry begins is = absurd begins
begins_push (Abandoned client ∷ entries) entry begins is = absurd begins
begins_push (Faulted client ask reading count ∷ entries) entry begins is = absurd begins
begins_push (Filled client ask reading needed ∷ entries) entry begins is = absurd begins

left_push : (entries : List Entry) (entry : Entry) (place : Reached) (event : Event) → LeavesInDoubt entries place event → IsQuiet entry → LeavesInDoubt (entries ++ entry ∷ []) place event
left_push entries entry place event left is = record {
  before = left.before;
  count = left.count;
  since = left.since ++ entry ∷ [];
  split = ap (λ (es : List Entry). es ++ entry ∷ []) left.split ∙ append_assoc left.before (Faulted event.client event.ask (Some event.reading) left.count ∷ left.since) (entry ∷ []);
  quiet = quiet_push left.since entry left.quiet is;
  leads = left.leads;
}

-- where an element stands in a list that goes on by one
last_or_before : {X : Type 0} (xs before rest : List X) (x y : X) → xs ++ x ∷ [] ≡ before ++ y ∷ rest → ((before ≡ xs) × (y ≡ x)) ⊎ ((more : List X) × (xs ≡ before ++ y ∷ more))
last_or_before [] [] rest x y is = inl (refl, (let same : y ≡ x = cc in same))
last_or_before [] (b ∷ before) rest x y is = absurd (let sizes = ap length is in omega (arith, sizes, length-append before (y ∷ rest)))
last_or_before (a ∷ xs) [] rest x y is = inr (xs, (let same : a ∷ xs ≡ y ∷ xs = cc in same))
last_or_before (a ∷ xs) (b ∷ before) rest x y is =
    let head : a ≡ b = cc in
    let tail : xs ++ x ∷ [] ≡ before ++ y ∷ rest = cc in
    ⊎_elim
    (λ (here : (before ≡ xs) × (y ≡ x)). inl (let same : b ∷ before ≡ a ∷ xs = cc (head, here.0) in same, here.1))
    (λ (there : (more : List _) × (xs ≡ before ++ y ∷ more)). inr (there.0, (let same : a ∷ xs ≡ b ∷ (before ++ y ∷ there.0) = cc (head, there.1) in same)))
    (last_or_before xs before rest x y tail)

-- the last entry is no mend that failed, or something was in doubt before it
mends_push : (entries : List Entry) (entry : Entry) → MendsDoubts entries
    → ((client : ClientNo) (ask : Ask) (count : ℕ) → Faulted client ask None count ≡ entry → IsLeftInDoubt entries) → MendsDoubts (entries ++ entry ∷ [])
mends_push entries entry mends last before rest client ask count split = ⊎_elim
    (λ (here : (before ≡ entries) × (Faulted client ask None count ≡ entry)). subst IsLeftInDoubt (sym here.0) (last client ask count here.1))
    (λ (there : (more : List Entry) × (entries ≡ before ++ Faulted client ask None count ∷ more)). mends before there.0 client ask count there.1)
    (last_or_before entries before rest entry (Faulted client ask None count) split)

mends_still : (entries : List Entry) → MendsDoubts entries → MendsDoubts (entries ++ [])
mends_still entries mends = subst MendsDoubts (sym (append-nil entries)) mends

-- a doubt that stood before the list's last entry
module _ {D C : Type 0} (told : Type 0) (meaning : D → Meaning) (s t : Stored D C)
    (stays : told → (doubted : Kept) → IsStoodOn s.state.kept doubted (meaning s.disk) s.seat → IsStoodOn t.state.kept doubted (meaning t.disk) t.seat) where
  doubt_push : (entries : List Entry) (entry : Entry) → IsQuiet entry → IsDoubtIn told meaning s entries → IsDoubtIn told meaning t (entries ++ entry ∷ [])
  doubt_push entries entry is was = record {
    place = was.place;
    event = was.event;
    left = left_push entries entry was.place was.event was.left is;
    stood = λ tells. let there = was.stood tells in (there.0, there.1, stays tells there.0 there.2);
  }

  still_doubt : (entries : List Entry) (entry : Entry) → IsQuiet entry → IsDoubtIn told meaning s entries ⊎ BeginsInDoubt entries
      → IsDoubtIn told meaning t (entries ++ entry ∷ []) ⊎ BeginsInDoubt (entries ++ entry ∷ [])
  still_doubt entries entry is doubt = ⊎_elim
      (λ (was : IsDoubtIn told meaning s entries). inl (doubt_push entries entry is was))
      (λ (begins : BeginsInDoubt entries). inr (begins_push entries entry begins is))
      doubt

-- the list leaves in doubt what a store is in doubt over
left_of : {D C : Type 0} (told : Type 0) (meaning : D → Meaning) (s : Stored D C) (entries : List Entry) → IsDoubtIn told meaning s entries ⊎ BeginsInDoubt entries → IsLeftInDoubt entries
left_of told meaning s entries doubt = ⊎_elim
    (λ (was : IsDoubtIn told meaning s entries). inl (was.place, was.event, was.left))
    (λ (begins : BeginsInDoubt entries). inr begins)
    doubt

-- the list with which a history begins
doubtful_so : (doubt : Doubt) → doubt ≢ Settled → is_doubtful doubt ≡ true
doubtful_so Settled unsettled = absurd (unsettled refl)
doubtful_so Body unsettled = refl
doubtful_so Gate unsettled = refl
doubtful_so Edge unsettled = refl
doubtful_so Other unsettled = refl
doubtful_so Head unsettled = refl

first_mends : (first : Entry) → ((client : ClientNo) (ask : Ask) (count : ℕ) → Faulted client ask None count ≢ first) → MendsDoubts (first ∷ [])
first_mends first other [] rest client ask count split = absurd (other client ask count (let same : Faulted client ask None count ≡ first = cc in same))
first_mends first other (b ∷ before) rest client ask count split = absurd (let sizes = ap length split in omega (arith, sizes, length-append before (Faulted client ask None count ∷ rest)))

pub first_stands : {D C : Type 0} (told : Type 0) (meaning : D → Meaning) (faults : D → ℕ) (s : Stored D C) → StandsFor told meaning faults s (first_of faults s)
first_stands told meaning faults s = record {
  leads = refl;
  mends = first_mends (Opened s.state s.seat.used s.seat.limit (faults s.disk) (is_doubtful s.seat.doubt))
      (λ client ask count is. let no : Faulted client ask None count ≡ Opened s.state s.seat.used s.seat.limit (faults s.disk) (is_doubtful s.seat.doubt) = is in cc);
  in_doubt = λ unsettled. inr (doubtful_so s.seat.doubt unsettled, tt);
}

module _ {D C : Type 0} (told : Type 0) (meaning : D → Meaning) (faults : D → ℕ) (s t : Stored D C) (client : ClientNo) (ask : Ask) where
  abbrev event : Event
  event = event_at client ask t.reading

  -- the disk failed, and this step is in doubt
  faulted_on : t.state ≡ s.state → IsMovedTo 0 s.seat t.seat → HasRisen (faults s.disk) (faults t.disk) → HasFrameWithin s.state s.seat event
      → (told → StepDoubts s.state event (meaning t.disk) t.seat) → ListGoesOn told meaning faults s t (Fails client ask (Some t.reading))
  faulted_on state moved rose wrote doubts = λ entries stands. (
    Faulted client ask (Some t.reading) (faults t.disk) ∷ [],
    (faults t.disk, refl),
    record {
      leads = leads_push (reached_of faults s) (reached_of faults t) entries (Faulted client ask (Some t.reading) (faults t.disk)) stands.leads (
        record { after = wrote.0; frame = wrote.1; writes = wrote.2; within = wrote.3 },
        record { state = state; used = omega (arith, moved.used); limit = moved.limit; rose = rose; faults = refl },
      );
      mends = mends_push entries (Faulted client ask (Some t.reading) (faults t.disk)) stands.mends
          (λ other asked count is. absurd (let no : Faulted other asked None count ≡ Faulted client ask (Some t.reading) (faults t.disk) = is in cc));
      in_doubt = λ _. inl (record {
        place = reached_of faults s;
        event = event;
        left = record { before = entries; count = faults t.disk; since = []; split = refl; quiet = tt; leads = stands.leads };
        stood = λ tells. let next = doubts tells in
            (next.0, next.1, subst (λ (m : State). IsStoodOn m.kept next.0 (meaning t.disk) t.seat) (sym state) next.2);
      });
    },
  )

  -- the disk failed, and an earlier step still is in doubt
  faulted_still : t.state ≡ s.state → IsMovedTo 0 s.seat t.seat → HasRisen (faults s.disk) (faults t.disk) → s.seat.doubt ≢ Settled
      → (told → (doubted : Kept) → IsStoodOn s.state.kept doubted (meaning s.disk) s.seat → IsStoodOn s.state.kept doubted (meaning t.disk) t.seat)
      → ListGoesOn told meaning faults s t (Fails client ask None)
  faulted_still state moved rose stood doubted = λ entries stands. (
    Faulted client ask None (faults t.disk) ∷ [],
    (faults t.disk, refl),
    record {
      leads = leads_push (reached_of faults s) (reached_of faults t) entries (Faulted client ask None (faults t.disk)) stands.leads
          (record { state = state; used = omega (arith, moved.used); limit = moved.limit; rose = rose; faults = refl });
      mends = mends_push entries (Faulted client ask None (faults t.disk)) stands.mends
          (λ other asked count is. left_of told meaning s entries (stands.in_doubt stood));
      in_doubt = λ _. still_doubt told meaning s t
          (λ tells kept here. subst (λ (m : State). IsStoodOn m.kept kept (meaning t.disk) t.seat) (sym state) (doubted tells kept here))
          entries (Faulted client ask None (faults t.disk)) tt (stands.in_doubt stood);
    },
  )

  -- there was no memory
  pub still_on : t.state ≡ s.state → IsMovedTo 0 s.seat t.seat → faults t.disk ≡ faults s.disk → t.seat.doubt ≡ Settled
      → ListGoesOn told meaning faults s t (TriedTells client ask t.reading said.Memory)
  still_on state moved same settled = λ entries stands. (
    [],
    refl,
    record {
      leads = leads_still s.state t.state s.seat.used t.seat.used s.seat.limit t.seat.limit (faults s.disk) (faults t.disk) entries state (omega (arith, moved.used)) moved.limit same stands.leads;
      mends = mends_still entries stands.mends;
      in_doubt = λ unsettled. absurd (unsettled settled);
    },
  )

  -- the step was tried
  module _ (ticking : C → Option Ticking) where
    tried_on : (answer : Said) → StepsBy s.state event answer t.state → StepMoves s.state event t.state answer s.seat t.seat
        → ((needed limit : ℕ) → answer ≡ said.Full needed limit → Exceeds s.state event s.seat needed limit) → StepCause answer (faults s.disk) (faults t.disk)
        → (answer ≢ said.Disk → t.seat.doubt ≡ Settled) → IsTried told meaning ticking event s t answer
        → ListGoesOn told meaning faults s t (TriedTells client ask t.reading answer)
    tried_on (said.Replied reply) step moves full cause settled tried = λ entries stands. (
      Stepped client ask t.reading reply ∷ [],
      refl,
      record {
        leads = leads_push (reached_of faults s) (reached_of faults t) entries (Stepped client ask t.reading reply) stands.leads
            (record { step = step; frame = moves.frame; writes = moves.of_event; within = moves.within; used = moves.moved.used; limit = moves.moved.limit; faults = cause });
        mends = mends_push entries (Stepped client ask t.reading reply) stands.mends
            (λ other asked count is. absurd (let no : Faulted other asked None count ≡ Stepped client ask t.reading reply = is in cc));
        in_doubt = λ unsettled. absurd (unsettled (settled (λ is. let no : said.Replied reply ≡ said.Disk = is in cc)));
      },
    )
    tried_on said.Disk step moves full cause settled tried = faulted_on step moves cause.1 (tried.wrote refl) (λ tells. tried.doubts tells refl)
    tried_on (said.Full needed limit) step moves full cause settled tried = λ entries stands.
        let over = full needed limit refl in (
          Filled client ask t.reading needed ∷ [],
          refl,
          record {
            leads = leads_push (reached_of faults s) (reached_of faults t) entries (Filled client ask t.reading needed) stands.leads (
              record { after = over.after; frame = over.frame; writes = over.writes; charged = over.charged; needs = over.needs; exceeds = omega (arith, over.bound, over.exceeds) },
              record { state = step; used = omega (arith, moves.used); limit = moves.limit; faults = cause },
            );
            mends = mends_push entries (Filled client ask t.reading needed) stands.mends
                (λ other asked count is. absurd (let no : Faulted other asked None count ≡ Filled client ask t.reading needed = is in cc));
            in_doubt = λ unsettled. absurd (unsettled (settled (λ is. let no : said.Full needed limit ≡ said.Disk = is in cc)));
          },
        )
    tried_on said.Memory step moves full cause settled tried = still_on step moves cause (settled (λ is. let no : said.Memory ≡ said.Disk = is in cc))

    -- whatever was said
    pub tried_goes_on : (answer : Said) → StepsBy s.state event answer t.state → StepMoves s.state event t.state answer s.seat t.seat
        → ((needed limit : ℕ) → answer ≡ said.Full needed limit → Exceeds s.state event s.seat needed limit) → StepCause answer (faults s.disk) (faults t.disk)
        → (answer ≢ said.Disk → t.seat.doubt ≡ Settled) → IsTried told meaning ticking event s t answer
        → HistoryGoesOn told meaning faults ticking client ask s t answer
    tried_goes_on answer step moves full cause settled tried = inl (tried, tried_on answer step moves full cause settled tried)

    pub unmended_goes_on : t.state ≡ s.state → IsMovedTo 0 s.seat t.seat → HasRisen (faults s.disk) (faults t.disk) → IsUnmended told meaning s t said.Disk
        → HistoryGoesOn told meaning faults ticking client ask s t said.Disk
    unmended_goes_on state moved rose unmended = inr (unmended, faulted_still state moved rose unmended.stood unmended.doubted)

-- a mended seat is where it was
pub mended_moved : (old new : Seat) → new ≡ mended old → IsMovedTo 0 old new
mended_moved old new is =
    let used : new.used ≡ old.used = ap (λ (s : Seat). s.used) is in
    record { used = omega (arith, used); area = ap (λ (s : Seat). s.area) is; limit = ap (λ (s : Seat). s.limit) is }

pub same_moved : (old new : Seat) → new ≡ old → IsMovedTo 0 old new
same_moved old new is =
    let used : new.used ≡ old.used = ap (λ (s : Seat). s.used) is in
    record { used = omega (arith, used); area = ap (λ (s : Seat). s.area) is; limit = ap (λ (s : Seat). s.limit) is }

-- a session was ended
ended_leads : (m n : State) (used limit faults : ℕ) (client : ClientNo) (entries : List Entry) → n ≡ abandoned client m → Leads entries (at m used limit faults)
    → Leads (entries ++ Abandoned client ∷ []) (at n used limit faults)
ended_leads m n used limit faults client entries is leads =
    leads_push (at m used limit faults) (at n used limit faults) entries (Abandoned client) leads (record { state = is; used = refl; limit = refl; faults = refl })

pub ended_on : {D C : Type 0} (told : Type 0) (meaning : D → Meaning) (faults : D → ℕ) (s t : Stored D C) (client : ClientNo) (entries : List Entry)
    → t.state ≡ abandoned client s.state → t.disk ≡ s.disk → t.seat ≡ s.seat
    → StandsFor told meaning faults s entries → StandsFor told meaning faults t (entries ++ Abandoned client ∷ [])
ended_on {D = D} told meaning faults s t client entries is disk seat stands = record {
  leads = subst (λ (d : D). Leads (entries ++ Abandoned client ∷ []) (at t.state t.seat.used t.seat.limit (faults d))) (sym disk)
      (subst (λ (x : Seat). Leads (entries ++ Abandoned client ∷ []) (at t.state x.used x.limit (faults s.disk))) (sym seat)
      (ended_leads s.state t.state s.seat.used s.seat.limit (faults s.disk) client entries is stands.leads));
  mends = mends_push entries (Abandoned client) stands.mends (λ other asked count same. absurd (let no : Faulted other asked None count ≡ Abandoned client = same in cc));
  in_doubt = λ unsettled. still_doubt told meaning s t
      (λ tells kept here.
      subst (λ (m : State). IsStoodOn m.kept kept (meaning t.disk) t.seat) (sym is)
      (subst (λ (d : D). IsStoodOn s.state.kept kept (meaning d) t.seat) (sym disk) (subst (λ (x : Seat). IsStoodOn s.state.kept kept (meaning s.disk) x) (sym seat) here)))
      entries (Abandoned client) tt (stands.in_doubt (λ was. unsettled (ap (λ (x : Seat). x.doubt) seat ∙ was)));
}
