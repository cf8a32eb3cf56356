-- What a crash leaves of a run, one step further.
use Rattle.std.proofs.Common.{◌≡◌, ◌≢◌, ◌⊎◌, inl, inr, ⊎_elim, ℕ, List, [], ◌∷◌, ◌++◌, refl, sym, ap, ◌∙◌, subst, append-nil, append_assoc, arith}
use Rattle.std.specs.Prelude.{flat_map}
use Rattle.std.proofs.lemmas.List.Concat.{flat_map-append}
use Rattle.au_base.specs.declared.ask.Ask.{Ask}
use Rattle.au_base.specs.declared.numbers.ClientNo.{ClientNo}
use Rattle.au_base.specs.declared.reply.Said.{Said}
use Rattle.au_base.specs.declared.reply.Said.TheVariants.{Replied, Disk, Full, Memory}
use Rattle.au_entries.specs.declared.kept.Kept.{Kept}
use Rattle.au_io.specs.Areas.{Areas}
use Rattle.au_io.specs.Disk.{Meaning, Passes}
use Rattle.au_io.specs.Moments.{Leaves, LeavesSince, CountsNow, OnlyNow, both_calls, both_pass, no_call, weaker, weaker_since}
use Rattle.au_journal.specs.declared.doubt.Doubt.TheVariants.{Settled}
use Rattle.au_journal.specs.declared.seat.Seat.{Seat}
use Rattle.au_step.specs.State.{State}
use Rattle.au_store.specs.declared.entry.Entry.{Entry}
use Rattle.au_store.specs.History.{GoesOver, Reached}
use Rattle.au_store.specs.Recovery.{RecoversTo, RecoversToEither, ReplayedTo}
use Rattle.au_journal.specs.Standing.{Holds, IsInDoubt}
use Rattle.au_store.specs.Doubts.{HasFrame, IsAfter, IsStoodOn}
use Rattle.au_store.specs.Steps.{StepLeaves, event_at}
use Rattle.au_store.specs.Stored.{IsKeptOn}
use Rattle.au_main.specs.Answers.{Answer, AreUnmended, Made, Unmended, said_of, steps_of}
use Rattle.au_main.specs.OnDisk.{IsNextTried, CameBy, RecoversAlong, IsUncertain, RecoversAfter, RestsOn, IsOnDisk, MakesOnDisk, StepsOnDisk}

-- ---- what a run came by

IsNextTried-more : (m : State) (answers : List Answer) (a : Answer) (kept : Kept) → IsNextTried m answers kept → IsNextTried m (answers ++ a ∷ []) kept
IsNextTried-more m [] a kept is = absurd is
IsNextTried-more m (Made client ask reading said ∷ answers) a kept is = is
IsNextTried-more m (Unmended client ask ∷ answers) a kept is = is

CameBy-more : (p : Reached) (answers : List Answer) (a : Answer) (kept : Kept) → CameBy p answers kept → CameBy p (answers ++ a ∷ []) kept
CameBy-more p answers a kept came = record {
  before = came.before;
  rest = came.rest ++ a ∷ [];
  split = ap (λ (l : List Answer). l ++ a ∷ []) came.split ∙ append_assoc came.before came.rest (a ∷ []);
  here = came.here;
  reached = came.reached;
  is = ⊎_elim (λ (same : kept ≡ came.here.state.kept). inl same)
      (λ (tried : IsNextTried came.here.state came.rest kept). inr (IsNextTried-more came.here.state came.rest a kept tried)) came.is;
}

RecoversAlong-more : (p : Reached) (answers : List Answer) (a : Answer) (all : Areas) → RecoversAlong p answers all → RecoversAlong p (answers ++ a ∷ []) all
RecoversAlong-more p answers a all along = (along.0, CameBy-more p answers a along.0 along.1, along.2)

-- what is kept before the last step
CameBy-before : (p here : Reached) (answers rest : List Answer) → GoesOver p (flat_map steps_of answers) here → CameBy p (answers ++ rest) here.state.kept
CameBy-before p here answers rest reached = record { before = answers; rest = rest; split = refl; here = here; reached = reached; is = inl refl }

-- and what is kept after its event
CameBy-tried : (p here : Reached) (answers : List Answer) (client : ClientNo) (ask : Ask) (reading : ℕ) (said : Said) (kept : Kept) → GoesOver p (flat_map steps_of answers) here
    → IsAfter here.state (event_at client ask reading) kept → CameBy p (answers ++ Made client ask reading said ∷ []) kept
CameBy-tried p here answers client ask reading said kept reached is =
    record { before = answers; rest = Made client ask reading said ∷ []; split = refl; here = here; reached = reached; is = inr is }

-- ---- the step in doubt

-- what couldn't mend is no step
no_steps : (answers : List Answer) → AreUnmended answers → flat_map steps_of answers ≡ []
no_steps [] unmended = refl
no_steps (Made client ask reading said ∷ answers) unmended = absurd unmended
no_steps (Unmended client ask ∷ answers) unmended = no_steps answers unmended

pub AreUnmended-push : (answers : List Answer) (client : ClientNo) (ask : Ask) → AreUnmended answers → AreUnmended (answers ++ Unmended client ask ∷ [])
AreUnmended-push [] client ask unmended = tt
AreUnmended-push (Made other first reading said ∷ answers) client ask unmended = absurd unmended
AreUnmended-push (Unmended other first ∷ answers) client ask unmended = AreUnmended-push answers client ask unmended

IsUncertain-more : (m : State) (answers : List Answer) (client : ClientNo) (ask : Ask) (kept : Kept) → IsUncertain m answers kept → IsUncertain m (answers ++ Unmended client ask ∷ []) kept
IsUncertain-more m answers client ask kept un = let a = Unmended client ask in record {
  before = un.before;
  client = un.client;
  ask = un.ask;
  reading = un.reading;
  since = un.since ++ a ∷ [];
  split = ap (λ (l : List Answer). l ++ a ∷ []) un.split ∙ append_assoc un.before (Made un.client un.ask un.reading Disk ∷ un.since) (a ∷ []);
  unmended = AreUnmended-push un.since client ask un.unmended;
  has_frame = un.has_frame;
  is_after = un.is_after;
}

IsUncertain-last : (m : State) (answers : List Answer) (client : ClientNo) (ask : Ask) (reading : ℕ) (kept : Kept) → HasFrame m (event_at client ask reading) → IsAfter m (event_at client ask reading) kept
    → IsUncertain m (answers ++ Made client ask reading Disk ∷ []) kept
IsUncertain-last m answers client ask reading kept has_frame is =
    record { before = answers; client = client; ask = ask; reading = reading; since = []; split = refl; unmended = tt; has_frame = has_frame; is_after = is }

-- the run came by what is kept after the step in doubt
CameBy-uncertain : (p here : Reached) (answers : List Answer) (kept : Kept) → GoesOver p (flat_map steps_of answers) here → IsUncertain here.state answers kept → CameBy p answers kept
CameBy-uncertain p here answers kept reached un =
    let made = Made un.client un.ask un.reading Disk in
    let none : flat_map steps_of answers ≡ flat_map steps_of un.before =
    ap (λ (l : List Answer). flat_map steps_of l) un.split ∙ flat_map-append steps_of un.before (made ∷ un.since)
    ∙ ap (λ (l : List Entry). flat_map steps_of un.before ++ l) (no_steps un.since un.unmended) ∙ append-nil (flat_map steps_of un.before) in
    record {
      before = un.before;
      rest = made ∷ un.since;
      split = un.split;
      here = here;
      reached = subst (λ (l : List Entry). GoesOver p l here) none reached;
      is = inr un.is_after;
    }

-- ---- the images

-- no call passes no moment
pub passes_none : (m : Meaning) → CountsNow m → OnlyNow m → Passes m m
passes_none m counts only = record {
  later = omega arith;
  splits = λ t c le since. inl since;
  keeps_past = λ t c le past. past;
  keeps_call = λ t c le call. counts t c le (only c call);
}

-- nothing was done yet
pub IsOnDisk-none : (p : Reached) (meaning : Meaning) (seat : Seat) → CountsNow meaning → OnlyNow meaning → seat.doubt ≡ Settled → IsKeptOn p.state.kept meaning seat
    → IsOnDisk p p.state [] meaning meaning seat
IsOnDisk-none p meaning seat counts only settled kept = record {
  time = passes_none meaning counts only;
  any_moment = no_call (RecoversAlong p []) meaning only
      (weaker (RecoversTo p.state.kept) (RecoversAlong p []) meaning (λ c recovers. (p.state.kept, CameBy-before p p [] [] refl, recovers)) kept.leaves);
  stands = record { doubted = p.state.kept; stood = inl (settled, kept); which = inl refl };
}

module _ (p here : Reached) (o : State) (answers : List Answer) (first old new : Meaning) (before after : Seat) (disk : IsOnDisk p here.state answers first old before)
    (reached : GoesOver p (flat_map steps_of answers) here) (time : Passes old new) where
  -- what may be in doubt is something that the run came by
  doubt_came : (a : Answer) → CameBy p (answers ++ a ∷ []) disk.stands.doubted
  doubt_came a = ⊎_elim
      (λ (same : disk.stands.doubted ≡ here.state.kept). subst (λ (k : Kept). CameBy p (answers ++ a ∷ []) k) (sym same) (CameBy-before p here answers (a ∷ []) reached))
      (λ (un : IsUncertain here.state answers disk.stands.doubted). CameBy-more p answers a disk.stands.doubted (CameBy-uncertain p here answers disk.stands.doubted reached un))
      disk.stands.which

  -- what was in doubt still is, or nothing was
  doubt_stays : (client : ClientNo) (ask : Ask) → o ≡ here.state → IsStoodOn here.state.kept disk.stands.doubted new after → RestsOn o (answers ++ Unmended client ask ∷ []) new after
  doubt_stays client ask same stood = subst (λ (s : State). RestsOn s (answers ++ Unmended client ask ∷ []) new after) (sym same) (record {
    doubted = disk.stands.doubted;
    stood = stood;
    which = ⊎_elim
        (λ (same : disk.stands.doubted ≡ here.state.kept). inl same)
        (λ (un : IsUncertain here.state answers disk.stands.doubted). inr (IsUncertain-more here.state answers client ask disk.stands.doubted un))
        disk.stands.which;
  })

  -- this step is in doubt
  doubt_comes : (client : ClientNo) (ask : Ask) (reading : ℕ) (kept : Kept) → o ≡ here.state → HasFrame here.state (event_at client ask reading) → IsAfter here.state (event_at client ask reading) kept → IsStoodOn here.state.kept kept new after
      → RestsOn o (answers ++ Made client ask reading Disk ∷ []) new after
  doubt_comes client ask reading kept same has_frame is stood = subst (λ (s : State). RestsOn s (answers ++ Made client ask reading Disk ∷ []) new after) (sym same)
      (record { doubted = kept; stood = stood; which = inr (IsUncertain-last here.state answers client ask reading kept has_frame is) })

  -- all the moments
  moments : (a : Answer) → LeavesSince (RecoversAlong p (answers ++ a ∷ [])) old new → LeavesSince (RecoversAlong p (answers ++ a ∷ [])) first new
  moments a then = both_calls (RecoversAlong p (answers ++ a ∷ [])) first old new disk.time time
      (weaker_since (RecoversAlong p answers) (RecoversAlong p (answers ++ a ∷ [])) first old (RecoversAlong-more p answers a) disk.any_moment) then

  made_moments : (client : ClientNo) (ask : Ask) (reading : ℕ) (said : Said) → LeavesSince (StepLeaves here.state (event_at client ask reading) disk.stands.doubted) old new
      → LeavesSince (RecoversAlong p (answers ++ Made client ask reading said ∷ [])) old new
  made_moments client ask reading said leaves =
      let a = Made client ask reading said in
      weaker_since (StepLeaves here.state (event_at client ask reading) disk.stands.doubted) (RecoversAlong p (answers ++ a ∷ [])) old new
      (λ c leaves. ⊎_elim
      (λ (kept : RecoversTo here.state.kept c). (here.state.kept, CameBy-before p here answers (a ∷ []) reached, kept))
      (λ (rest : RecoversTo disk.stands.doubted c ⊎ ((kept : Kept) × IsAfter here.state (event_at client ask reading) kept × RecoversTo kept c)). ⊎_elim
      (λ (doubted : RecoversTo disk.stands.doubted c). (disk.stands.doubted, doubt_came a, doubted))
      (λ (next : (kept : Kept) × IsAfter here.state (event_at client ask reading) kept × RecoversTo kept c). (next.0, CameBy-tried p here answers client ask reading said next.0 reached next.1, next.2))
      rest)
      leaves)
      leaves

  unmended_moments : (a : Answer) → LeavesSince (RecoversToEither here.state.kept disk.stands.doubted) old new → LeavesSince (RecoversAlong p (answers ++ a ∷ [])) old new
  unmended_moments a leaves =
      weaker_since (RecoversToEither here.state.kept disk.stands.doubted) (RecoversAlong p (answers ++ a ∷ [])) old new
      (λ c leaves. ⊎_elim
      (λ (kept : RecoversTo here.state.kept c). (here.state.kept, CameBy-before p here answers (a ∷ []) reached, kept))
      (λ (doubted : RecoversTo disk.stands.doubted c). (disk.stands.doubted, doubt_came a, doubted))
      leaves)
      leaves

  -- the step was made, or the disk didn't fail
  no_fault : (client : ClientNo) (ask : Ask) (reading : ℕ) (said : Said) → said ≢ Disk → MakesOnDisk here.state o (event_at client ask reading) said old new before after
      → IsOnDisk p o (answers ++ Made client ask reading said ∷ []) first new after
  no_fault client ask reading said well makes = record {
    time = both_pass first old new disk.time time;
    any_moment = moments (Made client ask reading said) (made_moments client ask reading said (makes.any_moment disk.stands.doubted disk.stands.stood));
    stands = record { doubted = o.kept; stood = inl (makes.settled well, makes.kept well); which = inl refl };
  }

  a_fault : (client : ClientNo) (ask : Ask) (reading : ℕ) → o ≡ here.state → MakesOnDisk here.state o (event_at client ask reading) Disk old new before after
      → IsOnDisk p o (answers ++ Made client ask reading Disk ∷ []) first new after
  a_fault client ask reading same makes = record {
    time = both_pass first old new disk.time time;
    any_moment = moments (Made client ask reading Disk) (made_moments client ask reading Disk (makes.any_moment disk.stands.doubted disk.stands.stood));
    stands = let next = makes.doubts refl in doubt_comes client ask reading next.0 same (makes.wrote refl) next.1 next.2;
  }

  -- one step more
  pub IsOnDisk-more : (a : Answer) → (said_of a ≡ Disk → o ≡ here.state) → StepsOnDisk here.state o a old new before after → IsOnDisk p o (answers ++ a ∷ []) first new after
  IsOnDisk-more (Made client ask reading (Replied reply)) same steps = no_fault client ask reading (Replied reply) (λ is. let no : Replied reply ≡ Disk = is in cc) steps
  IsOnDisk-more (Made client ask reading Disk) same steps = a_fault client ask reading (same refl) steps
  IsOnDisk-more (Made client ask reading (Full needed limit)) same steps = no_fault client ask reading (Full needed limit) (λ is. let no : Full needed limit ≡ Disk = is in cc) steps
  IsOnDisk-more (Made client ask reading Memory) same steps = no_fault client ask reading Memory (λ is. let no : Memory ≡ Disk = is in cc) steps
  IsOnDisk-more (Unmended client ask) same steps = record {
    time = both_pass first old new disk.time time;
    any_moment = moments (Unmended client ask) (unmended_moments (Unmended client ask) (steps.any_moment disk.stands.doubted disk.stands.stood));
    stands = doubt_stays client ask (same refl) (steps.doubted disk.stands.doubted disk.stands.stood);
  }

-- at the last moment
pub after_all : (p : Reached) (n : State) (answers : List Answer) (old new : Meaning) (seat : Seat) → IsOnDisk p n answers old new seat → Leaves (RecoversAfter n answers) new
after_all p n answers old new seat disk c image =
    let stands = disk.stands in
    ⊎_elim
    (λ (kept : (seat.doubt ≡ Settled) × IsKeptOn n.kept new seat). inl (kept.1.leaves c image))
    (λ (doubt : IsInDoubt (ReplayedTo n.kept) (ReplayedTo stands.doubted) new seat). ⊎_elim
    (λ (here : Holds (ReplayedTo n.kept) c). inl here)
    (λ (there : Holds (ReplayedTo stands.doubted) c). ⊎_elim
    (λ (same : stands.doubted ≡ n.kept). inl (subst (λ (k : Kept). RecoversTo k c) same there))
    (λ (un : IsUncertain n answers stands.doubted). inr (stands.doubted, un, there))
    stands.which)
    (doubt.leaves c image))
    stands.stood
