-- That a list leaves one step in doubt, or none.
use Rattle.std.proofs.Common.{◌≡◌, inl, inr, ⊎_elim, ℕ, Bool, List, [], ◌∷◌, ◌++◌, Some, refl, sym, ◌∙◌, ap, subst}
use Rattle.std.specs.List.{AllByRecursion}
use Rattle.au_base.specs.declared.ask.Ask.{Ask}
use Rattle.au_base.specs.declared.numbers.ClientNo.{ClientNo}
use Rattle.au_entries.specs.declared.kept.Kept.{Kept}
use Rattle.au_io.specs.Disk.{Meaning}
use Rattle.au_io.specs.Moments.{Leaves}
use Rattle.au_journal.specs.declared.doubt.Doubt.TheVariants.{Settled}
use Rattle.au_journal.specs.declared.seat.Seat.{Seat}
use Rattle.au_journal.specs.Standing.{IsInDoubt}
use Rattle.au_step.specs.State.{State}
use Rattle.au_step.specs.Step.{Event}
use Rattle.au_store.specs.declared.entry.Entry.{Entry}
use Rattle.au_store.specs.declared.entry.Entry.TheVariants.{Opened, Stepped, Abandoned, Faulted, Filled}
use Rattle.au_store.specs.Doubts.{IsAtRest, IsStoodOn}
use Rattle.au_store.specs.History.{BeginsInDoubt, GoesBy, GoesOver, HasToWrite, IsDoubtIn, IsQuiet, Leads, LeavesInDoubt, ListLeaves, Reached, StandsFor}
use Rattle.au_store.specs.Recovery.{RecoversTo, RecoversToEither, ReplayedTo}
use Rattle.au_store.specs.Steps.{event_at}
use Rattle.au_store.specs.Stored.{IsKeptOn, Stored}
use Rattle.au_store.proofs.Leading.{OneLogged, OneStep, one_end_of}

-- the entry of an event that failed
abbrev failed : Event → ℕ → Entry
failed event count = Faulted event.client event.ask (Some event.reading) count

-- what stands among quiet entries is quiet
quiet_at : (before since : List Entry) (entry : Entry) → AllByRecursion IsQuiet (before ++ entry ∷ since) → IsQuiet entry
quiet_at [] since entry quiet = quiet.0
quiet_at (first ∷ before) since entry quiet = quiet_at before since entry quiet.1

no_failed : (entries before since : List Entry) (event : Event) (count : ℕ) → AllByRecursion IsQuiet entries → entries ≡ before ++ failed event count ∷ since → ⊥
no_failed entries before since event count quiet split = quiet_at before since (failed event count) (subst (λ (es : List Entry). AllByRecursion IsQuiet es) split quiet)

-- the last that isn't quiet is one
last_once : (before other since rest : List Entry) (one two : Event) (m n : ℕ) → AllByRecursion IsQuiet since → AllByRecursion IsQuiet rest
    → before ++ failed one m ∷ since ≡ other ++ failed two n ∷ rest → (before ≡ other) × (failed one m ≡ failed two n)
last_once [] [] since rest one two m n quiet still same = (refl, (let head : failed one m ≡ failed two n = cc in head))
last_once [] (b ∷ other) since rest one two m n quiet still same =
    absurd (no_failed since other rest two n quiet (let tail : since ≡ other ++ failed two n ∷ rest = cc in tail))
last_once (a ∷ before) [] since rest one two m n quiet still same =
    absurd (no_failed rest before since one m still (let tail : rest ≡ before ++ failed one m ∷ since = cc in tail))
last_once (a ∷ before) (b ∷ other) since rest one two m n quiet still same =
    let head : a ≡ b = cc in
    let tail : before ++ failed one m ∷ since ≡ other ++ failed two n ∷ rest = cc in
    let more = last_once before other since rest one two m n quiet still tail in
    ((let both : a ∷ before ≡ b ∷ other = cc (head, more.0) in both), more.1)

same_event : (one two : Event) → one.client ≡ two.client → one.ask ≡ two.ask → one.reading ≡ two.reading → one ≡ two
same_event one two client ask reading =
    ap (λ (c : ClientNo). event_at c one.ask one.reading) client
    ∙ ap (λ (a : Ask). event_at two.client a one.reading) ask
    ∙ ap (λ (r : ℕ). event_at two.client two.ask r) reading

event_once : (one two : Event) (m n : ℕ) → failed one m ≡ failed two n → one ≡ two
event_once one two m n same = same_event one two
    (let client : one.client ≡ two.client = cc in client) (let ask : one.ask ≡ two.ask = cc in ask) (let reading : one.reading ≡ two.reading = cc in reading)

opened_apart : (more before since : List Entry) (event : Event) (count : ℕ) (m : State) (used limit faults : ℕ) (doubtful : Bool)
    → Opened m used limit faults doubtful ∷ more ≡ before ++ failed event count ∷ since → AllByRecursion IsQuiet more → ⊥
opened_apart more [] since event count m used limit faults doubtful split quiet = let no : Opened m used limit faults doubtful ≡ failed event count = cc in cc
opened_apart more (b ∷ before) since event count m used limit faults doubtful split quiet =
    no_failed more before since event count quiet (let tail : more ≡ before ++ failed event count ∷ since = cc in tail)

-- the list begins in doubt, and so leaves no step of its own in doubt
pub not_both : (entries : List Entry) (place : Reached) (event : Event) → LeavesInDoubt entries place event → BeginsInDoubt entries → ⊥
not_both [] place event left begins = begins
not_both (Opened m used limit faults doubtful ∷ entries) place event left begins =
    opened_apart entries left.before left.since event left.count m used limit faults doubtful left.split begins.1
not_both (Stepped client ask reading reply ∷ entries) place event left begins = begins
not_both (Abandoned client ∷ entries) place event left begins = begins
not_both (Faulted client ask reading count ∷ entries) place event left begins = begins
not_both (Filled client ask reading needed ∷ entries) place event left begins = begins

-- what comes in a list that leads somewhere
over_at : (p q : Reached) (before since : List Entry) (entry : Entry) → GoesOver p (before ++ entry ∷ since) q
    → (here next : Reached) × GoesBy here entry next × GoesOver p before here
over_at p q [] since entry over = (p, over.0, over.1, refl)
over_at p q (first ∷ before) since entry over =
    let more = over_at over.0 q before since entry over.2 in
    (more.0, more.1, more.2, (over.0, over.1, more.3))

leads_at : (q : Reached) (before since : List Entry) (event : Event) (count : ℕ) → Leads (before ++ failed event count ∷ since) q
    → (here next : Reached) × GoesBy here (failed event count) next × Leads before here
leads_at q [] since event count leads = absurd leads
leads_at q (Opened m used limit faults doubtful ∷ before) since event count leads =
    over_at (record { state = m; used = used; limit = limit; faults = faults }) q before since (failed event count) leads
leads_at q (Stepped client ask reading reply ∷ before) since event count leads = absurd leads
leads_at q (Abandoned client ∷ before) since event count leads = absurd leads
leads_at q (Faulted client ask reading number ∷ before) since event count leads = absurd leads
leads_at q (Filled client ask reading needed ∷ before) since event count leads = absurd leads

module _ (logged : OneLogged) (step : OneStep) where
  -- one step is left in doubt
  pub one_left : (entries : List Entry) (p q : Reached) (one other : Event) → LeavesInDoubt entries p one → LeavesInDoubt entries q other → (p ≡ q) × (one ≡ other)
  one_left entries p q one other a b =
      let same = last_once a.before b.before a.since b.since one other a.count b.count a.quiet b.quiet (sym a.split ∙ b.split) in (
        one_end_of logged step b.before p q (subst (λ (es : List Entry). Leads es p) same.0 a.leads) b.leads,
        event_once one other a.count b.count same.1,
      )

  -- and it had a frame to write
  pub left_wrote : (entries : List Entry) (p q : Reached) (event : Event) → Leads entries q → LeavesInDoubt entries p event → HasToWrite p event
  left_wrote entries p q event leads left =
      let at = leads_at q left.before left.since event left.count (subst (λ (es : List Entry). Leads es q) left.split leads) in
      subst (λ (r : Reached). HasToWrite r event) (one_end_of logged step left.before at.0 p at.3 left.leads) at.2.0

-- ---- what a crash leaves

stood_leaves : (kept doubted : Kept) (m : Meaning) (seat : Seat) → IsStoodOn kept doubted m seat → Leaves (RecoversToEither kept doubted) m
stood_leaves kept doubted m seat stood c image = ⊎_elim
    (λ (settled : (seat.doubt ≡ Settled) × IsKeptOn kept m seat). inl (settled.1.leaves c image))
    (λ (doubt : IsInDoubt (ReplayedTo kept) (ReplayedTo doubted) m seat). doubt.leaves c image)
    stood

-- by the list alone
pub list_leaves : {D C : Type 0} (told : Type 0) (meaning : D → Meaning) (faults : D → ℕ) (s : Stored D C) (entries : List Entry) → told → IsAtRest s.state (meaning s.disk) s.seat
    → StandsFor told meaning faults s entries → (BeginsInDoubt entries → ⊥) → Leaves (ListLeaves entries s.state.kept) (meaning s.disk)
list_leaves told meaning faults s entries tells rest stands apart c image = ⊎_elim
    (λ (settled : (s.seat.doubt ≡ Settled) × IsKeptOn s.state.kept (meaning s.disk) s.seat). inl (settled.1.leaves c image))
    (λ (doubt : IsInDoubt (ReplayedTo s.state.kept) (ReplayedTo rest.doubted) (meaning s.disk) s.seat). ⊎_elim
    (λ (was : IsDoubtIn told meaning s entries).
    let stood = was.stood tells in
    ⊎_elim
    (λ (here : RecoversTo s.state.kept c). inl here)
    (λ (there : RecoversTo stood.0 c). inr (was.place, was.event, stood.0, was.left, stood.1, there))
    (stood_leaves s.state.kept stood.0 (meaning s.disk) s.seat stood.2 c image))
    (λ (begins : BeginsInDoubt entries). absurd (apart begins))
    (stands.in_doubt doubt.unsettled))
    rest.stood
