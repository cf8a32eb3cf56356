-- How serving ends, and why.
use Rattle.std.proofs.Common.{◌≡◌, ◌⊎◌, inl, inr, ⊎_elim, ℕ, Bool, true, false, List, ◌++◌, refl, sym, ◌∙◌, ap, subst}
use Rattle.std.specs.Prelude.{Option}
use Rattle.au_io.specs.Areas.{Areas}
use Rattle.au_io.specs.Faults.{HasRisen}
use Rattle.au_io.specs.Moments.{Leaves, LeavesSince}
use Rattle.au_io.specs.Visits.{Visits}
use Rattle.au_journal.specs.declared.doubt.Doubt.{Doubt}
use Rattle.au_journal.specs.declared.doubt.Doubt.TheVariants.{Settled}
use Rattle.au_server.specs.declared.end.End.{End}
use Rattle.au_server.specs.declared.end.End.TheVariants as end
use Rattle.au_server.specs.Ends.{EndsTo}
use Rattle.au_step.specs.State.{State}
use Rattle.au_store.specs.declared.entry.Entry.{Entry}
use Rattle.au_store.specs.declared.open_fault.OpenFault.{OpenFault}
use Rattle.au_store.specs.declared.open_fault.OpenFault.TheVariants as fault
use Rattle.au_store.specs.Doubts.{IsAtRest}
use Rattle.au_store.specs.History.{BeginsInDoubt, ListLeaves, StandsFor, first_of, is_doubtful}
use Rattle.au_store.specs.Recovery.{RecoversTo}
use Rattle.au_store.specs.Starting.{IsOfBytes, IsOpened, NoneIsBare, OpenCause, OpenLeaves, OpenSays}
use Rattle.au_store.specs.Stored.{IsKeptOn, Stored}
use Rattle.au_main.specs.declared.status.Status.{Status}
use Rattle.au_main.specs.Causes.{TopSays}
use Rattle.au_main.specs.Complete.{IsDoneOrShort, IsEndOr, IsReady, NoneRose}
use Rattle.au_main.specs.Means.{Means}
use Rattle.au_main.specs.Ran.{IsUnopened, status_of}
use Rattle.au_main.specs.Serves.{CameOut, HasServed, WasUnasked, status_at}
use Rattle.au_main.proofs.Ends.{open_completes, over_by}

-- ---- the store that comes back

module _ {D C : Type 0} (means : Means D C) (disk last : D) (clocked : C) (o m : Stored D C) (disk_is : last ≡ m.disk) (clock_is : clocked ≡ m.clock) where
  -- a store that was opened isn't in doubt, and a list that begins with it doesn't begin so
  pub begins_well : o.seat.doubt ≡ Settled → (entries : List Entry) → BeginsInDoubt (first_of means.faults o ++ entries) → ⊥
  begins_well settled entries begins =
      let no : is_doubtful Settled ≡ true = subst (λ (d : Doubt). is_doubtful d ≡ true) settled begins.0 in
      let never : false ≡ true = no in
      absurd (cc never)

  -- a store at rest that isn't in doubt leaves what is kept
  rests_settled : (rest : IsAtRest m.state (means.meaning m.disk) m.seat) → m.seat.doubt ≡ Settled → Leaves (RecoversTo m.state.kept) (means.meaning m.disk)
  rests_settled rest settled = ⊎_elim (λ kept. kept.1.leaves) (λ doubted. absurd (doubted.unsettled settled)) rest.stood

  pub came_out : o.seat.doubt ≡ Settled → (entries : List Entry) → StandsFor means.told means.meaning means.faults m (first_of means.faults o ++ entries)
      → (means.told → (list : List Entry) → StandsFor means.told means.meaning means.faults m list → (BeginsInDoubt list → ⊥) → Leaves (ListLeaves list m.state.kept) (means.meaning m.disk))
      → (means.told → IsAtRest m.state (means.meaning m.disk) m.seat)
      → CameOut means o last clocked
  came_out settled entries stands leaves rests = record {
    closed = m;
    entries = entries;
    stands = stands;
    at_last = λ told. rw disk_is (leaves told (first_of means.faults o ++ entries) stands (begins_well settled entries));
    settled = λ told well. rw disk_is (rests_settled (rests told) well);
    disk_is = sym disk_is;
    clock_is = sym clock_is;
  }

  pub was_unasked : m ≡ o
      → (means.told → NoneIsBare (means.meaning disk) → LeavesSince (OpenLeaves (means.meaning disk) o.reading) (means.meaning disk) (means.meaning o.disk))
      → (means.told → IsKeptOn o.state.kept (means.meaning o.disk) o.seat)
      → WasUnasked means o disk last clocked
  was_unasked same opens kept =
      let here : last ≡ o.disk = disk_is ∙ ap (λ (s : Stored D C). s.disk) same in
      record {
        any_moment = λ told bare. rw here (opens told bare);
        at_last = λ told c image. (kept told).leaves c (rw here at image);
        disk_is = sym here;
        clock_is = sym (clock_is ∙ ap (λ (s : Stored D C). s.clock) same);
      }

-- ---- causes

ended_says : (e : End) (asked : Option ℕ) (old new : Option Visits) (told : Type 0) (all : Areas) (before after lobby lobby_now : ℕ) → EndsTo e asked old new lobby lobby_now → TopSays (status_at e) told all before after lobby lobby_now
ended_says end.Done asked old new told all before after lobby lobby_now ends = tt
ended_says end.LobbyFault asked old new told all before after lobby lobby_now ends = ends
ended_says end.Memory asked old new told all before after lobby lobby_now ends = tt

ended_completes : (e : End) (asked : Option ℕ) (old new : Option Visits) (lobby lobby_now : ℕ) → EndsTo e asked old new lobby lobby_now → NoneRose lobby lobby_now → IsDoneOrShort (status_at e)
ended_completes end.Done asked old new lobby lobby_now ends none = inl refl
ended_completes end.LobbyFault asked old new lobby lobby_now ends none = absurd (none ends)
ended_completes end.Memory asked old new lobby lobby_now ends none = inr refl

unopened_says : (told : Type 0) (all : Areas) (why : OpenFault) (before after lobby lobby_now : ℕ) → (told → OpenSays all why) → OpenCause why before after → TopSays (status_of why) told all before after lobby lobby_now
unopened_says told all fault.Disk before after lobby lobby_now says cause = cause.1
unopened_says told all fault.Unformatted before after lobby lobby_now says cause = says
unopened_says told all (fault.Damaged area at) before after lobby lobby_now says cause = says
unopened_says told all fault.Worn before after lobby lobby_now says cause = says
unopened_says told all fault.Memory before after lobby lobby_now says cause = tt

module _ {D C : Type 0} (means : Means D C) (status : Status) (asked : Option ℕ) (disk last : D) (clock clocked : C) (old new : Option Visits) (lobby lobby_now : ℕ) (Same : Type 0)
    (ends : HasServed means status asked disk last clock clocked old new lobby lobby_now ⊎ (IsUnopened means status disk last clock clocked × Same)) where
  pub serve_says : TopSays status means.told (means.meaning disk).reads (means.faults disk) (means.faults last) lobby lobby_now
  serve_says = ⊎_elim
      (λ (done : HasServed means status asked disk last clock clocked old new lobby lobby_now).
      subst (λ (s : Status). TopSays s means.told (means.meaning disk).reads (means.faults disk) (means.faults last) lobby lobby_now) (sym done.status_is)
      (ended_says done.end asked old new means.told (means.meaning disk).reads (means.faults disk) (means.faults last) lobby lobby_now done.ends))
      (λ (not : IsUnopened means status disk last clock clocked × Same).
      subst (λ (s : Status). TopSays s means.told (means.meaning disk).reads (means.faults disk) (means.faults last) lobby lobby_now) (sym not.0.status_is)
      (unopened_says means.told (means.meaning disk).reads not.0.why (means.faults disk) (means.faults last) lobby lobby_now not.0.says not.0.cause))
      ends

  pub serve_completes : means.told → IsReady (means.meaning disk).reads → NoneRose (means.faults disk) (means.faults last) → NoneRose lobby lobby_now → IsDoneOrShort status
  serve_completes told ready no_disk no_lobby = ⊎_elim
      (λ (done : HasServed means status asked disk last clock clocked old new lobby lobby_now).
      subst (λ (s : Status). IsDoneOrShort s) (sym done.status_is) (ended_completes done.end asked old new lobby lobby_now done.ends no_lobby))
      (λ (not : IsUnopened means status disk last clock clocked × Same).
      subst (λ (s : Status). IsDoneOrShort s) (sym not.0.status_is)
      (open_completes means.told (means.meaning disk).reads not.0.why (means.faults disk) (means.faults last) not.0.says not.0.cause told ready no_disk))
      ends

  pub serve_over : ((why other : OpenFault) → OpenSays (means.meaning disk).reads why → OpenSays (means.meaning disk).reads other → IsOfBytes why → IsOfBytes other → why ≡ other)
      → ((why : OpenFault) (reading : ℕ) (m : State) → IsOpened (means.meaning disk).reads reading m → OpenSays (means.meaning disk).reads why → IsOfBytes why → ⊥)
      → means.told → (why : OpenFault) → IsOfBytes why → OpenSays (means.meaning disk).reads why → IsEndOr (status_of why) status
  serve_over once none told why of says = ⊎_elim
      (λ (done : HasServed means status asked disk last clock clocked old new lobby lobby_now). absurd (none why done.opened.reading done.opened.state (done.begun.begins told) says of))
      (λ (not : IsUnopened means status disk last clock clocked × Same). over_by status why not.0.why not.0.status_is (λ found. once not.0.why why (not.0.says told) says found of))
      ends
