-- How commands end, and why.
use Rattle.std.proofs.Common.{◌≡◌, ◌⊎◌, inl, inr, ⊎_elim, ℕ, ◌≤◌, List, [], ◌∷◌, ◌++◌, length, refl, sym, ◌∙◌, ap, subst, arith, length-append}
use Rattle.std.specs.Prelude.{Option, Some, None, IfSome}
use Rattle.std.specs.Io.KnownBytes.{Consumes}
use Rattle.au_io.specs.Areas.{Areas}
use Rattle.au_io.specs.Disk.{Meaning}
use Rattle.au_journal.specs.Creation.{IsSelectedFormatted}
use Rattle.au_journal.specs.Walk.{IsUnformatted}
use Rattle.au_store.specs.declared.open_fault.OpenFault.{OpenFault}
use Rattle.au_store.specs.declared.open_fault.OpenFault.TheVariants as fault
use Rattle.au_step.specs.State.{State}
use Rattle.au_store.specs.Starting.{IsOfBytes, IsOpened, OpenCause, OpenSays}
use Rattle.au_store.specs.Stored.{Stored}
use Rattle.au_main.specs.declared.status.Status.{Status}
use Rattle.au_main.specs.declared.status.Status.TheVariants.{Done, Usage, ReadFault, WriteFault, DiskFault, Unformatted, Formatted, Damaged, BadLine, TooLong, LobbyFault, Memory, Worn}
use Rattle.au_main.specs.Answers.{Answer}
use Rattle.au_main.specs.Causes.{EndSays}
use Rattle.au_main.specs.Complete.{IsDoneOrShort, IsEndOr, IsReady, IsScript, NoneRose}
use Rattle.au_main.specs.Init.{InitTo}
use Rattle.au_main.specs.Lines.{BeginsWithLines, ended}
use Rattle.au_main.specs.Means.{Means}
use Rattle.au_main.specs.Ran.{HasRun, IsReadCause, IsUnopened, IsWriteCause, RanTo, status_of}

-- ---- causes

module _ {D C : Type 0} (means : Means D C) (left now : Option (List ℕ)) (opened closed : Stored D C) (answers : List Answer) (given gave : Option (List ℕ)) where
  ran_says : (status : Status) (all : Areas) (before after : ℕ) → RanTo means status left now opened closed answers given gave → EndSays status means.told all before after
  ran_says Done all before after ran = tt
  ran_says Usage all before after ran = absurd ran
  ran_says ReadFault all before after ran = tt
  ran_says WriteFault all before after ran = tt
  ran_says DiskFault all before after ran = absurd ran
  ran_says Unformatted all before after ran = absurd ran
  ran_says Formatted all before after ran = absurd ran
  ran_says (Damaged area at) all before after ran = absurd ran
  ran_says (BadLine n) all before after ran = tt
  ran_says TooLong all before after ran = tt
  ran_says LobbyFault all before after ran = absurd ran
  ran_says Memory all before after ran = tt
  ran_says Worn all before after ran = absurd ran

  -- the most that was taken is what there was
  taken_within : (bytes got : List ℕ) (after : Option (List ℕ)) → Consumes (Some bytes) after got → length got ≤ length bytes
  taken_within bytes got None taken = absurd taken
  taken_within bytes got (Some rest) taken = omega (arith, ap length taken, length-append got rest)

  module _ (rb rn wb wn : ℕ) (bytes : List ℕ) (is : left ≡ Some bytes) (script : IsScript bytes) (no_read : NoneRose rb rn) (no_write : NoneRose wb wn) where
    ran_completes : (status : Status) → RanTo means status left now opened closed answers given gave → IsReadCause status rb rn → IsWriteCause status wb wn → IsDoneOrShort status
    ran_completes Done ran read write = inl refl
    ran_completes Usage ran read write = absurd ran
    ran_completes ReadFault ran read write = absurd (no_read read)
    ran_completes WriteFault ran read write = absurd (no_write write)
    ran_completes DiskFault ran read write = absurd ran
    ran_completes Unformatted ran read write = absurd ran
    ran_completes Formatted ran read write = absurd ran
    ran_completes (Damaged area at) ran read write = absurd ran
    ran_completes (BadLine n) ran read write =
        let said = script.spelled ran.lines ran.bad ran.whole (subst (λ (l : Option (List ℕ)). IfSome l (BeginsWithLines (ran.lines ++ ran.bad ∷ []))) is ran.stands) in
        absurd (ran.says_nothing said.0 said.1)
    ran_completes TooLong ran read write =
        let taken = taken_within bytes (ended ran.lines ++ (ran.begun ++ ran.more)) now (subst (λ (l : Option (List ℕ)). Consumes l now (ended ran.lines ++ (ran.begun ++ ran.more))) is ran.taken) in
        absurd (omega (arith, taken, script.short, ran.full, ran.beyond, length-append (ended ran.lines) (ran.begun ++ ran.more), length-append (ended ran.lines) ran.begun, length-append ran.begun ran.more))
    ran_completes LobbyFault ran read write = absurd ran
    ran_completes Memory ran read write = inr refl
    ran_completes Worn ran read write = absurd ran

open_says : (told : Type 0) (all : Areas) (why : OpenFault) (before after : ℕ) → (told → OpenSays all why) → OpenCause why before after → EndSays (status_of why) told all before after
open_says told all fault.Disk before after says cause = cause.1
open_says told all fault.Unformatted before after says cause = says
open_says told all (fault.Damaged area at) before after says cause = says
open_says told all fault.Worn before after says cause = says
open_says told all fault.Memory before after says cause = tt

pub open_completes : (told : Type 0) (all : Areas) (why : OpenFault) (before after : ℕ) → (told → OpenSays all why) → OpenCause why before after → told → IsReady all → NoneRose before after → IsDoneOrShort (status_of why)
open_completes told all fault.Disk before after says cause tells ready none = absurd (none cause.1)
open_completes told all fault.Unformatted before after says cause tells ready none = absurd (ready.formatted (says tells))
open_completes told all (fault.Damaged area at) before after says cause tells ready none = absurd (ready.whole area at (says tells))
open_completes told all fault.Worn before after says cause tells ready none = absurd (ready.fresh (says tells))
open_completes told all fault.Memory before after says cause tells ready none = inr refl

module _ {D C : Type 0} (means : Means D C) (status : Status) (left now : Option (List ℕ)) (disk last : D) (clock clocked : C) (given gave : Option (List ℕ))
    (done : HasRun means status left now disk last clock clocked given gave ⊎ IsUnopened means status disk last clock clocked) where
  pub run_says : EndSays status means.told (means.meaning disk).reads (means.faults disk) (means.faults last)
  run_says = ⊎_elim
      (λ (run : HasRun means status left now disk last clock clocked given gave). ran_says means left now run.opened run.closed run.answers given gave status (means.meaning disk).reads (means.faults disk) (means.faults last) run.ran)
      (λ (not : IsUnopened means status disk last clock clocked).
      subst (λ (s : Status). EndSays s means.told (means.meaning disk).reads (means.faults disk) (means.faults last)) (sym not.status_is)
      (open_says means.told (means.meaning disk).reads not.why (means.faults disk) (means.faults last) not.says not.cause))
      done

  pub run_completes : (rb rn wb wn : ℕ) → IsReadCause status rb rn → IsWriteCause status wb wn → means.told → IsReady (means.meaning disk).reads → (bytes : List ℕ) → left ≡ Some bytes → IsScript bytes
      → NoneRose rb rn → NoneRose wb wn → NoneRose (means.faults disk) (means.faults last) → IsDoneOrShort status
  run_completes rb rn wb wn read write told ready bytes is script no_read no_write no_disk = ⊎_elim
      (λ (run : HasRun means status left now disk last clock clocked given gave).
      ran_completes means left now run.opened run.closed run.answers given gave rb rn wb wn bytes is script no_read no_write status run.ran read write)
      (λ (not : IsUnopened means status disk last clock clocked).
      subst (λ (s : Status). IsDoneOrShort s) (sym not.status_is)
      (open_completes means.told (means.meaning disk).reads not.why (means.faults disk) (means.faults last) not.says not.cause told ready no_disk))
      done

-- ---- making a store

module _ (told : Type 0) (password : List ℕ) (limit : ℕ) (old new : Meaning) (before after : ℕ) where
  pub init_says : (status : Status) → InitTo status told password limit old new before after → EndSays status told old.reads before after
  init_says Done to = tt
  init_says Usage to = absurd to
  init_says ReadFault to = absurd to
  init_says WriteFault to = absurd to
  init_says DiskFault to = to
  init_says Unformatted to = absurd to
  init_says Formatted to = to.formatted
  init_says (Damaged area at) to = absurd to
  init_says (BadLine n) to = absurd to
  init_says TooLong to = absurd to
  init_says LobbyFault to = absurd to
  init_says Memory to = tt
  init_says Worn to = absurd to

  pub init_completes : (status : Status) → InitTo status told password limit old new before after → told → IsUnformatted old.reads → NoneRose before after → IsDoneOrShort status
  init_completes Done to tells blank none = inl refl
  init_completes Usage to tells blank none = absurd to
  init_completes ReadFault to tells blank none = absurd to
  init_completes WriteFault to tells blank none = absurd to
  init_completes DiskFault to tells blank none = absurd (none to)
  init_completes Unformatted to tells blank none = absurd to
  init_completes Formatted to tells blank none = let formatted = to.formatted tells in absurd (blank formatted.0 formatted.1 formatted.2)
  init_completes (Damaged area at) to tells blank none = absurd to
  init_completes (BadLine n) to tells blank none = absurd to
  init_completes TooLong to tells blank none = absurd to
  init_completes LobbyFault to tells blank none = absurd to
  init_completes Memory to tells blank none = inr refl
  init_completes Worn to tells blank none = absurd to

  -- over a store nothing else comes
  pub init_over : (status : Status) → InitTo status told password limit old new before after → told → IsSelectedFormatted old.reads → IsEndOr Formatted status
  init_over Done to tells formatted = absurd (to.blank tells formatted.0 formatted.1 formatted.2)
  init_over Usage to tells formatted = absurd to
  init_over ReadFault to tells formatted = absurd to
  init_over WriteFault to tells formatted = absurd to
  init_over DiskFault to tells formatted = inr (inl refl)
  init_over Unformatted to tells formatted = absurd to
  init_over Formatted to tells formatted = inl refl
  init_over (Damaged area at) to tells formatted = absurd to
  init_over (BadLine n) to tells formatted = absurd to
  init_over TooLong to tells formatted = absurd to
  init_over LobbyFault to tells formatted = absurd to
  init_over Memory to tells formatted = inr (inr refl)
  init_over Worn to tells formatted = absurd to

  pub init_is_a_command : (status : Status) → InitTo status told password limit old new before after → status ≡ Usage → ⊥
  init_is_a_command status to is = subst (λ (s : Status). InitTo s told password limit old new before after) is to

-- where the bytes are why no store can be opened
pub over_by : (status : Status) (why found : OpenFault) → status ≡ status_of found → (IsOfBytes found → found ≡ why) → IsEndOr (status_of why) status
over_by status why fault.Disk is same = inr (inl is)
over_by status why fault.Memory is same = inr (inr is)
over_by status why fault.Unformatted is same = inl (is ∙ ap status_of (same tt))
over_by status why (fault.Damaged area at) is same = inl (is ∙ ap status_of (same tt))
over_by status why fault.Worn is same = inl (is ∙ ap status_of (same tt))

pub run_over : {D C : Type 0} (means : Means D C) (status : Status) (left now : Option (List ℕ)) (disk last : D) (clock clocked : C) (given gave : Option (List ℕ))
    → HasRun means status left now disk last clock clocked given gave ⊎ IsUnopened means status disk last clock clocked
    → ((why other : OpenFault) → OpenSays (means.meaning disk).reads why → OpenSays (means.meaning disk).reads other → IsOfBytes why → IsOfBytes other → why ≡ other)
    → ((why : OpenFault) (reading : ℕ) (m : State) → IsOpened (means.meaning disk).reads reading m → OpenSays (means.meaning disk).reads why → IsOfBytes why → ⊥)
    → means.told → (why : OpenFault) → IsOfBytes why → OpenSays (means.meaning disk).reads why → IsEndOr (status_of why) status
run_over means status left now disk last clock clocked given gave ends once none told why of says =
    ⊎_elim
    (λ (run : HasRun means status left now disk last clock clocked given gave). absurd (none why run.opened.reading run.opened.state (run.begins told) says of))
    (λ (not : IsUnopened means status disk last clock clocked). over_by status why not.why not.status_is (λ found. once not.why why (not.says told) says found of))
    ends
