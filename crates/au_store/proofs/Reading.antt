-- From what a walk reads to what is said of a store that is opened, over plain variables.
use Rattle.std.proofs.Common.{◌≡◌, inl, inr, ℕ, ◌+◌, ◌≤◌, ◌<◌, Bool, true, false, List, [], ◌∷◌, ◌++◌, length, Option, refl, sym, ◌∙◌, ap, subst, arith, append_assoc}
use Rattle.std.proofs.lemmas.List.{append-nil, append_cancel_left}
use Rattle.au_entries.specs.declared.kept.Kept.{Kept}
use Rattle.au_io.specs.declared.disk.Area.{Area}
use Rattle.au_io.specs.Areas.{Areas, area_of}
use Rattle.au_io.specs.Disk.{Meaning, Passes, Stays}
use Rattle.au_io.specs.Moments.{CountsNow, LeavesSince, OnlyNow, both_calls, weaker_since}
use Rattle.au_io.specs.Time.{Ticking}
use Rattle.au_journal.specs.declared.seat.Seat.{Seat}
use Rattle.au_journal.specs.Frames.{frame, front, IsLimit, IsOpen, IsShut, AreSome, Stands}
use Rattle.au_journal.specs.Images.{In, EndsIn}
use Rattle.au_journal.specs.Lengths.{gate_bytes}
use Rattle.au_journal.specs.Seats.{IsSettled}
use Rattle.au_journal.specs.Walk.{IsMounted, IsWalked, MountSays, WalkSays}
use Rattle.au_journal.specs.Causes.{FaultCause}
use Rattle.au_journal.specs.declared.mount_fault.MountFault.{MountFault}
use Rattle.au_journal.specs.declared.mount_fault.MountFault.TheVariants as mount
use Rattle.au_base.specs.declared.limits.TheConstants.{INSTANCES}
use Rattle.au_store.specs.declared.open_fault.OpenFault.{OpenFault}
use Rattle.au_store.specs.declared.open_fault.OpenFault.TheVariants as fault
use Rattle.rec_codec.specs.declared.frame.Frame.{Frame}
use Rattle.rec_codec.specs.declared.frame.Frame.TheVariants.{Image, Event, Purge}
use Rattle.rec_codec.specs.Frames.{IsFrame, IsSpellable, spelled as frame_body}
use Rattle.au_entries.specs.Imaging.{nothing}
use Rattle.au_step.specs.Replaying.{EndsWell, IsReplayable, after_frame, IsImage}
use Rattle.au_step.specs.State.{State, start}
use Rattle.au_store.specs.Opened.{AreReplayable, CannotFollow, IsBare, IsFrameDamage}
use Rattle.au_store.specs.Recovery.{BeginsBy, GoesOnBy, GoesOnTo, ReadsAs, RecoversToEither, Replayed}
use Rattle.rec_codec.specs.Frames.{framed}
use Rattle.au_step.specs.Returning.{start_frame}
use Rattle.au_store.specs.Steps.{IsMovedTo}
use Rattle.au_store.specs.Looking.{LookCause, LookSays, look_fault_of, opening_fault}
use Rattle.au_store.specs.Starting.{IsOpened, IsSeated, NoneIsBare, OpenCause, OpenLeaves, OpenSays, OpensInVain}
use Rattle.au_store.specs.declared.look_fault.LookFault.{LookFault}
use Rattle.au_store.specs.declared.look_fault.LookFault.TheVariants as look
use Rattle.au_store.specs.descent.Opening.{BeginsInVain, IsRead, StartSays}

-- frames stand one behind another
abbrev pub Pushed : Type 0
Pushed = (limit : ℕ) (bodies : List (List ℕ)) (body : List ℕ) → front limit (bodies ++ body ∷ []) ≡ front limit bodies ++ frame body

-- no body begins another
abbrev pub OneFront : Type 0
OneFront = (a b : Frame) (x y : List ℕ) → IsSpellable a → IsSpellable b → frame_body a ++ x ≡ frame_body b ++ y → (a ≡ b) × (x ≡ y)

-- a body is that of one frame
frame_one : OneFront → (bytes : List ℕ) (a b : Frame) → IsFrame bytes a → IsFrame bytes b → a ≡ b
frame_one one bytes a b first second =
    (one a b [] [] first.spellable second.spellable (append-nil (frame_body a) ∙ sym first.bytes_are ∙ second.bytes_are ∙ sym (append-nil (frame_body b)))).0

-- the body of no frame, or of another, or of one that can't be replayed
pub no_beginning : (body : List ℕ) → ((f : Frame) → IsFrame body f → ⊥) → (kept : Kept) → BeginsBy body kept → ⊥
no_beginning body none kept by = none by.frame by.spelled

pub no_going_on : (body : List ℕ) (kept : Kept) → ((f : Frame) → IsFrame body f → ⊥) → (next : Kept) → GoesOnBy kept body next → ⊥
no_going_on body kept none next by = none by.frame by.spelled

pub wrong_beginning : OneFront → (body : List ℕ) (f : Frame) → IsFrame body f → (IsImage f → IsReplayable nothing f → ⊥) → (kept : Kept) → BeginsBy body kept → ⊥
wrong_beginning one_front body f is never kept by =
    let same = frame_one one_front body by.frame f by.spelled is in
    never (subst IsImage same by.image) (subst (IsReplayable nothing) same by.replayable)

pub wrong_going_on : OneFront → (body : List ℕ) (kept : Kept) (f : Frame) → IsFrame body f → ((IsImage f → ⊥) → IsReplayable kept f → ⊥) → (next : Kept) → GoesOnBy kept body next → ⊥
wrong_going_on one_front body kept f is never next by =
    let same = frame_one one_front body f by.frame is by.spelled in
    never (λ image. by.no_image (subst IsImage same image)) (subst (IsReplayable kept) (sym same) by.replayable)

pub frame_ends : (kept : Kept) (f : Frame) → IsReplayable kept f → EndsWell (after_frame kept f)
frame_ends kept (Image last changes records) goes = goes.sys
frame_ends kept (Event stamp changes records) goes = goes.sys
frame_ends kept (Purge stamp before changes records) goes = goes.sys

-- bodies are replayed to one thing
pub begins_once : OneFront → (body : List ℕ) (a b : Kept) → BeginsBy body a → BeginsBy body b → a ≡ b
begins_once one_front body a b one two = one.makes ∙ ap (after_frame nothing) (frame_one one_front body one.frame two.frame one.spelled two.spelled) ∙ sym two.makes

pub goes_once : OneFront → (kept : Kept) (body : List ℕ) (a b : Kept) → GoesOnBy kept body a → GoesOnBy kept body b → a ≡ b
goes_once one_front kept body a b one two = one.makes ∙ ap (after_frame kept) (frame_one one_front body one.frame two.frame one.spelled two.spelled) ∙ sym two.makes

goes_to_once : OneFront → (bodies : List (List ℕ)) (kept a b : Kept) → GoesOnTo kept bodies a → GoesOnTo kept bodies b → a ≡ b
goes_to_once one_front [] kept a b one two = one ∙ sym two
goes_to_once one_front (body ∷ bodies) kept a b one two =
    goes_to_once one_front bodies two.0 a b (subst (λ (k : Kept). GoesOnTo k bodies a) (goes_once one_front kept body one.0 two.0 one.1 two.1) one.2) two.2

pub replayed_once : OneFront → (bodies : List (List ℕ)) (a b : Kept) → Replayed bodies a → Replayed bodies b → a ≡ b
replayed_once one_front [] a b one two = absurd one
replayed_once one_front (body ∷ bodies) a b one two =
    goes_to_once one_front bodies two.0 a b (subst (λ (k : Kept). GoesOnTo k bodies a) (begins_once one_front body one.0 two.0 one.1 two.1) one.2) two.2

pub replayable : (bodies : List (List ℕ)) (kept : Kept) → Replayed bodies kept → AreReplayable bodies
replayable [] kept so = absurd so
replayable (body ∷ bodies) kept so = (kept, so)

pub cannot_follow : OneFront → (bodies : List (List ℕ)) (kept : Kept) (body : List ℕ) → Replayed bodies kept → ((next : Kept) → GoesOnBy kept body next → ⊥) → CannotFollow bodies body
cannot_follow one_front [] kept body so never = absurd so
cannot_follow one_front (first ∷ bodies) kept body so never = λ other next there by.
    never next (subst (λ (k : Kept). GoesOnBy k body next) (replayed_once one_front (first ∷ bodies) other kept there so) by)

-- the area, where one more body was walked
module _ (pushed : Pushed) (old new : Meaning) (s t : Seat) (bodies : List (List ℕ)) (body : List ℕ) (reads : new.reads ≡ old.reads) (area : t.area ≡ s.area) (limit : t.limit ≡ s.limit)
    (walked : IsWalked old s bodies) (then : IsWalked new t (bodies ++ body ∷ [])) where
  more_split : area_of s.area old.reads ≡ front s.limit bodies ++ (frame body ++ then.rest)
  more_split =
      ap (λ (all : Areas). area_of s.area all) (sym reads)
      ∙ ap (λ (a : Area). area_of a new.reads) (sym area)
      ∙ then.split
      ∙ ap (λ (l : ℕ). front l (bodies ++ body ∷ []) ++ then.rest) limit
      ∙ ap (λ (l : List ℕ). l ++ then.rest) (pushed s.limit bodies body)
      ∙ append_assoc (front s.limit bodies) (frame body) then.rest

  pub body_damage : (at : ℕ) → at ≡ s.used → AreReplayable bodies → CannotFollow bodies body → IsFrameDamage old.reads s.area at
  body_damage at place before never = (
    bodies,
    frame body ++ then.rest,
    record {
      selected = walked.selected;
      limit = s.limit;
      in_range = walked.placed.in_range;
      split = more_split;
      place = place ∙ walked.placed.place;
      before = before;
    },
    inr (body, then.rest, refl, never),
  )

-- the area holds the bodies that a settled journal stands for
ends_stands : (bare : Bool) (limit : ℕ) (bodies : List (List ℕ)) (area : List ℕ) → IsLimit limit → AreSome bodies → EndsIn bare (front limit bodies) area → Stands limit bodies area
ends_stands true limit bodies area in_range some ends = record { in_range = in_range; some = some; rest = []; split = ends ∙ sym (append-nil (front limit bodies)); shut = tt }
ends_stands false limit bodies area in_range some ends = record { in_range = in_range; some = some; rest = ends.gate ∷ ends.tail; split = ends.split; shut = ends.shut }

pub settled_in : (m : Meaning) (seat : Seat) (bodies : List (List ℕ)) → IsSettled m seat bodies → m.images m.reads → In seat.area (Stands seat.limit bodies) m.reads
settled_in m seat bodies settled image =
    let here = settled.leaves m.reads image in
    record { selected = here.selected; here = ends_stands seat.bare seat.limit bodies (area_of seat.area m.reads) settled.placed.in_range settled.placed.some here.here }

pub read_recovers : (m : Meaning) (seat : Seat) (kept : Kept) → m.images m.reads → IsRead m seat kept → ReadsAs kept m.reads
read_recovers m seat kept image read = record {
  area = seat.area;
  limit = seat.limit;
  bodies = read.bodies;
  held = settled_in m seat read.bodies read.settled image;
  so = read.so;
}

bare_there : (bare : Bool) (P : Type 0) → (bare ≡ true → P) → (P → ⊥) → bare ≡ false
bare_there true P to never = absurd (never (to refl))
bare_there false P to never = refl

pub read_gated : (m : Meaning) (seat : Seat) (kept : Kept) → m.images m.reads → IsRead m seat kept → (IsBare m.reads → ⊥) → seat.bare ≡ false
read_gated m seat kept image read never =
    bare_there seat.bare (IsBare m.reads)
    (λ is. (
      seat.area,
      seat.limit,
      read.bodies,
      settled_in m seat read.bodies read.settled image,
      subst (λ (b : Bool). EndsIn b (front seat.limit read.bodies) (area_of seat.area m.reads)) is (read.settled.leaves m.reads image).here,
    ))
    never

-- an open gate that was there is there still
open_or_shut : (l : List ℕ) → IsOpen l → IsShut l → ⊥
open_or_shut [] opens shut = opens
open_or_shut (x ∷ l) opens shut = shut opens

pub never_empty : (old new : Meaning) (s t : Seat) → new.reads ≡ old.reads → t.area ≡ s.area → t.limit ≡ s.limit → IsMounted old s → IsSettled new t [] → new.images new.reads → ⊥
never_empty old new s t reads area limit mounted settled image =
    let stands = (settled_in new t [] settled image).here in
    let split : front s.limit [] ++ mounted.walked.rest ≡ front s.limit [] ++ stands.rest =
    sym mounted.walked.split ∙ ap (λ (all : Areas). area_of s.area all) (sym reads) ∙ ap (λ (a : Area). area_of a new.reads) (sym area) ∙ stands.split
    ∙ ap (λ (l : ℕ). front l [] ++ stands.rest) limit in
    let same = append_cancel_left (front s.limit []) mounted.walked.rest stands.rest split in
    open_or_shut stands.rest (subst IsOpen same mounted.opens) stands.shut

-- at any moment of the walk, and of the append behind it
pub open_leaves : (old mid new : Meaning) (kept : Kept) (reading : ℕ) → Stays old mid → Passes mid new → ReadsAs kept old.reads
    → LeavesSince (RecoversToEither kept (start kept reading).kept) mid new → LeavesSince (OpenLeaves old reading) old new
open_leaves old mid new kept reading stays time recovers leaves =
    both_calls (OpenLeaves old reading) old mid new stays.time time (λ c since. inl (stays.images c since))
    (weaker_since (RecoversToEither kept (start kept reading).kept) (OpenLeaves old reading) mid new (λ c either. inr (kept, recovers, either)) leaves)

-- where no store was opened, before the clock was read
pub unread_in_vain : {D C : Type 0} (told : Type 0) (meaning : D → Meaning) (ticking : C → Option Ticking) (disk last : D) (clock clocked : C) (why : OpenFault)
    → clocked ≡ clock → Stays (meaning disk) (meaning last) → OpensInVain told meaning ticking disk last clock clocked why
unread_in_vain told meaning ticking disk last clock clocked fault.Disk same stays = inl (same, stays)
unread_in_vain told meaning ticking disk last clock clocked fault.Unformatted same stays = (same, stays)
unread_in_vain told meaning ticking disk last clock clocked (fault.Damaged area at) same stays = (same, stays)
unread_in_vain told meaning ticking disk last clock clocked fault.Worn same stays = (same, stays)
unread_in_vain told meaning ticking disk last clock clocked fault.Memory same stays = (inl same, stays)

-- and over what was replayed
module _ {D C : Type 0} (told : Type 0) (meaning : D → Meaning) (ticking : C → Option Ticking) (disk mid last : D) (clock clocked : C) (kept : Kept) (gated : Type 0)
    (stays : Stays (meaning disk) (meaning mid)) (time : Passes (meaning mid) (meaning last)) (recovers : told → ReadsAs kept (meaning disk).reads) (gates : told → NoneIsBare (meaning disk) → gated) where
  stays_to : last ≡ mid → Stays (meaning disk) (meaning last)
  stays_to same = subst (λ (d : D). Stays (meaning disk) (meaning d)) (sym same) stays

  pub opens_in_vain : (why : OpenFault) → BeginsInVain told meaning ticking kept gated mid last clock clocked why → OpensInVain told meaning ticking disk last clock clocked why
  opens_in_vain fault.Disk vain = inr (vain.0, vain.1, λ tells none. open_leaves (meaning disk) (meaning mid) (meaning last) kept vain.0 stays time (recovers tells) (vain.2 tells (gates tells none)))
  opens_in_vain fault.Unformatted vain = (vain.0, stays_to vain.1)
  opens_in_vain (fault.Damaged area at) vain = (vain.0, stays_to vain.1)
  opens_in_vain fault.Worn vain = (vain.0, stays_to vain.1)
  opens_in_vain fault.Memory vain = (vain.0, stays_to vain.1)

-- no call of the disk changes nothing
pub stays_same : (m : Meaning) → CountsNow m → OnlyNow m → Stays m m
stays_same m counts only = record {
  reads = refl;
  images = λ c since. only c since;
  written = refl;
  time = record {
    later = omega arith;
    splits = λ t c le since. inl since;
    keeps_past = λ t c le since. since;
    keeps_call = λ t c le since. counts t c le (only c since);
  };
}

-- an append writes at most two gates
pub two_gates : (bare : Bool) → gate_bytes bare ≤ gate_bytes true
two_gates true = omega arith
two_gates false = omega arith

-- what is said of a mount or a walk that failed
pub mount_says : (all : Areas) (why : MountFault) → MountSays all why → LookSays all (look_fault_of why)
mount_says all mount.Disk says = tt
mount_says all mount.Unformatted says = says
mount_says all (mount.Damaged area at) says = inl says

pub mount_cause : (why : MountFault) (before now : ℕ) → FaultCause why before now → LookCause (look_fault_of why) before now
mount_cause mount.Disk before now cause = cause
mount_cause mount.Unformatted before now cause = cause
mount_cause (mount.Damaged area at) before now cause = cause

pub walk_says : (m : Meaning) (seat : Seat) (bodies : List (List ℕ)) (walked : IsWalked m seat bodies) (why : MountFault) → AreReplayable bodies → WalkSays walked.rest seat.area seat.used why
    → LookSays m.reads (look_fault_of why)
walk_says m seat bodies walked mount.Disk before says = tt
walk_says m seat bodies walked mount.Unformatted before says = absurd says
walk_says m seat bodies walked (mount.Damaged area at) before says =
    inr (subst (λ (a : Area). IsFrameDamage m.reads a at) (sym says.0) (
      bodies,
      walked.rest,
      record {
        selected = walked.selected;
        limit = seat.limit;
        in_range = walked.placed.in_range;
        split = walked.split;
        place = says.1 ∙ walked.placed.place;
        before = before;
      },
      inl says.2,
    ))

-- a store that can't be looked at can't be opened
pub opening_cause : (why : LookFault) (before now : ℕ) → LookCause why before now → OpenCause (opening_fault why) before now
opening_cause look.Disk before now cause = cause
opening_cause look.Unformatted before now cause = cause
opening_cause (look.Damaged area at) before now cause = cause
opening_cause look.Memory before now cause = cause

pub start_says : (kept : Kept) (all : Areas) (why : OpenFault) → ReadsAs kept all → StartSays kept why → OpenSays all why
start_says kept all fault.Disk recovers says = tt
start_says kept all fault.Unformatted recovers says = absurd says
start_says kept all (fault.Damaged area at) recovers says = absurd says
start_says kept all fault.Worn recovers says = (kept, recovers, says)
start_says kept all fault.Memory recovers says = tt

-- what the disk recovered to when it was opened
module _ (old mid : Meaning) (seat : Seat) (kept : Kept) (reads : mid.reads ≡ old.reads) (image : mid.images mid.reads) (read : IsRead mid seat kept) where
  pub recovered : ReadsAs kept old.reads
  recovered = subst (ReadsAs kept) reads (read_recovers mid seat kept image read)

  pub opened_by : (reading : ℕ) (m : State) → kept.instance < INSTANCES → m ≡ start kept reading → IsOpened old.reads reading m
  opened_by reading m fresh begins = record { kept = kept; reads = recovered; fresh = fresh; begins = begins }

  pub seated_by : (n reading : ℕ) (t : Seat) → n ≡ length (framed (start_frame kept reading)) → IsMovedTo n seat t → IsSeated old.reads reading t
  seated_by n reading t size moved =
      let here = subst (λ (all : Areas). In seat.area (Stands seat.limit read.bodies) all) reads (settled_in mid seat read.bodies read.settled image) in
      let there = subst (λ (a : Area). In a (Stands seat.limit read.bodies) old.reads) (sym moved.area) here in
      record {
        kept = kept;
        bodies = read.bodies;
        held = subst (λ (l : ℕ). In t.area (Stands l read.bodies) old.reads) (sym moved.limit) there;
        so = read.so;
        used = moved.used ∙ ap (λ (u : ℕ). u + n) (read.settled.placed.place ∙ ap (λ (l : ℕ). length (front l read.bodies)) (sym moved.limit))
            ∙ ap (λ (k : ℕ). length (front t.limit read.bodies) + k) size;
      }

  pub gated_by : old.images old.reads → NoneIsBare old → seat.bare ≡ false
  gated_by was none = read_gated mid seat kept image read (λ bare. none old.reads was (subst IsBare reads bare))
