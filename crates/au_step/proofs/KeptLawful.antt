-- The frame of a step has a spelling, goes on from what is kept, and gives what is kept after it.
use Rattle.std.proofs.Common.{◌≡◌, ◌∙◌, ℕ, ◌≤◌, Bool, true, false, List, [], ◌∷◌, refl, sym, ap, arith}
use Rattle.std.specs.Prelude.{Option, Some, None, if◌then◌else◌}
use Rattle.std.proofs.lemmas.Bool.{le-leb}
use Rattle.std.proofs.lemmas.List.{append-nil}
use Rattle.au_base.specs.Limits.{LAST_MOMENT}
use Rattle.au_base.specs.declared.numbers.Stamp.{Stamp}
use Rattle.au_entries.specs.declared.change.Change.{Change}
use Rattle.au_entries.specs.declared.kept.Kept.{Kept}
use Rattle.au_entries.specs.declared.trail_record.Record.{Record}
use Rattle.au_entries.specs.Frames.{after_parts}
use Rattle.au_replay.specs.Reading.{conditions}
use Rattle.au_ruling.specs.Sound.{IsTimelyPurge}
use Rattle.rec_codec.specs.declared.frame.Frame.{Frame}
use Rattle.rec_codec.specs.Changes.{change}
use Rattle.rec_codec.specs.Frames.{IsSpellable, body}
use Rattle.rec_codec.specs.Frames.{purge as purge_body}
use Rattle.rec_parts.specs.Parts as parts
use Rattle.rec_parts.specs.Spelling.{option}
use Rattle.au_step.specs.Framing.{frame_by}
use Rattle.au_step.specs.Replaying.{IsReplayable, after_frame}
use Rattle.au_step.specs.Returning.{LeadsTo}
use Rattle.au_step.specs.descent.SoundSteps.{CanBeKept, kept_through}
use Rattle.au_step.specs.Step.{Logged, all_changes, is_idle, is_nothing, last_after}

-- the frame of a step, at this stamp
abbrev pub frame_at : ℕ → Logged → Frame
frame_at stamp logged = frame_by logged.purge (record { 0 = stamp }) (all_changes logged) logged.records

pub stamp_written : (s : Stamp) → s.0 ≤ LAST_MOMENT → parts.stamp.IsSpellable s
unfolding parts.stamp
stamp_written s h = (omega (arith, h), le-leb s.0 LAST_MOMENT h)

event_written : (kept : Kept) (stamp : ℕ) (changes : List Change) (records : List Record) → CanBeKept kept stamp changes records → IsSpellable (frame_by None (record { 0 = stamp }) changes records)
unfolding body change
event_written kept stamp changes records can =
    (stamp_written (record { 0 = stamp }) can.moment, ((omega (arith, can.few_changes), can.written), (omega (arith, can.few_records), can.told)))

before_written : (before : Option Stamp) → IsTimelyPurge (Some before) → (option parts.stamp).IsSpellable before
before_written None timely = tt
before_written (Some before) timely = stamp_written before timely

purge_written : (kept : Kept) (stamp : ℕ) (before : Option Stamp) (changes : List Change) (records : List Record) → IsTimelyPurge (Some before) → CanBeKept kept stamp changes records
    → IsSpellable (frame_by (Some before) (record { 0 = stamp }) changes records)
unfolding purge_body change
purge_written kept stamp before changes records timely can =
    (stamp_written (record { 0 = stamp }) can.moment, (before_written before timely, ((omega (arith, can.few_changes), can.written), (omega (arith, can.few_records), can.told))))

pub frame_written : (kept : Kept) (stamp : ℕ) (purge : Option (Option Stamp)) (changes : List Change) (records : List Record) → IsTimelyPurge purge → CanBeKept kept stamp changes records
    → IsSpellable (frame_by purge (record { 0 = stamp }) changes records)
frame_written kept stamp None changes records timely can = event_written kept stamp changes records can
frame_written kept stamp (Some before) changes records timely can = purge_written kept stamp before changes records timely can

frame_goes : (kept : Kept) (stamp : ℕ) (purge : Option (Option Stamp)) (changes : List Change) (records : List Record) → CanBeKept kept stamp changes records
    → IsReplayable kept (frame_by purge (record { 0 = stamp }) changes records)
frame_goes kept stamp None changes records can = record { stamped = can.later; go_on = can.goes; sys = can.ends; whole = can.whole }
frame_goes kept stamp (Some before) changes records can = record { stamped = can.later; go_on = can.goes; sys = can.ends; whole = can.whole }

frame_after : (kept : Kept) (stamp : Stamp) (purge : Option (Option Stamp)) (changes : List Change) (records : List Record)
    → after_frame kept (frame_by purge stamp changes records) ≡ after_parts conditions.tree stamp purge changes records kept
frame_after kept stamp None changes records = refl
frame_after kept stamp (Some before) changes records = refl

-- what is kept after a step that leaves nothing
nothing_kept : (changes : List Change) (purge : Option (Option Stamp)) (records : List Record) (kept : Kept) → is_nothing changes purge records ≡ true
    → after_parts conditions.tree kept.last purge changes records kept ≡ kept
nothing_kept [] None [] kept idle = ap (λ (t : List Record). record kept { trail = t }) (append-nil kept.trail)
nothing_kept (change ∷ changes) purge records kept idle = absurd (let e : false ≡ true = idle in cc)
nothing_kept [] (Some before) records kept idle = absurd (let e : false ≡ true = idle in cc)
nothing_kept [] None (r ∷ records) kept idle = absurd (let e : false ≡ true = idle in cc)

-- the last stamp, where there is nothing and where there is something
idle_last : (last : Stamp) (stamp : ℕ) (logged : Logged) → is_idle logged ≡ true → last_after last stamp logged ≡ last
idle_last last stamp logged idle = ap (λ (b : Bool). if b then last else record { 0 = stamp }) idle

busy_last : (last : Stamp) (stamp : ℕ) (logged : Logged) → is_idle logged ≡ false → last_after last stamp logged ≡ record { 0 = stamp }
busy_last last stamp logged busy = ap (λ (b : Bool). if b then last else record { 0 = stamp }) busy

-- what is kept through a step at a last stamp
abbrev through_at : Kept → Logged → Stamp → Kept
through_at kept logged last = after_parts conditions.tree last logged.purge (all_changes logged) logged.records kept

idle_kept : (kept : Kept) (stamp : ℕ) (logged : Logged) → is_idle logged ≡ true → kept_through kept stamp logged ≡ kept
idle_kept kept stamp logged idle = ap (through_at kept logged) (idle_last kept.last stamp logged idle) ∙ nothing_kept (all_changes logged) logged.purge logged.records kept idle

busy_kept : (kept : Kept) (stamp : ℕ) (logged : Logged) → is_idle logged ≡ false → after_frame kept (frame_at stamp logged) ≡ kept_through kept stamp logged
busy_kept kept stamp logged busy =
    frame_after kept (record { 0 = stamp }) logged.purge (all_changes logged) logged.records ∙ ap (through_at kept logged) (sym (busy_last kept.last stamp logged busy))

pub leads_at : (kept : Kept) (stamp : ℕ) (logged : Logged) (idle : Bool) → is_idle logged ≡ idle → CanBeKept kept stamp (all_changes logged) logged.records
    → LeadsTo kept (if idle then None else Some (frame_at stamp logged)) (kept_through kept stamp logged)
leads_at kept stamp logged true idle can = idle_kept kept stamp logged idle
leads_at kept stamp logged false busy can = (frame_goes kept stamp logged.purge (all_changes logged) logged.records can, busy_kept kept stamp logged busy)

-- ---- the last stamp

last_at : (kept : Kept) (stamp : ℕ) (idle : Bool) → kept.last.0 ≤ LAST_MOMENT → stamp ≤ LAST_MOMENT → (if idle then kept.last else record { 0 = stamp }).0 ≤ LAST_MOMENT
last_at kept stamp true before moment = before
last_at kept stamp false before moment = moment

pub last_moment : (kept : Kept) (stamp : ℕ) (logged : Logged) → kept.last.0 ≤ LAST_MOMENT → stamp ≤ LAST_MOMENT → (last_after kept.last stamp logged).0 ≤ LAST_MOMENT
last_moment kept stamp logged before moment = last_at kept stamp (is_idle logged) before moment
