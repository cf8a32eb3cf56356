-- What is kept stays lawful, whole and writable after each frame.
use Rattle.std.proofs.Common.{◌≡◌, ◌∙◌, ℕ, ◌≤◌, Bool, true, false, List, [], ◌∷◌, ◌++◌, sym, subst, arith}
use Rattle.std.specs.Prelude.{IsTrue, Option, Some, None}
use Rattle.std.specs.List.{AllByRecursion}
use Rattle.std.proofs.lemmas.Bool.Decides.{nat_tests}
use Rattle.au_base.specs.BuiltIn.{sys}
use Rattle.au_base.specs.Limits.{LAST_MOMENT}
use Rattle.au_base.specs.declared.numbers.Stamp.{Stamp}
use Rattle.au_entries.specs.declared.change.Change.{Change}
use Rattle.au_entries.specs.declared.kept.Kept.{Kept}
use Rattle.au_entries.specs.declared.trail_record.Record.{Record}
use Rattle.au_entries.specs.Changing.{changed_all}
use Rattle.au_entries.specs.Frames.{PartsGoOn, after_parts, is_from, purged, trail_left}
use Rattle.au_entries.specs.Imaging.{nothing}
use Rattle.au_entries.specs.Lawful.{IsLawful, IsWhole}
use Rattle.au_entries.specs.Replaying.{Conditions, has_user}
use Rattle.rec_codec.specs.Changes.{IsChangeSpellable, change}
use Rattle.rec_codec.specs.Frames.{IsSpellable, body, purge}
use Rattle.rec_parts.specs.Parts.{stamp}
use Rattle.rec_codec.specs.Records.{trail_record}
use Rattle.rec_codec.specs.declared.frame.Frame.{Frame}
use Rattle.rec_codec.specs.declared.frame.Frame.TheVariants.{Image, Event, Purge}
use Rattle.au_image.specs.Image.{IsSpelled}
use Rattle.au_kept.specs.Frames.{IsReplayable, LeadTo, Replays, after_frame}
use Rattle.au_kept.specs.Sound.{IsKept}
use Rattle.au_kept.proofs.Lists.{all_joined, all_kept}
use Rattle.au_kept.proofs.Nothing.{nothing_kept}
use Rattle.au_kept.proofs.Spelled.{Parts, all_spelled, from_parts, to_parts}
use Rattle.sql_ast.specs.declared.expression.Expr.{Expr}

-- what a frame leaves lawful and whole
pub record KeepsLaws : Type 0 where
  pub lawful : (conditions : Conditions) (image : Bool) (kept : Kept) (stamp : Stamp) (purge : Option (Option Stamp)) (changes : List Change) (records : List Record)
      → IsLawful conditions kept → PartsGoOn conditions image kept stamp changes → stamp.0 ≤ LAST_MOMENT → IsLawful conditions (after_parts conditions.tree stamp purge changes records kept)
  pub whole : (conditions : Conditions) (image : Bool) (kept : Kept) (stamp : Stamp) (purge : Option (Option Stamp)) (changes : List Change) (records : List Record)
      → PartsGoOn conditions image kept stamp changes → IsWhole (after_parts conditions.tree stamp purge changes records kept)

-- a frame's parts can be written
pub record AreSpellable (stamped : Stamp) (made : List Change) (told : List Record) : Type 0 where
  pub moment : stamped.0 ≤ LAST_MOMENT
  pub changes : AllByRecursion IsChangeSpellable made
  pub records : AllByRecursion trail_record.IsSpellable told

purged_spelled : (before : Option Stamp) (trail : List Record) → AllByRecursion trail_record.IsSpellable trail → AllByRecursion trail_record.IsSpellable (purged before trail)
purged_spelled None trail all = tt
purged_spelled (Some moment) trail all = all_kept trail_record.IsSpellable (is_from moment) trail all

pub left_spelled : (purge : Option (Option Stamp)) (trail : List Record) → AllByRecursion trail_record.IsSpellable trail → AllByRecursion trail_record.IsSpellable (trail_left purge trail)
left_spelled None trail all = all
left_spelled (Some before) trail all = purged_spelled before trail all

-- the trail and the last stamp are no part of what changes write
with_trail : (kept : Kept) (trail : List Record) (last : Stamp) → Parts kept → Parts (record kept { trail = trail; last = last })
with_trail kept trail last p = record {
  users = p.users;
  roles = p.roles;
  system = p.system;
  role = p.role;
  tables = p.tables;
  rows = p.rows;
  object = p.object;
  policies = p.policies;
  enabled = p.enabled;
  fga = p.fga;
  archive = p.archive;
  instance = p.instance;
}

pub parts_spelled : (tree : List ℕ → Expr) (moment : Stamp) (purge : Option (Option Stamp)) (changes : List Change) (records : List Record) (kept : Kept)
    → AreSpellable moment changes records → IsSpelled kept → IsSpelled (after_parts tree moment purge changes records kept)
parts_spelled tree moment purge changes records kept can h = record {
  entries = from_parts _ (with_trail (changed_all tree changes kept) (trail_left purge kept.trail ++ records) moment (all_spelled tree changes kept can.changes (to_parts kept h.entries)));
  records = all_joined trail_record.IsSpellable (trail_left purge kept.trail) records (left_spelled purge kept.trail h.records) can.records;
}

parts_kept : KeepsLaws → (conditions : Conditions) (image : Bool) (kept : Kept) (moment : Stamp) (purge : Option (Option Stamp)) (changes : List Change) (records : List Record)
    → IsKept conditions kept → AreSpellable moment changes records → PartsGoOn conditions image kept moment changes → IsKept conditions (after_parts conditions.tree moment purge changes records kept)
parts_kept keeps conditions image kept moment purge changes records h can goes = record {
  lawful = keeps.lawful conditions image kept moment purge changes records h.lawful goes can.moment;
  whole = keeps.whole conditions image kept moment purge changes records goes;
  spelled = parts_spelled conditions.tree moment purge changes records kept can h.spelled;
}

in_range : (moment : Stamp) → stamp.IsSpellable moment → moment.0 ≤ LAST_MOMENT
unfolding stamp
in_range moment h = let test = h.1 in grind (arith, nat_tests)

pub body_spellable : (moment : Stamp) (changes : List Change) (records : List Record) → body.IsSpellable (moment, (changes, records)) → AreSpellable moment changes records
unfolding body change
body_spellable moment changes records h = record { moment = in_range moment h.0; changes = h.1.0.1; records = h.1.1.1 }

pub purge_spellable : (moment : Stamp) (before : Option Stamp) (changes : List Change) (records : List Record) → purge.IsSpellable (moment, (before, (changes, records))) → AreSpellable moment changes records
unfolding purge change
purge_spellable moment before changes records h = record { moment = in_range moment h.0; changes = h.1.1.0.1; records = h.1.1.1.1 }

-- ---- frames

pub frame_kept : KeepsLaws → (conditions : Conditions) (kept : Kept) (frame : Frame) → IsKept conditions kept → IsSpellable frame → IsReplayable conditions kept frame → IsKept conditions (after_frame conditions.tree kept frame)
frame_kept keeps conditions kept (Image last changes records) h can goes = parts_kept keeps conditions true kept last None changes records h (body_spellable last changes records can) goes
frame_kept keeps conditions kept (Event moment changes records) h can goes = parts_kept keeps conditions false kept moment None changes records h (body_spellable moment changes records can) goes
frame_kept keeps conditions kept (Purge moment before changes records) h can goes = parts_kept keeps conditions false kept moment (Some before) changes records h (purge_spellable moment before changes records can) goes

pub frame_sys : (conditions : Conditions) (kept : Kept) (frame : Frame) → IsReplayable conditions kept frame → IsTrue (has_user (after_frame conditions.tree kept frame) sys)
frame_sys conditions kept (Image last changes records) goes = goes.sys
frame_sys conditions kept (Event moment changes records) goes = goes.sys
frame_sys conditions kept (Purge moment before changes records) goes = goes.sys

-- ---- frames one after another

led_kept : KeepsLaws → (conditions : Conditions) (kept : Kept) (frames : List Frame) (next : Kept) → IsKept conditions kept → IsTrue (has_user kept sys) → AllByRecursion IsSpellable frames → LeadTo conditions kept frames next
    → IsKept conditions next × IsTrue (has_user next sys)
led_kept keeps conditions kept [] next h user can same = (subst (IsKept conditions) same h, subst (λ (k : Kept). IsTrue (has_user k sys)) same user)
led_kept keeps conditions kept (frame ∷ frames) next h user can leads =
    led_kept keeps conditions (after_frame conditions.tree kept frame) frames next (frame_kept keeps conditions kept frame h can.0 leads.0) (frame_sys conditions kept frame leads.0) can.1 leads.1

pub replayed_kept : KeepsLaws → (conditions : Conditions) (frames : List Frame) (kept : Kept) → AllByRecursion IsSpellable frames → Replays conditions frames kept → IsKept conditions kept × IsTrue (has_user kept sys)
replayed_kept keeps conditions [] kept can replays = absurd replays
replayed_kept keeps conditions (frame ∷ frames) kept can replays =
    let leads = replays.2 in
    led_kept keeps conditions (after_frame conditions.tree nothing frame) frames kept (frame_kept keeps conditions nothing frame (nothing_kept conditions) can.0 leads.0) (frame_sys conditions nothing frame leads.0) can.1 leads.1

led_once : (conditions : Conditions) (kept : Kept) (frames : List Frame) (a b : Kept) → LeadTo conditions kept frames a → LeadTo conditions kept frames b → a ≡ b
led_once conditions kept [] a b one two = sym one ∙ two
led_once conditions kept (frame ∷ frames) a b one two = led_once conditions (after_frame conditions.tree kept frame) frames a b one.1 two.1

pub one_replay : (conditions : Conditions) (frames : List Frame) (a b : Kept) → Replays conditions frames a → Replays conditions frames b → a ≡ b
one_replay conditions [] a b one two = absurd one
one_replay conditions (frame ∷ frames) a b one two = led_once conditions nothing (frame ∷ frames) a b one.2 two.2
