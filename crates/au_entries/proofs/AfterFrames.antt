-- What is lawful stays lawful after a frame, and is whole then.
use Rattle.std.proofs.Common.{◌≤◌, ℕ, Bool, List}
use Rattle.std.specs.Prelude.{Option}
use Rattle.au_base.specs.Limits.{LAST_MOMENT}
use Rattle.au_base.specs.declared.numbers.Stamp.{Stamp}
use Rattle.au_entries.specs.declared.change.Change.{Change}
use Rattle.au_entries.specs.declared.kept.Kept.{Kept}
use Rattle.au_entries.specs.declared.trail_record.Record.{Record}
use Rattle.au_entries.specs.Changing.{changed_all}
use Rattle.au_entries.specs.Frames.{PartsGoOn, after_parts}
use Rattle.au_entries.specs.Lawful.{AreTruths, IsFounded, IsLawful, IsOrdered, IsWhole, IsWithinLimits}
use Rattle.au_entries.specs.Replaying.{Conditions}
use Rattle.au_entries.proofs.Truths.{KeepsGrants, all_lawful}

-- the records and the last stamp are no part of what is lawful but for its bound
with_records : (conditions : Conditions) (kept : Kept) (trail : List Record) (last : Stamp) → IsLawful conditions kept → last.0 ≤ LAST_MOMENT → IsLawful conditions (record kept { trail = trail; last = last })
with_records conditions kept trail last h moment = record {
  ordered = record {
    users = h.ordered.users;
    roles = h.ordered.roles;
    grants = h.ordered.grants;
    tables = h.ordered.tables;
    rows = h.ordered.rows;
    policies = h.ordered.policies;
    enabled = h.ordered.enabled;
    fga = h.ordered.fga;
    on = h.ordered.on;
    unreserved = h.ordered.unreserved;
  };
  founded = record {
    system = h.founded.system;
    role = h.founded.role;
    no_circle = h.founded.no_circle;
    object = h.founded.object;
    tables = h.founded.tables;
    rows = h.founded.rows;
    enabled = h.founded.enabled;
    fga = h.founded.fga;
  };
  truths = record { audit = h.truths.audit; fga = h.truths.fga };
  last = moment;
  archive = h.archive;
  instance = h.instance;
}

pub frame_lawful : KeepsGrants → (conditions : Conditions) (image : Bool) (kept : Kept) (stamp : Stamp) (purge : Option (Option Stamp)) (changes : List Change) (records : List Record)
    → IsLawful conditions kept → PartsGoOn conditions image kept stamp changes → stamp.0 ≤ LAST_MOMENT → IsLawful conditions (after_parts conditions.tree stamp purge changes records kept)
frame_lawful keeps conditions image kept stamp purge changes records h goes moment =
    with_records conditions (changed_all conditions.tree changes kept) _ stamp (all_lawful keeps conditions image kept changes h goes.go_on) moment

pub frame_whole : (conditions : Conditions) (image : Bool) (kept : Kept) (stamp : Stamp) (purge : Option (Option Stamp)) (changes : List Change) (records : List Record)
    → PartsGoOn conditions image kept stamp changes → IsWhole (after_parts conditions.tree stamp purge changes records kept)
frame_whole conditions image kept stamp purge changes records goes = record {
  fits = goes.whole.fits;
  keys = goes.whole.keys;
  few = record {
    users = goes.whole.few.users;
    roles = goes.whole.few.roles;
    tables = goes.whole.few.tables;
    policies = goes.whole.few.policies;
    fga = goes.whole.few.fga;
    grants = goes.whole.few.grants;
    columns = goes.whole.few.columns;
    rows = goes.whole.few.rows;
  };
}
