-- What a frame of the journal makes of what is kept, and when it goes on from it (the rule by which a journal is replayed is
-- this project's profile). A frame's parts are its stamp, its purge where it is one, its changes and its records.
use Rattle.std.specs.Prelude.{◌≤◌, ℕ, nat_le, Bool, IsTrue, List, [], ◌++◌, filter, Option, Some, None}
use Rattle.au_base.specs.BuiltIn.{sys}
use Rattle.au_base.specs.declared.numbers.Stamp.{Stamp}
use Rattle.au_entries.specs.declared.change.Change.{Change}
use Rattle.au_entries.specs.declared.kept.Kept.{Kept}
use Rattle.au_entries.specs.declared.trail_record.Record.{Record}
use Rattle.au_entries.specs.Changing.{changed_all}
use Rattle.au_entries.specs.Lawful.{IsWhole}
use Rattle.au_entries.specs.Replaying.{AllGoOn, Conditions, has_user}
use Rattle.sql_ast.specs.declared.expression.Expr.{Expr}

-- the record is stamped at the moment or later, so that a purge of what is before it doesn't cover it
abbrev pub is_from : Stamp → Record → Bool
is_from moment entry = nat_le moment.0 entry.stamp.0

-- What a purge leaves of the trail: the records that aren't stamped before the moment, in their order. A purge without a
-- moment covers all records.
abbrev pub purged : Option Stamp → List Record → List Record
purged None trail = []
purged (Some moment) trail = filter (is_from moment) trail

-- what a frame leaves of the trail before its own records follow: all of it, or what its purge leaves
abbrev pub trail_left : Option (Option Stamp) → List Record → List Record
trail_left None trail = trail
trail_left (Some before) trail = purged before trail

-- What is kept after a frame with these parts: its changes are made in their order, the records that its purge covers go,
-- its own records follow at the trail's end, and its stamp is the last one.
abbrev pub after_parts : (List ℕ → Expr) → Stamp → Option (Option Stamp) → List Change → List Record → Kept → Kept
after_parts tree stamp purge changes records kept =
    let next = changed_all tree changes kept in
    record next { trail = trail_left purge kept.trail ++ records; last = stamp }

-- A frame with these parts goes on from what is kept. Its stamp isn't under the last one. Each change goes on after those
-- before it. After them SYS is a user, all rows fit their columns, keys differ in each table, and the counts are within
-- their limits. `image` says whether it is an image.
pub record PartsGoOn (conditions : Conditions) (image : Bool) (kept : Kept) (stamp : Stamp) (changes : List Change) : Type 0 where
  pub stamped : kept.last.0 ≤ stamp.0
  pub go_on : AllGoOn conditions image kept changes
  pub sys : IsTrue (has_user (changed_all conditions.tree changes kept) sys)
  pub whole : IsWhole (changed_all conditions.tree changes kept)
