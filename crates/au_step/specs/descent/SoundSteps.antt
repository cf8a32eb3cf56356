-- What is so of each step from a lawful state in which SYS is a user, as one fact.
use Rattle.std.specs.Prelude.{◌≡◌, ◌≤◌, ◌<◌, ◌^◌, ℕ, false, List, length}
use Rattle.std.specs.List.{AllByRecursion}
use Rattle.au_base.specs.Limits.{LAST_MOMENT}
use Rattle.au_entries.specs.declared.change.Change.{Change}
use Rattle.au_entries.specs.declared.kept.Kept.{Kept}
use Rattle.au_entries.specs.declared.trail_record.Record.{Record}
use Rattle.au_entries.specs.Changing.{changed_all}
use Rattle.au_entries.specs.Frames.{after_parts}
use Rattle.au_entries.specs.Lawful.{IsWhole}
use Rattle.au_entries.specs.Replaying.{AllGoOn}
use Rattle.au_kept.specs.Staging.{IsFree, IsLogged, IsOfRow}
use Rattle.au_kept.specs.Keeping.{desk_of}
use Rattle.au_replay.specs.Reading.{conditions}
use Rattle.au_ruling.specs.Sound.{IsTimelyPurge}
use Rattle.rec_codec.specs.Changes.{IsChangeSpellable}
use Rattle.rec_codec.specs.Records.{trail_record}
use Rattle.au_step.specs.Lawful.{IsLawfulState}
use Rattle.au_step.specs.Replaying.{EndsWell}
use Rattle.au_step.specs.Sound.{HoldsOfKeepings}
use Rattle.au_step.specs.State.{State}
use Rattle.au_step.specs.Step.{Logged, all_changes, last_after}

-- what becomes of what is kept by a step that leaves this: all its changes are made, those of rows that it commits too
abbrev pub kept_through : Kept → ℕ → Logged → Kept
kept_through kept stamp logged =
    after_parts conditions.tree (last_after kept.last stamp logged) logged.purge (all_changes logged) logged.records kept

-- The changes and records can be kept as a frame at this stamp: the changes go on from what is kept and leave it whole, with
-- SYS as a user; both lists have spellings and are short; and the stamp is a moment, no earlier than the last one.
pub record CanBeKept (kept : Kept) (stamp : ℕ) (changes : List Change) (records : List Record) : Type 0 where
  pub later : kept.last.0 ≤ stamp
  pub moment : stamp ≤ LAST_MOMENT
  pub goes : AllGoOn conditions false kept changes
  pub whole : IsWhole (changed_all conditions.tree changes kept)
  pub ends : EndsWell (changed_all conditions.tree changes kept)
  pub written : AllByRecursion IsChangeSpellable changes
  pub told : AllByRecursion trail_record.IsSpellable records
  pub few_changes : length changes < 2 ^ 32
  pub few_records : length records < 2 ^ 32

-- What the step leaves can be kept, a purge's moment too, and is what becomes of what was kept. No change but those that it commits is of a row,
-- and none drops a table in which a client has changes that it doesn't commit. What it leaves is the commit of its client,
-- where it commits, and its other changes. The next state is lawful.
pub record IsSoundStep (m : State) (stamp : ℕ) (logged : Logged) (n : State) : Type 0 where
  pub can : CanBeKept m.kept stamp (all_changes logged) logged.records
  pub timely : IsTimelyPurge logged.purge
  pub rowless : AllByRecursion (λ change. ¬ IsOfRow change) logged.changes
  pub free : HoldsOfKeepings m (λ contents. AllByRecursion (IsFree logged.commits (desk_of contents)) logged.changes)
  pub is_logged : HoldsOfKeepings m (λ contents. IsLogged logged.commits contents logged.changes (all_changes logged))
  pub kept : n.kept ≡ kept_through m.kept stamp logged
  pub ends : EndsWell n.kept
  pub lawful : IsLawfulState n
