-- Frames by their parts, as a replay anew takes them.
use Rattle.std.specs.Prelude.{◌≡◌, ⊤, IsTrue, List, [], Option, Some}
use Rattle.std.specs.List.{AllByRecursion}
use Rattle.au_base.specs.BuiltIn.{sys}
use Rattle.au_entries.specs.declared.change.Change.{Change}
use Rattle.au_entries.specs.declared.kept.Kept.{Kept}
use Rattle.au_entries.specs.Changing.{changed_all}
use Rattle.au_entries.specs.Frames.{PartsGoOn, after_parts}
use Rattle.au_entries.specs.Imaging.{nothing}
use Rattle.au_entries.specs.Lawful.{IsWhole}
use Rattle.au_entries.specs.Replaying.{AllGoOn, has_user}
use Rattle.au_kept.specs.declared.building.Building.{Building}
use Rattle.au_kept.specs.declared.parts.Parts.{Parts}
use Rattle.au_kept.specs.Building.{IsFirm, kept_in}
use Rattle.au_kept.specs.Sound.{IsKept}
use Rattle.au_replay.specs.Reading.{HasShortText, conditions}
use Rattle.rec_codec.specs.declared.frame.Frame.{Frame}
use Rattle.rec_codec.specs.declared.frame.Frame.TheVariants.{Image}

-- the parts go on from what is kept
abbrev pub GoOn : Parts → Kept → Type 0
GoOn parts kept = PartsGoOn conditions parts.image kept parts.stamp parts.changes

-- what is kept after them
abbrev pub after : Parts → Kept → Kept
after parts kept = after_parts conditions.tree parts.stamp parts.purge parts.changes parts.records kept

-- what is kept without the trail and the last stamp
abbrev pub untold : Kept → Kept
untold kept = record kept { trail = []; last = record { 0 = 0 } }

-- The parts can be replayed on what is kept: no text of theirs is too long to be read, an image comes where nothing is kept,
-- and where they go on they leave what holds of every keeping.
pub record CanReplay (parts : Parts) (kept : Kept) : Type 0 where
  pub short : AllByRecursion HasShortText parts.changes
  pub first : IsTrue parts.image → kept ≡ nothing
  pub keeps : GoOn parts kept → IsKept conditions (after parts kept)

-- the changes go on, and leave SYS a user and all whole
pub record Rests (parts : Parts) (kept : Kept) : Type 0 where
  pub go_on : AllGoOn conditions parts.image kept parts.changes
  pub sys : IsTrue (has_user (changed_all conditions.tree parts.changes kept) sys)
  pub whole : IsWhole (changed_all conditions.tree parts.changes kept)

-- the building has what the changes leave, but for the trail and the last stamp
pub record IsBuilt (parts : Parts) (kept : Kept) (building : Building) : Type 0 where
  pub rests : Rests parts kept
  pub firm : IsFirm building
  pub built : kept_in building ≡ untold (changed_all conditions.tree parts.changes kept)

-- the changes are those of the image
abbrev pub AreChangesOf : Option Frame → List Change → Type 0
AreChangesOf (Some (Image last made records)) changes = changes ≡ made
AreChangesOf _ changes = ⊤
