-- Numbers that changes keep within their bounds.
use Rattle.std.proofs.Common.{◌≤◌, Bool}
use Rattle.au_base.specs.Limits.{INSTANCES}
use Rattle.au_entries.specs.declared.change.Change.{Change}
use Rattle.au_entries.specs.declared.change.Change.TheVariants.{Archive, Start}
use Rattle.au_entries.specs.declared.kept.Kept.{Kept}
use Rattle.au_entries.specs.Changing.{archive_after, instance_after}
use Rattle.au_entries.specs.Replaying.{Conditions, GoesOn, IsArchive}

pub archive_bounded : (conditions : Conditions) (image : Bool) (kept : Kept) (change : Change) → IsArchive kept.archive → GoesOn conditions image kept change → IsArchive (archive_after change kept.archive)
archive_bounded conditions image kept (Archive stamp) h goes = goes
archive_bounded conditions image kept _ h goes = h

pub instance_bounded : (conditions : Conditions) (image : Bool) (kept : Kept) (change : Change) → kept.instance ≤ INSTANCES → GoesOn conditions image kept change → instance_after change kept.instance ≤ INSTANCES
instance_bounded conditions image kept (Start instance) h goes = goes.0
instance_bounded conditions image kept _ h goes = h
