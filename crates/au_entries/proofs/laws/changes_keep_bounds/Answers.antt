use Rattle.au_entries.proofs.Bounds.{archive_bounded, instance_bounded}
use Rattle.au_entries.proofs.laws.changes_keep_bounds.Goals as goal

pub returns-clause-archive : goal.returns-clause-archive
returns-clause-archive c = archive_bounded

pub returns-clause-instance : goal.returns-clause-instance
returns-clause-instance c = instance_bounded
