use Rattle.au_entries.proofs.AfterFrames.{frame_lawful, frame_whole}
use Rattle.au_entries.proofs.laws.frames_keep_laws.Goals as goal

pub returns-clause-lawful : goal.returns-clause-lawful
returns-clause-lawful c = frame_lawful (record { order = c.changes_keep_order.ensures; no_circle = c.changes_keep_no_circle.ensures.kept })

pub returns-clause-whole : goal.returns-clause-whole
returns-clause-whole c = frame_whole
