use Rattle.std.proofs.Common.{sym}
use Rattle.au_replay.specs.Reading.{conditions}
use Rattle.au_engine.proofs.preparing.staged_on.Goals as goal

pub stage-requires-clause-after : goal.stage-requires-clause-after
stage-requires-clause-after c = (conditions.tree, sym c.requires.trees, c.requires.after)
