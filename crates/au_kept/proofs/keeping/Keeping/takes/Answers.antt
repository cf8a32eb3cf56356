use Rattle.au_entries.specs.Replaying.{AllGoOn, GoesOn}
use Rattle.std.specs.List.{AllByRecursion}
use Rattle.std.proofs.Common.{false}
use Rattle.au_kept.proofs.Apart.{apart_goes}
use Rattle.au_kept.proofs.InPlace.{told_by}
use Rattle.au_replay.specs.Reading.{conditions}
use Rattle.au_kept.proofs.keeping.Keeping.takes.Goals as goal

pub returns-then-are_apart : goal.returns-then-are_apart
returns-then-are_apart c =
    told_by (AllByRecursion (GoesOn conditions false c.args.self.now.kept) c.args.changes.now) (AllGoOn conditions false c.args.self.now.kept c.args.changes.now)
    (apart_goes c.changes_keep_laws.ensures.one conditions c.args.self.now.kept c.args.changes.now c.holds_together.ensures.kept.lawful (c.are_apart.ensures.0 c.if-are_apart.true)) c.takes_each.result c.takes_each.ensures
