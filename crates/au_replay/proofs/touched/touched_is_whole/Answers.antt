use Rattle.std.specs.List.{AllByRecursion}
use Rattle.au_replay.specs.Sights.{shown}
use Rattle.au_replay.specs.Touched.{IsWholeWhereTouched}
use Rattle.au_replay.specs.descent.Touched.{IsWholeBy}
use Rattle.au_replay.proofs.TouchedLaws.{if_ok_both, touched_from, touched_to}
use Rattle.au_replay.proofs.touched.touched_is_whole.Goals as goal

pub returns : goal.returns
returns c =
    let kept = shown c.args.sight.now in
    let few = c.are_few.ensures.0 c.if-not-are_few.false in
    if_ok_both (AllByRecursion (IsWholeBy kept) c.args.changes.now) (IsWholeWhereTouched c.args.changes.now kept) c.are_whole.result
    (touched_from kept c.args.changes.now few) (touched_to kept c.args.changes.now) c.are_whole.ensures
