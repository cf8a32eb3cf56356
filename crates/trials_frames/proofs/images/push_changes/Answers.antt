use Rattle.rec_codec.specs.Changes.{IsChangeSpellable}
use Rattle.trials_frames.proofs.Pieces.{all_changes, change_left, one_at, one_change}
use Rattle.trials_frames.proofs.images.push_changes.Goals as goal

pub loop-change-init : goal.loop-change-init
loop-change-init c = c.writes_join.ensures.none _

pub push_change-requires-clause-spellable : goal.push_change-requires-clause-spellable
push_change-requires-clause-spellable c = one_at IsChangeSpellable c.args.changes.now c.loop-change.change-index _ c.loop-change-test.true c.change-item.is c.requires.spellable

pub push_change-requires-clause-left : goal.push_change-requires-clause-left
push_change-requires-clause-left c = change_left c.args.changes.now _ _ c.loop-change.change-index c.loop-change-test.true c.requires.left c.loop-change.invariant

pub loop-change-preserved : goal.loop-change-preserved
loop-change-preserved c = one_change c.writes_join.ensures c.args.changes.now _ _ _ c.loop-change.change-index _ c.loop-change-test.true c.change-item.is c.loop-change.invariant c.in_ok-push_change.ensures

pub returns : goal.returns
returns c = all_changes c.args.changes.now _ _ c.loop-change.change-index c.loop-change-test.false c.loop-change.invariant
