use Rattle.std.proofs.Common.{◌∙◌, arith}
use Rattle.au_main.proofs.Gathering.{on_err, Gathers-moved, Gathers-more, NextLine-failed, NextLine-beyond}
use Rattle.au_main.proofs.next_line.next_line.Goals as goal

pub loop-line-smaller : goal.loop-line-smaller
loop-line-smaller g c =
    let more = c.in-More.ensures.refilled in
    omega (arith, more.1, more.2, c.in_ok-move_line.ensures.taken)

pub loop-line-preserved : goal.loop-line-preserved
loop-line-preserved g c =
    let moved = rw c.if-branch.false at c.in_ok-move_line.ensures.moved in
    let gathers = Gathers-moved _ _ _ _ _ _ _ c.loop-line.invariant.gathers moved c.in_ok-move_line.ensures.taken in
    let more = c.in-More.ensures.refilled in
    record {
      gathers = Gathers-more _ _ _ _ _ _ _ gathers moved.1 more.0 more.1;
      well = c.in-More.ensures.cause ∙ c.loop-line.invariant.well;
    }

pub returns-in-Failed-clause-line : goal.returns-in-Failed-clause-line
returns-in-Failed-clause-line g c =
    let moved = rw c.if-branch.false at c.in_ok-move_line.ensures.moved in
    let gathers = Gathers-moved _ _ _ _ _ _ _ c.loop-line.invariant.gathers moved c.in_ok-move_line.ensures.taken in
    NextLine-failed _ _ _ _ _ _ _ gathers moved.1 c.in-Failed.ensures.refilled.0

pub returns-in-Beyond-clause-line : goal.returns-in-Beyond-clause-line
returns-in-Beyond-clause-line g c =
    let moved = rw c.if-branch.false at c.in_ok-move_line.ensures.moved in
    let gathers = Gathers-moved _ _ _ _ _ _ _ c.loop-line.invariant.gathers moved c.in_ok-move_line.ensures.taken in
    let beyond = c.in-Beyond.ensures.refilled in
    NextLine-beyond _ _ _ _ _ _ _ _ gathers moved.1 beyond.3 beyond.1 beyond.2

pub returns-in_err-move_line-clause-took : goal.returns-in_err-move_line-clause-took
returns-in_err-move_line-clause-took g c = on_err c.from_residual.result _ (c.loop-line.invariant.gathers.got, c.loop-line.invariant.gathers.taken)
