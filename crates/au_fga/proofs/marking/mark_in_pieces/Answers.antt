use Rattle.std.proofs.Common.{◌≤◌, ◌+◌, refl, arith, drop}
use Rattle.std.specs.List.{slice_range}
use Rattle.std.proofs.Math.ListN.{drop_of_length-le}
use Rattle.std.proofs.lemmas.List.Folds.{drop_split}
use Rattle.au_fga.proofs.Marked.{all_marked, piece_marked}
use Rattle.au_fga.proofs.marking.mark_in_pieces.Goals as goal

pub loop-from-init : goal.loop-from-init
loop-from-init c = λ before is. (before, is, λ x. refl)

pub loop-from-preserved : goal.loop-from-preserved
loop-from-preserved c = λ before is.
    let rows = c.args.rows.now in
    let from = c.loop-from.from in
    let to = from + c.min-count.result in
    let further : from ≤ from + c.min-count.result = omega arith in
    piece_marked c.args.session.now c.args.table.now c.args.candidates.now before rows c.loop-from.met c.mark.new.met (drop from rows) (slice_range rows from to) (drop to rows)
    (drop_split rows from to further) c.mark.ensures (c.loop-from.invariant before is)

pub returns : goal.returns
returns c = λ before is.
    all_marked c.args.session.now c.args.table.now c.args.candidates.now before c.args.rows.now c.loop-from.met (drop c.loop-from.from c.args.rows.now)
    (drop_of_length-le c.args.rows.now c.loop-from-test.false) (c.loop-from.invariant before is)
