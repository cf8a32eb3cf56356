use Rattle.std.proofs.Common.{arith, false, true}
use Rattle.au_query.specs.descent.Inside.{trees_in_tests}
use Rattle.au_query.proofs.Scans.{is_added, is_full, left_out, over_front}
use Rattle.au_query.proofs.scan.keep.Goals as goal

pub returns-then-not-are_passed : goal.returns-then-not-are_passed
returns-then-not-are_passed c =
    let refused = over_front c.args.session.now (trees_in_tests c.args.tests.now) c.args.front.now c.args.row.now c.are_passed.result false c.are_passed.ensures c.requires.cells c.if-not-are_passed.true in
    record { kept = left_out _ c.args.front.now _ refused c.requires.room }

pub returns-then-len-ge-REPLY_ROWS : goal.returns-then-len-ge-REPLY_ROWS
returns-then-len-ge-REPLY_ROWS c =
    let met = over_front c.args.session.now (trees_in_tests c.args.tests.now) c.args.front.now c.args.row.now c.are_passed.result true c.are_passed.ensures c.requires.cells c.if-not-are_passed.false in
    record { kept = is_full _ c.args.front.now c.args.kept.now.items c.args.kept.now.items met (omega (arith, c.if-len-ge-REPLY_ROWS.true, c.len.ensures)) }

pub returns : goal.returns
returns c =
    let met = over_front c.args.session.now (trees_in_tests c.args.tests.now) c.args.front.now c.args.row.now c.are_passed.result true c.are_passed.ensures c.requires.cells c.if-not-are_passed.false in
    record { kept = is_added _ c.args.front.now c.args.kept.now.items _ met (omega (arith, c.if-len-ge-REPLY_ROWS.false, c.len.ensures)) (rw (← c.in_ok-copied.ensures) c.in_ok-push.ensures.items) }
