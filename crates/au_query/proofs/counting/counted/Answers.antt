use Rattle.std.proofs.Common.{ap, arith, length}
use Rattle.au_query.proofs.Tallies.{no_more}
use Rattle.au_query.proofs.counting.counted.Goals as goal

pub tally-requires : goal.tally-requires
tally-requires c =
    let rows = ap length c.as_slice-2.ensures.value in
    no_more c.args.session.now c.as_slice-3.result.now c.as_slice-2.result.now c.in_ok-numbers.numbers 10_000_000 c.in_ok-numbers.ensures
    (omega (arith, rows, c.len.ensures, c.if-len-gt-MOST_ROWS.false))
