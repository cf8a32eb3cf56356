use Rattle.std.proofs.Common.{◌<◌, ◌*◌, arith}
use Rattle.au_base.proofs.MomentDigits.{scaled}
use Rattle.au_base.proofs.reading.fraction.Goals as goal

pub overflow_mul-result : goal.overflow_mul-result
overflow_mul-result c =
    let small : c.in_ok-number-in-46.number * c.pow.result < 1_000_000 =
    rw c.pow.ensures (scaled c.in_ok-number-in-46.number _ c.if-digits-le6.true c.in_ok-number-in-46.ensures.small) in
    omega arith

pub returns-in_ok-number-in-46-clause-small : goal.returns-in_ok-number-in-46-clause-small
returns-in_ok-number-in-46-clause-small c =
    rw c.pow.ensures (scaled c.in_ok-number-in-46.number _ c.if-digits-le6.true c.in_ok-number-in-46.ensures.small)
