use Rattle.au_expr.proofs.Looking.{ranges_are}
use Rattle.au_expr.proofs.lookup.columns_meant.Goals as goal

pub loop-number-init : goal.loop-number-init
loop-number-init c = ranges_are c.args.written.now c.args.name.now c.args.ranges.now
