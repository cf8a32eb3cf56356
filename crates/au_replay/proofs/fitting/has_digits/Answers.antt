use Rattle.std.proofs.Common.{nat_abs, refl}
use Rattle.std.specs.Int.Signed.{nat_abs-le}
use Rattle.au_replay.proofs.Shapes.{few_digits}
use Rattle.au_replay.proofs.fitting.has_digits.Goals as goal

pub returns-then-size-ge-DIGITS : goal.returns-then-size-ge-DIGITS
returns-then-size-ge-DIGITS c = (λ is. few_digits c.args.size (nat_abs c.args.number) c.if-size-ge-DIGITS.true (nat_abs-le c.args.number c.ranges.number.sfits), λ few. refl)
