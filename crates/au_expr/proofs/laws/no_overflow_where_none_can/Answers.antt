use Rattle.au_expr.proofs.Overflowing.{never}
use Rattle.au_expr.proofs.laws.no_overflow_where_none_can.Goals as goal

pub returns : goal.returns
returns c tree session rows cannot sound = (never session rows sound tree cannot).0
