use Rattle.au_expr.specs.Descent.{told}
use Rattle.au_expr.specs.Placing.{values_at}
use Rattle.au_expr.proofs.Joining.{all_is, any_is, among_is}
use Rattle.au_expr.proofs.evaluate.+evaluate.Goals as goal

pub all_of-loop-part-init : goal.all_of-loop-part-init
all_of-loop-part-init t c = all_is (values_at c.args.row.now c.args.session.now c.args.parts.now)

pub any_of-loop-part-init : goal.any_of-loop-part-init
any_of-loop-part-init t c = any_is (values_at c.args.row.now c.args.session.now c.args.parts.now)

pub among-loop-choice-init : goal.among-loop-choice-init
among-loop-choice-init t c =
    rw c.no_if_known-found.ensures (among_is c.args.negated (told c.args.wanted) (values_at c.args.row.now c.args.session.now c.args.choices.now))
