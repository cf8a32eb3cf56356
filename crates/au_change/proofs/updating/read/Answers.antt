use Rattle.std.proofs.Common.{◌∙◌, sym}
use Rattle.au_change.proofs.Updates.{read_told}
use Rattle.au_change.proofs.updating.read.Goals as goal

pub returns-in-None : goal.returns-in-None
returns-in-None c = read_told c.kinds_are_told_one_by_one.ensures c.args.range.now c.args.update.now c.read_kinds.result (sym c.in_ok-code.ensures.front ∙ c.in-None.is) c.read_kinds.ensures
