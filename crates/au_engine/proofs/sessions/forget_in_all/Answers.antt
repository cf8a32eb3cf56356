use Rattle.std.proofs.Common.{◌∙◌, sym}
use Rattle.au_engine.proofs.Forgotten.{all_stay}
use Rattle.au_engine.proofs.sessions.forget_in_all.Goals as goal

pub returns-then-is_empty-clause-items : goal.returns-then-is_empty-clause-items
returns-then-is_empty-clause-items c = all_stay c.args.forgets.now c.args.sessions.now.items (sym c.is_empty.ensures ∙ c.if-is_empty.true)
