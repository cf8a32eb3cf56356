use Rattle.au_fga.proofs.Compared.{equal_asked, unequal_asked}
use Rattle.au_fga.proofs.comparing.texts_compare.Goals as goal

pub returns-in-Equal : goal.returns-in-Equal
returns-in-Equal c = equal_asked c.args.relation c.args.text.now c.args.bound.now c.eq.result c.in-Equal.is c.eq.ensures

pub returns-in-Unequal : goal.returns-in-Unequal
returns-in-Unequal c = unequal_asked c.args.relation c.args.text.now c.args.bound.now c.ne.result c.in-Unequal.is c.ne.ensures
