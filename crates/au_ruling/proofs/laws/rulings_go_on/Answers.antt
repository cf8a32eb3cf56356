use Rattle.au_ruling.specs.Kinds.{kind_of}
use Rattle.au_ruling.proofs.Free.{free_but_own, free_of_all}
use Rattle.au_ruling.proofs.Going.{goes, leaves_whole, rowless, stays}
use Rattle.au_ruling.proofs.laws.rulings_go_on.Goals as goal

pub returns-clause-goes : goal.returns-clause-goes
returns-clause-goes c basis statement ruling sound stated comes =
    goes basis sound statement ruling c.definitions_hold.ensures.goes c.administration_holds.ensures.goes c.conditions_are_read.ensures.reads stated (kind_of statement) comes

pub returns-clause-whole : goal.returns-clause-whole
returns-clause-whole c basis statement ruling sound stated comes =
    leaves_whole basis sound statement ruling c.definitions_hold.ensures.whole c.administration_holds.ensures.whole c.administration_holds.ensures.stay (kind_of statement) comes

pub returns-clause-stay : goal.returns-clause-stay
returns-clause-stay c basis statement ruling who sound stated comes there connected =
    stays basis sound statement ruling who there c.definitions_hold.ensures.stay c.administration_holds.ensures.stay connected (kind_of statement) comes

pub returns-clause-rowless : goal.returns-clause-rowless
returns-clause-rowless c basis statement ruling comes = rowless (kind_of statement) basis statement ruling comes

pub returns-clause-free : goal.returns-clause-free
returns-clause-free c basis statement ruling desk tells none comes = free_of_all c.same_is_equal.ensures.table basis statement desk tells none (kind_of statement) ruling comes

pub returns-clause-alone : goal.returns-clause-alone
returns-clause-alone c basis statement ruling desk tells comes = free_but_own c.same_is_equal.ensures.table basis statement desk tells (kind_of statement) ruling comes
