use Rattle.au_ruling.specs.Kinds.{kind_of}
use Rattle.au_ruling.proofs.Once.{comes_alike, once, refused_so}
use Rattle.au_ruling.proofs.laws.rulings_are_one.Goals as goal

pub returns-clause-one : goal.returns-clause-one
returns-clause-one c basis statement a b one other =
    once c.plans_hold.ensures.one c.definitions_hold.ensures.one c.administration_holds.ensures.one (kind_of statement) basis statement a b one other

pub returns-clause-refused : goal.returns-clause-refused
returns-clause-refused c basis statement ruling comes not_done =
    refused_so c.plans_hold.ensures.refused c.definitions_hold.ensures.refused c.administration_holds.ensures.refused (kind_of statement) basis statement ruling comes not_done

pub returns-clause-same : goal.returns-clause-same
returns-clause-same c a b statement ruling alike comes = comes_alike c.plans_hold.ensures.same (kind_of statement) a b statement ruling alike comes
