use Rattle.std.proofs.Common.{subst}
use Rattle.std.specs.Prelude.{IfSome, Option}
use Rattle.au_pindex.specs.declared.index.Index.{Index}
use Rattle.au_pindex.specs.Indexing.{IsIndexOf}
use Rattle.au_engine.proofs.engine.settle_made.Goals as goal

pub returns-in-Some-clause-leads : goal.returns-in-Some-clause-leads
returns-in-Some-clause-leads c = λ catalog after leads is. c.settle.ensures catalog after leads (subst (λ (made : Option Index). IfSome made (IsIndexOf catalog)) c.in-Some.is is)
