use Rattle.au_store.proofs.Once.{reads_once, recovered_gated, recovered_reads}
use Rattle.au_store.proofs.laws.one_recovery.Goals as goal

pub returns-clause-one : goal.returns-clause-one
returns-clause-one c = λ all kept other bounded. reads_once c.one_standing.ensures.bodies c.one_standing.ensures.gated c.one_standing.ensures.selected all bounded c.one_front.ensures kept other

pub returns-clause-reads : goal.returns-clause-reads
returns-clause-reads c = recovered_reads

pub returns-clause-gated : goal.returns-clause-gated
returns-clause-gated c = λ all kept bounded. recovered_gated c.one_standing.ensures.bodies c.one_standing.ensures.gated c.one_standing.ensures.selected all bounded kept
