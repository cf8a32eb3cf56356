use Rattle.std.proofs.Common.{ap, nat_eq}
use Rattle.std.specs.Map.{lookup}
use Rattle.indexmap.specs.IndexMap.{get}
use Rattle.au_rows.proofs.ChainLemmas.{chained-none}
use Rattle.au_rows.proofs.versions.Versions.new.Goals as goal

pub invariant_of-result : goal.invariant_of-result
invariant_of-result c = chained-none c.new.result.slots (λ hash. get nat_eq c.new-2.result hash) c.new.ensures.slots (λ hash. ap (lookup (nat_eq hash)) c.new-2.ensures.empty)
