use Rattle.std.proofs.Common.{◌∙◌, List, sym, ap, map, subst}
use Rattle.au_entries.specs.declared.policy.AuditPolicy.{AuditPolicy}
use Rattle.au_pindex.specs.Indexing.{AreBucketsOf, condition_of}
use Rattle.au_pindex.proofs.index.Index.new.Goals as goal

pub returns : goal.returns
returns c = λ catalog none. record {
  buckets = subst (λ (policies : List AuditPolicy). AreBucketsOf catalog.enabled policies c.new.result) (sym none) (c.new.ensures catalog.enabled);
  conditions = c.new-2.ensures.items ∙ ap (map condition_of) (sym none);
}
