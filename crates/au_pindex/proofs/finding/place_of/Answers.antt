use Rattle.std.proofs.Common.{rules}
use Rattle.std.proofs.lemmas.List.Sorted.{IsPartitionPoint-from_clause}
use Rattle.au_base.specs.Order.{name_before}
use Rattle.au_pindex.proofs.Found.{parted}
use Rattle.au_pindex.proofs.finding.place_of.Goals as goal

pub returns-clause-place : goal.returns-clause-place
returns-clause-place c =
    IsPartitionPoint-from_clause (λ x. name_before x.name c.args.name.now) _ _ c.partition_point.ensures.partitioned (parted c.args.name.now c.args.policies.now c.requires.order) (λ a r f' k. search rules)
