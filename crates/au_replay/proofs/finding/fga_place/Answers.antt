use Rattle.std.proofs.Common.{rules}
use Rattle.std.proofs.lemmas.List.Sorted.{IsPartitionPoint-from_clause}
use Rattle.au_base.specs.Order.{fields_before}
use Rattle.au_entries.specs.Changing.{fga_fields}
use Rattle.au_replay.proofs.Halving.{by_fields, parted}
use Rattle.au_replay.proofs.Places.{fields_of_fga}
use Rattle.au_replay.proofs.finding.fga_place.Goals as goal

pub returns : goal.returns
returns c =
    let these = fga_fields c.args.table.now c.args.policy.now in
    (c.partition_point.ensures.bound, IsPartitionPoint-from_clause (λ x. fields_before (fields_of_fga x) these) _ _ c.partition_point.ensures.partitioned (parted fields_of_fga these c.args.policies.now (by_fields fields_of_fga c.args.policies.now c.requires.order)) (λ a r f' k. search rules))
