use Rattle.std.proofs.Common.{rules}
use Rattle.std.proofs.lemmas.List.Sorted.{IsPartitionPoint-from_clause}
use Rattle.au_base.specs.Order.{name_before}
use Rattle.au_recording.proofs.Halves.{front_is, rest_is}
use Rattle.au_recording.proofs.Placed.{parted_results}
use Rattle.au_recording.proofs.keeping.result_place.Goals as goal

pub returns-clause-front : goal.returns-clause-front
returns-clause-front c =
    let point = IsPartitionPoint-from_clause (λ x. name_before x.0 c.args.name.now) _ _ c.partition_point.ensures.partitioned (parted_results c.args.name.now c.args.results.now c.requires.order) (λ a r f' k. search rules) in
    front_is (λ x. name_before x.0 c.args.name.now) c.args.results.now c.partition_point.result c.partition_point.ensures.bound point.0 point.1

pub returns-clause-rest : goal.returns-clause-rest
returns-clause-rest c =
    let point = IsPartitionPoint-from_clause (λ x. name_before x.0 c.args.name.now) _ _ c.partition_point.ensures.partitioned (parted_results c.args.name.now c.args.results.now c.requires.order) (λ a r f' k. search rules) in
    rest_is (λ x. name_before x.0 c.args.name.now) c.args.results.now c.partition_point.result c.partition_point.ensures.bound point.0 point.1
