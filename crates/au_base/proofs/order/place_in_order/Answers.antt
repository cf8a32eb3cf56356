use Rattle.std.proofs.Common.{rules}
use Rattle.std.proofs.lemmas.List.Sorted.{IsPartitionPoint-from_clause}
use Rattle.au_base.proofs.Placing.{count_is, front_is, parted, rest_is}
use Rattle.au_base.proofs.order.place_in_order.Goals as goal

pub returns-clause-front : goal.returns-clause-front
returns-clause-front g c =
    let before = g.T.InOrder.before in
    let point = IsPartitionPoint-from_clause (λ other. before other c.args.value.now) c.args.elements.now c.partition_point.result c.partition_point.ensures.partitioned
    (parted before g.met.T.InOrder.transitive c.args.value.now c.args.elements.now c.requires) (λ a r f' called. search rules) in
    front_is (λ other. before other c.args.value.now) c.args.elements.now c.partition_point.result c.partition_point.ensures.bound point.0 point.1

pub returns-clause-rest : goal.returns-clause-rest
returns-clause-rest g c =
    let before = g.T.InOrder.before in
    let point = IsPartitionPoint-from_clause (λ other. before other c.args.value.now) c.args.elements.now c.partition_point.result c.partition_point.ensures.partitioned
    (parted before g.met.T.InOrder.transitive c.args.value.now c.args.elements.now c.requires) (λ a r f' called. search rules) in
    rest_is (λ other. before other c.args.value.now) c.args.elements.now c.partition_point.result c.partition_point.ensures.bound point.0 point.1

pub returns-clause-count : goal.returns-clause-count
returns-clause-count g c =
    let before = g.T.InOrder.before in
    let point = IsPartitionPoint-from_clause (λ other. before other c.args.value.now) c.args.elements.now c.partition_point.result c.partition_point.ensures.partitioned
    (parted before g.met.T.InOrder.transitive c.args.value.now c.args.elements.now c.requires) (λ a r f' called. search rules) in
    count_is (λ other. before other c.args.value.now) c.args.elements.now c.partition_point.result c.partition_point.ensures.bound point.0 point.1
