use Rattle.std.proofs.Common.{rules}
use Rattle.std.specs.Ordering.{is_lt}
use Rattle.std.proofs.lemmas.List.Sorted.{IsPartitionPoint-from_clause}
use Rattle.au_catalog.proofs.Halving.{front_is, rest_is}
use Rattle.au_catalog.proofs.Placed.{parted_by}
use Rattle.au_catalog.proofs.placing.place_of.Goals as goal

pub returns : goal.returns
returns g c =
    let by = g.T.Keyed.by in
    let key = g.T.Keyed.key in
    let point = IsPartitionPoint-from_clause (λ other. is_lt (by (key other) (key c.args.entry.now))) c.args.entries.now c.partition_point.result c.partition_point.ensures.partitioned
    (parted_by by g.T.Keyed.total key c.args.entry.now c.args.entries.now c.requires.order) (λ a r f' called. search rules) in
    record {
      within = c.partition_point.ensures.bound;
      front = front_is (λ other. is_lt (by (key other) (key c.args.entry.now))) c.args.entries.now c.partition_point.result c.partition_point.ensures.bound point.0 point.1;
      rest = rest_is (λ other. is_lt (by (key other) (key c.args.entry.now))) c.args.entries.now c.partition_point.result c.partition_point.ensures.bound point.0 point.1;
    }
