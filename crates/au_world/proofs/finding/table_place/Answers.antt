use Rattle.std.proofs.Common.{rules}
use Rattle.std.proofs.lemmas.List.Sorted.{IsPartitionPoint-from_clause}
use Rattle.au_base.specs.Order.{fields_before}
use Rattle.au_entries.specs.Changing.{table_fields}
use Rattle.au_world.proofs.Halving.{by_fields, fields_of, parted}
use Rattle.au_world.proofs.finding.table_place.Goals as goal

pub returns-clause-place : goal.returns-clause-place
returns-clause-place c =
    IsPartitionPoint-from_clause (λ x. fields_before (fields_of x) (table_fields c.args.name.now)) _ _ c.partition_point.ensures.partitioned
    (parted c.args.name.now c.args.tables.now (by_fields c.args.tables.now c.requires.order)) (λ a r f' k. search rules)
