use Rattle.std.proofs.Common.{rules}
use Rattle.std.proofs.lemmas.List.Sorted.{IsPartitionPoint-from_clause}
use Rattle.au_base.specs.Order.{fields_before}
use Rattle.au_entries.specs.Changing.{table_fields}
use Rattle.au_define.proofs.Halving.{by_fields, parted}
use Rattle.au_define.proofs.Places.{fields_of_table}
use Rattle.au_define.proofs.finding.table_place.Goals as goal

pub returns : goal.returns
returns c =
    let these = table_fields c.args.name.now in
    (c.partition_point.ensures.bound, IsPartitionPoint-from_clause (λ x. fields_before (fields_of_table x) these) _ _ c.partition_point.ensures.partitioned (parted fields_of_table these c.args.tables.now (by_fields fields_of_table c.args.tables.now c.requires.order)) (λ a r f' k. search rules))
