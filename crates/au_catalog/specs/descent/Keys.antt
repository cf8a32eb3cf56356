-- The orders of names and of fields are total.
use Rattle.std.specs.Cmp.{IsTotalOrder}
use Rattle.std.proofs.lemmas.Cmp.{lists_total, nat_cmp_total}
use Rattle.au_entries.specs.Changing.{by_fields, by_name}

pub names_total : IsTotalOrder by_name
names_total = lists_total nat_cmp_total

pub fields_total : IsTotalOrder by_fields
fields_total = lists_total (lists_total nat_cmp_total)
