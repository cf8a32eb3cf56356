use Rattle.std.proofs.Common.{◌≡◌, ℕ, ◌<◌, false, get_or, Option}
use Rattle.au_rows.specs.declared.table.Table.{Table}
use Rattle.au_rows.specs.Held.{is_named}
use Rattle.au_rows.proofs.tables.walked_number.Given as goal

abbrev pub invariant-loop-number : goal.invariant-loop-number
invariant-loop-number l = (k : ℕ) (d : Option Table) → k < l.number → is_named l.name (get_or l.tables k d) ≡ false
