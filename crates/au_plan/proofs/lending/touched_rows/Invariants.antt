use Rattle.std.proofs.Common.{◌≡◌, ◌++◌, drop, map}
use Rattle.au_fga.specs.Testing.{seen_rows}
use Rattle.au_plan.specs.Inside.{asked_entry}
use Rattle.au_plan.proofs.lending.touched_rows.Given as goal

-- what is lent of the tables so far, and what is asked for of the others, is what is asked for of all
abbrev pub invariant-loop-table : goal.invariant-loop-table
invariant-loop-table l =
    map seen_rows l.lent ++ map (asked_entry l.policies l.desk l.client) (drop l.table-index l.touched) ≡ map (asked_entry l.policies l.desk l.client) l.touched
