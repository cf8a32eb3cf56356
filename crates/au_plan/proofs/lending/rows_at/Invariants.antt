use Rattle.std.proofs.Common.{◌≡◌, ◌++◌, drop}
use Rattle.au_plan.specs.Inside.{cells_lent, contents_of_rows}
use Rattle.au_plan.proofs.lending.rows_at.Given as goal

-- the rows that are lent, and what the other numbers answer, are what all numbers answer
abbrev pub invariant-loop-number : goal.invariant-loop-number
invariant-loop-number l =
    cells_lent l.rows ++ contents_of_rows l.desk l.client l.table (drop l.number-index l.numbers) ≡ contents_of_rows l.desk l.client l.table l.numbers
