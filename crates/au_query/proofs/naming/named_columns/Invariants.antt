use Rattle.std.proofs.Common.{◌≡◌, ℕ, ◌++◌, drop, map, filter}
use Rattle.std.specs.List.{enumerate_from}
use Rattle.au_base.specs.declared.table.Column.{Column}
use Rattle.au_query.specs.Answers.{is_named}
use Rattle.au_query.specs.descent.Plans.{trees_in_plan}
use Rattle.au_query.proofs.naming.named_columns.Given as goal

abbrev pub invariant-loop-number : goal.invariant-loop-number
invariant-loop-number l =
    l.names ++ map (λ (column : ℕ × Column). column.1.name) (filter (is_named (trees_in_plan l.plan) l.places) (enumerate_from l.number (drop l.number l.columns)))
    ≡ map (λ (column : ℕ × Column). column.1.name) (filter (is_named (trees_in_plan l.plan) l.places) (enumerate_from 0 l.columns))
