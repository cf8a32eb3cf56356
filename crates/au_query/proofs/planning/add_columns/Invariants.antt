use Rattle.std.proofs.Common.{◌≡◌, ◌++◌, drop, map}
use Rattle.std.specs.List.{enumerate_from}
use Rattle.au_expr.specs.Names.{place_of}
use Rattle.au_query.specs.declared.output.Output.TheVariants as output
use Rattle.au_query.specs.descent.Outputs.{tree_of, trees_in}
use Rattle.au_query.proofs.planning.add_columns.Given as goal

abbrev pub invariant-loop-number : goal.invariant-loop-number
invariant-loop-number l =
    let each = map (λ column. tree_of (output.Column (place_of l.range column))) in
    trees_in l.outputs.items ++ each (enumerate_from l.number (drop l.number l.columns)) ≡ trees_in l.initial.outputs.items ++ each (enumerate_from 0 l.columns)
