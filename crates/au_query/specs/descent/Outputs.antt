-- What a query answers of a combination, as trees.
use Rattle.std.specs.Prelude.{List, map}
use Rattle.au_expr.specs.declared.placed.Placed.{Placed}
use Rattle.au_expr.specs.declared.placed.Placed.TheVariants as tree
use Rattle.au_query.specs.declared.output.Output.{Output}
use Rattle.au_query.specs.declared.output.Output.TheVariants as output

-- the column at the place, or the expression
abbrev pub tree_of : Output → Placed
tree_of (output.Column place) = tree.Column place
tree_of (output.Value computed) = computed

abbrev pub trees_in : List Output → List Placed
trees_in outputs = map tree_of outputs
