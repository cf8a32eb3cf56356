use Rattle.std.proofs.Common.{◌≡◌, ◌++◌, drop, map}
use Rattle.std.specs.Prelude.{None}
use Rattle.sql_ast.specs.declared.query.Item.{Item}
use Rattle.au_expr.specs.Names.{first}
use Rattle.au_expr.specs.Resolving.{placed, value_code}
use Rattle.au_query.specs.descent.Outputs.{trees_in}
use Rattle.au_query.proofs.planning.listed.Given as goal

abbrev pub invariant-loop-item : goal.invariant-loop-item
invariant-loop-item l =
    let codes = map (λ (item : Item). value_code None l.ranges item.value) in
    let trees = map (λ (item : Item). placed l.ranges item.value) in
    (first (codes (drop l.item-index l.items)) ≡ first (codes l.items)) × (trees_in l.outputs.items ++ trees (drop l.item-index l.items) ≡ trees l.items)
