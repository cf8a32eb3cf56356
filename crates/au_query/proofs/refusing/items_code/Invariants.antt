use Rattle.std.proofs.Common.{◌≡◌, drop, map}
use Rattle.sql_ast.specs.declared.query.Item.{Item}
use Rattle.au_expr.specs.Names.{first, name_code}
use Rattle.au_query.proofs.refusing.items_code.Given as goal

abbrev pub invariant-loop-item : goal.invariant-loop-item
invariant-loop-item l =
    let codes = map (λ (item : Item). name_code l.ranges item.value) in
    first (codes (drop l.item-index l.item-items)) ≡ first (codes l.item-items)
