use Rattle.std.proofs.Common.{◌∷◌, []}
use Rattle.au_expr.specs.declared.placed.Placed.TheVariants as tree
use Rattle.au_expr.specs.Resolving.{placed}
use Rattle.sql_ast.specs.declared.expression.Relation.TheVariants as relation
use Rattle.au_query.specs.Fixed.{IsFixed}
use Rattle.au_query.specs.descent.Inside.{IsAlways}
use Rattle.au_query.proofs.Cuts.{some_other}
use Rattle.au_query.proofs.Equalities.{left_fixed, right_fixed}
use Rattle.au_query.proofs.fixing.in_sides.Goals as goal

pub returns-then-is_sought : goal.returns-then-is_sought
returns-then-is_sought c =
    let session = c.args.session.now in
    let sought = c.args.sought.now in
    let left = placed sought.ranges.now c.args.left.now in
    let right = placed sought.ranges.now c.args.right.now in
    some_other (IsAlways session right) (IsFixed session (tree.Compare relation.Equal left right ∷ []) sought.range sought.column)
    (λ cell always. left_fixed session left right sought.range sought.column cell (c.is_sought.ensures c.if-is_sought.true) always) c.in_ok-found.found c.in_ok-found.ensures

pub returns-then-is_sought-2 : goal.returns-then-is_sought-2
returns-then-is_sought-2 c =
    let session = c.args.session.now in
    let sought = c.args.sought.now in
    let left = placed sought.ranges.now c.args.left.now in
    let right = placed sought.ranges.now c.args.right.now in
    some_other (IsAlways session left) (IsFixed session (tree.Compare relation.Equal left right ∷ []) sought.range sought.column)
    (λ cell always. right_fixed session left right sought.range sought.column cell (c.is_sought-2.ensures c.if-is_sought-2.true) always) c.in_ok-found-2.found c.in_ok-found-2.ensures
