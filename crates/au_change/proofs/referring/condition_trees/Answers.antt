use Rattle.std.proofs.Common.{◌≡◌, ◌∙◌, List, sym, subst}
use Rattle.std.specs.Prelude.{None, Some}
use Rattle.au_expr.specs.Resolving.{condition_code}
use Rattle.au_expr.specs.Rows.{Range}
use Rattle.au_base.specs.declared.code.Code.{Code}
use Rattle.au_change.proofs.referring.condition_trees.Goals as goal

no_code : {code : Code} → None ≡ Some code → ⊥
no_code is = cc

pub returns-in-Err : goal.returns-in-Err
returns-in-Err c =
    absurd (no_code (sym c.requires ∙ subst (λ (ranges : List Range). condition_code ranges c.args.condition.now ≡ Some c.in-Err.field-0) c.from_ref-ranges.ensures.value (rw c.in-Err.is at c.in_ok-tree.ensures)))
