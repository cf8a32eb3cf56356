use Rattle.std.proofs.Common.{◌∙◌, ap, sym}
use Rattle.std.specs.List.{list_all}
use Rattle.au_expr.specs.declared.placed.Placed.{Placed}
use Rattle.au_expr.specs.Placing.{value_at}
use Rattle.au_expr.specs.Values.{is_met}
use Rattle.au_query.proofs.Cuts.{and_itself}
use Rattle.au_query.proofs.cutting.parts_of.Goals as goal

pub returns-in-And : goal.returns-in-And
returns-in-And c = λ session rows.
    let met = λ (tree : Placed). is_met (value_at rows session tree) in
    ap (list_all met) c.as_slice.ensures ∙ sym (c.parts_of_and_are_met.ensures.trees c.in-And.parts session rows)
    ∙ ap met (sym c.in-And.is) ∙ sym (and_itself (met c.args.tree.now))

pub returns-in_default : goal.returns-in_default
returns-in_default c = λ session rows.
    ap (list_all (λ (tree : Placed). is_met (value_at rows session tree))) c.from_ref.ensures.value
