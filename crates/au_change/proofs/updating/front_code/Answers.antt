use Rattle.std.proofs.Common.{◌∙◌, List, ap, map}
use Rattle.sql_ast.specs.declared.rows.Assignment.{Assignment}
use Rattle.au_change.proofs.Updates.{known_from}
use Rattle.au_change.proofs.updating.front_code.Goals as goal

pub returns-clause-known : goal.returns-clause-known
returns-clause-known c = λ none.
    known_from c.targets_are_columns.ensures c.args.range.now c.args.update.now.assignments c.as_slice-2.result.now c.as_slice-3.result.now c.as_slice-2.ensures
    (c.as_slice-3.ensures.value ∙ c.in_ok-names.ensures ∙ ap (λ (assignments : List Assignment). map (λ (a : Assignment). a.column) assignments) c.as_slice.ensures)
    c.in-None.ensures
