use Rattle.std.proofs.Common.{◌∙◌, List, ◌||◌, ap, map}
use Rattle.std.specs.List.{list_any}
use Rattle.sql_ast.specs.declared.rows.Assignment.{Assignment}
use Rattle.au_expr.specs.Ranges.{names_column}
use Rattle.au_modify.specs.Columns.{is_called}
use Rattle.au_change.specs.Inside.{set_trees}
use Rattle.au_change.proofs.Updates.{named_is}
use Rattle.au_change.proofs.referring.is_named.Goals as goal

pub returns : goal.returns
returns c =
    c.is_named_by.ensures
    ∙ ap (λ (assignments : List Assignment). list_any (λ name. is_called name c.args.column.now) (map (λ (a : Assignment). a.column) assignments) || (list_any (names_column 0 c.args.number) (set_trees c.args.settings.now) || list_any (names_column 0 c.args.number) c.args.conditions.now)) c.as_slice.ensures
    ∙ named_is c.args.asked.now.range.now c.args.asked.now.update.now c.args.settings.now c.args.conditions.now c.args.number c.args.column.now c.requires.settings c.requires.conditions
