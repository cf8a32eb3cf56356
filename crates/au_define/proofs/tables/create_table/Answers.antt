use Rattle.std.proofs.Common.{List, subst}
use Rattle.std.specs.Prelude.{IfOk}
use Rattle.au_base.specs.BuiltIn.{resolved_table}
use Rattle.au_base.specs.declared.table.TableName.{TableName}
use Rattle.au_define.specs.Settings.{lent}
use Rattle.au_define.specs.Tables.{DecidesCreating}
use Rattle.au_define.proofs.tables.create_table.Goals as goal
use Rattle.sql_ast.specs.declared.table.Element.{Element}

pub returns : goal.returns
returns c =
    let case = lent c.args.case.now in
    let table = resolved_table c.args.case.now.user.now c.args.statement.now.table in
    subst (λ (elements : List Element). IfOk c.create_on.result (DecidesCreating case table elements)) c.as_slice.ensures
    (subst (λ (table : TableName). IfOk c.create_on.result (DecidesCreating case table c.as_slice.result.now)) c.in_ok-table.ensures c.create_on.ensures)
