use Rattle.std.proofs.Common.{subst}
use Rattle.std.specs.Prelude.{IfOk}
use Rattle.au_base.specs.declared.table.TableName.{TableName}
use Rattle.au_define.specs.Settings.{lent}
use Rattle.au_define.specs.Tables.{DecidesDropping}
use Rattle.au_define.proofs.tables.drop_table.Goals as goal

pub returns : goal.returns
returns c = subst (λ (table : TableName). IfOk c.drop_on.result (DecidesDropping (lent c.args.case.now) table)) c.in_ok-table.ensures c.drop_on.ensures
