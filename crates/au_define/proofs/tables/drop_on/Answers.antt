use Rattle.std.proofs.Common.{◌≡◌}
use Rattle.au_define.specs.Settings.{lent}
use Rattle.au_define.specs.Tables.{DecidesDropping, drop_table}
use Rattle.au_define.proofs.Answered.{if_ok}
use Rattle.au_define.proofs.tables.drop_on.Goals as goal

pub returns : goal.returns
returns c =
    let held = c.holds_privilege-held in
    let code = c.refusal-refusal in
    if_ok (λ decision. decision ≡ drop_table held.result code.result (lent c.args.case.now) c.args.table.now) (DecidesDropping (lent c.args.case.now) c.args.table.now) c.drop_table_by.result
    (λ decision is. (held.result, code.result, held.ensures, code.ensures, is)) c.drop_table_by.ensures
