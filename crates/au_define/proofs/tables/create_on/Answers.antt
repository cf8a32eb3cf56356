use Rattle.std.proofs.Common.{◌≡◌}
use Rattle.au_define.specs.declared.creating.Creating.{Creating}
use Rattle.au_define.specs.Settings.{lent}
use Rattle.au_define.specs.Tables.{DecidesCreating, create_table}
use Rattle.au_define.proofs.Answered.{if_ok}
use Rattle.au_define.proofs.tables.create_on.Goals as goal

pub returns : goal.returns
returns c =
    let held : Creating = record { own = c.holds_privilege.result; any = c.holds_privilege-2.result } in
    if_ok (λ decision. decision ≡ create_table held (lent c.args.case.now) c.args.table.now c.args.elements.now) (DecidesCreating (lent c.args.case.now) c.args.table.now c.args.elements.now) c.create_table_by.result
    (λ decision is. (held, c.holds_privilege.ensures, c.holds_privilege-2.ensures, is)) c.create_table_by.ensures
