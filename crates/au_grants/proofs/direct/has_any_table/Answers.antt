use Rattle.std.proofs.Common.{sym, ◌∙◌}
use Rattle.au_grants.proofs.AtPlaces.{any_by_insert, any_by_select, any_by_update}
use Rattle.au_grants.proofs.direct.has_any_table.Goals as goal

pub returns-then-has_privilege : goal.returns-then-has_privilege
returns-then-has_privilege c = any_by_select c.args.grantee.now c.args.system.now (sym c.has_privilege.ensures ∙ c.if-has_privilege.true)

pub returns-then-has_privilege-2 : goal.returns-then-has_privilege-2
returns-then-has_privilege-2 c = any_by_insert c.args.grantee.now c.args.system.now (sym c.has_privilege-2.ensures ∙ c.if-has_privilege-2.true)

pub returns-then-has_privilege-3 : goal.returns-then-has_privilege-3
returns-then-has_privilege-3 c = any_by_update c.args.grantee.now c.args.system.now (sym c.has_privilege-3.ensures ∙ c.if-has_privilege-3.true)
