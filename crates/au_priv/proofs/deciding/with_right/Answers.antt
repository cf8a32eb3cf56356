use Rattle.au_priv.specs.declared.deciding.Needed.{Needed}
use Rattle.au_base.specs.declared.code.Code.{Code}
use Rattle.au_grants.specs.declared.right.Sought.TheVariants.{RoleWithAdmin}
use Rattle.au_priv.specs.Deciding.{RefusesRight}
use Rattle.au_priv.specs.descent.Asking.{AreNeededWith}
use Rattle.au_priv.proofs.Answers.{not_at_false}
use Rattle.au_priv.proofs.Needing.{by_text, passed_on, passed_privilege, refused_role}
use Rattle.au_priv.proofs.deciding.with_right.Goals as goal

pub returns-in_ok-is_needed-in-Privilege : goal.returns-in_ok-is_needed-in-Privilege
returns-in_ok-is_needed-in-Privilege c =
    passed_privilege c.args.case.grants.now c.args.case.known.now c.args.case.user.now _ _ c.args.needed.privilege c.args.needed.role _ c.in-Privilege.is c.requires c.in_ok-is_needed-in-Privilege.ensures

pub returns-in_err-is_needed-in-Role : goal.returns-in_err-is_needed-in-Role
returns-in_err-is_needed-in-Role c =
    let grants = c.args.case.grants.now in
    let known = c.args.case.known.now in
    let user = c.args.case.user.now in
    passed_on c.from_residual-in_err-is_needed-in-Role.result c.in_err-is_needed-in-Role.field-0.0
    (λ (next : Needed). ((code : Code) → ¬ RefusesRight grants known user c.args.right.now code) × AreNeededWith grants user c.args.right.now c.args.needed.privilege c.args.needed.role next.privilege next.role)
    (RefusesRight grants known user c.args.right.now) c.from_residual-in_err-is_needed-in-Role.ensures.1
    (refused_role grants known user _ _ (RoleWithAdmin c.as_str.result) _ c.in-Role.is (λ no_role. not_at_false c.if-is_no_role.false (c.is_no_role.ensures.1 no_role)) (by_text grants user _ _ c.as_str.ensures) c.in_err-is_needed-in-Role.ensures)
