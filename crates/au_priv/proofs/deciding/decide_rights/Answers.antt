use Rattle.std.proofs.Common.{inl, inr, refl, sym, subst}
use Rattle.au_priv.specs.declared.decided.Decided.{Decided}
use Rattle.au_priv.specs.Deciding.{DecidesRights}
use Rattle.au_priv.proofs.deciding.decide_rights.Goals as goal

pub returns-in-Err : goal.returns-in-Err
returns-in-Err c = subst (λ (d : Decided). DecidesRights c.args.case.grants.now c.args.case.known.now c.args.case.user.now c.args.way c.args.rights.now c.args.grantees.now d)
    (sym c.refused.ensures) (inl (c.in-Err.ensures, refl, refl))

pub returns-in_ok-code-in-Ok : goal.returns-in_ok-code-in-Ok
returns-in_ok-code-in-Ok c =
    inr (c.in-Ok.ensures.0, (c.in-Ok.needed.privilege, c.in-Ok.needed.role, c.in-Ok.ensures.1.0, c.in-Ok.ensures.1.1, c.in_ok-used-in-Ok.ensures), c.in_ok-code-in-Ok.ensures)
