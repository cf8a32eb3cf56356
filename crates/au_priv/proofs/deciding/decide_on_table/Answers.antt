use Rattle.std.proofs.Common.{inl, refl, sym, subst}
use Rattle.au_priv.specs.declared.decided.Decided.{Decided}
use Rattle.au_priv.specs.Deciding.{DecidesOnTable}
use Rattle.au_priv.proofs.deciding.decide_on_table.Goals as goal

pub returns-in-Some : goal.returns-in-Some
returns-in-Some c = subst (λ (d : Decided). DecidesOnTable c.args.case.grants.now c.args.case.known.now c.args.case.user.now c.args.way c.args.table.now c.args.rights.now c.args.grantees.now d)
    (sym c.refused.ensures) (inl (c.in-Some.ensures, refl, refl))
