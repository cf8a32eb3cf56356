use Rattle.std.proofs.Common.{arith}
use Rattle.au_priv.specs.declared.deciding.Needed.{Needed}
use Rattle.au_priv.specs.Deciding.{FirstRefused, NoneRefused, RefusesRight}
use Rattle.au_priv.specs.descent.Asking.{AreNeeded}
use Rattle.au_priv.proofs.Needing.{needing_all, needing_more, passed_on}
use Rattle.au_priv.proofs.Refusals.{first_here}
use Rattle.au_priv.proofs.deciding.needed_for.Goals as goal

pub with_right-requires : goal.with_right-requires
with_right-requires c = c.loop-right.invariant.held

pub loop-right-preserved : goal.loop-right-preserved
loop-right-preserved c =
    needing_more c.args.case.grants.now c.args.case.known.now c.args.case.user.now _ _ _ _ _ _ _ (omega arith) c.right-item.is c.loop-right.invariant c.in_ok-needed.ensures.0 c.in_ok-needed.ensures.1

pub returns-in_err-needed : goal.returns-in_err-needed
returns-in_err-needed c =
    let grants = c.args.case.grants.now in
    let known = c.args.case.known.now in
    let user = c.args.case.user.now in
    passed_on c.from_residual.result c.in_err-needed.field-0.0
    (λ (needed : Needed). NoneRefused (RefusesRight grants known user) c.args.rights.now × AreNeeded grants user c.args.rights.now needed.privilege needed.role)
    (FirstRefused (RefusesRight grants known user) c.args.rights.now) c.from_residual.ensures.1
    (first_here (RefusesRight grants known user) c.args.rights.now c.loop-right.right-index _ c.in_err-needed.field-0.0 (omega arith) c.right-item.is c.loop-right.invariant.none c.in_err-needed.ensures)

pub returns : goal.returns
returns c = needing_all c.args.case.grants.now c.args.case.known.now c.args.case.user.now _ _ _ _ (omega arith) c.loop-right.invariant
