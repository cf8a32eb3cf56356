use Rattle.std.proofs.Common.{◌≡◌, inl, inr, true, arith}
use Rattle.au_priv.specs.Deciding.{RefusesGrantee}
use Rattle.au_priv.proofs.Refusals.{none_more, none_all}
use Rattle.au_priv.proofs.deciding.grantees_refusal.Goals as goal

pub loop-grantee-preserved : goal.loop-grantee-preserved
loop-grantee-preserved c =
    let is : c.is_grantee.result ≡ true = cc in
    none_more (RefusesGrantee c.args.known.now) _ _ _ (omega arith) c.grantee-item.is c.loop-grantee.invariant
    (λ code refuses. elim (c.is_grantee.ensures.0 is) [ inl user ↦ refuses.0 user | inr role ↦ refuses.1 role ])

pub returns : goal.returns
returns c = none_all (RefusesGrantee c.args.known.now) _ _ (omega arith) c.loop-grantee.invariant
