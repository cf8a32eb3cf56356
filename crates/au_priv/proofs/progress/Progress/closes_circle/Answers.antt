use Rattle.std.proofs.Common.{◌≡◌, sym, subst}
use Rattle.std.specs.Prelude.{IsTrue}
use Rattle.au_grants.specs.Changing.{applied_all}
use Rattle.au_grants.specs.Rights.{Grants, IsHolder}
use Rattle.au_priv.proofs.Asides.{holder_stays}
use Rattle.au_priv.proofs.progress.Progress.closes_circle.Goals as goal

pub returns-then-are_aside-clause-closes : goal.returns-then-are_aside-clause-closes
returns-then-are_aside-clause-closes c =
    let same : c.args.self.now.after ≡ applied_all c.as_slice.result.now c.self.inside.before.now = cc in
    let stays = holder_stays c.self.inside.before.now c.args.role.now c.args.grantee.now c.as_slice.result.now (c.are_aside.ensures c.if-are_aside.true) in
    subst (λ (g : Grants). (IsTrue c.closes_circle.result → IsHolder g.role c.args.role.now c.args.grantee.now) × (IsHolder g.role c.args.role.now c.args.grantee.now → IsTrue c.closes_circle.result))
    (sym same) (λ yes. stays.1 (c.closes_circle.ensures.0 yes), λ holds. c.closes_circle.ensures.1 (stays.0 holds))
