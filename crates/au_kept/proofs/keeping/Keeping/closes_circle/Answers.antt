use Rattle.std.proofs.Common.{◌∙◌, Bool, subst, sym}
use Rattle.std.specs.Prelude.{◌↔◌, IsTrue}
use Rattle.au_grants.specs.Rights.{IsHolder}
use Rattle.au_kept.proofs.Apart.{none_closes}
use Rattle.au_kept.proofs.keeping.Keeping.closes_circle.Goals as goal

pub returns-else-has_role : goal.returns-else-has_role
returns-else-has_role c =
    subst (λ (b : Bool). IsTrue b ↔ IsHolder c.args.self.now.kept.grants.role c.args.role.now c.args.grantee.now) (sym c.if-has_role.false)
    (none_closes c.args.self.now.kept c.args.role.now c.args.grantee.now c.holds_together.ensures.kept.lawful.founded c.requires (sym c.has_role.ensures ∙ c.if-has_role.false))
