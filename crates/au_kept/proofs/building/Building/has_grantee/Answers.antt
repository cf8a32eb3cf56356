use Rattle.std.proofs.Common.{◌↔◌, false, subst}
use Rattle.std.specs.Prelude.{IsTrue}
use Rattle.au_base.specs.declared.privilege.Privilege.TheVariants.{AlterUser}
use Rattle.au_entries.specs.declared.kept.Kept.{Kept}
use Rattle.au_entries.specs.Replaying.{has_grantee}
use Rattle.au_kept.proofs.building.Building.has_grantee.Goals as goal

pub returns : goal.returns
returns c = subst (λ (k : Kept). IsTrue c.sys_grant_goes_on.result ↔ IsTrue (has_grantee k c.args.name.now)) c.sight.ensures.shown (c.sys_grant_goes_on.ensures false AlterUser)
