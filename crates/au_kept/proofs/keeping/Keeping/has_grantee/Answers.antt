use Rattle.std.proofs.Common.{◌≡◌, false}
use Rattle.std.specs.Prelude.{◌↔◌, IsTrue}
use Rattle.au_base.specs.declared.privilege.Privilege.TheVariants.{AlterUser}
use Rattle.au_entries.specs.declared.kept.Kept.{Kept}
use Rattle.au_entries.specs.Replaying.{has_grantee}
use Rattle.au_kept.proofs.InPlace.{same_told}
use Rattle.au_kept.proofs.keeping.Keeping.has_grantee.Goals as goal

pub returns : goal.returns
returns c = rw (← c.self.view_is) (same_told (λ (k : Kept). has_grantee k c.args.name.now) _ _ c.sys_grant_goes_on.result c.sight_of-sight.ensures.shown (c.sys_grant_goes_on.ensures false AlterUser))
