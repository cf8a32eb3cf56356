use Rattle.std.proofs.Common.{◌↔◌, subst}
use Rattle.std.specs.Prelude.{IsTrue}
use Rattle.au_entries.specs.declared.kept.Kept.{Kept}
use Rattle.au_entries.specs.Replaying.{has_role}
use Rattle.au_kept.proofs.building.Building.has_role.Goals as goal

pub returns : goal.returns
returns c = subst (λ (k : Kept). IsTrue c.role_gone_goes_on.result ↔ IsTrue (has_role k c.args.name.now)) c.sight.ensures.shown c.role_gone_goes_on.ensures
