use Rattle.std.proofs.Common.{◌≡◌}
use Rattle.std.specs.Prelude.{◌↔◌, IsTrue}
use Rattle.au_entries.specs.declared.kept.Kept.{Kept}
use Rattle.au_entries.specs.Replaying.{has_role}
use Rattle.au_kept.proofs.InPlace.{same_told}
use Rattle.au_kept.proofs.keeping.Keeping.has_role.Goals as goal

pub returns : goal.returns
returns c = rw (← c.self.view_is) (same_told (λ (k : Kept). has_role k c.args.name.now) _ _ c.role_gone_goes_on.result c.sight_of-sight.ensures.shown c.role_gone_goes_on.ensures)
