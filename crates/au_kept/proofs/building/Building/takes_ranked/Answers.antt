use Rattle.std.proofs.Common.{◌↔◌, subst, sym}
use Rattle.std.specs.Prelude.{IsTrue}
use Rattle.au_entries.specs.declared.change.Change.{Change}
use Rattle.au_entries.specs.Replaying.{GoesOn}
use Rattle.au_kept.specs.Building.{kept_in}
use Rattle.au_kept.specs.Ranks.{IsRanked}
use Rattle.au_kept.proofs.Ranked.{role_goes}
use Rattle.au_replay.specs.Reading.{conditions}
use Rattle.au_kept.proofs.building.Building.takes_ranked.Goals as goal

pub returns-in-RoleGrant : goal.returns-in-RoleGrant
returns-in-RoleGrant c =
    let ranked = subst (IsRanked c.args.ranks.now.entries) c.in-RoleGrant.is c.requires.ranked in
    subst (λ (change : Change). IsTrue c.has_both.result ↔ GoesOn conditions c.args.image (kept_in c.args.self.now) change) (sym c.in-RoleGrant.is)
    (role_goes c.args.ranks.now.entries c.args.image (kept_in c.args.self.now) c.in-RoleGrant.grantee c.in-RoleGrant.role c.in-RoleGrant.field-2 c.has_both.result c.requires.roles ranked c.has_both.ensures)
