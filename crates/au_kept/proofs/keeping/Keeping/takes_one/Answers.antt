use Rattle.std.proofs.Common.{false, subst, sym}
use Rattle.std.specs.Prelude.{◌↔◌, IsTrue}
use Rattle.au_entries.specs.declared.change.Change.{Change}
use Rattle.au_entries.specs.Replaying.{GoesOn}
use Rattle.au_replay.specs.Reading.{conditions}
use Rattle.au_kept.proofs.keeping.Keeping.takes_one.Goals as goal

pub returns-in-RoleGrant : goal.returns-in-RoleGrant
returns-in-RoleGrant c =
    subst (λ (d : Change). IsTrue c.takes_role_grant.result ↔ GoesOn conditions false c.args.self.now.kept d) (sym c.in-RoleGrant.is) (c.takes_role_grant.ensures c.in-RoleGrant.field-2)
