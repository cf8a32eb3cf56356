use Rattle.std.proofs.Common.{◌↔◌}
use Rattle.std.specs.Prelude.{IsTrue}
use Rattle.au_entries.specs.declared.change.Change.TheVariants as change
use Rattle.au_replay.specs.Sights.{Goes}
use Rattle.au_replay.proofs.Readings.{at_admin}
use Rattle.au_replay.proofs.going.goes_on.Goals as goal

pub returns-in-SysGrant-clause-goes : goal.returns-in-SysGrant-clause-goes
returns-in-SysGrant-clause-goes c = rw c.in-SysGrant.is (c.sys_grant_goes_on.ensures c.in-SysGrant.field-2 c.in-SysGrant.field-1)

pub returns-in-RoleGrant-clause-goes : goal.returns-in-RoleGrant-clause-goes
returns-in-RoleGrant-clause-goes c = rw c.in-RoleGrant.is
    (at_admin c.role_grant_goes_on.result (λ admin goes. IsTrue goes ↔ Goes c.args.sight.now (change.RoleGrant c.in-RoleGrant.name c.in-RoleGrant.role admin)) c.in-RoleGrant.field-2 c.role_grant_goes_on.ensures)

pub returns-in-ObjGrant-clause-goes : goal.returns-in-ObjGrant-clause-goes
returns-in-ObjGrant-clause-goes c = rw c.in-ObjGrant.is (c.obj_grant_goes_on.ensures c.in-ObjGrant.field-2)

pub returns-in-Policy-clause-goes : goal.returns-in-Policy-clause-goes
returns-in-Policy-clause-goes c = rw c.in-Policy.is c.policy_goes_on.ensures

pub returns-in-Fga-clause-goes : goal.returns-in-Fga-clause-goes
returns-in-Fga-clause-goes c = rw c.in-Fga.is c.fga_goes_on.ensures
