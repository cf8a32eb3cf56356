use Rattle.au_image.specs.Image.{role_change, role_grant_change, rows_seen_by, system_change, user_change}
use Rattle.au_image.proofs.Pieces.{behind_roles, behind_system, behind_users, fits, joins, spells, step, stored}
use Rattle.au_image.proofs.imaging.write_changes.Goals as goal

pub write_group-requires-clause-left : goal.write_group-requires-clause-left
write_group-requires-clause-left c = fits user_change c.args.catalog.now.users _ (behind_users c.args.catalog.now c.args.grants.now (rows_seen_by c.args.client c.args.desk.now) c.args.instance) _ c.requires.ready c.as_slice.ensures

pub write_group-requires-clause-spellable : goal.write_group-requires-clause-spellable
write_group-requires-clause-spellable c = spells user_change c.args.catalog.now.users _ (behind_users c.args.catalog.now c.args.grants.now (rows_seen_by c.args.client c.args.desk.now) c.args.instance) _ c.requires.ready c.as_slice.ensures

pub write_group-requires-2-clause-left : goal.write_group-requires-2-clause-left
write_group-requires-2-clause-left c = fits role_change c.args.catalog.now.roles _ (behind_roles c.args.catalog.now c.args.grants.now (rows_seen_by c.args.client c.args.desk.now) c.args.instance) _ (step user_change c.args.catalog.now.users _ (behind_users c.args.catalog.now c.args.grants.now (rows_seen_by c.args.client c.args.desk.now) c.args.instance) _ _ c.requires.ready c.as_slice.ensures c.in_ok-write_group.ensures) c.as_slice-2.ensures

pub write_group-requires-2-clause-spellable : goal.write_group-requires-2-clause-spellable
write_group-requires-2-clause-spellable c = spells role_change c.args.catalog.now.roles _ (behind_roles c.args.catalog.now c.args.grants.now (rows_seen_by c.args.client c.args.desk.now) c.args.instance) _ (step user_change c.args.catalog.now.users _ (behind_users c.args.catalog.now c.args.grants.now (rows_seen_by c.args.client c.args.desk.now) c.args.instance) _ _ c.requires.ready c.as_slice.ensures c.in_ok-write_group.ensures) c.as_slice-2.ensures

pub write_group-requires-3-clause-left : goal.write_group-requires-3-clause-left
write_group-requires-3-clause-left c = fits system_change c.args.grants.now.system _ (behind_system c.args.catalog.now c.args.grants.now (rows_seen_by c.args.client c.args.desk.now) c.args.instance) _ (step role_change c.args.catalog.now.roles _ (behind_roles c.args.catalog.now c.args.grants.now (rows_seen_by c.args.client c.args.desk.now) c.args.instance) _ _ (step user_change c.args.catalog.now.users _ (behind_users c.args.catalog.now c.args.grants.now (rows_seen_by c.args.client c.args.desk.now) c.args.instance) _ _ c.requires.ready c.as_slice.ensures c.in_ok-write_group.ensures) c.as_slice-2.ensures c.in_ok-write_group-2.ensures) c.system_grants.ensures.value

pub write_group-requires-3-clause-spellable : goal.write_group-requires-3-clause-spellable
write_group-requires-3-clause-spellable c = spells system_change c.args.grants.now.system _ (behind_system c.args.catalog.now c.args.grants.now (rows_seen_by c.args.client c.args.desk.now) c.args.instance) _ (step role_change c.args.catalog.now.roles _ (behind_roles c.args.catalog.now c.args.grants.now (rows_seen_by c.args.client c.args.desk.now) c.args.instance) _ _ (step user_change c.args.catalog.now.users _ (behind_users c.args.catalog.now c.args.grants.now (rows_seen_by c.args.client c.args.desk.now) c.args.instance) _ _ c.requires.ready c.as_slice.ensures c.in_ok-write_group.ensures) c.as_slice-2.ensures c.in_ok-write_group-2.ensures) c.system_grants.ensures.value

pub write_group-requires-4-clause-left : goal.write_group-requires-4-clause-left
write_group-requires-4-clause-left c = fits role_grant_change c.args.grants.now.role _ (stored c.args.catalog.now c.args.grants.now (rows_seen_by c.args.client c.args.desk.now) c.args.instance) _ (step system_change c.args.grants.now.system _ (behind_system c.args.catalog.now c.args.grants.now (rows_seen_by c.args.client c.args.desk.now) c.args.instance) _ _ (step role_change c.args.catalog.now.roles _ (behind_roles c.args.catalog.now c.args.grants.now (rows_seen_by c.args.client c.args.desk.now) c.args.instance) _ _ (step user_change c.args.catalog.now.users _ (behind_users c.args.catalog.now c.args.grants.now (rows_seen_by c.args.client c.args.desk.now) c.args.instance) _ _ c.requires.ready c.as_slice.ensures c.in_ok-write_group.ensures) c.as_slice-2.ensures c.in_ok-write_group-2.ensures) c.system_grants.ensures.value c.in_ok-write_group-3.ensures) c.role_grants.ensures.value

pub write_group-requires-4-clause-spellable : goal.write_group-requires-4-clause-spellable
write_group-requires-4-clause-spellable c = spells role_grant_change c.args.grants.now.role _ (stored c.args.catalog.now c.args.grants.now (rows_seen_by c.args.client c.args.desk.now) c.args.instance) _ (step system_change c.args.grants.now.system _ (behind_system c.args.catalog.now c.args.grants.now (rows_seen_by c.args.client c.args.desk.now) c.args.instance) _ _ (step role_change c.args.catalog.now.roles _ (behind_roles c.args.catalog.now c.args.grants.now (rows_seen_by c.args.client c.args.desk.now) c.args.instance) _ _ (step user_change c.args.catalog.now.users _ (behind_users c.args.catalog.now c.args.grants.now (rows_seen_by c.args.client c.args.desk.now) c.args.instance) _ _ c.requires.ready c.as_slice.ensures c.in_ok-write_group.ensures) c.as_slice-2.ensures c.in_ok-write_group-2.ensures) c.system_grants.ensures.value c.in_ok-write_group-3.ensures) c.role_grants.ensures.value

pub write_stored-requires-clause-ready : goal.write_stored-requires-clause-ready
write_stored-requires-clause-ready c = step role_grant_change c.args.grants.now.role _ (stored c.args.catalog.now c.args.grants.now (rows_seen_by c.args.client c.args.desk.now) c.args.instance) _ _ (step system_change c.args.grants.now.system _ (behind_system c.args.catalog.now c.args.grants.now (rows_seen_by c.args.client c.args.desk.now) c.args.instance) _ _ (step role_change c.args.catalog.now.roles _ (behind_roles c.args.catalog.now c.args.grants.now (rows_seen_by c.args.client c.args.desk.now) c.args.instance) _ _ (step user_change c.args.catalog.now.users _ (behind_users c.args.catalog.now c.args.grants.now (rows_seen_by c.args.client c.args.desk.now) c.args.instance) _ _ c.requires.ready c.as_slice.ensures c.in_ok-write_group.ensures) c.as_slice-2.ensures c.in_ok-write_group-2.ensures) c.system_grants.ensures.value c.in_ok-write_group-3.ensures) c.role_grants.ensures.value c.in_ok-write_group-4.ensures

pub returns : goal.returns
returns c = joins c.writes_join.ensures user_change c.args.catalog.now.users _ (behind_users c.args.catalog.now c.args.grants.now (rows_seen_by c.args.client c.args.desk.now) c.args.instance) _ _ _ c.as_slice.ensures c.in_ok-write_group.ensures (joins c.writes_join.ensures role_change c.args.catalog.now.roles _ (behind_roles c.args.catalog.now c.args.grants.now (rows_seen_by c.args.client c.args.desk.now) c.args.instance) _ _ _ c.as_slice-2.ensures c.in_ok-write_group-2.ensures (joins c.writes_join.ensures system_change c.args.grants.now.system _ (behind_system c.args.catalog.now c.args.grants.now (rows_seen_by c.args.client c.args.desk.now) c.args.instance) _ _ _ c.system_grants.ensures.value c.in_ok-write_group-3.ensures (joins c.writes_join.ensures role_grant_change c.args.grants.now.role _ (stored c.args.catalog.now c.args.grants.now (rows_seen_by c.args.client c.args.desk.now) c.args.instance) _ _ _ c.role_grants.ensures.value c.in_ok-write_group-4.ensures (c.in_ok-write_stored.ensures))))
