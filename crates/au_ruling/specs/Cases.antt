-- What a case lends to the statement that is ruled by it.
use Rattle.std.specs.Prelude.{◌≡◌, IsTrue, map}
use Rattle.au_base.specs.Order.{fields_before, is_in_order, name_before}
use Rattle.au_calls.specs.Settings.{AuditSetting}
use Rattle.au_catalog.specs.Settling.{catalog_of}
use Rattle.au_define.specs.Settings.{Setting}
use Rattle.au_entries.specs.Changing.{table_fields}
use Rattle.au_entries.specs.declared.decision.ReadCondition.{ReadCondition}
use Rattle.au_ruling.specs.declared.ruling_case.RulingCase.{RulingCase}
use Rattle.au_ruling.specs.Rulings.{Ground}

-- users, roles and tables stand in the byte order of their names, as in all that is kept
pub record IsSorted (case : RulingCase) : Type 0 where
  pub users : IsTrue (is_in_order name_before (map (λ user. user.0) case.catalog.now.users))
  pub roles : IsTrue (is_in_order name_before case.catalog.now.roles)
  pub tables : IsTrue (is_in_order fields_before (map (λ table. table_fields table.name) case.catalog.now.tables))

-- the case lends the basis: the catalogue and the grants of what is kept, what sessions hold, the client and the event
pub record IsLentBy (basis : Ground) (case : RulingCase) : Type 0 where
  pub catalog : case.catalog.now ≡ catalog_of basis.kept
  pub grants : case.grants.now ≡ basis.kept.grants
  pub busy : case.busy.now ≡ basis.busy
  pub client : case.client ≡ basis.client
  pub session : case.session.now ≡ basis.session

-- by what a statement on tables, users, roles and grants is decided
abbrev pub setting_in : RulingCase → Setting
setting_in case = record {
  users = case.catalog.now.users;
  roles = case.catalog.now.roles;
  tables = case.catalog.now.tables;
  grants = case.grants.now;
  user = case.session.now.user;
  client = case.client;
  busy = case.busy.now;
}

-- by what a statement on auditing is decided, whose condition is read so
abbrev pub audit_setting_in : RulingCase → ReadCondition → AuditSetting
audit_setting_in case read = record {
  setting = setting_in case;
  policies = case.catalog.now.policies;
  enabled = case.catalog.now.enabled;
  fga = case.catalog.now.fga;
  archive = case.catalog.now.archive;
  stamp = case.session.now.stamp;
  read = read;
}
