-- What a sight shows of what is kept.
use Rattle.std.specs.Prelude.{◌≡◌, ⊤, false, IsTrue, List, [], map, None}
use Rattle.au_base.specs.Order.{fields_before, is_in_order, name_before}
use Rattle.std.specs.List.{Contains}
use Rattle.au_entries.specs.declared.change.Change.{Change}
use Rattle.au_entries.specs.declared.change.Change.TheVariants.{RoleGrant, Policy, Fga}
use Rattle.au_entries.specs.declared.kept.Kept.{Kept}
use Rattle.au_entries.specs.declared.table.Table.{Table as AnyTable}
use Rattle.au_entries.specs.Changing.{KeptRow, fga_fields, table_fields}
use Rattle.au_entries.specs.Replaying.{GoesOn}
use Rattle.au_grants.specs.Rights.{Grants}
use Rattle.au_replay.specs.declared.sight.GrantsSeen.{GrantsSeen}
use Rattle.au_replay.specs.declared.sight.GrantsSeen.TheVariants.{Held, Draft}
use Rattle.au_replay.specs.declared.sight.Sight.{Sight}
use Rattle.au_replay.specs.Reading.{conditions}
use Rattle.au_rows.specs.declared.table.Table.{Table as OpenTable}
use Rattle.au_txn.specs.Desks.{Contents, key_of as open_key, open_of, replayer}
use Rattle.au_txn.specs.Rows.{Row, triple_of}
use Rattle.au_txn.specs.Transactions.{laid_over}

-- the grants that are seen
abbrev pub grants_of : GrantsSeen → Grants
grants_of (Held grants) = grants.now
grants_of (Draft draft) = draft.now

-- rows of a desk as what is kept lists them
abbrev pub rows_of : List Row → List KeptRow
rows_of rows = map triple_of rows

-- the rows of a desk while a frame is replayed: the committed ones, with what replay has laid over them
abbrev pub rows_seen : Contents → List KeptRow
rows_seen desk = rows_of (laid_over desk.rows (open_of desk replayer))

-- What the sight shows: all of what is kept that changes are tested against. The trail, the archive timestamp and the last
-- stamp aren't shown.
abbrev pub shown : Sight → Kept
shown sight = record {
  users = sight.users.now;
  roles = sight.roles.now;
  grants = grants_of sight.grants;
  tables = sight.tables.now;
  rows = rows_seen sight.desk.now;
  policies = sight.policies.now;
  enabled = sight.enabled.now;
  fga = sight.fga.now;
  trail = [];
  archive = None;
  last = record { 0 = 0 };
  instance = sight.instance;
}

-- what is kept without the parts that no sight shows
abbrev pub showable : Kept → Kept
showable kept = record kept { trail = []; archive = None; last = record { 0 = 0 } }

-- each list of the catalogue stands in the byte order of its names, as in `IsOrdered`
pub record IsSorted (sight : Sight) : Type 0 where
  pub users : IsTrue (is_in_order name_before (map (λ user. user.0) sight.users.now))
  pub roles : IsTrue (is_in_order name_before sight.roles.now)
  pub tables : IsTrue (is_in_order fields_before (map (λ table. table_fields table.name) sight.tables.now))
  pub policies : IsTrue (is_in_order name_before (map (λ policy. policy.name) sight.policies.now))
  pub enabled : IsTrue (is_in_order name_before (map (λ entry. entry.0) sight.enabled.now))
  pub fga : IsTrue (is_in_order fields_before (map (λ policy. fga_fields policy.name.table policy.name.policy) sight.fga.now))

-- The change goes on from what the sight shows. Whether it is one of an image matters for the start of an instance alone.
abbrev pub Goes : Sight → Change → Type 0
Goes sight change = GoesOn conditions false (shown sight) change

-- the tables are open in a desk with their keys
abbrev pub AreOpenKeyed : List AnyTable → List OpenTable → Type 0
AreOpenKeyed tables opened = (table : AnyTable) → Contains tables table → open_key table.name opened ≡ table.key

-- the test of the change takes memory: that of a role grant looks for a circle, those of policies read conditions
abbrev pub TakesMemory : Change → Type 0
TakesMemory (RoleGrant grantee role admin) = ⊤
TakesMemory (Policy name privileges actions roles when) = ⊤
TakesMemory (Fga table policy condition columns all types enabled) = ⊤
TakesMemory _ = ⊥
