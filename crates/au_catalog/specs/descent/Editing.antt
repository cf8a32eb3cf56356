-- How edits are made in vectors.
use Rattle.std.specs.Prelude.{◌≡◌, ◌≤◌, ◌<◌, ◌+◌, ℕ, Bool, true, false, List, [], ◌∷◌, not, length, take, drop, vec_capacity}
use Rattle.std.specs.List.{filter}
use Rattle.std.specs.declared.cmp.Ordering.{Ordering}
use Rattle.std.specs.Ordering.{is_lt}
use Rattle.au_catalog.specs.declared.catalog.Catalog.{Catalog}
use Rattle.au_catalog.specs.declared.counts.Counts.{Counts}
use Rattle.au_catalog.specs.declared.edit.Edit.{Edit}
use Rattle.au_catalog.specs.declared.edit.Edit.TheVariants.{PutUser, PutRole, PutTable, PutPolicy, Enable, PutFga}
use Rattle.au_catalog.specs.declared.kind.Kind.{Kind}
use Rattle.au_catalog.specs.declared.kind.Kind.TheVariants as K
use Rattle.au_catalog.specs.declared.lists.CatalogLists.{CatalogLists}
use Rattle.au_catalog.specs.Staging.{Staged}

-- before the place stand the lesser entries, and from it on the others
pub record IsPlace {X : Type 0} (order : X → Ordering) (entries : List X) (place : ℕ) : Type 0 where
  pub within : place ≤ length entries
  pub front : take place entries ≡ filter (λ other. is_lt (order other)) entries
  pub rest : drop place entries ≡ filter (λ other. not (is_lt (order other))) entries

-- the catalogue in the vectors
abbrev pub listed : CatalogLists → Catalog
listed lists = record { users = lists.users.items; roles = lists.roles.items; tables = lists.tables.items; policies = lists.policies.items; enabled = lists.enabled.items; fga = lists.fga.items; archive = lists.archive }

-- the edit puts an entry into this list
abbrev pub puts : Kind → Edit → Bool
puts K.User (PutUser name verifier) = true
puts K.Role (PutRole name) = true
puts K.Table (PutTable table) = true
puts K.Policy (PutPolicy policy) = true
puts K.Enablement (Enable policy enabled) = true
puts K.FineGrained (PutFga policy) = true
puts _ _ = false

-- how many of the edits put an entry into this list
abbrev pub put_count : Kind → List Edit → ℕ
put_count kind edits = length (filter (puts kind) edits)

-- each vector has room for what the edits put into it
pub record HasRoom (edits : List Edit) (lists : CatalogLists) : Type 0 where
  pub users : length lists.users.items + put_count K.User edits ≤ vec_capacity lists.users
  pub roles : length lists.roles.items + put_count K.Role edits ≤ vec_capacity lists.roles
  pub tables : length lists.tables.items + put_count K.Table edits ≤ vec_capacity lists.tables
  pub policies : length lists.policies.items + put_count K.Policy edits ≤ vec_capacity lists.policies
  pub enabled : length lists.enabled.items + put_count K.Enablement edits ≤ vec_capacity lists.enabled
  pub fga : length lists.fga.items + put_count K.FineGrained edits ≤ vec_capacity lists.fga

-- an edit leaves the vectors as large as they are, with no more entries than it puts in
pub record KeepsRoom (edit : Edit) (lists later : CatalogLists) : Type 0 where
  pub users : vec_capacity later.users ≡ vec_capacity lists.users
  pub roles : vec_capacity later.roles ≡ vec_capacity lists.roles
  pub tables : vec_capacity later.tables ≡ vec_capacity lists.tables
  pub policies : vec_capacity later.policies ≡ vec_capacity lists.policies
  pub enabled : vec_capacity later.enabled ≡ vec_capacity lists.enabled
  pub fga : vec_capacity later.fga ≡ vec_capacity lists.fga
  pub more_users : length later.users.items ≤ length lists.users.items + put_count K.User (edit ∷ [])
  pub more_roles : length later.roles.items ≤ length lists.roles.items + put_count K.Role (edit ∷ [])
  pub more_tables : length later.tables.items ≤ length lists.tables.items + put_count K.Table (edit ∷ [])
  pub more_policies : length later.policies.items ≤ length lists.policies.items + put_count K.Policy (edit ∷ [])
  pub more_enabled : length later.enabled.items ≤ length lists.enabled.items + put_count K.Enablement (edit ∷ [])
  pub more_fga : length later.fga.items ≤ length lists.fga.items + put_count K.FineGrained (edit ∷ [])

-- the vectors are empty
pub record AreEmpty (lists : CatalogLists) : Type 0 where
  pub users : lists.users.items ≡ []
  pub roles : lists.roles.items ≡ []
  pub tables : lists.tables.items ≡ []
  pub policies : lists.policies.items ≡ []
  pub enabled : lists.enabled.items ≡ []
  pub fga : lists.fga.items ≡ []

-- where some more entries come to those of a list, this many in all have room
abbrev pub Holds : ℕ → ℕ → ℕ → Type 0
Holds standing more capacity = 0 < more → standing + more ≤ capacity

-- each vector that the edits put something into has room for that and for so many entries of its list
pub record AreSpared (counts : Counts) (edits : List Edit) (lists : CatalogLists) : Type 0 where
  pub users : Holds counts.users (put_count K.User edits) (vec_capacity lists.users)
  pub roles : Holds counts.roles (put_count K.Role edits) (vec_capacity lists.roles)
  pub tables : Holds counts.tables (put_count K.Table edits) (vec_capacity lists.tables)
  pub policies : Holds counts.policies (put_count K.Policy edits) (vec_capacity lists.policies)
  pub enabled : Holds counts.enabled (put_count K.Enablement edits) (vec_capacity lists.enabled)
  pub fga : Holds counts.fga (put_count K.FineGrained edits) (vec_capacity lists.fga)

-- so many entries the lists of the catalogue have
abbrev pub counts_in : Catalog → Counts
counts_in catalog = record {
  users = length catalog.users;
  roles = length catalog.roles;
  tables = length catalog.tables;
  policies = length catalog.policies;
  enabled = length catalog.enabled;
  fga = length catalog.fga;
}

-- what is ready to be made, with these edits and these counts
abbrev pub staged_from : List Edit → Counts → Staged
staged_from edits counts = record {
  edits = edits;
  users = counts.users;
  roles = counts.roles;
  tables = counts.tables;
  policies = counts.policies;
  enabled = counts.enabled;
  fga = counts.fga;
}
