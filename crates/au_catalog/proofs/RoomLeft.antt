-- Room for what edits put in.
use Rattle.std.proofs.Common.{◌≡◌, ◌+◌, ℕ, Bool, true, false, cond, List, [], ◌∷◌, length, arith}
use Rattle.std.specs.List.{filter}
use Rattle.au_catalog.specs.declared.edit.Edit.{Edit}
use Rattle.au_catalog.specs.declared.kind.Kind.{Kind}
use Rattle.au_catalog.specs.declared.kind.Kind.TheVariants as K
use Rattle.au_catalog.specs.declared.lists.CatalogLists.{CatalogLists}
use Rattle.au_catalog.specs.descent.Editing.{HasRoom, KeepsRoom, put_count, puts}

first_at : (edit : Edit) (kept : List Edit) (b : Bool) → length (cond b (edit ∷ kept) kept) ≡ length (cond b (edit ∷ []) []) + length kept
first_at edit kept true = omega arith
first_at edit kept false = omega arith

-- what edits put in is what the first puts in and what the others do
put_first : (kind : Kind) (edit : Edit) (edits : List Edit) → put_count kind (edit ∷ edits) ≡ put_count kind (edit ∷ []) + put_count kind edits
put_first kind edit edits = first_at edit (filter (puts kind) edits) (puts kind edit)

-- room for edits is room for the first
pub room_first : (edit : Edit) (edits : List Edit) (lists : CatalogLists) → HasRoom (edit ∷ edits) lists → HasRoom (edit ∷ []) lists
room_first edit edits lists room = record {
  users = (let all = room.users in let parts = put_first K.User edit edits in omega (arith, all, parts));
  roles = (let all = room.roles in let parts = put_first K.Role edit edits in omega (arith, all, parts));
  tables = (let all = room.tables in let parts = put_first K.Table edit edits in omega (arith, all, parts));
  policies = (let all = room.policies in let parts = put_first K.Policy edit edits in omega (arith, all, parts));
  enabled = (let all = room.enabled in let parts = put_first K.Enablement edit edits in omega (arith, all, parts));
  fga = (let all = room.fga in let parts = put_first K.FineGrained edit edits in omega (arith, all, parts));
}

-- and, once that is made, for the others
pub room_left : (edit : Edit) (edits : List Edit) (lists later : CatalogLists) → HasRoom (edit ∷ edits) lists → KeepsRoom edit lists later → HasRoom edits later
room_left edit edits lists later room keeps = record {
  users = (let all = room.users in let parts = put_first K.User edit edits in let large = keeps.users in let more = keeps.more_users in omega (arith, all, parts, large, more));
  roles = (let all = room.roles in let parts = put_first K.Role edit edits in let large = keeps.roles in let more = keeps.more_roles in omega (arith, all, parts, large, more));
  tables = (let all = room.tables in let parts = put_first K.Table edit edits in let large = keeps.tables in let more = keeps.more_tables in omega (arith, all, parts, large, more));
  policies = (let all = room.policies in let parts = put_first K.Policy edit edits in let large = keeps.policies in let more = keeps.more_policies in omega (arith, all, parts, large, more));
  enabled = (let all = room.enabled in let parts = put_first K.Enablement edit edits in let large = keeps.enabled in let more = keeps.more_enabled in omega (arith, all, parts, large, more));
  fga = (let all = room.fga in let parts = put_first K.FineGrained edit edits in let large = keeps.fga in let more = keeps.more_fga in omega (arith, all, parts, large, more));
}
