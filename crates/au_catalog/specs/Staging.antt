-- Changes of the catalogue that are ready to be made with no memory: as edits, what these make of the catalogue, and which
-- catalogue they fit.
use Rattle.std.specs.Prelude.{◌≡◌, ◌≤◌, ℕ, List, [], ◌∷◌, ◌++◌, Option, Some, None, IsTrue, drop, get_or, option_to_list, length, map}
use Rattle.au_base.specs.Order.{fields_before, is_in_order, name_before}
use Rattle.au_base.specs.declared.numbers.Stamp.{Stamp}
use Rattle.au_base.specs.declared.table.TableName.{TableName}
use Rattle.au_base.specs.Sameness.{same_table}
use Rattle.std.specs.Str.{bytes_eq}
use Rattle.au_entries.specs.declared.change.Change.{Change}
use Rattle.au_entries.specs.declared.change.Change.TheVariants as change
use Rattle.au_entries.specs.declared.change.Change.TheVariants.{User, UserGone, Role, RoleGone, Table, TableGone, Policy, PolicyGone, Enable, Fga, FgaGone, Archive}
use Rattle.au_entries.specs.Changing.{by_fields, by_name, enabled_after, fga_fields, is_fga, put_in_order, read_as, table_fields, with_enablement, with_tree}
use Rattle.au_grants.specs.Changing.{without}
use Rattle.au_catalog.specs.declared.catalog.Catalog.{Catalog}
use Rattle.au_catalog.specs.declared.edit.Edit.{Edit}
use Rattle.au_catalog.specs.declared.edit.Edit.TheVariants as edit
use Rattle.au_catalog.specs.declared.edit.Edit.TheVariants.{PutUser, DropUser, PutRole, DropRole, PutTable, DropTable, PutPolicy, DropPolicy, PutFga, DropFga, SetArchive}
use Rattle.au_catalog.specs.Settling.{texts_in}
use Rattle.sql_ast.specs.declared.expression.Expr.{Expr}
use Rattle.sql_ast.specs.declared.expression.Expr.TheVariants as expr

-- the edit that a change is for the catalogue, where it is one. The argument says as which tree the text of a condition is
-- read.
abbrev pub edit_of : (List ℕ → Expr) → Change → Option Edit
edit_of tree (User name verifier) = Some (edit.PutUser name verifier)
edit_of tree (UserGone name) = Some (edit.DropUser name)
edit_of tree (Role name) = Some (edit.PutRole name)
edit_of tree (RoleGone name) = Some (edit.DropRole name)
edit_of tree (Table name columns key) = Some (edit.PutTable (record { name = name; columns = columns; key = key }))
edit_of tree (TableGone name) = Some (edit.DropTable name)
edit_of tree (Policy name privileges actions roles when) =
    Some (edit.PutPolicy (record { name = name; privileges = privileges; actions = actions; roles = roles; when = with_tree tree when }))
edit_of tree (PolicyGone name) = Some (edit.DropPolicy name)
edit_of tree (Enable policy enabled) = Some (edit.Enable policy enabled)
edit_of tree (Fga table policy condition columns all types enabled) =
    Some (edit.PutFga (record { name = record { table = table; policy = policy }; condition = read_as tree condition; columns = columns; all = all; types = types; enabled = enabled }))
edit_of tree (FgaGone table policy) = Some (edit.DropFga table policy)
edit_of tree (Archive stamp) = Some (edit.SetArchive stamp)
edit_of tree _ = None

-- the edits that changes are, in their order
abbrev pub edits_of : (List ℕ → Expr) → List Change → List Edit
edits_of tree [] = []
edits_of tree (change ∷ changes) = option_to_list (edit_of tree change) ++ edits_of tree changes

-- the first of the trees, whatever the text
abbrev pub first_of : List Expr → List ℕ → Expr
first_of trees text = get_or trees 0 expr.Null

-- the edits that changes are where these trees, in their order, are those of their conditions: a change has at most one, and
-- there are as many trees as conditions
abbrev pub edits_with : List Expr → List Change → List Edit
edits_with trees [] = []
edits_with trees (change ∷ changes) =
    option_to_list (edit_of (first_of trees) change) ++ edits_with (drop (length (texts_in change)) trees) changes

-- The catalogue after an edit. What changes make of the catalogue is said by catalog_after; this is the same, of changes with
-- trees that stand at places (the law edits_make_what_changes_make).
abbrev pub edited : Edit → Catalog → Catalog
edited (PutUser name verifier) catalog = record catalog { users = put_in_order (λ user. by_name user.0 name) (name, verifier) catalog.users }
edited (DropUser name) catalog = record catalog { users = without (λ user. bytes_eq user.0 name) catalog.users; enabled = enabled_after (change.UserGone name) catalog.enabled }
edited (PutRole name) catalog = record catalog { roles = put_in_order (λ other. by_name other name) name catalog.roles }
edited (DropRole name) catalog = record catalog { roles = without (λ other. bytes_eq other name) catalog.roles }
edited (PutTable table) catalog = record catalog { tables = put_in_order (λ other. by_fields (table_fields other.name) (table_fields table.name)) table catalog.tables }
edited (DropTable name) catalog =
    record catalog { tables = without (λ other. same_table other.name name) catalog.tables; fga = without (λ other. same_table other.name.table name) catalog.fga }
edited (PutPolicy policy) catalog = record catalog { policies = put_in_order (λ other. by_name other.name policy.name) policy catalog.policies }
edited (DropPolicy name) catalog = record catalog { policies = without (λ other. bytes_eq other.name name) catalog.policies }
edited (edit.Enable policy enabled) catalog = record catalog { enabled = with_enablement policy enabled catalog.enabled }
edited (PutFga policy) catalog =
    record catalog { fga = put_in_order (λ other. by_fields (fga_fields other.name.table other.name.policy) (fga_fields policy.name.table policy.name.policy)) policy catalog.fga }
edited (DropFga table policy) catalog = record catalog { fga = without (is_fga table policy) catalog.fga }
edited (SetArchive stamp) catalog = record catalog { archive = stamp }

-- the catalogue after all edits, in their order
abbrev pub edited_all : List Edit → Catalog → Catalog
edited_all [] catalog = catalog
edited_all (edit ∷ edits) catalog = edited_all edits (edited edit catalog)

-- the edits, in their order, and how many entries each list of the catalogue had when they were made ready
pub record Staged : Type 0 where
  pub edits : List Edit
  pub users : ℕ
  pub roles : ℕ
  pub tables : ℕ
  pub policies : ℕ
  pub enabled : ℕ
  pub fga : ℕ

-- what is ready are the changes, with this tree for each text of a condition
abbrev pub IsStaged : (List ℕ → Expr) → List Change → Staged → Type 0
IsStaged tree changes staged = staged.edits ≡ edits_of tree changes

-- each list of the catalogue stands in the byte order of its names
pub record IsOrdered (catalog : Catalog) : Type 0 where
  pub users : IsTrue (is_in_order name_before (map (λ user. user.0) catalog.users))
  pub roles : IsTrue (is_in_order name_before catalog.roles)
  pub tables : IsTrue (is_in_order fields_before (map (λ table. table_fields table.name) catalog.tables))
  pub policies : IsTrue (is_in_order name_before (map (λ policy. policy.name) catalog.policies))
  pub enabled : IsTrue (is_in_order name_before (map (λ entry. entry.0) catalog.enabled))
  pub fga : IsTrue (is_in_order fields_before (map (λ policy. fga_fields policy.name.table policy.name.policy) catalog.fga))

-- what is ready fits the catalogue: its lists have no more entries than they had then
pub record Fits (staged : Staged) (catalog : Catalog) : Type 0 where
  pub users : length catalog.users ≤ staged.users
  pub roles : length catalog.roles ≤ staged.roles
  pub tables : length catalog.tables ≤ staged.tables
  pub policies : length catalog.policies ≤ staged.policies
  pub enabled : length catalog.enabled ≤ staged.enabled
  pub fga : length catalog.fga ≤ staged.fga
