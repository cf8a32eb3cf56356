-- How changes are spelled: a tag, and behind it the parts of the change.
use Rattle.std.specs.Prelude.{ℕ, List, [], ◌∷◌, map, length, nat_le, ◌&&◌, Bool, ⊤, Option, Some, None}
use Rattle.std.specs.Int.{w16, w32}
use Rattle.std.specs.Str.{bytes_eq}
use Rattle.au_base.specs.Actions as actions
use Rattle.au_base.specs.declared.action.Action.{Action}
use Rattle.au_base.specs.declared.cell.Cell.{Cell}
use Rattle.au_base.specs.declared.numbers.RowNo.{RowNo}
use Rattle.au_base.specs.declared.privilege.Privilege.{Privilege}
use Rattle.au_base.specs.declared.table.Column.{Column}
use Rattle.au_base.specs.declared.table.TableName.{TableName}
use Rattle.au_entries.specs.declared.change.Change.{Change}
use Rattle.au_entries.specs.declared.change.Change.TheVariants.{User, UserGone, Role, RoleGone, SysGrant, SysRevoke, RoleGrant, RoleRevoke, ObjGrant, ObjRevoke, Table, TableGone, Put, Gone, Policy, PolicyGone, Enable, Fga, FgaGone, Archive, Start}
use Rattle.au_entries.specs.declared.policy.Enabled.{Enabled}
use Rattle.au_entries.specs.declared.policy.Enabled.TheVariants.{Off, By, Except}
use Rattle.au_entries.specs.declared.policy.Evaluate.{Evaluate}
use Rattle.au_entries.specs.declared.policy.Evaluate.TheVariants.{Statement, Session, Instance}
use Rattle.au_entries.specs.declared.policy.Outcomes.{Outcomes}
use Rattle.rec_parts.specs.Spelling.{Spelling, byte, counted, is_without_repeats, led_by, nothing, number, option, pair, such_that}
use Rattle.rec_parts.specs.Parts.{Part, name, text, truth, stamp, verifier, privilege, action, outcomes, same_part, table, names, privileges_in_order}
use Rattle.rec_parts.specs.Tables.{cells, columns, places, row_number}

-- up to 65,535 parts, no two the same
unfoldable pub parts : Spelling (List Part)
parts = such_that (counted (number w16) (pair action (option table))) (is_without_repeats same_part)

-- when a policy's condition is evaluated, and its text: 0 for no condition
abbrev pub Condition : Type 0
Condition = Option (Evaluate × List ℕ)

abbrev pub when_spelled : Condition → List ℕ
when_spelled None = 0 ∷ []
when_spelled (Some (Statement, condition)) = 1 ∷ text.spelled condition
when_spelled (Some (Session, condition)) = 2 ∷ text.spelled condition
when_spelled (Some (Instance, condition)) = 3 ∷ text.spelled condition

abbrev pub IsWhenSpellable : Condition → Type 0
IsWhenSpellable None = ⊤
IsWhenSpellable (Some x) = text.IsSpellable x.1

unfoldable pub when : Spelling Condition
when = record { spelled = when_spelled; IsSpellable = IsWhenSpellable }

-- users, each with outcomes: at least one, and each user once
abbrev pub are_users : List (List ℕ × Outcomes) → Bool
are_users users = nat_le 1 (length users) && is_without_repeats bytes_eq (map (λ user. user.0) users)

unfoldable pub users : Spelling (List (List ℕ × Outcomes))
users = such_that (counted (number w16) (pair name outcomes)) are_users

-- for whom a policy is enabled: its mode, the outcomes of the mode, and its names
unfoldable pub off : Spelling (Unit {0})
off = led_by 0 (led_by 0 (led_by 0 nothing))

abbrev pub enabled_spelled : Enabled → List ℕ
enabled_spelled Off = 0 ∷ off.spelled tt
enabled_spelled (By us) = 1 ∷ 0 ∷ users.spelled us
enabled_spelled (Except ns o) = 2 ∷ (pair outcomes names).spelled (o, ns)

abbrev pub IsEnabledSpellable : Enabled → Type 0
IsEnabledSpellable Off = ⊤
IsEnabledSpellable (By us) = users.IsSpellable us
IsEnabledSpellable (Except ns o) = (pair outcomes names).IsSpellable (o, ns)

unfoldable pub enabled : Spelling Enabled
enabled = record { spelled = enabled_spelled; IsSpellable = IsEnabledSpellable }

-- the parts behind the tags
unfoldable pub user : Spelling (List ℕ × List ℕ)
user = pair name verifier

unfoldable pub system_grant : Spelling (List ℕ × (Privilege × Bool))
system_grant = pair name (pair privilege truth)

unfoldable pub system_revoke : Spelling (List ℕ × Privilege)
system_revoke = pair name privilege

unfoldable pub role_grant : Spelling (List ℕ × (List ℕ × Bool))
role_grant = pair name (pair name truth)

unfoldable pub role_revoke : Spelling (List ℕ × List ℕ)
role_revoke = pair name name

-- one of SELECT, INSERT, UPDATE and DELETE
abbrev pub is_object_action : Action → Bool
is_object_action a = nat_le 1 (actions.code_of a) && nat_le (actions.code_of a) 4

unfoldable pub object_action : Spelling Action
object_action = such_that action is_object_action

-- an object privilege: the grantee, the table and the action
unfoldable pub object_right : Spelling (List ℕ × (TableName × Action))
object_right = pair name (pair table object_action)

unfoldable pub created : Spelling (TableName × (List Column × List ℕ))
created = pair table (pair columns places)

unfoldable pub row : Spelling (TableName × RowNo)
row = pair table row_number

unfoldable pub put : Spelling (TableName × (RowNo × List Cell))
put = pair table (pair row_number cells)

unfoldable pub policy : Spelling (List ℕ × (List Privilege × (List Part × (List (List ℕ) × Condition))))
policy = pair name (pair privileges_in_order (pair parts (pair names when)))

unfoldable pub enablement : Spelling (List ℕ × Enabled)
enablement = pair name enabled

-- the kinds of statements: 1, 2, 4 and 8 for SELECT, INSERT, UPDATE and DELETE, added; at least one of them
unfoldable pub types : Spelling ℕ
types = such_that byte (λ t. nat_le 1 t && nat_le t 15)

-- a fine-grained policy: its table and its name
unfoldable pub fga_name : Spelling (TableName × List ℕ)
fga_name = pair table name

-- and what it is for: the condition, the columns, whether all of them count, the kinds of statements, and whether it is
-- enabled
unfoldable pub fga_parts : Spelling (Option (List ℕ) × (List (List ℕ) × (Bool × (ℕ × Bool))))
fga_parts = pair (option text) (pair names (pair truth (pair types truth)))

unfoldable pub fga : Spelling ((TableName × List ℕ) × (Option (List ℕ) × (List (List ℕ) × (Bool × (ℕ × Bool)))))
fga = pair fga_name fga_parts

-- changes, each behind its tag
abbrev pub change_spelled : Change → List ℕ
change_spelled (User n v) = 1 ∷ user.spelled (n, v)
change_spelled (UserGone n) = 2 ∷ name.spelled n
change_spelled (Role n) = 3 ∷ name.spelled n
change_spelled (RoleGone n) = 4 ∷ name.spelled n
change_spelled (SysGrant n p a) = 5 ∷ system_grant.spelled (n, (p, a))
change_spelled (SysRevoke n p) = 6 ∷ system_revoke.spelled (n, p)
change_spelled (RoleGrant n r a) = 7 ∷ role_grant.spelled (n, (r, a))
change_spelled (RoleRevoke n r) = 8 ∷ role_revoke.spelled (n, r)
change_spelled (ObjGrant n t a) = 9 ∷ object_right.spelled (n, (t, a))
change_spelled (ObjRevoke n t a) = 10 ∷ object_right.spelled (n, (t, a))
change_spelled (Table t cs k) = 11 ∷ created.spelled (t, (cs, k))
change_spelled (TableGone t) = 12 ∷ table.spelled t
change_spelled (Put t r cs) = 13 ∷ put.spelled (t, (r, cs))
change_spelled (Gone t r) = 14 ∷ row.spelled (t, r)
change_spelled (Policy n ps ts rs w) = 15 ∷ policy.spelled (n, (ps, (ts, (rs, w))))
change_spelled (PolicyGone n) = 16 ∷ name.spelled n
change_spelled (Enable n e) = 17 ∷ enablement.spelled (n, e)
change_spelled (Fga t n c cs a ts e) = 18 ∷ fga.spelled ((t, n), (c, (cs, (a, (ts, e)))))
change_spelled (FgaGone t n) = 19 ∷ fga_name.spelled (t, n)
change_spelled (Archive s) = 20 ∷ (option stamp).spelled s
change_spelled (Start i) = 21 ∷ (number w32).spelled i

abbrev pub IsChangeSpellable : Change → Type 0
IsChangeSpellable (User n v) = user.IsSpellable (n, v)
IsChangeSpellable (UserGone n) = name.IsSpellable n
IsChangeSpellable (Role n) = name.IsSpellable n
IsChangeSpellable (RoleGone n) = name.IsSpellable n
IsChangeSpellable (SysGrant n p a) = system_grant.IsSpellable (n, (p, a))
IsChangeSpellable (SysRevoke n p) = system_revoke.IsSpellable (n, p)
IsChangeSpellable (RoleGrant n r a) = role_grant.IsSpellable (n, (r, a))
IsChangeSpellable (RoleRevoke n r) = role_revoke.IsSpellable (n, r)
IsChangeSpellable (ObjGrant n t a) = object_right.IsSpellable (n, (t, a))
IsChangeSpellable (ObjRevoke n t a) = object_right.IsSpellable (n, (t, a))
IsChangeSpellable (Table t cs k) = created.IsSpellable (t, (cs, k))
IsChangeSpellable (TableGone t) = table.IsSpellable t
IsChangeSpellable (Put t r cs) = put.IsSpellable (t, (r, cs))
IsChangeSpellable (Gone t r) = row.IsSpellable (t, r)
IsChangeSpellable (Policy n ps ts rs w) = policy.IsSpellable (n, (ps, (ts, (rs, w))))
IsChangeSpellable (PolicyGone n) = name.IsSpellable n
IsChangeSpellable (Enable n e) = enablement.IsSpellable (n, e)
IsChangeSpellable (Fga t n c cs a ts e) = fga.IsSpellable ((t, n), (c, (cs, (a, (ts, e)))))
IsChangeSpellable (FgaGone t n) = fga_name.IsSpellable (t, n)
IsChangeSpellable (Archive s) = (option stamp).IsSpellable s
IsChangeSpellable (Start i) = (number w32).IsSpellable i

unfoldable pub change : Spelling Change
change = record { spelled = change_spelled; IsSpellable = IsChangeSpellable }
