-- How changes are read: the tag, and what stands behind it.
use Rattle.std.specs.Prelude.{ℕ, List, nat_le, ◌&&◌, Bool, Option, Some, None}
use Rattle.std.specs.Int.{w16, w32}
use Rattle.au_base.specs.declared.action.Action.{Action}
use Rattle.au_base.specs.declared.privilege.Privilege.{Privilege}
use Rattle.au_base.specs.declared.table.TableName.{TableName}
use Rattle.au_entries.specs.declared.change.Change.{Change}
use Rattle.au_entries.specs.declared.change.Change.TheVariants.{User, UserGone, Role, RoleGone, SysGrant, SysRevoke, RoleGrant, RoleRevoke, ObjGrant, ObjRevoke, Table, TableGone, Put, Gone, Policy, PolicyGone, Enable, Fga, FgaGone, Archive, Start}
use Rattle.au_entries.specs.declared.policy.Enabled.{Enabled}
use Rattle.au_entries.specs.declared.policy.Enabled.TheVariants.{Off, By, Except}
use Rattle.au_entries.specs.declared.policy.Evaluate.TheVariants.{Statement, Session, Instance}
use Rattle.au_entries.specs.declared.policy.Outcomes.{Outcomes}
use Rattle.rec_parts.specs.Spelling.{is_without_repeats}
use Rattle.rec_parts.specs.Parts.{Part, same_part}
use Rattle.rec_parts.specs.descent.Reading.{Behind, Front, behind, below, byte_first, counted_first, led_first, no_other, nothing_first, number_first, option_first, pair_first, tagged_first, tested_first}
use Rattle.rec_parts.specs.descent.Parts.{name_first, text_first, truth_first, stamp_first, verifier_first, privilege_first, action_first, outcomes_first, table_first, names_first, privileges_first}
use Rattle.rec_parts.specs.descent.Tables.{cells_first, columns_first, places_first, row_number_first}
use Rattle.rec_codec.specs.Changes.{Condition, are_users, is_object_action}

unfoldable pub parts_first : Front (List Part)
parts_first = tested_first (counted_first (number_first w16) (pair_first action_first (option_first table_first))) (is_without_repeats same_part)

unfoldable pub when_behind : Behind Condition
when_behind =
    behind 0 nothing_first (λ x. None)
    (behind 1 text_first (λ condition. Some (Statement, condition))
    (behind 2 text_first (λ condition. Some (Session, condition))
    (behind 3 text_first (λ condition. Some (Instance, condition))
    no_other)))

unfoldable pub when_first : Front Condition
when_first = tagged_first when_behind

unfoldable pub users_first : Front (List (List ℕ × Outcomes))
users_first = tested_first (counted_first (number_first w16) (pair_first name_first outcomes_first)) are_users

unfoldable pub off_first : Front (Unit {0})
off_first = led_first 0 (led_first 0 (led_first 0 nothing_first))

unfoldable pub enabled_behind : Behind Enabled
enabled_behind =
    behind 0 off_first (λ x. Off)
    (behind 1 (led_first 0 users_first) By
    (behind 2 (pair_first outcomes_first names_first) (λ x. Except x.1 x.0)
    no_other))

unfoldable pub enabled_first : Front Enabled
enabled_first = tagged_first enabled_behind

unfoldable pub object_action_first : Front Action
object_action_first = tested_first action_first is_object_action

unfoldable pub object_right_first : Front (List ℕ × (TableName × Action))
object_right_first = pair_first name_first (pair_first table_first object_action_first)

unfoldable pub policy_first : Front (List ℕ × (List Privilege × (List Part × (List (List ℕ) × Condition))))
policy_first = pair_first name_first (pair_first privileges_first (pair_first parts_first (pair_first names_first when_first)))

abbrev pub made_policy : List ℕ × (List Privilege × (List Part × (List (List ℕ) × Condition))) → Change
made_policy x = Policy x.0 x.1.0 x.1.1.0 x.1.1.1.0 x.1.1.1.1

unfoldable pub types_first : Front ℕ
types_first = tested_first byte_first (λ t. nat_le 1 t && nat_le t 15)

unfoldable pub fga_first : Front ((TableName × List ℕ) × (Option (List ℕ) × (List (List ℕ) × (Bool × (ℕ × Bool)))))
fga_first =
    pair_first (pair_first table_first name_first)
    (pair_first (option_first text_first) (pair_first names_first (pair_first truth_first (pair_first types_first truth_first))))

abbrev pub made_fga : (TableName × List ℕ) × (Option (List ℕ) × (List (List ℕ) × (Bool × (ℕ × Bool)))) → Change
made_fga x = Fga x.0.0 x.0.1 x.1.0 x.1.1.0 x.1.1.1.0 x.1.1.1.1.0 x.1.1.1.1.1

-- users and roles
unfoldable pub named_behind : Behind Change
named_behind =
    behind 1 (pair_first name_first verifier_first) (λ x. User x.0 x.1)
    (behind 2 name_first UserGone
    (behind 3 name_first Role
    (behind 4 name_first RoleGone
    no_other)))

-- grants
unfoldable pub granted_behind : Behind Change
granted_behind =
    behind 5 (pair_first name_first (pair_first privilege_first truth_first)) (λ x. SysGrant x.0 x.1.0 x.1.1)
    (behind 6 (pair_first name_first privilege_first) (λ x. SysRevoke x.0 x.1)
    (behind 7 (pair_first name_first (pair_first name_first truth_first)) (λ x. RoleGrant x.0 x.1.0 x.1.1)
    (behind 8 (pair_first name_first name_first) (λ x. RoleRevoke x.0 x.1)
    (behind 9 object_right_first (λ x. ObjGrant x.0 x.1.0 x.1.1)
    (behind 10 object_right_first (λ x. ObjRevoke x.0 x.1.0 x.1.1)
    no_other)))))

-- tables and rows
unfoldable pub tabled_behind : Behind Change
tabled_behind =
    behind 11 (pair_first table_first (pair_first columns_first places_first)) (λ x. Table x.0 x.1.0 x.1.1)
    (behind 12 table_first TableGone
    (behind 13 (pair_first table_first (pair_first row_number_first cells_first)) (λ x. Put x.0 x.1.0 x.1.1)
    (behind 14 (pair_first table_first row_number_first) (λ x. Gone x.0 x.1)
    no_other)))

-- policies, the archive timestamp and the instance
unfoldable pub audited_behind : Behind Change
audited_behind =
    behind 15 policy_first made_policy
    (behind 16 name_first PolicyGone
    (behind 17 (pair_first name_first enabled_first) (λ x. Enable x.0 x.1)
    (behind 18 fga_first made_fga
    (behind 19 (pair_first table_first name_first) (λ x. FgaGone x.0 x.1)
    (behind 20 (option_first stamp_first) Archive
    (behind 21 (number_first w32) Start
    no_other))))))

unfoldable pub change_behind : Behind Change
change_behind = below 5 named_behind (below 11 granted_behind (below 15 tabled_behind audited_behind))

unfoldable pub change_first : Front Change
change_first = tagged_first change_behind
