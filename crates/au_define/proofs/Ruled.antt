-- The rules of each statement, by name: those up to the one on rights, and the others.
use Rattle.std.proofs.Common.{Bool, not, ◌&&◌, List, [], ◌∷◌, ℕ, length}
use Rattle.std.specs.Str.{bytes_eq}
use Rattle.au_base.specs.BuiltIn.{dual, sys, trail}
use Rattle.au_base.specs.Codes.{LOCKED, NO_SUCH_ROLE, NO_SUCH_TABLE, NO_SUCH_USER, PRIVILEGE_MISSING, ROLE_NAME_USED, TOO_MANY_OBJECTS, TRAIL_READ_ONLY, USER_CONNECTED, USER_NAME_USED, USER_OWNS_TABLES}
use Rattle.au_base.specs.Sameness.{same_table}
use Rattle.au_base.specs.declared.code.Code.{Code}
use Rattle.au_base.specs.declared.table.TableName.{TableName}
use Rattle.au_define.specs.declared.creating.Creating.{Creating}
use Rattle.au_define.specs.Roles.{has_no_room, is_audit_role}
use Rattle.au_define.specs.Rules.{Rules}
use Rattle.au_define.specs.Settings.{Setting, has_role, has_table, has_user, is_connected, is_full, is_taken, owns_table}
use Rattle.au_define.specs.Tables.{is_changed, is_own, may_not_create}

abbrev pub needs : Bool → Rules
needs held = (not held, PRIVILEGE_MISSING) ∷ []

abbrev pub for_new_user : Setting → List ℕ → Rules
for_new_user setting name = (is_taken setting name, USER_NAME_USED) ∷ (is_full (length setting.users), TOO_MANY_OBJECTS) ∷ []

abbrev pub to_alter : Bool → Setting → List ℕ → Rules
to_alter held setting name = (not (bytes_eq name setting.user) && not held, PRIVILEGE_MISSING) ∷ []

abbrev pub for_user : Setting → List ℕ → Rules
for_user setting name = (not (has_user setting name), NO_SUCH_USER) ∷ []

abbrev pub for_user_gone : Setting → List ℕ → Rules
for_user_gone setting name =
    (bytes_eq name sys, PRIVILEGE_MISSING) ∷ (not (has_user setting name), NO_SUCH_USER)
    ∷ (is_connected setting name, USER_CONNECTED) ∷ (owns_table setting name, USER_OWNS_TABLES) ∷ []

abbrev pub for_new_role : Setting → List ℕ → Rules
for_new_role setting name = (is_taken setting name, ROLE_NAME_USED) ∷ (has_no_room setting, TOO_MANY_OBJECTS) ∷ []

abbrev pub to_drop_role : Bool → Bool → Setting → List ℕ → Rules
to_drop_role administered held setting name =
    (not (has_role setting name), NO_SUCH_ROLE) ∷ (is_audit_role name, PRIVILEGE_MISSING) ∷ (not administered && not held, PRIVILEGE_MISSING) ∷ []

abbrev pub to_create : Creating → Setting → TableName → Rules
to_create held setting table = (may_not_create held setting table, PRIVILEGE_MISSING) ∷ []

abbrev pub to_drop_table : Bool → Code → Setting → TableName → Rules
to_drop_table held refusal setting table =
    (same_table table trail, TRAIL_READ_ONLY) ∷ (same_table table dual, PRIVILEGE_MISSING)
    ∷ (not (has_table setting table), NO_SUCH_TABLE) ∷ (not (is_own setting table) && not held, refusal) ∷ []

abbrev pub for_table_gone : Setting → TableName → Rules
for_table_gone setting table = (is_changed setting table, LOCKED) ∷ []
