-- The names and the texts of a statement on audit policies or a call, and how many parts it has.
use Rattle.std.specs.Prelude.{◌≤◌, ⊤, ℕ, IsUtf8, List, [], length, map, Option, Some, None, unwrap_or}
use Rattle.std.specs.List.{AllByRecursion}
use Rattle.au_admin.specs.Enabling.{users_of}
use Rattle.au_base.specs.Limits.{STATEMENT_BYTES}
use Rattle.au_base.specs.Naming.{IsName}
use Rattle.au_base.specs.declared.table.TableReference.{TableReference}
use Rattle.au_calls.specs.Written.{AreCallTexts, AreFgaSpelled, IsCallShort}
use Rattle.au_define.specs.Names.{IsTableNamed}
use Rattle.au_entries.specs.declared.kept.Kept.{Kept}
use Rattle.au_entries.specs.declared.policy.Enabled.{Enabled}
use Rattle.au_entries.specs.Imaging.{enablement_change}
use Rattle.rec_codec.specs.Changes.{IsChangeSpellable}
use Rattle.sql_ast.specs.declared.administration.ActionPart.{ActionPart}
use Rattle.sql_ast.specs.declared.administration.CreatePolicy.{CreatePolicy as NewPolicy}
use Rattle.sql_ast.specs.declared.administration.PolicyCondition.{PolicyCondition}
use Rattle.sql_ast.specs.declared.statement.Statement.{Statement}
use Rattle.sql_ast.specs.declared.statement.Statement.TheVariants.{CreatePolicy, DropPolicy, Audit, Noaudit, Call}

-- ---- what the types of the program have

abbrev pub IsPlaceNamed : Option TableReference → Type 0
IsPlaceNamed None = ⊤
IsPlaceNamed (Some table) = IsTableNamed table

-- the names of a part's table, where it has one, are names
abbrev pub IsPartNamed : ActionPart → Type 0
IsPartNamed part = IsPlaceNamed part.table

-- the text of a condition is UTF-8
abbrev pub IsConditionText : Option PolicyCondition → Type 0
IsConditionText None = ⊤
IsConditionText (Some condition) = IsUtf8 condition.text

abbrev pub IsPolicyNamed : NewPolicy → Type 0
IsPolicyNamed create =
    IsName create.policy × AllByRecursion IsPartNamed (unwrap_or create.actions []) × AllByRecursion IsName (unwrap_or create.roles []) × IsConditionText create.condition

-- each name in the statement is one, and each text is UTF-8, as the types of the program have it
abbrev pub IsNamed : Statement → Type 0
IsNamed (CreatePolicy create) = IsPolicyNamed create
IsNamed (DropPolicy policy) = IsName policy
IsNamed (Audit statement) = IsName statement.policy × AllByRecursion IsName (users_of statement.users)
IsNamed (Noaudit policy users) = IsName policy × AllByRecursion IsName (unwrap_or users [])
IsNamed (Call call) = AreCallTexts call
IsNamed _ = ⊤

-- ---- what a statement's text has room for

-- the text of a condition has no more bytes than that of a statement may have
abbrev pub IsConditionShort : Option PolicyCondition → Type 0
IsConditionShort None = ⊤
IsConditionShort (Some condition) = length condition.text ≤ STATEMENT_BYTES

-- a new policy has no more parts and no more roles than the text of a statement may have bytes, and a text in the statement has
-- no more bytes
abbrev pub IsShort : Statement → Type 0
IsShort (CreatePolicy create) =
    (length (unwrap_or create.actions []) ≤ STATEMENT_BYTES) × (length (unwrap_or create.roles []) ≤ STATEMENT_BYTES) × IsConditionShort create.condition
IsShort (Call call) = IsCallShort call
IsShort _ = ⊤

-- ---- what is kept

-- each enablement that is kept has a spelling, as the change that makes it so
abbrev pub AreEnabledSpelled : List (List ℕ × Enabled) → Type 0
AreEnabledSpelled enabled = AllByRecursion IsChangeSpellable (map enablement_change enabled)

-- the enablements and the fine-grained policies that are kept have a spelling
abbrev pub IsAuditSpelled : Kept → Type 0
IsAuditSpelled kept = AreEnabledSpelled kept.enabled × AreFgaSpelled kept.fga
