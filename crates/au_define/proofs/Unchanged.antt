-- A statement that is refused changes nothing.
use Rattle.std.proofs.Common.{◌≡◌, ◌≢◌, ◌∙◌, Bool, true, false, List, [], ◌∷◌, ◌++◌, inl, inr, map, refl, ap}
use Rattle.std.specs.Prelude.{if◌then◌else◌}
use Rattle.au_base.specs.BuiltIn.{resolved_table}
use Rattle.au_base.specs.Codes.{DONE}
use Rattle.au_base.specs.FirstCode.{first_code}
use Rattle.au_base.specs.declared.code.Code.{Code}
use Rattle.au_base.specs.declared.grant.GrantStatement.{GrantStatement}
use Rattle.au_base.specs.declared.grant.GrantStatement.TheVariants as S
use Rattle.au_base.specs.declared.privilege.Privilege.{Privilege}
use Rattle.au_define.specs.Deciding.{Decides}
use Rattle.au_define.specs.Granting.{change_of, known_of}
use Rattle.au_define.specs.Rules.{Rules, decided, is_broken}
use Rattle.au_define.specs.Settings.{Setting}
use Rattle.au_define.proofs.Ruled.{for_new_role, for_new_user, for_table_gone, for_user, for_user_gone, needs, to_alter, to_create, to_drop_role, to_drop_table}
use Rattle.au_define.specs.Tables.{creating_rules}
use Rattle.au_entries.specs.declared.change.Change.{Change}
use Rattle.au_entries.specs.declared.decision.Decision.{Decision}
use Rattle.au_grants.specs.declared.change.GrantChange.{GrantChange}
use Rattle.au_grants.specs.Rights.{Grants, Name}
use Rattle.au_priv.specs.declared.decided.Decided.{Decided}
use Rattle.au_priv.specs.declared.decided.Known.{Known}
use Rattle.au_priv.specs.Deciding.{Decides as DecidesRights, DecidesPairs}
use Rattle.au_priv.specs.Pairs.{Pair}
use Rattle.sql_ast.specs.declared.statement.Statement.{Statement}
use Rattle.sql_ast.specs.declared.statement.Statement.TheVariants.{Select, Count, Insert, Update, Delete, Commit, Rollback, CreateTable, DropTable, CreateUser, AlterUser, DropUser, CreateRole, DropRole, Grant, CreatePolicy, DropPolicy, Audit, Noaudit, Call}

unbroken : (rules : Rules) → is_broken rules ≡ false → first_code rules ≡ DONE
unbroken [] is = refl
unbroken ((true, code) ∷ rules) is = absurd (let e : true ≡ false = is in cc)
unbroken ((false, code) ∷ rules) is = unbroken rules is

nothing_if : (broken : Bool) (changes : List Change) → ((broken ≡ false) → ⊥) → (if broken then [] else changes) ≡ []
nothing_if true changes isnt = refl
nothing_if false changes isnt = absurd (isnt refl)

pub by_rules : (rights others : Rules) (needed : List Privilege) (changes : List Change) (decision : Decision)
    → decision ≡ decided rights others needed changes → decision.code ≢ DONE → decision.changes ≡ []
by_rules rights others needed changes decision is refused =
    ap (λ (d : Decision). d.changes) is
    ∙ nothing_if (is_broken (rights ++ others)) changes (λ clear. refused (ap (λ (d : Decision). d.code) is ∙ unbroken (rights ++ others) clear))

-- ---- GRANT and REVOKE

no_pairs : (grants : Grants) (known : Known) (grantees : List Name) (pairs : List Pair) (code : Code) (changes : List GrantChange) → DecidesPairs grants known grantees pairs code changes → code ≢ DONE → changes ≡ []
no_pairs grants known grantees pairs code changes (inl refuses) refused = refuses.1
no_pairs grants known grantees pairs code changes (inr (inl refuses)) refused = refuses.2
no_pairs grants known grantees pairs code changes (inr (inr passes)) refused = absurd (refused passes.2)

no_grants : (setting : Setting) (statement : GrantStatement) (made : Decided) → DecidesRights setting.grants (known_of setting) setting.user statement made → made.code ≢ DONE → made.grants ≡ []
no_grants setting (S.Grant rights grantees admin) made (inl refuses) refused = refuses.2
no_grants setting (S.Grant rights grantees admin) made (inr goes) refused = no_pairs setting.grants (known_of setting) _ _ _ _ goes.2 refused
no_grants setting (S.Revoke rights grantees) made (inl refuses) refused = refuses.2
no_grants setting (S.Revoke rights grantees) made (inr goes) refused = no_pairs setting.grants (known_of setting) _ _ _ _ goes.2 refused
no_grants setting (S.GrantObject rights table grantees) made (inl refuses) refused = refuses.2
no_grants setting (S.GrantObject rights table grantees) made (inr goes) refused = no_pairs setting.grants (known_of setting) _ _ _ _ goes.2 refused
no_grants setting (S.RevokeObject rights table grantees) made (inl refuses) refused = refuses.2
no_grants setting (S.RevokeObject rights table grantees) made (inr goes) refused = no_pairs setting.grants (known_of setting) _ _ _ _ goes.2 refused

pub unchanged : (setting : Setting) (statement : Statement) (decision : Decision) → Decides setting statement decision → decision.code ≢ DONE → decision.changes ≡ []
unchanged setting (CreateTable create) decision (held, own, any, is) refused = by_rules (to_create held setting (resolved_table setting.user create.table)) (creating_rules setting (resolved_table setting.user create.table) create.elements) _ _ decision is refused
unchanged setting (DropTable table) decision (held, code, tells, refuses, is) refused = by_rules (to_drop_table held code setting (resolved_table setting.user table)) (for_table_gone setting (resolved_table setting.user table)) _ _ decision is refused
unchanged setting (CreateUser user password) decision (held, tells, is) refused = by_rules (needs held) (for_new_user setting user) _ _ decision is refused
unchanged setting (AlterUser user password) decision (held, tells, is) refused = by_rules (to_alter held setting user) (for_user setting user) _ _ decision is refused
unchanged setting (DropUser user) decision (held, tells, is) refused = by_rules (needs held) (for_user_gone setting user) _ _ decision is refused
unchanged setting (CreateRole role) decision (held, tells, is) refused = by_rules (needs held) (for_new_role setting role) _ _ decision is refused
unchanged setting (DropRole role) decision (admin, held, tells, told, is) refused = by_rules (to_drop_role admin held setting role) [] _ _ decision is refused
unchanged setting (Grant grant) decision (made, decides, is) refused =
    ap (λ (d : Decision). d.changes) is
    ∙ ap (λ (changes : List GrantChange). map change_of changes) (no_grants setting grant made decides (λ done. refused (ap (λ (d : Decision). d.code) is ∙ done)))
unchanged setting (Select x) decision never refused = absurd never
unchanged setting (Count x) decision never refused = absurd never
unchanged setting (Insert x) decision never refused = absurd never
unchanged setting (Update x) decision never refused = absurd never
unchanged setting (Delete x) decision never refused = absurd never
unchanged setting Commit decision never refused = absurd never
unchanged setting Rollback decision never refused = absurd never
unchanged setting (CreatePolicy x) decision never refused = absurd never
unchanged setting (DropPolicy x) decision never refused = absurd never
unchanged setting (Audit x) decision never refused = absurd never
unchanged setting (Noaudit x y) decision never refused = absurd never
unchanged setting (Call x) decision never refused = absurd never
