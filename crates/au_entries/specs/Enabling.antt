-- What AUDIT and NOAUDIT make of an enablement (SQL Language Reference, "AUDIT (Unified Auditing)" and "NOAUDIT (Unified
-- Auditing)"; what a repeated statement adds or replaces, and what is refused, is this project's profile).
use Rattle.std.specs.Prelude.{ℕ, Bool, true, false, not, ◌||◌, List, [], ◌∷◌, ◌++◌, map, filter, if◌then◌else◌, Option, Some, None, Result, Ok, Err}
use Rattle.std.specs.List.{list_any}
use Rattle.std.specs.Str.{bytes_eq}
use Rattle.au_base.specs.declared.code.Code.{Code}
use Rattle.au_base.specs.Codes.{OTHER_MODE, NOT_ENABLED_SO}
use Rattle.au_entries.specs.declared.policy.Enabled.{Enabled}
use Rattle.au_entries.specs.declared.policy.Enabled.TheVariants.{Off, By, Except}
use Rattle.au_entries.specs.declared.policy.Outcomes.{Outcomes}
use Rattle.sql_ast.specs.declared.administration.AuditedUsers.{AuditedUsers}
use Rattle.sql_ast.specs.declared.administration.AuditedUsers.TheVariants as named
use Rattle.sql_ast.specs.declared.administration.Whenever.{Whenever}
use Rattle.sql_ast.specs.declared.administration.Whenever.TheVariants.{Successful, NotSuccessful}

-- ---- enablements

-- the policy is enabled for somebody: one that is enabled for listed users isn't where none is listed
abbrev pub is_on : Enabled → Bool
is_on Off = false
is_on (By []) = false
is_on (By (user ∷ users)) = true
is_on (Except users outcomes) = true

-- a policy that is enabled for listed users is enabled for nobody where none is listed
abbrev pub for_users : List (List ℕ × Outcomes) → Enabled
for_users [] = Off
for_users (user ∷ users) = By (user ∷ users)

-- ---- outcomes

-- what a statement without WHENEVER names
abbrev pub both_outcomes : Outcomes
both_outcomes = record { success = true; failure = true }

-- what WHENEVER SUCCESSFUL, WHENEVER NOT SUCCESSFUL and a statement without WHENEVER name
abbrev pub outcomes_named : Option Whenever → Outcomes
outcomes_named None = both_outcomes
outcomes_named (Some Successful) = record { success = true; failure = false }
outcomes_named (Some NotSuccessful) = record { success = false; failure = true }

-- the outcomes that stand and those that are added
abbrev pub with_outcomes : Outcomes → Outcomes → Outcomes
with_outcomes added standing = record { success = standing.success || added.success; failure = standing.failure || added.failure }

-- ---- names

-- the name is among the names
abbrev pub is_among : List (List ℕ) → List ℕ → Bool
is_among names name = list_any (bytes_eq name) names

-- the names as they are first written, each once
abbrev pub each_once : List (List ℕ) → List (List ℕ)
each_once [] = []
each_once (name ∷ names) = name ∷ filter (λ other. not (bytes_eq other name)) (each_once names)

-- ---- AUDIT

-- AUDIT without BY: the policy is enabled for all users but these. They replace the users that were excepted, and the
-- outcomes are added to those that stand. A policy that is enabled for listed users is refused.
abbrev pub audited_except : List (List ℕ) → Outcomes → Enabled → Result Enabled Code
audited_except users outcomes Off = Ok (Except users outcomes)
audited_except users outcomes (By listed) = Err OTHER_MODE
audited_except users outcomes (Except excepted standing) = Ok (Except users (with_outcomes outcomes standing))

-- a listed user keeps its place, and gets the outcomes where it is among these users
abbrev pub widened : List (List ℕ) → Outcomes → List ℕ × Outcomes → List ℕ × Outcomes
widened users outcomes listed = if is_among users listed.0 then (listed.0, with_outcomes outcomes listed.1) else listed

-- the user is listed
abbrev pub is_listed : List (List ℕ × Outcomes) → List ℕ → Bool
is_listed listed user = list_any (λ entry. bytes_eq user entry.0) listed

-- the users of these who aren't listed, as they are first written, each once
abbrev pub newly_listed : List (List ℕ × Outcomes) → List (List ℕ) → List (List ℕ)
newly_listed listed users = filter (λ user. not (is_listed listed user)) (each_once users)

-- AUDIT BY: users who are listed get these outcomes beside their own; users who aren't are listed behind them with these
-- outcomes alone. Other users keep theirs.
abbrev pub with_users : List (List ℕ) → Outcomes → List (List ℕ × Outcomes) → List (List ℕ × Outcomes)
with_users users outcomes listed = map (widened users outcomes) listed ++ map (λ user. (user, outcomes)) (newly_listed listed users)

-- AUDIT BY of a policy that is enabled for all users but some is refused
abbrev pub audited_by : List (List ℕ) → Outcomes → Enabled → Result Enabled Code
audited_by users outcomes Off = Ok (for_users (with_users users outcomes []))
audited_by users outcomes (By listed) = Ok (for_users (with_users users outcomes listed))
audited_by users outcomes (Except excepted standing) = Err OTHER_MODE

-- what AUDIT makes of an enablement, or the code by which it is refused
abbrev pub audit_made : Option AuditedUsers → Option Whenever → Enabled → Result Enabled Code
audit_made None whenever enabled = audited_except [] (outcomes_named whenever) enabled
audit_made (Some (named.Except users)) whenever enabled = audited_except (each_once users) (outcomes_named whenever) enabled
audit_made (Some (named.By users)) whenever enabled = audited_by users (outcomes_named whenever) enabled

-- AUDIT without any clause: for all users, at both outcomes
abbrev pub audited : Enabled → Result Enabled Code
audited enabled = audited_except [] both_outcomes enabled

-- ---- NOAUDIT

-- NOAUDIT without BY: a policy that is enabled for all users but some is enabled for nobody
abbrev pub noaudited : Enabled → Result Enabled Code
noaudited Off = Err NOT_ENABLED_SO
noaudited (By listed) = Err NOT_ENABLED_SO
noaudited (Except excepted standing) = Ok Off

-- the listed users but these
abbrev pub without_users : List (List ℕ) → List (List ℕ × Outcomes) → List (List ℕ × Outcomes)
without_users users listed = filter (λ entry. not (is_among users entry.0)) listed

-- NOAUDIT BY takes the users out of those that are listed; a user who isn't listed changes nothing
abbrev pub noaudited_by : List (List ℕ) → Enabled → Result Enabled Code
noaudited_by users Off = Err NOT_ENABLED_SO
noaudited_by users (By listed) = Ok (for_users (without_users users listed))
noaudited_by users (Except excepted standing) = Err NOT_ENABLED_SO

-- what NOAUDIT makes of an enablement, or the code by which it is refused
abbrev pub noaudit_made : Option (List (List ℕ)) → Enabled → Result Enabled Code
noaudit_made None enabled = noaudited enabled
noaudit_made (Some users) enabled = noaudited_by users enabled
