-- How the calls of DBMS_AUDIT_MGMT are decided (PL/SQL Packages and Types Reference, "DBMS_AUDIT_MGMT"; the order of the rules
-- and their codes, and that a purge by a timestamp that isn't set removes nothing, are this project's profile).
use Rattle.std.specs.Prelude.{◌&&◌, ◌==◌, Bool, true, false, not, if◌then◌else◌, List, [], ◌∷◌, codes, Option, Some, None, is_none, unwrap_or}
use Rattle.std.specs.Str.{bytes_eq}
use Rattle.au_calls.specs.declared.rights.AuditRights.{AuditRights}
use Rattle.au_calls.specs.declared.rules.Effect.{Effect}
use Rattle.au_calls.specs.Arguments.{given, truth_in}
use Rattle.au_calls.specs.Rules.{changes_alone, decided}
use Rattle.au_calls.specs.Settings.{AuditSetting}
use Rattle.au_base.specs.Codes.{BAD_MANAGEMENT_ARGUMENT}
use Rattle.au_base.specs.declared.numbers.Stamp.{Stamp}
use Rattle.au_define.specs.Rules.{Rules}
use Rattle.au_entries.specs.declared.change.Change.{Change}
use Rattle.au_entries.specs.declared.change.Change.TheVariants.{Archive}
use Rattle.au_entries.specs.declared.decision.Decision.{Decision}
use Rattle.sql_ast.specs.declared.call.Argument.{Argument}
use Rattle.sql_ast.specs.declared.call.Parameter.TheVariants.{AuditTrailType, LastArchiveTime, UseLastArchTimestamp}
use Rattle.sql_ast.specs.declared.call.Value.{Value}
use Rattle.sql_ast.specs.declared.call.Value.TheVariants.{Constant, Moment, Now}

-- ---- the arguments

-- DBMS_AUDIT_MGMT.AUDIT_TRAIL_UNIFIED; any other type of trail isn't taken
abbrev pub is_unified : Option Value → Bool
is_unified (Some (Constant home name)) = bytes_eq home (codes "DBMS_AUDIT_MGMT") && bytes_eq name (codes "AUDIT_TRAIL_UNIFIED")
is_unified _ = false

-- the call is of another type of trail
abbrev pub is_other_trail : List Argument → Bool
is_other_trail arguments = not (is_unified (given arguments AuditTrailType))

-- a moment: SYSTIMESTAMP is the event's stamp; another value, NULL too, is of a wrong kind
abbrev pub moment_in : Stamp → Option Value → Option Stamp
moment_in stamp (Some Now) = Some stamp
moment_in stamp (Some (Moment moment)) = Some (record { 0 = moment })
moment_in stamp _ = None

-- the moment that the archive timestamp is set to
abbrev pub archive_time : AuditSetting → List Argument → Option Stamp
archive_time setting arguments = moment_in setting.stamp (given arguments LastArchiveTime)

-- whether the archive timestamp says which records are purged
abbrev pub by_timestamp : List Argument → Option Bool
by_timestamp arguments = truth_in (given arguments UseLastArchTimestamp)

-- ---- the effects

-- both are one archive timestamp, or neither is one
abbrev pub same_archive : Option Stamp → Option Stamp → Bool
same_archive None None = true
same_archive (Some a) (Some b) = a.0 == b.0
same_archive _ _ = false

-- the archive timestamp is a change, unless it is the one that stands
abbrev pub archiving : Option Stamp → Option Stamp → List Change
archiving standing archive = if same_archive standing archive then [] else Archive archive ∷ []

-- the moment before which records go: by the archive timestamp, and where none is set none is before moment 0; or all
abbrev pub before_of : Option Stamp → Bool → Option Stamp
before_of archive true = Some (unwrap_or archive (record { 0 = 0 }))
before_of archive false = None

-- the records before the moment are purged, or all
abbrev pub purging : Option Stamp → Effect
purging before = record { changes = []; purge = Some before; forgets = [] }

-- ---- the calls

-- SET_LAST_ARCHIVE_TIMESTAMP, behind the role: the unified trail, and a moment
abbrev pub set_rules : AuditSetting → List Argument → Rules
set_rules setting arguments =
    (is_other_trail arguments, BAD_MANAGEMENT_ARGUMENT) ∷ (is_none (archive_time setting arguments), BAD_MANAGEMENT_ARGUMENT) ∷ []

abbrev pub set_archive : AuditRights → AuditSetting → List Argument → Decision
set_archive rights setting arguments =
    decided (not rights.admin) (set_rules setting arguments) [] (changes_alone (archiving setting.archive (archive_time setting arguments)))

-- CLEAR_LAST_ARCHIVE_TIMESTAMP, behind the role: the unified trail
abbrev pub clear_rules : List Argument → Rules
clear_rules arguments = (is_other_trail arguments, BAD_MANAGEMENT_ARGUMENT) ∷ []

abbrev pub clear_archive : AuditRights → AuditSetting → List Argument → Decision
clear_archive rights setting arguments =
    decided (not rights.admin) (clear_rules arguments) [] (changes_alone (archiving setting.archive None))

-- CLEAN_AUDIT_TRAIL, behind the role: the unified trail, and whether the archive timestamp decides
abbrev pub clean_rules : List Argument → Rules
clean_rules arguments =
    (is_other_trail arguments, BAD_MANAGEMENT_ARGUMENT) ∷ (is_none (by_timestamp arguments), BAD_MANAGEMENT_ARGUMENT) ∷ []

abbrev pub clean_trail : AuditRights → AuditSetting → List Argument → Decision
clean_trail rights setting arguments =
    decided (not rights.admin) (clean_rules arguments) [] (purging (before_of setting.archive (unwrap_or (by_timestamp arguments) true)))
