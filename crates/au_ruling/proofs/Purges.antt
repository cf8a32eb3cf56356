-- The moment of a purge, where it has one, isn't over the last moment.
use Rattle.std.proofs.Common.{◌≡◌, Bool, true, false, List, Option, Some, None, ap, sym, subst, arith}
use Rattle.std.specs.Prelude.{if◌then◌else◌, unwrap_or}
use Rattle.au_admin.specs.Deciding as administration
use Rattle.au_base.specs.declared.numbers.Stamp.{Stamp}
use Rattle.au_calls.specs.declared.requests.FgaParts.{FgaParts}
use Rattle.au_calls.specs.declared.rights.AuditRights.{AuditRights}
use Rattle.au_calls.specs.Archiving.{before_of, by_timestamp}
use Rattle.au_calls.specs.Arguments.{given, truth_in}
use Rattle.au_calls.specs.Calling.{call_decided}
use Rattle.au_calls.specs.FineGrained.{add_by, drop_by, parts_of, switch_by, target_of}
use Rattle.au_calls.specs.Settings.{AuditSetting}
use Rattle.au_entries.specs.declared.decision.Decision.{Decision}
use Rattle.au_entries.specs.declared.fine_grained.FgaName.{FgaName}
use Rattle.au_entries.specs.Replaying.{IsArchive}
use Rattle.au_ruling.specs.declared.kind.StatementKind.{StatementKind}
use Rattle.au_ruling.specs.declared.kind.StatementKind.TheVariants.{OnRows, Commit, Rollback, Definition, Administration}
use Rattle.au_ruling.specs.declared.ruling.Ruling.{Ruling}
use Rattle.au_ruling.specs.Rulings.{ComesAs, Ground}
use Rattle.au_ruling.specs.Sound.{IsSoundGround, IsTimelyPurge}
use Rattle.au_ruling.proofs.Changed.{defined_purge}
use Rattle.au_ruling.proofs.Once.{audit_setting_in, setting_in}
use Rattle.sql_ast.specs.declared.call.Argument.{Argument}
use Rattle.sql_ast.specs.declared.call.Parameter.TheVariants.{Enable}
use Rattle.sql_ast.specs.declared.call.Procedure.{Procedure}
use Rattle.sql_ast.specs.declared.call.Procedure.TheVariants as procedure
use Rattle.sql_ast.specs.declared.statement.Statement.{Statement}
use Rattle.sql_ast.specs.declared.statement.Statement.TheVariants as is

abbrev Purge : Type 0
Purge = Option (Option Stamp)

either : (broken : Bool) (purge : Purge) → IsTimelyPurge purge → IsTimelyPurge (if broken then None else purge)
either true purge timely = tt
either false purge timely = timely

by_purge : (decision : Decision) (purge : Purge) → decision.purge ≡ purge → IsTimelyPurge purge → IsTimelyPurge decision.purge
by_purge decision purge is timely = subst IsTimelyPurge (sym is) timely

added : (rights : AuditRights) (setting : AuditSetting) (target : Option FgaName) (parts : Option FgaParts) → IsTimelyPurge (add_by rights setting target parts).purge
added rights setting (Some target) (Some parts) = either _ None tt
added rights setting (Some target) None = either _ None tt
added rights setting None (Some parts) = either _ None tt
added rights setting None None = either _ None tt

dropped : (rights : AuditRights) (setting : AuditSetting) (target : Option FgaName) → IsTimelyPurge (drop_by rights setting target).purge
dropped rights setting (Some target) = either _ None tt
dropped rights setting None = either _ None tt

switched : (rights : AuditRights) (setting : AuditSetting) (target : Option FgaName) (on : Option Bool) → IsTimelyPurge (switch_by rights setting target on).purge
switched rights setting (Some target) (Some on) = either _ None tt
switched rights setting (Some target) None = either _ None tt
switched rights setting None (Some on) = either _ None tt
switched rights setting None None = either _ None tt

before_timely : (archive : Option Stamp) (by_time : Bool) → IsArchive archive → IsTimelyPurge (Some (before_of archive by_time))
before_timely None true lawful = omega arith
before_timely (Some stamp) true lawful = lawful
before_timely archive false lawful = tt

called : (rights : AuditRights) (setting : AuditSetting) (name : Procedure) (arguments : List Argument) → IsArchive setting.archive → IsTimelyPurge (call_decided rights setting name arguments).purge
called rights setting procedure.AddPolicy arguments lawful = added rights setting (target_of setting.setting.user arguments) (parts_of arguments)
called rights setting procedure.DropPolicy arguments lawful = dropped rights setting (target_of setting.setting.user arguments)
called rights setting procedure.EnablePolicy arguments lawful = switched rights setting (target_of setting.setting.user arguments) (truth_in (given arguments Enable))
called rights setting procedure.DisablePolicy arguments lawful = switched rights setting (target_of setting.setting.user arguments) (Some false)
called rights setting procedure.SetLastArchiveTimestamp arguments lawful = either _ None tt
called rights setting procedure.ClearLastArchiveTimestamp arguments lawful = either _ None tt
called rights setting procedure.CleanAuditTrail arguments lawful =
    let by_time = unwrap_or (by_timestamp arguments) true in either _ (Some (before_of setting.archive by_time)) (before_timely setting.archive by_time lawful)

administered_timely : (setting : AuditSetting) (x : Statement) (decision : Decision) → IsArchive setting.archive → administration.Decides setting x decision → IsTimelyPurge decision.purge
administered_timely setting (is.Select x) decision lawful decides = absurd decides
administered_timely setting (is.Count x) decision lawful decides = absurd decides
administered_timely setting (is.Insert x) decision lawful decides = absurd decides
administered_timely setting (is.Update x) decision lawful decides = absurd decides
administered_timely setting (is.Delete x) decision lawful decides = absurd decides
administered_timely setting is.Commit decision lawful decides = absurd decides
administered_timely setting is.Rollback decision lawful decides = absurd decides
administered_timely setting (is.CreateTable x) decision lawful decides = absurd decides
administered_timely setting (is.DropTable x) decision lawful decides = absurd decides
administered_timely setting (is.CreateUser x y) decision lawful decides = absurd decides
administered_timely setting (is.AlterUser x y) decision lawful decides = absurd decides
administered_timely setting (is.DropUser x) decision lawful decides = absurd decides
administered_timely setting (is.CreateRole x) decision lawful decides = absurd decides
administered_timely setting (is.DropRole x) decision lawful decides = absurd decides
administered_timely setting (is.Grant x) decision lawful decides = absurd decides
administered_timely setting (is.CreatePolicy x) decision lawful decides = by_purge decision _ (ap (λ d. d.purge) decides.2) (either _ None tt)
administered_timely setting (is.DropPolicy x) decision lawful decides = by_purge decision _ (ap (λ d. d.purge) decides.2) (either _ None tt)
administered_timely setting (is.Audit x) decision lawful decides = by_purge decision _ (ap (λ d. d.purge) decides.4) (either _ None tt)
administered_timely setting (is.Noaudit x y) decision lawful decides = by_purge decision _ (ap (λ d. d.purge) decides.4) (either _ None tt)
administered_timely setting (is.Call x) decision lawful decides = by_purge decision _ (ap (λ d. d.purge) decides.2) (called decides.0 setting x.procedure x.arguments lawful)

abbrev HasTimelyPurge : Ruling → Type 0
HasTimelyPurge ruling = IsTimelyPurge ruling.purge

pub timely_purge : (kind : StatementKind) (basis : Ground) (x : Statement) (ruling : Ruling) → IsSoundGround basis → ComesAs kind basis x ruling → IsTimelyPurge ruling.purge
timely_purge OnRows basis x ruling sound comes = subst HasTimelyPurge (sym comes.2) tt
timely_purge Commit basis x ruling sound comes = subst HasTimelyPurge (sym comes) tt
timely_purge Rollback basis x ruling sound comes = subst HasTimelyPurge (sym comes) tt
timely_purge Definition basis x ruling sound comes =
    subst HasTimelyPurge (sym comes.2) (by_purge comes.0 None (defined_purge (setting_in basis) x comes.0 comes.1) tt)
timely_purge Administration basis x ruling sound comes =
    subst HasTimelyPurge (sym comes.2) (administered_timely (audit_setting_in basis x) x comes.0 sound.kept.lawful.archive comes.1)
