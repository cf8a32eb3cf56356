-- The changes of calls of packages go on from what is kept.
use Rattle.std.proofs.Common.{◌≡◌, ◌≤◌, ℕ, Bool, true, false, not, ◌||◌, List, [], ◌∷◌, Option, Some, None, length, refl, sym, ap₂, subst}
use Rattle.std.specs.Prelude.{if◌then◌else◌, IsTrue, option_map, unwrap_or}
use Rattle.std.specs.List.{Contains}
use Rattle.std.specs.Str.{bytes_eq}
use Rattle.std.proofs.lemmas.Bool.{and_parts, not-false, or_parts}
use Rattle.std.proofs.lemmas.Slice.Eq.{bytes_eq-Decides}
use Rattle.au_calls.specs.declared.requests.FgaParts.{FgaParts}
use Rattle.au_calls.specs.declared.rights.AuditRights.{AuditRights}
use Rattle.au_calls.specs.declared.rules.Effect.{Effect}
use Rattle.au_calls.specs.Archiving.{archive_time, archiving, before_of, by_timestamp, clean_rules, clear_rules, moment_in, purging, same_archive, set_rules}
use Rattle.au_calls.specs.Arguments.{given, truth_in}
use Rattle.au_calls.specs.Calling.{DecidesCall, IsCallRead, IsCallTimely, call_decided}
use Rattle.au_calls.specs.FineGrained.{add_by, add_rules, drop_by, fga_found, has_fga, has_unknown, is_so, new_fga, on_there, parts_of, switch_by, switching, target_of, there_rules, unread, unread_rules, with_enabled}
use Rattle.au_calls.specs.Going.{IsReadAs}
use Rattle.au_calls.specs.Reading.{is_bad, is_wrong}
use Rattle.au_calls.specs.Rules.{changes_alone, decided}
use Rattle.au_calls.specs.Settings.{AuditSetting, setting_of}
use Rattle.au_calls.proofs.Members.{all_at, any_from, found}
use Rattle.au_base.specs.Limits.{LAST_MOMENT}
use Rattle.au_base.specs.Sameness.{same_table}
use Rattle.au_base.specs.declared.numbers.ClientNo.{ClientNo}
use Rattle.au_base.specs.declared.numbers.Stamp.{Stamp}
use Rattle.au_base.specs.declared.privilege.Privilege.{Privilege}
use Rattle.au_base.specs.declared.table.TableName.{TableName}
use Rattle.au_define.specs.Rules.{Rules, is_broken}
use Rattle.au_define.specs.Settings.{is_full}
use Rattle.au_entries.specs.declared.change.Change.{Change}
use Rattle.au_entries.specs.declared.change.Change.TheVariants as change
use Rattle.au_entries.specs.declared.decision.Busy.{Busy}
use Rattle.au_entries.specs.declared.decision.Decision.{Decision}
use Rattle.au_entries.specs.declared.decision.ReadCondition.{ReadCondition}
use Rattle.au_entries.specs.declared.fine_grained.FgaName.{FgaName}
use Rattle.au_entries.specs.declared.fine_grained.FgaPolicy.{FgaPolicy}
use Rattle.au_entries.specs.declared.kept.Kept.{Kept}
use Rattle.au_entries.specs.declared.policy.Condition.{Condition}
use Rattle.au_entries.specs.declared.table.Table.{Table}
use Rattle.au_entries.specs.Changing.{is_fga}
use Rattle.au_entries.specs.Lawful.{IsFgaTruth, IsLawful}
use Rattle.au_entries.specs.Replaying.{AllGoOn, Conditions, GoesOn, IsArchive, IsFgaCondition, IsKeptTable, has_table}
use Rattle.sql_ast.specs.declared.call.Argument.{Argument}
use Rattle.sql_ast.specs.declared.call.Call.{Call}
use Rattle.sql_ast.specs.declared.call.Parameter.TheVariants.{Enable, LastArchiveTime}
use Rattle.sql_ast.specs.declared.call.Procedure.{Procedure}
use Rattle.sql_ast.specs.declared.call.Procedure.TheVariants as procedure
use Rattle.sql_ast.specs.declared.call.Value.{Value}
use Rattle.sql_ast.specs.declared.call.Value.TheVariants as value

-- the second rule isn't broken, and so on
second : (a b : Bool) → (a || b) ≡ false → b ≡ false
second a b is = (or_parts a b is).1

first : (a b : Bool) → (a || b) ≡ false → a ≡ false
first a b is = (or_parts a b is).0

-- of six rules none of which is broken the first, the fourth and the fifth aren't
of_six : (a b c d e f : Bool) → (a || (b || (c || (d || (e || (f || false)))))) ≡ false → (a ≡ false) × (d ≡ false) × (e ≡ false)
of_six a b c d e f is =
    let behind = second c (d || (e || (f || false))) (second b _ (second a _ is)) in
    (first a _ is, first d (e || (f || false)) behind, first e (f || false) (second d _ behind))

module _ (conditions : Conditions) (kept : Kept) where
  abbrev Goes : List Change → Type 0
  Goes changes = AllGoOn conditions false kept changes

  -- ---- a decision's changes go on where they do once no rule is broken

  at_test : (broken : Bool) (changes : List Change) → (broken ≡ false → Goes changes) → Goes (if broken then [] else changes)
  at_test true changes goes = tt
  at_test false changes goes = goes refl

  by_rules : (barred : Bool) (others : Rules) (needed : List Privilege) (effect : Effect) → ((barred || is_broken others) ≡ false → Goes effect.changes)
      → Goes (decided barred others needed effect).changes
  by_rules barred others needed effect goes = at_test (barred || is_broken others) effect.changes goes

  of_answer : (answer decision : Decision) → decision ≡ answer → Goes answer.changes → Goes decision.changes
  of_answer answer decision is goes = subst (λ (d : Decision). Goes d.changes) (sym is) goes

  no_reading : (rights : AuditRights) → Goes (unread rights).changes
  no_reading rights = by_rules (not rights.admin) unread_rules [] (changes_alone []) (λ clear. tt)

  -- ---- the table of a name

  same_name : (a b : TableName) → same_table a b ≡ true → a ≡ b
  same_name a b is =
      let parts = and_parts (bytes_eq a.owner b.owner) (bytes_eq a.name b.name) is in
      ap₂ (λ (owner name : List ℕ). record { owner = owner; name = name }) ((bytes_eq-Decides a.owner b.owner).0 parts.0) ((bytes_eq-Decides a.name b.name).0 parts.1)

  table_of : (name : TableName) → has_table kept name ≡ true → (table : Table) × IsKeptTable kept name table
  table_of name is =
      let it = any_from (λ (table : Table). same_table table.name name) kept.tables is in
      (it.0, (it.1, same_name it.0.name name it.2))

  module _ (lawful : IsLawful conditions kept) (user : List ℕ) (client : ClientNo) (busy : Busy) (stamp : Stamp) (read : ReadCondition) where
    abbrev it : AuditSetting
    it = setting_of kept user client busy stamp read

    -- ---- fine-grained policies

    condition_goes : (table : Table) (condition : Option (List ℕ)) → is_bad read ≡ false → is_wrong read ≡ false → IsReadAs conditions (Some table) condition read → IsFgaCondition conditions table condition
    condition_goes table None good right reads = tt
    condition_goes table (Some text) good right reads = reads good right

    add_goes : (target : FgaName) (parts : FgaParts) → ((table : Table) → IsKeptTable kept target.table table → IsReadAs conditions (Some table) parts.condition read) → (barred : Bool)
        → (barred || is_broken (add_rules it target parts)) ≡ false → Goes (new_fga target parts ∷ [])
    add_goes target parts reads barred clear =
        let rules = of_six (not (has_table kept target.table)) (has_fga it target) (has_unknown it target.table parts.columns) (is_bad read) (is_wrong read) (is_full (length kept.fga)) (second barred _ clear) in
        let there = table_of target.table (not-false (has_table kept target.table) rules.0) in
        ((there.0, there.1, condition_goes there.0 parts.condition rules.1 rules.2 (reads there.0 there.1)), tt)

    added : (rights : AuditRights) (target : Option FgaName) (parts : Option FgaParts)
        → ((t : FgaName) (p : FgaParts) (table : Table) → target ≡ Some t → parts ≡ Some p → IsKeptTable kept t.table table → IsReadAs conditions (Some table) p.condition read)
        → Goes (add_by rights it target parts).changes
    added rights (Some target) (Some parts) reads =
        by_rules (not rights.admin) (add_rules it target parts) [] (changes_alone (new_fga target parts ∷ []))
        (add_goes target parts (λ table there. reads target parts table refl refl there) (not rights.admin))
    added rights (Some target) None reads = no_reading rights
    added rights None (Some parts) reads = no_reading rights
    added rights None None reads = no_reading rights

    on_goes : (rights : AuditRights) (target : FgaName) (changes : List Change) → (has_fga it target ≡ true → Goes changes) → Goes (on_there rights it target changes).changes
    on_goes rights target changes goes =
        by_rules (not rights.admin) (there_rules it target) [] (changes_alone changes)
        (λ clear. goes (not-false (has_fga it target) (first _ _ (second _ _ (second (not rights.admin) _ clear)))))

    dropped : (rights : AuditRights) (target : Option FgaName) → Goes (drop_by rights it target).changes
    dropped rights (Some target) = on_goes rights target (change.FgaGone target.table target.policy ∷ []) (λ has. (has, tt))
    dropped rights None = no_reading rights

    stood : (table : Table) (name : TableName) (condition : Option Condition) → IsKeptTable kept name table → IsFgaTruth conditions kept name condition
        → IsFgaCondition conditions table (option_map (λ condition. condition.text) condition)
    stood table name None there truth = tt
    stood table name (Some condition) there (is, truth) =
        (is.0, subst (λ tree. IsTrue (conditions.is_truth (Some table) tree)) is.1 (truth table there))

    switch_goes : (on : Bool) (target : FgaName) (policy : Option FgaPolicy) → fga_found it target ≡ policy → Goes (switching on policy)
    switch_goes on target None is = tt
    switch_goes on target (Some policy) is =
        let has : Contains kept.fga policy = found (is_fga target.table target.policy) kept.fga policy is in
        let there = table_of policy.name.table (all_at (λ (p : FgaPolicy). IsTrue (has_table kept p.name.table)) kept.fga lawful.founded.fga policy has) in
        let truth = all_at (λ (p : FgaPolicy). IsFgaTruth conditions kept p.name.table p.condition) kept.fga lawful.truths.fga policy has in
        at_so (is_so on policy) (with_enabled on policy) (there.0, there.1, stood there.0 policy.name.table policy.condition there.1 truth)
      where
        at_so : (so : Bool) (c : Change) → GoesOn conditions false kept c → Goes (if so then [] else c ∷ [])
        at_so true c goes = tt
        at_so false c goes = (goes, tt)

    switched : (rights : AuditRights) (target : Option FgaName) (on : Option Bool) → Goes (switch_by rights it target on).changes
    switched rights (Some target) (Some on) = on_goes rights target (switching on (fga_found it target)) (λ has. switch_goes on target (fga_found it target) refl)
    switched rights (Some target) None = no_reading rights
    switched rights None (Some on) = no_reading rights
    switched rights None None = no_reading rights

    -- ---- the archive timestamp

    archive_goes : (same : Bool) (archive : Option Stamp) → IsArchive archive → Goes (if same then [] else change.Archive archive ∷ [])
    archive_goes true archive is = tt
    archive_goes false archive is = (is, tt)

    moment_goes : stamp.0 ≤ LAST_MOMENT → (given : Option Value) → ((moment : ℕ) → given ≡ Some (value.Moment moment) → moment ≤ LAST_MOMENT) → IsArchive (moment_in stamp given)
    moment_goes early None timely = tt
    moment_goes early (Some value.Now) timely = early
    moment_goes early (Some (value.Moment moment)) timely = timely moment refl
    moment_goes early (Some (value.Literal text)) timely = tt
    moment_goes early (Some (value.Number number)) timely = tt
    moment_goes early (Some value.Null) timely = tt
    moment_goes early (Some value.True) timely = tt
    moment_goes early (Some value.False) timely = tt
    moment_goes early (Some (value.Constant home name)) timely = tt

    called : stamp.0 ≤ LAST_MOMENT → (rights : AuditRights) (name : Procedure) (arguments : List Argument)
        → ((moment : ℕ) → given arguments LastArchiveTime ≡ Some (value.Moment moment) → moment ≤ LAST_MOMENT)
        → (name ≡ procedure.AddPolicy → (target : FgaName) (parts : FgaParts) (table : Table) → target_of user arguments ≡ Some target → parts_of arguments ≡ Some parts → IsKeptTable kept target.table table → IsReadAs conditions (Some table) parts.condition read)
        → Goes (call_decided rights it name arguments).changes
    called early rights procedure.AddPolicy arguments timely reads = added rights (target_of user arguments) (parts_of arguments) (reads refl)
    called early rights procedure.DropPolicy arguments timely reads = dropped rights (target_of user arguments)
    called early rights procedure.EnablePolicy arguments timely reads = switched rights (target_of user arguments) (truth_in (given arguments Enable))
    called early rights procedure.DisablePolicy arguments timely reads = switched rights (target_of user arguments) (Some false)
    called early rights procedure.SetLastArchiveTimestamp arguments timely reads =
        by_rules (not rights.admin) (set_rules it arguments) [] (changes_alone (archiving kept.archive (archive_time it arguments)))
        (λ clear. archive_goes (same_archive kept.archive (archive_time it arguments)) (archive_time it arguments) (moment_goes early (given arguments LastArchiveTime) timely))
    called early rights procedure.ClearLastArchiveTimestamp arguments timely reads =
        by_rules (not rights.admin) (clear_rules arguments) [] (changes_alone (archiving kept.archive None)) (λ clear. archive_goes (same_archive kept.archive None) None tt)
    called early rights procedure.CleanAuditTrail arguments timely reads =
        by_rules (not rights.admin) (clean_rules arguments) [] (purging (before_of kept.archive (unwrap_or (by_timestamp arguments) true))) (λ clear. tt)

pub goes : (conditions : Conditions) (kept : Kept) (user : List ℕ) (client : ClientNo) (busy : Busy) (stamp : Stamp) (read : ReadCondition) (call : Call) (decision : Decision)
    → IsLawful conditions kept → stamp.0 ≤ LAST_MOMENT → IsCallTimely call → IsCallRead conditions kept user call read
    → DecidesCall (setting_of kept user client busy stamp read) call decision → AllGoOn conditions false kept decision.changes
goes conditions kept user client busy stamp read call decision lawful early timely reads (rights, are, is) =
    of_answer conditions kept (call_decided rights (setting_of kept user client busy stamp read) call.procedure call.arguments) decision is
    (called conditions kept lawful user client busy stamp read early rights call.procedure call.arguments timely reads)
