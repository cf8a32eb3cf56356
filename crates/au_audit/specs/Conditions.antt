-- When the condition of an audit policy holds, which results of conditions are kept, and which policies demand a record
-- (SQL Language Reference, "CREATE AUDIT POLICY (Unified Auditing)", "EVALUATE PER"; Database Security Guide, "Auditing
-- Activities with Unified Audit Policies"; what is kept, and that unknown counts as false, is this project's profile). The
-- truth of a condition now, by the event's user, session and stamp, is an argument.
use Rattle.std.specs.Prelude.{ℕ, Bool, true, false, not, ◌&&◌, ◌||◌, ◌==◌, if◌then◌else◌, List, [], ◌∷◌, map, filter, find, Option, Some, None, is_none, option_map, unwrap_or}
use Rattle.std.specs.List.{list_any}
use Rattle.std.specs.Str.{bytes_eq}
use Rattle.au_base.specs.declared.code.Code.{Code}
use Rattle.au_base.specs.declared.numbers.SessionNo.{SessionNo}
use Rattle.au_base.specs.declared.truth.Truth.{Truth}
use Rattle.au_base.specs.declared.truth.Truth.TheVariants.{No, Unknown, Yes}
use Rattle.au_base.specs.Order.{name_before, placed}
use Rattle.au_entries.specs.declared.facts.Demanded.{Demanded}
use Rattle.au_entries.specs.declared.facts.Facts.{Facts}
use Rattle.au_entries.specs.declared.policy.AuditPolicy.{AuditPolicy}
use Rattle.au_entries.specs.declared.policy.Condition.{Condition}
use Rattle.au_entries.specs.declared.policy.Enabled.{Enabled}
use Rattle.au_entries.specs.declared.policy.Evaluate.{Evaluate}
use Rattle.au_entries.specs.declared.policy.Evaluate.TheVariants.{Statement, Session, Instance}
use Rattle.au_entries.specs.declared.results.KeptResults.{KeptResults}
use Rattle.au_entries.specs.Demand.{demanded, is_enabled_in}
use Rattle.au_entries.specs.Matching.{parts_match}
use Rattle.au_grants.specs.declared.grants.Grants.{Grants}
use Rattle.sql_ast.specs.declared.expression.Expr.{Expr}

-- a result of a condition, with the name of its policy
abbrev pub Result : Type 0
Result = List ℕ × Bool

-- the truth is Yes; unknown isn't
abbrev pub is_yes : Truth → Bool
is_yes No = false
is_yes Unknown = false
is_yes Yes = true

-- ---- when a condition holds

-- the result of the policy among these
abbrev pub result_in : List Result → List ℕ → Option Bool
result_in results policy = option_map (λ (result : Result). result.1) (find (λ (result : Result). bytes_eq result.0 policy) results)

-- a session's number isn't 0, which stands where an event has no session, as a refused logon hasn't
abbrev pub has_session : SessionNo → Bool
has_session number = not (number.0 == 0)

-- the results that count for a condition that is evaluated so: none where it is evaluated at each statement, else those of
-- the session, where there is one, or of the instance
abbrev pub results_of : SessionNo → KeptResults → Evaluate → List Result
results_of number kept Statement = []
results_of number kept Session = if has_session number then kept.session else []
results_of number kept Instance = kept.instance

-- the result that is kept of the policy's condition
abbrev pub kept_result : SessionNo → KeptResults → List ℕ → Evaluate → Option Bool
kept_result number kept policy evaluate = result_in (results_of number kept evaluate) policy

-- a policy without a condition has a true one; else the result that is kept counts, and where there is none, whether the
-- condition is Yes now
abbrev pub holds : (Expr → Truth) → SessionNo → KeptResults → List ℕ → Option (Evaluate × Condition) → Bool
holds truth number kept policy None = true
holds truth number kept policy (Some when) = unwrap_or (kept_result number kept policy when.0) (is_yes (truth when.1.tree))

-- the condition of the policy holds
abbrev pub when_of : (Expr → Truth) → SessionNo → KeptResults → AuditPolicy → Bool
when_of truth number kept policy = holds truth number kept policy.name policy.when

-- ---- which results are kept

-- the result of a condition is kept where it is evaluated once a session, if there is one, or once an instance
abbrev pub is_kept : SessionNo → Evaluate → Bool
is_kept number Statement = false
is_kept number Session = has_session number
is_kept number Instance = true

-- the condition is one whose result is kept from now on: none is yet
abbrev pub is_new : SessionNo → KeptResults → List ℕ → Option (Evaluate × Condition) → Bool
is_new number kept policy None = false
is_new number kept policy (Some when) = is_kept number when.0 && is_none (kept_result number kept policy when.0)

-- the policy's parts meet the statement, it is enabled for it, and the result of its condition is kept from now on
abbrev pub learns : SessionNo → Grants → List (List ℕ × Enabled) → KeptResults → Facts → AuditPolicy → Bool
learns number grants enabled kept facts policy =
    parts_match grants facts policy && (is_enabled_in enabled policy.name facts && is_new number kept policy.name policy.when)

-- the results that are kept from now on, in the order of the policies, true ones and false ones
abbrev pub learnt : (Expr → Truth) → SessionNo → Grants → List (List ℕ × Enabled) → KeptResults → List AuditPolicy → Facts → List Result
learnt truth number grants enabled kept policies facts =
    map (λ policy. (policy.name, when_of truth number kept policy)) (filter (learns number grants enabled kept facts) policies)

-- ---- what is demanded

-- A client that has a session already, or none, is refused, and that leaves no record and no result.
abbrev pub is_unrecorded : Code → Bool
is_unrecorded code = code.0 == 99008 || code.0 == 1012

-- nothing is demanded
abbrev pub nothing_demanded : Demanded
nothing_demanded = record { names = []; learnt = [] }

-- The names of all policies that demand a record of the statement, and the results that are kept from now on. The number is
-- that of the event's session.
abbrev pub demanded_of : (Expr → Truth) → SessionNo → Grants → List AuditPolicy → List (List ℕ × Enabled) → KeptResults → Facts → Demanded
demanded_of truth number grants policies enabled kept facts =
    if is_unrecorded facts.code then nothing_demanded
    else (record { names = demanded (when_of truth number kept) grants enabled policies facts; learnt = learnt truth number grants enabled kept policies facts })

-- ---- what becomes of the results

-- the policy's condition is evaluated so
abbrev pub is_evaluated_per : Evaluate → Option (Evaluate × Condition) → Bool
is_evaluated_per evaluate None = false
is_evaluated_per Statement (Some (Statement, condition)) = true
is_evaluated_per Session (Some (Session, condition)) = true
is_evaluated_per Instance (Some (Instance, condition)) = true
is_evaluated_per _ _ = false

-- the results of these whose policies are evaluated so
abbrev pub of_evaluation : Evaluate → List AuditPolicy → List Result → List Result
of_evaluation evaluate policies results =
    filter (λ (result : Result). list_any (λ policy. bytes_eq policy.name result.0 && is_evaluated_per evaluate policy.when) policies) results

-- a result comes before another: its policy's name does
abbrev pub result_before : Result → Result → Bool
result_before a b = name_before a.0 b.0

-- the results among those that are kept, which stand in the byte order of their policies
abbrev pub with_results : List Result → List Result → List Result
with_results [] kept = kept
with_results (result ∷ results) kept = placed result_before result (with_results results kept)

-- the results but those of these policies
abbrev pub forgetting : List (List ℕ) → List Result → List Result
forgetting policies results = filter (λ (result : Result). not (list_any (bytes_eq result.0) policies)) results

-- What is kept after a statement that learnt these results and forgets those of these policies, as DROP AUDIT POLICY does:
-- the results of conditions that are evaluated once a session stand in the session, those of conditions that are evaluated
-- once an instance in the instance. Other sessions forget alone.
abbrev pub results_after : List AuditPolicy → List Result → List (List ℕ) → KeptResults → KeptResults
results_after policies results forgets kept = record {
  session = forgetting forgets (with_results (of_evaluation Session policies results) kept.session);
  instance = forgetting forgets (with_results (of_evaluation Instance policies results) kept.instance);
}
