-- What the audit policies of a catalogue demand now, and when they can be asked (SQL Language Reference, "CREATE AUDIT
-- POLICY (Unified Auditing)"; that a condition which overflows is unknown, as only one of a journal may, is this project's
-- profile).
use Rattle.std.specs.Prelude.{⊤, IsTrue, [], map, Option, Some, None}
use Rattle.std.specs.List.{AllByRecursion}
use Rattle.au_base.specs.declared.truth.Truth.{Truth}
use Rattle.au_base.specs.Order.{is_in_order, name_before}
use Rattle.au_audit.specs.Conditions.{demanded_of, result_before}
use Rattle.au_catalog.specs.declared.catalog.Catalog.{Catalog}
use Rattle.au_entries.specs.declared.facts.Demanded.{Demanded}
use Rattle.au_entries.specs.declared.facts.Facts.{Facts}
use Rattle.au_entries.specs.declared.policy.Condition.{Condition}
use Rattle.au_entries.specs.declared.policy.Evaluate.{Evaluate}
use Rattle.au_entries.specs.declared.results.KeptResults.{KeptResults}
use Rattle.au_expr.specs.Expressions.{value}
use Rattle.au_expr.specs.Resolving.{IsCondition}
use Rattle.au_expr.specs.Sessions.{Session}
use Rattle.au_expr.specs.Values.{truth_in}
use Rattle.au_grants.specs.declared.grants.Grants.{Grants}
use Rattle.sql_ast.specs.declared.expression.Expr.{Expr}

-- the truth of a condition over no table, by the event's user, session and moment
abbrev pub truth_now : Session → Expr → Truth
truth_now session tree = truth_in (value [] session tree)

-- what the policies of the catalogue demand of the statement
abbrev pub demanded_now : Catalog → Grants → KeptResults → Session → Facts → Demanded
demanded_now catalog grants kept session facts =
    demanded_of (truth_now session) session.session grants catalog.policies catalog.enabled kept facts

-- the condition of an audit policy, where it has one, resolves as a truth over no table
abbrev pub IsTruthOverNone : Option (Evaluate × Condition) → Type 0
IsTruthOverNone None = ⊤
IsTruthOverNone (Some when) = IsCondition [] when.1.tree

-- The audit policies of the catalogue can be asked: their conditions are truths, and they and the enablements stand in the
-- byte order of their names. It is so of all that is lawful.
pub record CanBeAsked (catalog : Catalog) : Type 0 where
  pub truths : AllByRecursion (λ policy. IsTruthOverNone policy.when) catalog.policies
  pub policies : IsTrue (is_in_order name_before (map (λ policy. policy.name) catalog.policies))
  pub enabled : IsTrue (is_in_order name_before (map (λ entry. entry.0) catalog.enabled))

-- the results that are kept stand in the byte order of their policies, as they do from the start of a session and of an
-- instance
pub record AreInOrder (kept : KeptResults) : Type 0 where
  pub session : IsTrue (is_in_order result_before kept.session)
  pub instance : IsTrue (is_in_order result_before kept.instance)
