use Rattle.std.proofs.Common.{drop}
use Rattle.std.specs.List.{AllByRecursion}
use Rattle.au_entries.specs.declared.policy.AuditPolicy.{AuditPolicy}
use Rattle.au_policy.specs.Asking.{IsTruthOverNone}
use Rattle.trials_calls.proofs.order.are_truths.Given as goal

-- where the rest are truths, all are
abbrev pub invariant-loop-policy : goal.invariant-loop-policy
invariant-loop-policy l =
    AllByRecursion (λ (policy : AuditPolicy). IsTruthOverNone policy.when) (drop l.policy-index l.policies) → AllByRecursion (λ (policy : AuditPolicy). IsTruthOverNone policy.when) l.policies
