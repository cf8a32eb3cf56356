use Rattle.std.proofs.Common.{◌≡◌, map, take}
use Rattle.au_entries.specs.declared.policy.AuditPolicy.{AuditPolicy}
use Rattle.trials_calls.proofs.order.policy_names.Given as goal

-- the names are those of the policies so far
abbrev pub invariant-loop-policy : goal.invariant-loop-policy
invariant-loop-policy l = l.names.items ≡ map (λ (policy : AuditPolicy). policy.name) (take l.policy-index l.policies)
