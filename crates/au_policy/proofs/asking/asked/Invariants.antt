use Rattle.std.proofs.Common.{◌≡◌, ◌++◌, drop}
use Rattle.au_audit.specs.Conditions.{learnt, when_of}
use Rattle.au_entries.specs.Demand.{demanding}
use Rattle.au_policy.specs.Asking.{truth_now}
use Rattle.au_policy.proofs.asking.asked.Given as goal

-- what is found, and what the policies that are left demand, are what all demand
abbrev pub invariant-loop-policy : goal.invariant-loop-policy
invariant-loop-policy l =
    (l.found.names ++ demanding (when_of (truth_now l.session) l.session.session l.kept) l.grants l.catalog.enabled (drop l.policy-index l.policy-items) l.facts
    ≡ demanding (when_of (truth_now l.session) l.session.session l.kept) l.grants l.catalog.enabled l.catalog.policies l.facts)
    × (l.found.learnt ++ learnt (truth_now l.session) l.session.session l.grants l.catalog.enabled l.kept (drop l.policy-index l.policy-items) l.facts
    ≡ learnt (truth_now l.session) l.session.session l.grants l.catalog.enabled l.kept l.catalog.policies l.facts)
