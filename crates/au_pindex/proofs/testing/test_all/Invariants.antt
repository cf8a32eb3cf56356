use Rattle.std.proofs.Common.{◌≡◌, ◌+◌, filter, take}
use Rattle.au_audit.specs.Conditions.{learnt, when_of}
use Rattle.au_entries.specs.Demand.{demanding}
use Rattle.au_policy.specs.Asking.{truth_now}
use Rattle.au_pindex.specs.Naming.{is_named}
use Rattle.au_pindex.proofs.testing.test_all.Given as goal

-- what is found is what the policies so far demand, and each was one step
abbrev pub invariant-loop-place : goal.invariant-loop-place
invariant-loop-place g l =
    (l.found.names ≡ demanding (when_of (truth_now l.case.session.now) l.case.session.now.session l.case.kept.now) l.case.grants.now l.case.catalog.now.enabled
    (take l.place-index (filter (is_named l.case.grants.now l.case.catalog.now.enabled l.case.facts.now) l.case.catalog.now.policies)) l.case.facts.now)
    × (l.found.learnt ≡ learnt (truth_now l.case.session.now) l.case.session.now.session l.case.grants.now l.case.catalog.now.enabled l.case.kept.now
    (take l.place-index (filter (is_named l.case.grants.now l.case.catalog.now.enabled l.case.facts.now) l.case.catalog.now.policies)) l.case.facts.now)
    × (l.steps ≡ l.fn.steps + l.place-index)
