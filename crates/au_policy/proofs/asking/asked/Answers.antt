use Rattle.std.proofs.Common.{◌+◌, ◌∙◌, ◌++◌, ℕ, Bool, List, ap, drop, sym}
use Rattle.au_audit.specs.Conditions.{learnt, when_of}
use Rattle.au_entries.specs.declared.facts.Demanded.{Demanded}
use Rattle.au_entries.specs.Demand.{demanding}
use Rattle.au_policy.specs.Asking.{truth_now}
use Rattle.au_policy.proofs.Asked.{names_skip, names_step, results_skip, results_step}
use Rattle.au_policy.proofs.asking.asked.Goals as goal
use Rattle.au_policy.proofs.asking.asked.Goals.{then-is_meant+in_ok-ask, else-is_meant}

pub loop-policy-preserved : goal.loop-policy-preserved
loop-policy-preserved c =
    let session = c.args.session.now in
    let truth = truth_now session in
    let number = session.session in
    let kept = c.args.kept.now in
    let when = when_of truth number kept in
    let grants = c.args.grants.now in
    let enabled = c.args.catalog.now.enabled in
    let facts = c.args.facts.now in
    let policies = c.as_slice-policy-items.result.now in
    let i = c.loop-policy.policy-index in
    let policy = c.policy-item.result in
    elim c.if-is_meant.branch [
      | then-is_meant+in_ok-ask w ↦
          (let meant = sym c.is_meant.ensures ∙ w.if-is_meant.true in (
            ap (λ (names : List (List ℕ)). names ++ demanding when grants enabled (drop (i + 1) policies) facts) (ap (λ (found : Demanded). found.names) w.found-is ∙ w.in_ok-ask.ensures.names)
                ∙ names_step when grants enabled policies facts i policy c.loop-policy.found.names _ c.loop-policy-test.true c.policy-item.is meant c.loop-policy.invariant.0,
            ap (λ (results : List (List ℕ × Bool)). results ++ learnt truth number grants enabled kept (drop (i + 1) policies) facts) (ap (λ (found : Demanded). found.learnt) w.found-is ∙ w.in_ok-ask.ensures.learnt)
                ∙ results_step truth number grants enabled kept policies facts i policy c.loop-policy.found.learnt _ c.loop-policy-test.true c.policy-item.is meant c.loop-policy.invariant.1,
          ))
      | else-is_meant w ↦
          (let meant = sym c.is_meant.ensures ∙ w.if-is_meant.false in (
            ap (λ (names : List (List ℕ)). names ++ demanding when grants enabled (drop (i + 1) policies) facts) (ap (λ (found : Demanded). found.names) w.found-is)
                ∙ names_skip when grants enabled policies facts i policy c.loop-policy.found.names _ c.loop-policy-test.true c.policy-item.is meant c.loop-policy.invariant.0,
            ap (λ (results : List (List ℕ × Bool)). results ++ learnt truth number grants enabled kept (drop (i + 1) policies) facts) (ap (λ (found : Demanded). found.learnt) w.found-is)
                ∙ results_skip truth number grants enabled kept policies facts i policy c.loop-policy.found.learnt _ c.loop-policy-test.true c.policy-item.is meant c.loop-policy.invariant.1,
          ))
    ]
