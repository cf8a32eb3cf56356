use Rattle.std.proofs.Common.{◌+◌, ◌∙◌, ◌++◌, List, ap, drop, map, refl, subst, sym}
use Rattle.std.specs.List.{filter}
use Rattle.au_audit.specs.Firing.{fires}
use Rattle.au_base.specs.Codes.{DONE}
use Rattle.au_entries.specs.declared.fine_grained.FgaPolicy.{FgaPolicy}
use Rattle.au_entries.specs.declared.table.Table.{Table}
use Rattle.au_fga.specs.Testing.{seen, truth_over}
use Rattle.au_fga.specs.descent.Candidates.{AnswersFor, answer, name_of}
use Rattle.au_fga.proofs.Answering.{answers_as_it_fires, candidate_added, never_fires, policy_passed}
use Rattle.au_fga.proofs.candidates.candidates_of.Goals as goal
use Rattle.au_fga.proofs.candidates.candidates_of.Goals.{then-is_candidate+in_ok-test+in_ok-push, else-is_candidate}

pub loop-policy-preserved : goal.loop-policy-preserved
loop-policy-preserved c = λ session.
    let facts = c.args.facts.now in
    let tables = c.args.catalog.now.tables in
    let test = answer session facts.touched in
    let fired = fires (truth_over session tables) DONE (seen facts) in
    let policies = c.as_slice-policy-items.result.now in
    let i = c.loop-policy.policy-index in
    let policy = c.policy-item.result in
    elim c.if-is_candidate.branch [
      | then-is_candidate+in_ok-test+in_ok-push w ↦
          candidate_added test fired policies i policy c.loop-policy.candidates.items c.if-is_candidate.candidates.items _ _ c.loop-policy-test.true c.policy-item.is
          (ap (λ v. v.items) w.candidates-is ∙ w.in_ok-push.ensures.items) refl
          (answers_as_it_fires tables facts policy w.in_ok-test.test session c.requires.rows (subst (λ (known : List Table). AnswersFor known policy.name.table policy.condition w.in_ok-test.test) w.as_slice.ensures w.in_ok-test.ensures) (sym c.is_candidate.ensures ∙ w.if-is_candidate.true))
          (c.loop-policy.invariant session)
      | else-is_candidate w ↦
          (ap (λ v. map name_of (filter test v.items) ++ map (λ (p : FgaPolicy). p.name) (filter fired (drop (i + 1) policies))) w.candidates-is
          ∙ policy_passed test fired policies i policy c.loop-policy.candidates.items _ c.loop-policy-test.true c.policy-item.is
          (never_fires tables facts policy session (sym c.is_candidate.ensures ∙ w.if-is_candidate.false)) (c.loop-policy.invariant session))
    ]
