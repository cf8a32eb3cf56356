use Rattle.std.proofs.Common.{◌∙◌, ℕ, Bool, List, ap, sym}
use Rattle.std.specs.Prelude.{Option, option_map}
use Rattle.au_policy.proofs.Found.{found_at, missed_at, missed_past}
use Rattle.au_policy.proofs.finding.result_in.Goals as goal
use Rattle.au_policy.proofs.finding.result_in.Goals.{else-place-results-via-then-place-results+else-eq, else-place-results-via-else-place-results}

abbrev of : Option (List ℕ × Bool) → Option Bool
of found = option_map (λ (result : List ℕ × Bool). result.1) found

pub returns-then-eq : goal.returns-then-eq
returns-then-eq c = sym (ap of (found_at c.args.policy.now c.args.results.now _ c.index-results-place.result c.index-results-place-then-eq.result c.name_place-place.ensures.place c.if-place-results.true (sym c.eq.ensures ∙ c.if-eq.true)))

pub returns : goal.returns
returns c = elim c.else-place-results.branch [
  | else-place-results-via-then-place-results+else-eq w ↦
      sym (ap of (missed_at c.args.policy.now c.args.results.now _ w.index-results-place.result c.requires.order c.name_place-place.ensures.place w.if-place-results.true (sym w.eq.ensures ∙ w.if-eq.false)))
  | else-place-results-via-else-place-results w ↦ sym (ap of (missed_past c.args.policy.now c.args.results.now _ c.name_place-place.ensures.place w.if-place-results.false))
]
