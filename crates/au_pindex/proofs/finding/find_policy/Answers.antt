use Rattle.std.proofs.Common.{◌∙◌, sym, arith}
use Rattle.au_pindex.proofs.Found.{any_answer, belongs_at, stands_at}
use Rattle.au_pindex.proofs.finding.find_policy.Goals as goal
use Rattle.au_pindex.proofs.finding.find_policy.Goals.{else-place-policies-via-then-place-policies+else-eq, else-place-policies-via-else-place-policies}

pub returns-then-eq-clause-found : goal.returns-then-eq-clause-found
returns-then-eq-clause-found c =
    stands_at c.args.name.now c.args.policies.now c.place_of-place.result c.index-policies-place.result c.requires.order c.place_of-place.ensures.place c.if-place-policies.true (sym c.eq.ensures ∙ c.if-eq.true)

pub returns-clause-missing : goal.returns-clause-missing
returns-clause-missing c =
    belongs_at c.args.name.now c.args.policies.now c.place_of-place.result c.requires.order c.place_of-place.ensures.place c.place_of-place.ensures.bound
    (λ d within. elim c.else-place-policies.branch [
      | else-place-policies-via-then-place-policies+else-eq w ↦
          any_answer c.args.name.now c.args.policies.now c.place_of-place.result w.index-policies-place.result d _ within (sym w.eq.ensures ∙ w.if-eq.false)
      | else-place-policies-via-else-place-policies w ↦ absurd (omega (arith, within, w.if-place-policies.false))
    ])
