use Rattle.std.proofs.Common.{◌∙◌, ℕ, Bool, List, [], ap, refl}
use Rattle.au_base.specs.declared.numbers.SessionNo.{SessionNo}
use Rattle.au_step.specs.Step.{event_left, logon_place}
use Rattle.au_engine.proofs.Left.{left_at}
use Rattle.au_engine.proofs.engine.Engine.logon_left.Goals as goal

pub returns-clause-left : goal.returns-clause-left
returns-clause-left g c =
    let m = c.args.self.now.state in
    let facts = c.in_ok-facts.facts in
    let place = c.logon_place-place.result in
    left_at m [] facts _ place _ [] [] [] [] c.in_ok-left.left
    c.in_ok-facts.ensures (c.logon_place-place.ensures ∙ ap (λ (n : SessionNo). logon_place n c.args.stamp.0) c.logon_number.ensures) refl refl
    (c.in_ok-left.ensures.left ∙ ap (λ (results : List (List ℕ × Bool)). event_left m results facts place [] []) c.new-results.ensures)
