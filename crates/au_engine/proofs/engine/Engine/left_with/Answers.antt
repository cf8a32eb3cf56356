use Rattle.std.proofs.Common.{◌∙◌, List, ℕ, ap}
use Rattle.au_catalog.specs.Settling.{catalog_of}
use Rattle.au_step.specs.Step.{facts_at}
use Rattle.au_engine.specs.Reserved.{Reserved}
use Rattle.au_engine.proofs.Left.{event_made}
use Rattle.au_engine.proofs.engine.Engine.left_with.Goals as goal

pub returns-clause-left : goal.returns-clause-left
returns-clause-left g c =
    let a = c.args in
    event_made a.self.now.state a.event.results.now a.event.facts.now a.event.at.now a.event.fired.now a.event.forgets.now _ _ _ _ _
    (c.catalog.ensures ∙ ap (λ (e : Reserved). catalog_of e.state.kept) c.self.view_is)
    (c.grants.ensures ∙ ap (λ (e : Reserved). e.state.kept.grants) c.self.view_is)
    c.in_ok-kept.ensures
    (c.in_ok-session.ensures ∙ ap (λ (user : List ℕ). facts_at user a.event.at.now.session a.event.at.now.stamp.0) c.in_ok-clone.ensures.cases)
    c.in_ok-left.ensures.left
