use Rattle.std.proofs.Common.{◌∙◌, ap, refl}
use Rattle.au_catalog.specs.Settling.{catalog_of}
use Rattle.au_step.specs.Step.{decided_in, ground_of}
use Rattle.au_engine.specs.Reserved.{Reserved}
use Rattle.au_engine.proofs.Rulings.{lent}
use Rattle.au_engine.proofs.engine.Engine.ruled.Goals as goal

pub returns : goal.returns
returns c =
    let a = c.args in
    let m = a.self.now.state in
    c.in_ok-ruling.ensures (ground_of (decided_in m a.session.now.client a.statement.now) a.session.now a.statement.now a.stamp.0)
    (lent m a.session.now a.statement.now a.stamp.0 _
    (c.catalog.ensures ∙ ap (λ (e : Reserved). catalog_of e.state.kept) c.self.view_is)
    (c.grants.ensures ∙ ap (λ (e : Reserved). e.state.kept.grants) c.self.view_is)
    c.in_ok-busy.ensures refl c.in_ok-facts.ensures)
