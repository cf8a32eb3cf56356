use Rattle.std.proofs.Common.{◌∙◌}
use Rattle.au_audit.specs.Statements.{statement_facts}
use Rattle.au_step.specs.Step.{statement_place}
use Rattle.au_engine.proofs.Left.{left_at}
use Rattle.au_engine.proofs.Rulings.{left_decided}
use Rattle.au_engine.proofs.engine.Engine.statement_left.Goals as goal

pub returns-clause-left : goal.returns-clause-left
returns-clause-left g c =
    left_at c.args.self.now.state c.args.session.now.results c.in_ok-facts.facts _ c.in_ok-place.place _ c.as_slice.result.now _ c.as_slice-2.result.now _ c.in_ok-left.left
    c.in_ok-facts.ensures c.in_ok-place.ensures c.as_slice.ensures c.as_slice-2.ensures c.in_ok-left.ensures.left
    ∙ left_decided c.args.self.now.state c.args.session.now.client c.args.statement.now c.args.session.now.results
    (statement_facts c.args.session.now.user c.args.statement.now c.args.ruling.now.used c.args.ruling.now.code) (statement_place c.args.session.now c.args.stamp.0 c.args.statement.now c.args.text.now) c.args.ruling.now.fired c.args.ruling.now.forgets
