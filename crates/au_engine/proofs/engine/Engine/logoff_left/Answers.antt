use Rattle.std.proofs.Common.{[], refl}
use Rattle.au_engine.proofs.Left.{left_at}
use Rattle.au_engine.proofs.engine.Engine.logoff_left.Goals as goal

pub returns-clause-left : goal.returns-clause-left
returns-clause-left g c =
    left_at c.args.self.now.state c.args.session.now.results c.in_ok-facts.facts _ c.logoff_place-place.result _ [] [] [] [] c.in_ok-left.left
    c.in_ok-facts.ensures c.logoff_place-place.ensures refl refl c.in_ok-left.ensures.left
