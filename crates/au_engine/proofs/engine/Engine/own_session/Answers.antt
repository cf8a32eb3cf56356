use Rattle.au_engine.proofs.Own.{own_lawful}
use Rattle.au_engine.proofs.engine.Engine.own_session.Goals as goal

pub returns-clause-own : goal.returns-clause-own
returns-clause-own c = λ session some. own_lawful c.args.self.now.state c.args.client _ session c.client_session.ensures c.holds_together.ensures.lawful some
