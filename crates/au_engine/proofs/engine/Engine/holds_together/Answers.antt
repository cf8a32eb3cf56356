use Rattle.std.proofs.Common.{◌≡◌, subst}
use Rattle.au_kept.specs.Keeping.{HoldsTogether, desk_of}
use Rattle.au_step.specs.Step.{transaction_of}
use Rattle.au_txn.specs.Desks.{open_of}
use Rattle.au_engine.specs.Reserved.{Reserved, contents_of}
use Rattle.au_engine.proofs.Views.{desk_tells}
use Rattle.au_engine.proofs.engine.Engine.holds_together.Goals as goal

pub returns-clause-open_to : goal.returns-clause-open_to
returns-clause-open_to c = λ client.
    subst (λ (e : Reserved). open_of (desk_of (contents_of e)) client ≡ transaction_of e.state.sessions client) c.self.view_is
    (desk_tells c.self.inside.keeping c.self.inside.sessions.items client (c.self.invariant.3 client))

pub returns-clause-together : goal.returns-clause-together
returns-clause-together c = subst (λ (e : Reserved). HoldsTogether e.state.kept (desk_of (contents_of e))) c.self.view_is c.holds_together.ensures.together
