use Rattle.std.proofs.Common.{◌∙◌, List, ap}
use Rattle.std.specs.Prelude.{option_map}
use Rattle.au_step.specs.declared.session.Session.{Session}
use Rattle.au_step.specs.State.{OpenSession}
use Rattle.au_step.specs.Step.{session_of}
use Rattle.au_engine.specs.Reserved.{Reserved}
use Rattle.au_engine.specs.Sessions.{found_in}
use Rattle.au_engine.proofs.Views.{found_alone}
use Rattle.au_engine.proofs.engine.Engine.client_session.Goals as goal

pub returns : goal.returns
returns c =
    let client = c.args.client in
    let e = c.self.inside in
    c.session_of.ensures
    ∙ (ap (λ (l : List Session). found_in l client) c.as_slice.ensures.value
    ∙ (found_alone e.keeping.logs e.sessions.items client
    ∙ ap (λ (e : Reserved). option_map (λ (s : OpenSession). s.session) (session_of e.state.sessions client)) c.self.view_is))
