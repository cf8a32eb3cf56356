use Rattle.std.proofs.Common.{◌≡◌, ◌∙◌, Bor, ap, refl}
use Rattle.std.specs.Option.{option_copied}
use Rattle.std.specs.Prelude.{Option, Some, None, is_some, option_map}
use Rattle.au_step.specs.declared.session.Session.{Session}
use Rattle.au_step.specs.State.{OpenSession}
use Rattle.au_step.specs.Step.{session_of}
use Rattle.au_engine.proofs.engine.Engine.stands.Goals as goal

copied_some : (o : Option (Bor Session)) → is_some o ≡ is_some (option_copied o)
copied_some None = refl
copied_some (Some x) = refl

mapped_some : (o : Option OpenSession) → is_some (option_map (λ (s : OpenSession). s.session) o) ≡ is_some o
mapped_some None = refl
mapped_some (Some x) = refl

pub returns : goal.returns
returns c =
    c.is_some.ensures ∙ (copied_some c.client_session.result
    ∙ (ap (λ (o : Option Session). is_some o) c.client_session.ensures ∙ mapped_some (session_of c.args.self.now.state.sessions c.args.client)))
