-- A logon of a client without a session.
use Rattle.std.proofs.Common.{◌≡◌, ◌∙◌, ℕ, Bool, false, sym, subst}
use Rattle.std.specs.Prelude.{MatchBool, is_some}
use Rattle.au_base.specs.Codes.{SESSION_PRESENT}
use Rattle.au_base.specs.declared.numbers.ClientNo.{ClientNo}
use Rattle.au_base.specs.declared.reply.Reply.{Reply}
use Rattle.au_logon.specs.declared.admission.Admission.{Admission}
use Rattle.au_step.specs.State.{State}
use Rattle.au_step.specs.Step.{AdmittedStep, CodeStep, Logged, LogonStep, OpensStep, session_of}

-- it is a logon that is admitted or refused so
pub opens : (Is : Admission → Type 0) (m : State) (client : ClientNo) (stamp : ℕ) (reply : Reply) (logged : Logged) (n : State) (stands : Bool) (admission : Admission) → stands ≡ is_some (session_of m.sessions client)
    → stands ≡ false → Is admission → AdmittedStep m client stamp admission reply logged n → LogonStep Is m client stamp reply logged n
opens Is m client stamp reply logged n stands admission is out it step =
    subst (λ (b : Bool). MatchBool b (CodeStep m SESSION_PRESENT reply logged n) (OpensStep Is m client stamp reply logged n)) (sym out ∙ is) (admission, it, step)
