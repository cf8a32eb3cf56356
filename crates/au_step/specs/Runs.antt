-- Runs: what happened to a state, one thing after another.
use Rattle.std.specs.Prelude.{◌≡◌, List, [], ◌∷◌}
use Rattle.au_base.specs.declared.numbers.ClientNo.{ClientNo}
use Rattle.au_base.specs.declared.reply.Reply.{Reply}
use Rattle.au_step.specs.Abandoning.{abandoned}
use Rattle.au_step.specs.State.{State}
use Rattle.au_step.specs.Step.{Event, Step}

-- what happens to a state: a client asks, or the session of a client ends that wasn't asked to
pub data Happening : Type 0 where
  asks : Event → Happening
  ends : ClientNo → Happening

-- From m all this happens, in order, each ask is given the next of the replies, and the state goes on to n. An end that isn't
-- asked for has no reply.
abbrev pub Run : State → List Happening → List Reply → State → Type 0
Run m [] [] n = n ≡ m
Run m (asks event ∷ more) (reply ∷ replies) n = (between : State) × Step m event reply between × Run between more replies n
Run m (ends client ∷ more) replies n = Run (abandoned client m) more replies n
Run m [] (reply ∷ replies) n = ⊥
Run m (asks event ∷ more) [] n = ⊥
