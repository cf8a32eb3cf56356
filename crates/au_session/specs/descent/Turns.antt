-- What came of a turn of a client.
use Rattle.std.specs.Prelude.{ℕ, List}
use Rattle.au_base.specs.declared.ask.Ask.{Ask}
use Rattle.au_base.specs.declared.ask.Ask.TheVariants.{Logoff}
use Rattle.au_base.specs.declared.numbers.ClientNo.{ClientNo}
use Rattle.au_base.specs.declared.reply.Said.{Said}
use Rattle.au_step.specs.State.{State}
use Rattle.au_store.specs.declared.entry.Entry.{Entry}
use Rattle.au_store.specs.History.{Leads, Reached}
use Rattle.au_store.specs.Steps.{StepsBy, event_at}
use Rattle.au_turn.specs.declared.pass.Pass.{Pass}
use Rattle.au_turn.specs.Pass.{GrewBy, WentOnBy, seen}
use Rattle.au_session.specs.Entries.{IsEnding, IsGone, IsReply, Leaves}

-- the pass that held a store in this state made the entries of one step, and the history leads to the state after the step
pub record StepsHeld {T : Type 0} (client : ClientNo) (ask : Ask) (answer : Said) (before : State) (p q : Pass T Entry) : Type 0 where
  pub made : List Entry
  pub leaves : Leaves client ask answer made
  pub grew : GrewBy made p q
  pub reading : ℕ
  pub reached : Reached
  pub leads : Leads (seen q) reached
  pub step : StepsBy before (event_at client ask reading) answer reached.state

-- the client had no session, or its LOGOFF was replied to
pub record IsLoggedOff {T : Type 0} (client : ClientNo) (p q : Pass T Entry) : Type 0 where
  pub came : List Entry
  pub ending : List Entry
  pub ends : IsEnding client ending
  pub went : WentOnBy came ending p q
  pub gone : IsGone client (seen q)

-- the client's LOGOFF wasn't replied to
pub record IsStillOn {T : Type 0} (client : ClientNo) (p q : Pass T Entry) : Type 0 where
  pub came : List Entry
  pub made : List Entry
  pub answer : Said
  pub leaves : Leaves client Logoff answer made
  pub unreplied : IsReply answer → ⊥
  pub went : WentOnBy came made p q
