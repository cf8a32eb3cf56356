-- What is so of a connection between two of its requests.
use Rattle.std.specs.Prelude.{◌≡◌, ℕ, List}
use Rattle.au_base.specs.declared.numbers.ClientNo.{ClientNo}
use Rattle.au_io.specs.Visits.{Told}
use Rattle.au_store.specs.declared.entry.Entry.{Entry}
use Rattle.au_turn.specs.declared.pass.Pass.{Pass}
use Rattle.au_session.specs.Entries.{AllLeave}
use Rattle.au_session.specs.Exchanges.{AllOpen, Exchange, responses_of}
use Rattle.au_session.specs.Session.{Talk}

-- each request was answered, none closes, these bytes are behind them, and there was no fault
pub record Serving {T : Type 0} (client : ClientNo) (f g : Told) (p q : Pass T Entry) (buffer : List ℕ) : Type 0 where
  pub exchanges : List Exchange
  pub made : List Entry
  pub left : AllLeave client exchanges made
  pub talk : Talk f g p q exchanges buffer (responses_of exchanges) made
  pub unclosed : AllOpen exchanges
  pub well : g.faults ≡ f.faults
