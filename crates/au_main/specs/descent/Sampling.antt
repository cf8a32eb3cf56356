-- What the asks of a sample come to, over a store.
use Rattle.std.specs.Prelude.{◌≡◌, ℕ, ◌+◌, List, length}
use Rattle.au_base.specs.declared.ask.Ask.{Ask}
use Rattle.au_base.specs.declared.reply.Reply.{Reply}
use Rattle.au_gen.specs.Sample.{sample}
use Rattle.au_io.specs.Time.{Reads}
use Rattle.au_step.specs.State.{State}
use Rattle.au_step.specs.Step.{Step}
use Rattle.au_store.specs.Steps.{event_at}
use Rattle.au_store.specs.Stored.{Stored, IsKeptOn}
use Rattle.au_main.specs.Means.{Means}
use Rattle.au_main.specs.Samples.{AskedThrough, asker, first_reading, last_number}

-- the ask was given this reply, at the clock's next reading, and nothing is in doubt
pub record IsReplied {D C : Type 0} (means : Means D C) (s t : Stored D C) (ask : Ask) (reply : Reply) : Type 0 where
  pub reading : ℕ
  pub read : Reads (means.ticking s.clock) (means.ticking t.clock) reading
  pub step : Step s.state (event_at asker ask reading) reply t.state
  pub kept : means.told → IsKeptOn t.state.kept (means.meaning t.disk) t.seat

-- these asks led from m to n, and the last was answered by this number
pub record IsAsked (asks : List Ask) (m n : State) (high : ℕ) : Type 0 where
  pub replies : List Reply
  pub through : AskedThrough m (first_reading + 1) asks replies n
  pub last : high ≡ last_number replies

-- all asks of the sample, so many, led from m to n, and the last was answered by this number
pub record AreAllAsked (seed rows : ℕ) (m n : State) (count high : ℕ) : Type 0 where
  pub asked : IsAsked (sample seed rows) m n high
  pub counted : count ≡ length (sample seed rows)
