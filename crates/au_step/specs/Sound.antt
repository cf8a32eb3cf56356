-- Of which steps the laws of steps speak.
use Rattle.std.specs.Prelude.{◌≡◌, ◌≢◌, ℕ}
use Rattle.au_base.specs.declared.ask.Ask.{Ask}
use Rattle.au_base.specs.declared.numbers.ClientNo.{ClientNo}
use Rattle.au_base.specs.declared.reply.Reply.{Reply}
use Rattle.au_kept.specs.Keeping.{Contents, desk_of}
use Rattle.au_step.specs.Framing.{IsText}
use Rattle.au_step.specs.Lawful.{IsLawfulState}
use Rattle.au_step.specs.Replaying.{EndsWell}
use Rattle.au_step.specs.State.{IsStampOf, State}
use Rattle.au_step.specs.Step.{Logged, LoggedStep, transaction_of}
use Rattle.au_txn.specs.Desks.{open_of}

-- so of each step from a lawful state in which SYS is a user, at the stamp of an event, of an ask that is text, of a client
-- other than the one by whom frames are replayed
abbrev pub HoldsOfSteps : (State → ℕ → Logged → State → Type 0) → Type 0
HoldsOfSteps Is =
    (m n : State) (client : ClientNo) (ask : Ask) (stamp : ℕ) (reply : Reply) (logged : Logged)
    → IsLawfulState m → EndsWell m.kept → IsStampOf m stamp → IsText ask → client.0 ≢ 0 → LoggedStep m client ask stamp reply logged n → Is m stamp logged n

-- so of each keeping that has what is kept in the state, and each client's transaction
abbrev pub HoldsOfKeepings : State → (Contents → Type 0) → Type 0
HoldsOfKeepings m Is =
    (contents : Contents) → contents.kept ≡ m.kept → ((client : ClientNo) → open_of (desk_of contents) client ≡ transaction_of m.sessions client) → Is contents
