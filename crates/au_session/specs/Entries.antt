-- The entries that a connection's client leaves in the history of the store.
use Rattle.std.specs.Prelude.{◌≡◌, ℕ, List, [], ◌∷◌, ◌++◌, Option}
use Rattle.au_base.specs.declared.ask.Ask.{Ask}
use Rattle.au_base.specs.declared.ask.Ask.TheVariants.{Logoff}
use Rattle.au_base.specs.Codes.{DONE}
use Rattle.au_base.specs.declared.numbers.ClientNo.{ClientNo}
use Rattle.au_base.specs.declared.reply.Reply.{Reply}
use Rattle.au_base.specs.declared.reply.Said.{Said}
use Rattle.au_base.specs.declared.reply.Said.TheVariants as said
use Rattle.au_step.specs.Sessions.{IsOff}
use Rattle.au_store.specs.declared.entry.Entry.{Entry}
use Rattle.au_store.specs.declared.entry.Entry.TheVariants.{Abandoned, Filled, Stepped}
use Rattle.au_store.specs.History.{Fails, Leads, Reached}
use Rattle.au_session.specs.Exchanges.{Exchange}

-- The entries of the step in which this was said to the client's ask. A reply has one with that ask and reply, a full journal
-- (507) has one with that ask. A failed disk (500) has one with that ask, and with the clock's reading where the step was
-- tried; there is no reading where an earlier step couldn't be mended. Want of memory (503) has none.
abbrev pub Leaves : ClientNo → Ask → Said → List Entry → Type 0
Leaves client ask (said.Replied reply) made = (reading : ℕ) × (made ≡ Stepped client ask reading reply ∷ [])
Leaves client ask said.Disk made = (reading : Option ℕ) × Fails client ask reading made
Leaves client ask (said.Full needed limit) made = (reading : ℕ) × (made ≡ Filled client ask reading needed ∷ [])
Leaves client ask said.Memory made = made ≡ []

-- the steps of these exchanges left these entries, in order
abbrev pub AllLeave : ClientNo → List Exchange → List Entry → Type 0
AllLeave client [] made = made ≡ []
AllLeave client (x ∷ xs) made =
    (first : List Entry) × (rest : List Entry) × Leaves client x.ask x.said first × AllLeave client xs rest × (made ≡ first ++ rest)

-- the store replied
abbrev pub IsReply : Said → Type 0
IsReply answer = (reply : Reply) × (answer ≡ said.Replied reply)

-- the entries by which a client's session ends where its connection ends
pub data IsEnding (client : ClientNo) : List Entry → Type 0 where
  -- none, since the client had no session
  none : IsEnding client []
  -- that of its LOGOFF, which was done
  replied : (reading : ℕ) (reply : Reply) → reply.code ≡ DONE → IsEnding client (Stepped client Logoff reading reply ∷ [])
  -- those of its LOGOFF, which wasn't replied to, and the one of its session, which was abandoned
  abandoned : (answer : Said) (made : List Entry) → Leaves client Logoff answer made → (IsReply answer → ⊥) → IsEnding client (made ++ Abandoned client ∷ [])

-- the client has no session in the state to which the history leads
abbrev pub IsGone : ClientNo → List Entry → Type 0
IsGone client history = (q : Reached) × Leads history q × IsOff q.state.sessions client
