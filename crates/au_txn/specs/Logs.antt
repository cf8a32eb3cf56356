-- The changes of open transactions, client by client.
use Rattle.std.specs.Prelude.{ℕ, List, [], ◌∷◌, Bool, ◌==◌, if◌then◌else◌}
use Rattle.au_base.specs.declared.numbers.ClientNo.{ClientNo}
use Rattle.au_txn.specs.declared.change.RowChange.{RowChange}

-- a client's changes, the oldest first, and how many more its list takes without memory
pub record Changes : Type 0 where
  pub client : ClientNo
  pub changes : List RowChange
  pub spare : ℕ

-- it is the client's list
abbrev pub is_client : ClientNo → Changes → Bool
is_client client log = log.client.0 == client.0

-- what is read of the client's list, or else `none`
abbrev pub of_client : {A : Type 0} → (Changes → A) → A → ClientNo → List Changes → A
of_client f none client [] = none
of_client f none client (log ∷ logs) = if is_client client log then f log else of_client f none client logs

-- the client's changes, none where it has no list
abbrev pub changes_of : ClientNo → List Changes → List RowChange
changes_of client logs = of_client (λ (log : Changes). log.changes) [] client logs

-- how many more changes the client's list takes without memory
abbrev pub room_of : ClientNo → List Changes → ℕ
room_of client logs = of_client (λ (log : Changes). log.spare) 0 client logs
