-- What holds of workers once they have worked.
use Rattle.std.proofs.Common.{◌≡◌, ℕ, zero, suc, ◌<◌, List, [], ◌∷◌, ◌++◌, length, take, drop, arith, sym, subst}
use Rattle.std.specs.Prelude.{All, slice_index_or}
use Rattle.std.proofs.Math.Seq.{take-length}
use Rattle.au_turn.specs.declared.turn.Turn.{Turn}
use Rattle.au_turn.specs.declared.pass.Pass.{Pass}
use Rattle.au_server.specs.descent.Working.{WorkedOn}

-- what holds of each element of a list, and is kept by each pair, holds of each once the list was written over
pub all_written : {X : Type 0} (xs ys : List X) (P : X → Type 0) (R : X → X → Type 0) → ((x y : X) → P x → R x y → P y) → All P xs
    → ((k : ℕ) (d : X) → k < length xs → R (slice_index_or xs k d) (slice_index_or ys k d))
    → (k : ℕ) (d : X) → k < length (take (length xs) (ys ++ drop (length ys) xs)) → P (slice_index_or (take (length xs) (ys ++ drop (length ys) xs)) k d)
all_written [] ys P R keeps all pairs k d lt = absurd (omega arith)
all_written {X} (x ∷ xs) [] P R keeps all pairs k d lt = subst (λ (l : List X). All P l) (sym (take-length (x ∷ xs))) all k d lt
all_written (x ∷ xs) (y ∷ ys) P R keeps all pairs zero d lt = keeps x y (all 0 x (omega arith)) (pairs 0 x (omega arith))
all_written (x ∷ xs) (y ∷ ys) P R keeps all pairs (suc k) d lt =
    all_written xs ys P R keeps (λ j e less. all (suc j) e (omega arith)) (λ j e less. pairs (suc j) e (omega arith)) k d (omega arith)

-- a worker whose turns were these has worked on these
pub worked_on : {A E B F : Type 0} (doors doors_then doors_now : Turn A E) (stores stores_then stores_now : Turn B F) (at_door : Pass A E) (at_store : Pass B F)
    → doors_then ≡ doors → stores_then ≡ stores → WorkedOn doors_then stores_then doors_now stores_now at_door at_store → WorkedOn doors stores doors_now stores_now at_door at_store
worked_on {A} {E} {B} {F} doors doors_then doors_now stores stores_then stores_now at_door at_store is_door is_store worked =
    subst (λ (d : Turn A E). WorkedOn d stores doors_now stores_now at_door at_store) is_door
    (subst (λ (s : Turn B F). WorkedOn doors_then s doors_now stores_now at_door at_store) is_store worked)
