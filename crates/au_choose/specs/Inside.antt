-- What the code holds midway. No promise of the crate rests on these.
use Rattle.std.specs.Prelude.{◌≡◌, ◌⊎◌, ◌+◌, nat_lt, ℕ, Bool, true, false, List, [], ◌∷◌, Option, None, Some}
use Rattle.au_base.specs.declared.cell.Cell.{Cell}
use Rattle.au_base.specs.declared.code.Code.{Code}
use Rattle.au_base.specs.declared.numbers.ClientNo.{ClientNo}
use Rattle.au_base.specs.declared.table.TableName.{TableName}
use Rattle.au_base.specs.Codes.{LOCKED, TOO_MANY_CHANGES}
use Rattle.au_base.specs.Limits.{TRANSACTION_CHANGES}
use Rattle.au_expr.specs.declared.placed.Placed.{Placed}
use Rattle.au_expr.specs.Placing.{value_at}
use Rattle.au_expr.specs.Sessions.{Session}
use Rattle.au_expr.specs.Values.{Holds, Is, Overflows, Value, is_met}
use Rattle.au_query.specs.Combos.{Line}
use Rattle.au_world.specs.Sights.{Sight}
use Rattle.au_choose.specs.Choosing.{IsSomeLocked, are_too_many}

-- nothing where the condition overflowed, and else whether it is Yes
abbrev pub met_by : Value → Option Bool
met_by (Is c) = Some false
met_by (Holds t) = Some (is_met (Holds t))
met_by Overflows = None

-- that of WHERE, if there is one, over the cells of a row
abbrev pub over_cells : Session → Option Placed → List Cell → Option Bool
over_cells session None cells = Some true
over_cells session (Some tree) cells = met_by (value_at (cells ∷ []) session tree)

-- so many changes and so many more are more than a transaction may have
abbrev pub are_many : ℕ → ℕ → Bool
are_many own more = nat_lt TRANSACTION_CHANGES (own + more)

-- the client may change the rows: with them its transaction hasn't too many changes, and none is locked
pub record IsLimitKept (sight : Sight) (client : ClientNo) (table : TableName) (rows : List Line) : Type 0 where
  pub few : are_too_many sight.own rows ≡ false
  pub unlocked : ¬ IsSomeLocked sight client table rows

-- why it may not
abbrev pub IsLimitBroken : Sight → ClientNo → TableName → List Line → Code → Type 0
IsLimitBroken sight client table rows code =
    ((are_too_many sight.own rows ≡ true) × (code ≡ TOO_MANY_CHANGES))
    ⊎ ((are_too_many sight.own rows ≡ false) × IsSomeLocked sight client table rows × (code ≡ LOCKED))
