-- What contracts say of passes.
use Rattle.std.specs.Prelude.{◌≡◌, ℕ, Bool, true, false, List, [], ◌∷◌, ◌++◌, None}
use Rattle.std.specs.declared.option.Option.{Option}
use Rattle.atomic_table.specs.Seated.{TableId}
use Rattle.atomic_table.specs.declared.shared.Seat.{Seat}
use Rattle.au_turn.specs.declared.view.View.{View}
use Rattle.au_turn.specs.declared.turn.Turn.{Turn}
use Rattle.au_turn.specs.declared.pass.Pass.{Pass}
use Rattle.au_turn.specs.Entries.{StandsIn}

-- the slots of a pass: the emptied slot while it holds the value, else none
abbrev pub slots_of : {T : Type 0} → Bool → List (ℕ × Option T)
slots_of true = (0, None) ∷ []
slots_of false = []

module _ {T E : Type 0} where
  -- a pass of the table as a call leaves it: it isn't spent, and what it made stands in what it has seen
  pub record IsPass (z : TableId) (p : Seat (Option T) (View E)) : Type 0 where
    pub table : p.table_id ≡ z
    pub live : p.me.0.spent ≡ false
    pub full : p.me.0.emptied ≡ false
    pub met : p.me.0.earlier ≡ []
    pub slots : p.me.1 ≡ slots_of p.me.0.held
    pub stands : StandsIn p.me.0.mine p.me.0.seen

  -- the pass is one of that turn, as `open` and `split` give it
  abbrev pub IsPassOf : Turn T E → Pass T E → Type 0
  IsPassOf turn pass = IsPass turn.table.shared.table_id pass.seat

  -- the history, as far as the pass knows it
  abbrev pub seen : Pass T E → List E
  seen pass = pass.seat.me.0.seen

  -- the entries that the pass made
  abbrev pub mine : Pass T E → List E
  mine pass = pass.seat.me.0.mine

  -- the pass holds the value
  abbrev pub IsHeld : Pass T E → Type 0
  IsHeld pass = pass.seat.me.0.held ≡ true

  -- the pass doesn't hold the value
  abbrev pub IsIdle : Pass T E → Type 0
  IsIdle pass = pass.seat.me.0.held ≡ false

  -- the same seat of the same table, before a step and after it
  abbrev pub SameSeat : Pass T E → Pass T E → Type 0
  SameSeat pass later = (later.seat.table_id ≡ pass.seat.table_id) × (later.seat.id ≡ pass.seat.id)

  -- what the pass has seen and what it made both grew by these entries
  abbrev pub GrewBy : List E → Pass T E → Pass T E → Type 0
  GrewBy more pass later = (seen later ≡ seen pass ++ more) × (mine later ≡ mine pass ++ more)

  -- the pass went on: it saw the entries of `came`, and among them it made those of `made`
  pub record WentOnBy (came made : List E) (pass later : Pass T E) : Type 0 where
    pub saw : seen later ≡ seen pass ++ came
    pub did : mine later ≡ mine pass ++ made
    pub among : StandsIn made came

  -- the pass went on by some entries
  pub record WentOn (pass later : Pass T E) : Type 0 where
    pub came : List E
    pub made : List E
    pub by : WentOnBy came made pass later
