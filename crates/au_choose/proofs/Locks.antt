-- Rows of which another client has a change, one after another.
use Rattle.std.proofs.Common.{inl, inr, List, [], ◌∷◌, ap, sym, subst}
use Rattle.au_base.specs.declared.numbers.ClientNo.{ClientNo}
use Rattle.au_base.specs.declared.numbers.RowNo.{RowNo}
use Rattle.au_base.specs.declared.table.TableName.{TableName}
use Rattle.au_query.specs.Combos.{Line}
use Rattle.au_txn.specs.Transactions.{IsRowLocked}
use Rattle.au_world.specs.Sights.{Sight}
use Rattle.au_choose.specs.Choosing.{IsSomeLocked}
use Rattle.au_choose.proofs.Members.{here, none, split, there}

module _ (sight : Sight) (client : ClientNo) (table : TableName) where
  pub none_locked : IsSomeLocked sight client table [] → ⊥
  none_locked some = none some.0 some.1

  pub here_locked : (line : Line) (rest : List Line) → IsRowLocked sight.transactions client table line.0 → IsSomeLocked sight client table (line ∷ rest)
  here_locked line rest locked = (line, here line rest, locked)

  pub later_locked : (line : Line) (rest : List Line) → IsSomeLocked sight client table rest → IsSomeLocked sight client table (line ∷ rest)
  later_locked line rest some = (some.0, there line rest some.0 some.1, some.2)

  pub not_here : (line : Line) (rest : List Line) → ¬ IsRowLocked sight.transactions client table line.0 → IsSomeLocked sight client table (line ∷ rest) → IsSomeLocked sight client table rest
  not_here line rest free some = elim (split line rest some.0 some.1) [
    | inl same ↦ absurd (free (subst (λ (number : RowNo). IsRowLocked sight.transactions client table number) (sym (ap (λ (l : Line). l.0) same)) some.2))
    | inr later ↦ (some.0, later, some.2)
  ]
