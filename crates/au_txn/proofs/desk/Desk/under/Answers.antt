use Rattle.std.specs.Prelude.{Option, Some, None, IfNone}
use Rattle.std.proofs.lemmas.Option.{IfSome_then}
use Rattle.au_rows.specs.Held.{lent}
use Rattle.au_txn.specs.Desks.{open_in}
use Rattle.au_txn.specs.Inside.{laid_in}
use Rattle.au_txn.proofs.Keyed.{found-under, under-found}
use Rattle.au_txn.proofs.desk.Desk.under.Goals as goal

none-then : {X : Type 0} (o : Option X) (P Q : Type 0) → IfNone o P → (P → Q) → IfNone o Q
none-then None P Q p more = more p
none-then (Some x) P Q p more = p

pub returns-clause-some : goal.returns-clause-some
returns-clause-some c = rw (← c.self.view_is) (IfSome_then c.under.result c.under.ensures.some
    (λ row. found-under c.self.inside.rows (open_in (laid_in c.self.inside.rows c.self.inside.logs.items) c.self.inside.logs.items) c.self.invariant c.args.table.now c.args.client c.args.key.now (lent row)))

pub returns-clause-none : goal.returns-clause-none
returns-clause-none c = rw (← c.self.view_is) (none-then c.under.result _ _ c.under.ensures.none
    (λ none row found. none row (under-found c.self.inside.rows (open_in (laid_in c.self.inside.rows c.self.inside.logs.items) c.self.inside.logs.items) c.self.invariant c.args.table.now c.args.client c.args.key.now row found)))
