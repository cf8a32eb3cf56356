use Rattle.std.specs.Prelude.{Option, Some, None, IfNone}
use Rattle.std.proofs.lemmas.Option.{IfSome_then}
use Rattle.au_txn.specs.Desks.{open_in}
use Rattle.au_txn.specs.Inside.{laid_in}
use Rattle.au_txn.proofs.Keyed.{found-other, other-found}
use Rattle.au_txn.proofs.desk.Desk.under_other.Goals as goal

none-then : {X : Type 0} (o : Option X) (P Q : Type 0) → IfNone o P → (P → Q) → IfNone o Q
none-then None P Q p more = more p
none-then (Some x) P Q p more = p

pub returns-clause-some : goal.returns-clause-some
returns-clause-some c = rw (← c.self.view_is) (IfSome_then c.under_other.result c.under_other.ensures.some
    (λ other. found-other c.self.inside.rows (open_in (laid_in c.self.inside.rows c.self.inside.logs.items) c.self.inside.logs.items) c.self.invariant c.args.table.now c.args.client c.args.key.now c.args.row other))

pub returns-clause-none : goal.returns-clause-none
returns-clause-none c = rw (← c.self.view_is) (none-then c.under_other.result _ _ c.under_other.ensures.none
    (λ none other found. none other (other-found c.self.inside.rows (open_in (laid_in c.self.inside.rows c.self.inside.logs.items) c.self.inside.logs.items) c.self.invariant c.args.table.now c.args.client c.args.key.now c.args.row other found)))
