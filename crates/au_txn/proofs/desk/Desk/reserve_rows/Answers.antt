use Rattle.std.proofs.Common.{refl, sym, subst}
use Rattle.au_rows.specs.Held.{Contents}
use Rattle.au_txn.specs.Desks.{open_in}
use Rattle.au_txn.specs.Inside.{Ties, laid_in}
use Rattle.au_txn.proofs.Laid.{same-lists}
use Rattle.au_txn.proofs.Written.{ties-with}
use Rattle.au_txn.proofs.desk.Desk.reserve_rows.Goals as goal

pub invariant_of-self : goal.invariant_of-self
invariant_of-self c = (same-lists (laid_in c.self.inside.rows c.self.inside.logs.items) c.self.inside.logs.items c.self.inside.logs.items c.reserve.new.self (subst (λ (kept : Contents). Ties kept (open_in (laid_in c.self.inside.rows c.self.inside.logs.items) c.self.inside.logs.items)) (sym c.reserve.ensures.rest) (ties-with c.self.inside.rows (open_in (laid_in c.self.inside.rows c.self.inside.logs.items) c.self.inside.logs.items) c.reserve.new.self.spare c.self.invariant)) (λ q. refl)).ties

pub returns-clause-laid : goal.returns-clause-laid
returns-clause-laid c = rw (← c.self.view_is) (same-lists (laid_in c.self.inside.rows c.self.inside.logs.items) c.self.inside.logs.items c.self.inside.logs.items c.reserve.new.self (subst (λ (kept : Contents). Ties kept (open_in (laid_in c.self.inside.rows c.self.inside.logs.items) c.self.inside.logs.items)) (sym c.reserve.ensures.rest) (ties-with c.self.inside.rows (open_in (laid_in c.self.inside.rows c.self.inside.logs.items) c.self.inside.logs.items) c.reserve.new.self.spare c.self.invariant)) (λ q. refl)).laid_is
