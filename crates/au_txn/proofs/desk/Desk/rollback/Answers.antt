use Rattle.std.proofs.Common.{◌∙◌, sym, subst, ap, arith}
use Rattle.au_rows.specs.Held.{Contents}
use Rattle.au_txn.specs.Desks.{open_in}
use Rattle.au_txn.specs.Inside.{Ties, committed, laid_in}
use Rattle.au_txn.proofs.Ended.{committed-undone, ties-undone, without_client}
use Rattle.au_txn.proofs.Laid.{ended-lists}
use Rattle.au_txn.proofs.LogLemmas.{all-rooms}
use Rattle.au_txn.proofs.desk.Desk.rollback.Goals as goal

pub invariant_of-self : goal.invariant_of-self
invariant_of-self c = (ended-lists c.args.client (laid_in c.self.inside.rows c.self.inside.logs.items) c.self.inside.logs.items c.clear_for.new.logs.items c.undo.new.self
    (subst (λ (kept : Contents). Ties kept (without_client c.args.client (open_in (laid_in c.self.inside.rows c.self.inside.logs.items) c.self.inside.logs.items))) (sym c.undo.ensures.rest) (ties-undone c.self.inside.rows (open_in (laid_in c.self.inside.rows c.self.inside.logs.items) c.self.inside.logs.items) c.self.invariant c.args.client c.undo.new.self.spare))
    c.clear_for.ensures.own c.clear_for.ensures.others).ties

pub returns-clause-rows : goal.returns-clause-rows
returns-clause-rows c =
    rw (← c.self.view_is) (ap (λ (kept : Contents). committed kept.tables kept.held) c.undo.ensures.rest
    ∙ committed-undone c.self.inside.rows (open_in (laid_in c.self.inside.rows c.self.inside.logs.items) c.self.inside.logs.items) c.self.invariant c.args.client)

pub returns-clause-own : goal.returns-clause-own
returns-clause-own c = (ended-lists c.args.client (laid_in c.self.inside.rows c.self.inside.logs.items) c.self.inside.logs.items c.clear_for.new.logs.items c.undo.new.self
    (subst (λ (kept : Contents). Ties kept (without_client c.args.client (open_in (laid_in c.self.inside.rows c.self.inside.logs.items) c.self.inside.logs.items))) (sym c.undo.ensures.rest) (ties-undone c.self.inside.rows (open_in (laid_in c.self.inside.rows c.self.inside.logs.items) c.self.inside.logs.items) c.self.invariant c.args.client c.undo.new.self.spare))
    c.clear_for.ensures.own c.clear_for.ensures.others).own

pub returns-clause-others : goal.returns-clause-others
returns-clause-others c = rw (← c.self.view_is) (ended-lists c.args.client (laid_in c.self.inside.rows c.self.inside.logs.items) c.self.inside.logs.items c.clear_for.new.logs.items c.undo.new.self
    (subst (λ (kept : Contents). Ties kept (without_client c.args.client (open_in (laid_in c.self.inside.rows c.self.inside.logs.items) c.self.inside.logs.items))) (sym c.undo.ensures.rest) (ties-undone c.self.inside.rows (open_in (laid_in c.self.inside.rows c.self.inside.logs.items) c.self.inside.logs.items) c.self.invariant c.args.client c.undo.new.self.spare))
    c.clear_for.ensures.own c.clear_for.ensures.others).others

pub returns-clause-laid : goal.returns-clause-laid
returns-clause-laid c = rw (← c.self.view_is) (ended-lists c.args.client (laid_in c.self.inside.rows c.self.inside.logs.items) c.self.inside.logs.items c.clear_for.new.logs.items c.undo.new.self
    (subst (λ (kept : Contents). Ties kept (without_client c.args.client (open_in (laid_in c.self.inside.rows c.self.inside.logs.items) c.self.inside.logs.items))) (sym c.undo.ensures.rest) (ties-undone c.self.inside.rows (open_in (laid_in c.self.inside.rows c.self.inside.logs.items) c.self.inside.logs.items) c.self.invariant c.args.client c.undo.new.self.spare))
    c.clear_for.ensures.own c.clear_for.ensures.others).laid_is

pub returns-clause-all_spare : goal.returns-clause-all_spare
returns-clause-all_spare c =
    rw (← c.self.view_is) (λ q.
    let room = all-rooms c.args.client q c.self.inside.logs.items c.clear_for.new.logs.items c.clear_for.ensures.room c.clear_for.ensures.rooms in
    let more = c.undo.ensures.spare in
    omega arith)
