use Rattle.std.proofs.Common.{◌∙◌, inl, inr, [], ◌∷◌, sym, subst, ap, arith}
use Rattle.std.specs.Option.{option_map}
use Rattle.au_rows.specs.Held.{Contents}
use Rattle.au_txn.specs.Desks.{open_in, replayer}
use Rattle.au_txn.specs.Inside.{Ties, committed, laid_in}
use Rattle.au_txn.specs.Rows.{row_at}
use Rattle.au_txn.specs.Transactions.{laid_over}
use Rattle.au_txn.proofs.Laid.{lay, laid-more, laid-ties, other-more, own-more, seen-content, some-mapped}
use Rattle.au_txn.proofs.Written.{with_changes}
use Rattle.au_txn.proofs.desk.Desk.lay.Goals as goal

pub lay_one-requires-clause-open : goal.lay_one-requires-clause-open
lay_one-requires-clause-open c =
    let there = rw (← c.self.view_is) at c.requires.there in
    let free = rw (← c.self.view_is) at c.requires.free in
    let content = rw (← c.self.view_is) at c.requires.content in
    let listed = rw (← c.self.view_is) at c.requires.listed in
    let made = lay c.args.table.now c.args.row (option_map (λ cells. cells.items) c.args.content) c.self.inside.rows (open_in (laid_in c.self.inside.rows c.self.inside.logs.items) c.self.inside.logs.items) c.self.invariant there free c.requires.numbered (elim content [ inl new ↦ inl (some-mapped (λ cells. cells.items) c.args.content new) | inr old ↦ inr old ]) in
    made.can.0.there

pub lay_one-requires-clause-free : goal.lay_one-requires-clause-free
lay_one-requires-clause-free c =
    let there = rw (← c.self.view_is) at c.requires.there in
    let free = rw (← c.self.view_is) at c.requires.free in
    let content = rw (← c.self.view_is) at c.requires.content in
    let listed = rw (← c.self.view_is) at c.requires.listed in
    let made = lay c.args.table.now c.args.row (option_map (λ cells. cells.items) c.args.content) c.self.inside.rows (open_in (laid_in c.self.inside.rows c.self.inside.logs.items) c.self.inside.logs.items) c.self.invariant there free c.requires.numbered (elim content [ inl new ↦ inl (some-mapped (λ cells. cells.items) c.args.content new) | inr old ↦ inr old ]) in
    made.can.0.free

pub lay_one-requires-clause-content : goal.lay_one-requires-clause-content
lay_one-requires-clause-content c =
    let content = rw (← c.self.view_is) at c.requires.content in
    seen-content c.args.table.now c.args.row c.args.content c.self.inside.rows (open_in (laid_in c.self.inside.rows c.self.inside.logs.items) c.self.inside.logs.items) c.self.invariant content

pub invariant_of-self : goal.invariant_of-self
invariant_of-self c =
    let there = rw (← c.self.view_is) at c.requires.there in
    let free = rw (← c.self.view_is) at c.requires.free in
    let content = rw (← c.self.view_is) at c.requires.content in
    let listed = rw (← c.self.view_is) at c.requires.listed in
    let made = lay c.args.table.now c.args.row (option_map (λ cells. cells.items) c.args.content) c.self.inside.rows (open_in (laid_in c.self.inside.rows c.self.inside.logs.items) c.self.inside.logs.items) c.self.invariant there free c.requires.numbered (elim content [ inl new ↦ inl (some-mapped (λ cells. cells.items) c.args.content new) | inr old ↦ inr old ]) in
    laid-ties c.lay_one.new.rows (record { table = c.args.table.now; row = c.args.row; old = row_at c.args.table.now c.args.row (laid_over (committed c.self.inside.rows.tables c.self.inside.rows.held) ((open_in (laid_in c.self.inside.rows c.self.inside.logs.items) c.self.inside.logs.items) replayer)); new = option_map (λ cells. cells.items) c.args.content }) (laid_in c.self.inside.rows c.self.inside.logs.items) c.self.inside.logs.items listed (subst (λ (kept : Contents). Ties kept (with_changes replayer ((record { table = c.args.table.now; row = c.args.row; old = row_at c.args.table.now c.args.row (laid_over (committed c.self.inside.rows.tables c.self.inside.rows.held) ((open_in (laid_in c.self.inside.rows c.self.inside.logs.items) c.self.inside.logs.items) replayer)); new = option_map (λ cells. cells.items) c.args.content }) ∷ []) (open_in (laid_in c.self.inside.rows c.self.inside.logs.items) c.self.inside.logs.items))) (sym c.lay_one.ensures.rest) (made.ties c.lay_one.new.rows.spare))

pub returns-clause-rows : goal.returns-clause-rows
returns-clause-rows c =
    let there = rw (← c.self.view_is) at c.requires.there in
    let free = rw (← c.self.view_is) at c.requires.free in
    let content = rw (← c.self.view_is) at c.requires.content in
    let listed = rw (← c.self.view_is) at c.requires.listed in
    let made = lay c.args.table.now c.args.row (option_map (λ cells. cells.items) c.args.content) c.self.inside.rows (open_in (laid_in c.self.inside.rows c.self.inside.logs.items) c.self.inside.logs.items) c.self.invariant there free c.requires.numbered (elim content [ inl new ↦ inl (some-mapped (λ cells. cells.items) c.args.content new) | inr old ↦ inr old ]) in
    rw (← c.self.view_is) (ap (λ (kept : Contents). committed kept.tables kept.held) c.lay_one.ensures.rest ∙ made.rows)

pub returns-clause-laid : goal.returns-clause-laid
returns-clause-laid c =
    let there = rw (← c.self.view_is) at c.requires.there in
    let free = rw (← c.self.view_is) at c.requires.free in
    let content = rw (← c.self.view_is) at c.requires.content in
    let listed = rw (← c.self.view_is) at c.requires.listed in
    let made = lay c.args.table.now c.args.row (option_map (λ cells. cells.items) c.args.content) c.self.inside.rows (open_in (laid_in c.self.inside.rows c.self.inside.logs.items) c.self.inside.logs.items) c.self.invariant there free c.requires.numbered (elim content [ inl new ↦ inl (some-mapped (λ cells. cells.items) c.args.content new) | inr old ↦ inr old ]) in
    rw (← c.self.view_is) (laid-more c.lay_one.new.rows (record { table = c.args.table.now; row = c.args.row; old = row_at c.args.table.now c.args.row (laid_over (committed c.self.inside.rows.tables c.self.inside.rows.held) ((open_in (laid_in c.self.inside.rows c.self.inside.logs.items) c.self.inside.logs.items) replayer)); new = option_map (λ cells. cells.items) c.args.content }) (laid_in c.self.inside.rows c.self.inside.logs.items) c.self.inside.logs.items listed (subst (λ (kept : Contents). Ties kept (with_changes replayer ((record { table = c.args.table.now; row = c.args.row; old = row_at c.args.table.now c.args.row (laid_over (committed c.self.inside.rows.tables c.self.inside.rows.held) ((open_in (laid_in c.self.inside.rows c.self.inside.logs.items) c.self.inside.logs.items) replayer)); new = option_map (λ cells. cells.items) c.args.content }) ∷ []) (open_in (laid_in c.self.inside.rows c.self.inside.logs.items) c.self.inside.logs.items))) (sym c.lay_one.ensures.rest) (made.ties c.lay_one.new.rows.spare)))

pub returns-clause-own : goal.returns-clause-own
returns-clause-own c =
    let there = rw (← c.self.view_is) at c.requires.there in
    let free = rw (← c.self.view_is) at c.requires.free in
    let content = rw (← c.self.view_is) at c.requires.content in
    let listed = rw (← c.self.view_is) at c.requires.listed in
    let made = lay c.args.table.now c.args.row (option_map (λ cells. cells.items) c.args.content) c.self.inside.rows (open_in (laid_in c.self.inside.rows c.self.inside.logs.items) c.self.inside.logs.items) c.self.invariant there free c.requires.numbered (elim content [ inl new ↦ inl (some-mapped (λ cells. cells.items) c.args.content new) | inr old ↦ inr old ]) in
    rw (← c.self.view_is) (own-more (record { table = c.args.table.now; row = c.args.row; old = row_at c.args.table.now c.args.row (laid_over (committed c.self.inside.rows.tables c.self.inside.rows.held) ((open_in (laid_in c.self.inside.rows c.self.inside.logs.items) c.self.inside.logs.items) replayer)); new = option_map (λ cells. cells.items) c.args.content }) (laid_in c.self.inside.rows c.self.inside.logs.items) _ c.self.inside.logs.items listed
    (laid-more c.lay_one.new.rows (record { table = c.args.table.now; row = c.args.row; old = row_at c.args.table.now c.args.row (laid_over (committed c.self.inside.rows.tables c.self.inside.rows.held) ((open_in (laid_in c.self.inside.rows c.self.inside.logs.items) c.self.inside.logs.items) replayer)); new = option_map (λ cells. cells.items) c.args.content }) (laid_in c.self.inside.rows c.self.inside.logs.items) c.self.inside.logs.items listed (subst (λ (kept : Contents). Ties kept (with_changes replayer ((record { table = c.args.table.now; row = c.args.row; old = row_at c.args.table.now c.args.row (laid_over (committed c.self.inside.rows.tables c.self.inside.rows.held) ((open_in (laid_in c.self.inside.rows c.self.inside.logs.items) c.self.inside.logs.items) replayer)); new = option_map (λ cells. cells.items) c.args.content }) ∷ []) (open_in (laid_in c.self.inside.rows c.self.inside.logs.items) c.self.inside.logs.items))) (sym c.lay_one.ensures.rest) (made.ties c.lay_one.new.rows.spare))))

pub returns-clause-others : goal.returns-clause-others
returns-clause-others c = rw (← c.self.view_is) (λ q ne. other-more (laid_in c.self.inside.rows c.self.inside.logs.items) _ c.self.inside.logs.items q ne)

pub returns-clause-all_spare : goal.returns-clause-all_spare
returns-clause-all_spare c = rw (← c.self.view_is) (λ q. (let more = c.lay_one.ensures.spare in omega arith))
