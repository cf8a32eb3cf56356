use Rattle.std.proofs.Common.{◌≡◌, ◌<◌, ◌∙◌, ◌+◌, ◌++◌, ◌∷◌, [], ℕ, List, length, drop, get_or, map, sym, subst, ap, ap₂, add-one, append_assoc, arith}
use Rattle.std.proofs.Math.Seq.{drop-cons}
use Rattle.std.specs.List.{filter_map}
use Rattle.au_rows.specs.Held.{Contents, number_of, with_row}
use Rattle.au_txn.specs.declared.change.RowChange.{RowChange}
use Rattle.au_txn.specs.Inside.{CanWrite, held_after, kept_change}
use Rattle.au_txn.proofs.Written.{contents-left}
use Rattle.au_txn.proofs.writing.write_all.Goals as goal

-- the change that comes next, and those behind it
next : (changes : List RowChange) (i : ℕ) (change : RowChange) → i < length changes → change ≡ get_or changes i change → drop i changes ≡ change ∷ drop (i + 1) changes
next changes i change within is = drop-cons changes i change within ∙ ap₂ (λ x (n : ℕ). x ∷ drop n changes) (sym is) (sym (add-one i))

pub write_one-requires-clause-may : goal.write_one-requires-clause-may
write_one-requires-clause-may c =
    let at = next c.args.changes.now c.loop-change.change-index c.change-item.result c.loop-change-test.true c.change-item.is in
    (subst (λ (xs : List RowChange). CanWrite c.loop-change.rows.tables c.args.client xs c.loop-change.rows.held) at c.loop-change.invariant.each).0

pub loop-change-preserved : goal.loop-change-preserved
loop-change-preserved c =
    let at = next c.args.changes.now c.loop-change.change-index c.change-item.result c.loop-change-test.true c.change-item.is in
    let rest = c.write_one.ensures.rest in
    let tables = ap (λ (kept : Contents). kept.tables) rest in
    let held = ap (λ (kept : Contents). kept.held) rest in
    let so_far = c.loop-change.invariant in
    record {
      tables = tables ∙ so_far.tables;
      each = subst (λ (kept : Contents). CanWrite kept.tables c.args.client (drop (c.loop-change.change-index + 1) c.args.changes.now) kept.held) (sym rest)
          (subst (λ (xs : List RowChange). CanWrite c.loop-change.rows.tables c.args.client xs c.loop-change.rows.held) at so_far.each).1;
      contents = contents-left c.change-item.result (drop (c.loop-change.change-index + 1) c.args.changes.now) _ _ c.write_one.ensures.contents (so_far.contents ∙ ap (filter_map (λ (x : RowChange). x.new)) at);
      held = ap (held_after c.args.rows.now.tables c.args.client (drop (c.loop-change.change-index + 1) c.args.changes.now))
          (held ∙ ap (λ ts. with_row (number_of c.change-item.result.table ts) c.change-item.result.row c.args.client c.change-item.result.new c.loop-change.rows.held) so_far.tables)
          ∙ (sym (ap (λ xs. held_after c.args.rows.now.tables c.args.client xs c.loop-change.rows.held) at) ∙ so_far.held);
      changes = ap (λ xs. xs ++ map (kept_change c.args.rows.now.tables c.args.client) (drop (c.loop-change.change-index + 1) c.args.changes.now))
          (ap (λ (kept : Contents). kept.changes) rest ∙ ap (λ ts. c.loop-change.rows.changes ++ kept_change ts c.args.client c.change-item.result ∷ []) so_far.tables)
          ∙ (append_assoc c.loop-change.rows.changes (kept_change c.args.rows.now.tables c.args.client c.change-item.result ∷ []) (map (kept_change c.args.rows.now.tables c.args.client) (drop (c.loop-change.change-index + 1) c.args.changes.now))
          ∙ (sym (ap (λ xs. c.loop-change.rows.changes ++ map (kept_change c.args.rows.now.tables c.args.client) xs) at) ∙ so_far.changes));
      spare = omega arith;
      covers = so_far.covers;
    }
