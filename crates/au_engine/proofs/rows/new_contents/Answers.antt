use Rattle.std.proofs.Common.{◌≡◌, ◌∙◌, ◌++◌, List, [], ◌∷◌, ap, sym, arith}
use Rattle.std.specs.List.{filter_map}
use Rattle.au_base.specs.declared.cell.Cell.{Cell}
use Rattle.au_txn.specs.declared.change.RowChange.{RowChange}
use Rattle.au_engine.proofs.Taken.{mapped_more_of}
use Rattle.au_engine.proofs.rows.new_contents.Goals as goal

pub loop-change-preserved : goal.loop-change-preserved
loop-change-preserved c =
    let item = c.change-item.result in
    c.in_ok-add_content.ensures
    ∙ (ap (λ (front : List (List Cell)). front ++ filter_map (λ (change : RowChange). change.new) (item ∷ [])) c.loop-change.invariant
    ∙ sym (mapped_more_of (λ (change : RowChange). change.new) c.args.changes.now c.loop-change.change-index item (omega arith) c.change-item.is))
