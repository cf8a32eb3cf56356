use Rattle.std.proofs.Common.{◌∙◌, ◌+◌, ◌++◌, ◌∷◌, [], List, drop, filter, map, sym, ap}
use Rattle.std.specs.List.{enumerate_from}
use Rattle.au_base.specs.declared.numbers.RowNo.{RowNo}
use Rattle.au_base.specs.declared.table.TableName.{TableName}
use Rattle.au_query.specs.Answers.{is_first, touched_in}
use Rattle.au_query.proofs.Firsts.{left_out, next, told}
use Rattle.au_query.proofs.touching.touched.Goals as goal
use Rattle.au_query.proofs.touching.touched.Goals.{then-is_first+in_ok-touched_table+in_ok-push, else-is_first}

pub loop-range-preserved : goal.loop-range-preserved
loop-range-preserved c =
    let sources = c.args.sources.now in
    let combos = c.args.combos.now in
    let range = c.loop-range.range in
    let source = c.index-sources-range.result in
    let at = next sources range source c.loop-range-test.true c.index-sources-range.is in
    let here = enumerate_from range (drop range sources) in
    let rest = enumerate_from (range + 1) (drop (range + 1) sources) in
    let behind = map (touched_in combos sources) (filter (is_first sources) rest) in
    elim c.if-is_first.branch [
      | then-is_first+in_ok-touched_table+in_ok-push w ↦
          ap (λ (done : List (TableName × List RowNo)). done ++ behind) (w.touched-is ∙ (w.in_ok-push.ensures.ok ∙ ap (λ entry. c.loop-range.touched ++ entry ∷ []) w.in_ok-touched_table.ensures))
          ∙ told (touched_in combos sources) (is_first sources) (range, source) here rest c.loop-range.touched _ at (sym c.is_first.ensures ∙ w.if-is_first.true) c.loop-range.invariant
      | else-is_first w ↦
          ap (λ (done : List (TableName × List RowNo)). done ++ behind) w.touched-is
          ∙ left_out (touched_in combos sources) (is_first sources) (range, source) here rest c.loop-range.touched _ at (sym c.is_first.ensures ∙ w.if-is_first.false) c.loop-range.invariant
    ]
