use Rattle.std.proofs.Common.{◌∙◌, ◌+◌, ◌++◌, ◌∷◌, [], List, ℕ, drop, filter, map, sym, ap}
use Rattle.std.specs.List.{enumerate_from}
use Rattle.au_base.specs.declared.table.Column.{Column}
use Rattle.au_base.specs.declared.table.TableName.{TableName}
use Rattle.au_query.specs.Answers.{is_first, is_named, named_in, places_of}
use Rattle.au_query.specs.descent.Plans.{trees_in_plan}
use Rattle.au_query.proofs.Firsts.{left_out, next, told}
use Rattle.au_query.proofs.naming.named.Goals as goal
use Rattle.au_query.proofs.naming.named.Goals.{then-is_first+in_ok-named_table+in_ok-push, else-is_first}

pub loop-range-preserved : goal.loop-range-preserved
loop-range-preserved c =
    let sources = c.args.sources.now in
    let trees = trees_in_plan c.args.plan.now in
    let ranges = c.args.ranges.now in
    let range = c.loop-range.range in
    let source = c.index-sources-range.result in
    let at = next sources range source c.loop-range-test.true c.index-sources-range.is in
    let here = enumerate_from range (drop range sources) in
    let rest = enumerate_from (range + 1) (drop (range + 1) sources) in
    let behind = map (named_in trees ranges sources) (filter (is_first sources) rest) in
    elim c.if-is_first.branch [
      | then-is_first+in_ok-named_table+in_ok-push w ↦
          let names = w.in_ok-named_table.ensures ∙ ap (λ (columns : List Column). (source.table, map (λ (column : ℕ × Column). column.1.name) (filter (is_named trees (places_of source.table sources)) (enumerate_from 0 columns)))) w.columns_of-columns.ensures in
          ap (λ (done : List (TableName × List (List ℕ))). done ++ behind) (w.named-is ∙ (w.in_ok-push.ensures.ok ∙ ap (λ entry. c.loop-range.named ++ entry ∷ []) names))
          ∙ told (named_in trees ranges sources) (is_first sources) (range, source) here rest c.loop-range.named _ at (sym c.is_first.ensures ∙ w.if-is_first.true) c.loop-range.invariant
      | else-is_first w ↦
          ap (λ (done : List (TableName × List (List ℕ))). done ++ behind) w.named-is
          ∙ left_out (named_in trees ranges sources) (is_first sources) (range, source) here rest c.loop-range.named _ at (sym c.is_first.ensures ∙ w.if-is_first.false) c.loop-range.invariant
    ]
