use Rattle.std.proofs.Common.{◌∙◌, ◌∷◌, ◌++◌, ◌+◌, List, [], drop, ap, sym}
use Rattle.std.proofs.lemmas.List.{map-append}
use Rattle.std.specs.Prelude.{Some}
use Rattle.std.specs.Option.{option_to_list}
use Rattle.au_query.specs.Combos.{Line, lent, lines, overflows}
use Rattle.au_query.specs.Counts.{passing_rows}
use Rattle.au_choose.proofs.Rows.{at_hand, one_chosen, one_left, overflows_here, overflows_later}
use Rattle.au_choose.proofs.passing.passing.Goals as goal
use Rattle.au_choose.proofs.passing.passing.Goals.{then-met+in_ok-push, else-met}

pub returns-in-None : goal.returns-in-None
returns-in-None c =
    let session = c.args.session.now in
    let condition = c.args.condition.now in
    let rows = c.args.rows.now in
    let item = c.loop-number-item.result in
    sym c.loop-number.invariant.1
    ∙ ap (λ xs. overflows session (option_to_list condition) (lines xs ∷ [])) (at_hand rows c.loop-number.number-index item c.loop-number-test.true c.loop-number-item.is)
    ∙ overflows_here session condition (lent item) (lines (drop (c.loop-number.number-index + 1) rows)) (sym c.in-None.ensures)

pub loop-number-preserved : goal.loop-number-preserved
loop-number-preserved c =
    let session = c.args.session.now in
    let condition = c.args.condition.now in
    let conditions = option_to_list condition in
    let rows = c.args.rows.now in
    let item = c.loop-number-item.result in
    let line = lent item in
    let rest = lines (drop (c.loop-number.number-index + 1) rows) in
    let all = passing_rows session conditions (lines rows) in
    let whole = ap lines (at_hand rows c.loop-number.number-index item c.loop-number-test.true c.loop-number-item.is) in
    let so_far = ap (λ (later : List Line). lines c.loop-number.chosen.items ++ passing_rows session conditions later) (sym whole) ∙ c.loop-number.invariant.0 in
    let over = sym c.in-Some.ensures in (
      elim c.if-met.branch [
        | then-met+in_ok-push w ↦
            ap (λ (chosen : List Line). chosen ++ passing_rows session conditions rest) (ap (λ v. lines v.items) w.chosen-is ∙ ap lines w.in_ok-push.ensures.items ∙ map-append lent c.loop-number.chosen.items (item ∷ []))
            ∙ one_chosen session condition (lines c.loop-number.chosen.items) rest all line (over ∙ ap Some w.if-met.true) so_far
        | else-met w ↦
            ap (λ (chosen : List Line). chosen ++ passing_rows session conditions rest) (ap (λ v. lines v.items) w.chosen-is)
            ∙ one_left session condition (lines c.loop-number.chosen.items) rest all line (over ∙ ap Some w.if-met.false) so_far
      ],
      sym (ap (λ (later : List Line). overflows session conditions (later ∷ [])) whole ∙ overflows_later session condition line rest c.in-Some.met over) ∙ c.loop-number.invariant.1,
    )
