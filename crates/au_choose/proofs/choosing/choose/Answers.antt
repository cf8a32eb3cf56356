use Rattle.std.proofs.Common.{◌≡◌, ◌∙◌, ◌∷◌, [], List, sym, ap, ap₂, subst}
use Rattle.std.specs.List.{AllByRecursion, Contains}
use Rattle.au_expr.specs.declared.placed.Placed.{Placed}
use Rattle.au_expr.specs.Rows.{Range}
use Rattle.au_query.specs.Combos.{IsSoundLine, Line, lines, overflows}
use Rattle.au_query.specs.Counts.{passing_rows}
use Rattle.au_world.specs.Cutting.{Suffices}
use Rattle.au_world.specs.Sights.{rows_seen, sight_of}
use Rattle.au_choose.specs.Choosing.{IsChoiceRefused, IsChosen, conditions_over}
use Rattle.au_choose.specs.Inside.{IsLimitBroken, IsLimitKept}
use Rattle.au_choose.proofs.Ways.{both_ways, kept_way}
use Rattle.au_choose.proofs.Choice.{are_chosen, are_refused, are_seen, are_sound, overflowing}
use Rattle.au_choose.proofs.choosing.choose.Goals as goal

pub returns-clause-chosen : goal.returns-clause-chosen
returns-clause-chosen c =
    let world = c.args.world.now in
    let session = c.args.session.now in
    let table = c.args.table.now in
    let condition = c.args.condition.now in
    let sight = sight_of world c.args.client in
    let rows = lines c.in_ok-rows.rows.items in
    let whole = rows_seen sight table in
    let suffices = subst (λ (range : Range). Suffices session (conditions_over range condition) whole rows) c.requires.range c.in_ok-rows.ensures in
    let trees = c.in_ok-condition.ensures ∙ ap (λ (range : Range). conditions_over range condition) c.requires.range in
    let lent_rows = ap lines c.as_slice.ensures.value in
    let found = rw c.in-None.is at c.in_ok-chosen.ensures in
    overflowing sight c.args.client session table condition rows suffices
    (ap₂ (λ (conditions : List Placed) (lent : List Line). overflows session conditions (lent ∷ [])) (sym trees) (sym lent_rows) ∙ found)

pub returns-in-Some-clause-chosen : goal.returns-in-Some-clause-chosen
returns-in-Some-clause-chosen c =
    let world = c.args.world.now in
    let client = c.args.client in
    let session = c.args.session.now in
    let table = c.args.table.now in
    let condition = c.args.condition.now in
    let sight = sight_of world client in
    let rows = lines c.in_ok-rows.rows.items in
    let chosen = lines c.in-Some.chosen.items in
    let suffices = subst (λ (range : Range). Suffices session (conditions_over range condition) (rows_seen sight table) rows) c.requires.range c.in_ok-rows.ensures in
    let trees = c.in_ok-condition.ensures ∙ ap (λ (range : Range). conditions_over range condition) c.requires.range in
    let lent_rows = ap lines c.as_slice.ensures.value in
    let found = rw c.in-Some.is at c.in_ok-chosen.ensures in
    let fine = ap₂ (λ (conditions : List Placed) (lent : List Line). overflows session conditions (lent ∷ [])) (sym trees) (sym lent_rows) ∙ found.0 in
    let are = found.1 ∙ ap₂ (λ (conditions : List Placed) (lent : List Line). passing_rows session conditions lent) trees lent_rows in
    both_ways (λ kept. IsLimitKept sight client table chosen × (kept.items ≡ c.in-Some.chosen.items)) (λ code. IsLimitBroken sight client table chosen code)
    (λ kept. IsChosen sight client session table condition (lines kept.items)) (λ code. IsChoiceRefused sight client session table condition code)
    (λ kept is. subst (λ all. IsChosen sight client session table condition (lines all)) (sym is.1) (are_chosen sight client session table condition rows suffices chosen fine are is.0))
    (λ code is. are_refused sight client session table condition rows suffices chosen fine are code is)
    c.allowed.result c.allowed.ensures.kept

pub returns-in-Some-clause-seen : goal.returns-in-Some-clause-seen
returns-in-Some-clause-seen c =
    let world = c.args.world.now in
    let client = c.args.client in
    let session = c.args.session.now in
    let table = c.args.table.now in
    let condition = c.args.condition.now in
    let sight = sight_of world client in
    let rows = lines c.in_ok-rows.rows.items in
    let chosen = lines c.in-Some.chosen.items in
    let suffices = subst (λ (range : Range). Suffices session (conditions_over range condition) (rows_seen sight table) rows) c.requires.range c.in_ok-rows.ensures in
    let trees = c.in_ok-condition.ensures ∙ ap (λ (range : Range). conditions_over range condition) c.requires.range in
    let lent_rows = ap lines c.as_slice.ensures.value in
    let found = rw c.in-Some.is at c.in_ok-chosen.ensures in
    let are = found.1 ∙ ap₂ (λ (conditions : List Placed) (lent : List Line). passing_rows session conditions lent) trees lent_rows in
    kept_way (λ kept. IsLimitKept sight client table chosen × (kept.items ≡ c.in-Some.chosen.items)) (λ code. IsLimitBroken sight client table chosen code)
    (λ kept. AllByRecursion (λ line. Contains (rows_seen sight table) line) (lines kept.items))
    (λ kept is. subst (λ all. AllByRecursion (λ line. Contains (rows_seen sight table) line) (lines all)) (sym is.1) (are_seen sight client session table condition rows suffices chosen are))
    c.allowed.result c.allowed.ensures.kept

pub returns-in-Some-clause-sound : goal.returns-in-Some-clause-sound
returns-in-Some-clause-sound c =
    let world = c.args.world.now in
    let client = c.args.client in
    let session = c.args.session.now in
    let table = c.args.table.now in
    let condition = c.args.condition.now in
    let sight = sight_of world client in
    let rows = lines c.in_ok-rows.rows.items in
    let chosen = lines c.in-Some.chosen.items in
    let suffices = subst (λ (range : Range). Suffices session (conditions_over range condition) (rows_seen sight table) rows) c.requires.range c.in_ok-rows.ensures in
    let trees = c.in_ok-condition.ensures ∙ ap (λ (range : Range). conditions_over range condition) c.requires.range in
    let lent_rows = ap lines c.as_slice.ensures.value in
    let found = rw c.in-Some.is at c.in_ok-chosen.ensures in
    let are = found.1 ∙ ap₂ (λ (conditions : List Placed) (lent : List Line). passing_rows session conditions lent) trees lent_rows in
    kept_way (λ kept. IsLimitKept sight client table chosen × (kept.items ≡ c.in-Some.chosen.items)) (λ code. IsLimitBroken sight client table chosen code)
    (λ kept. AllByRecursion IsSoundLine (lines kept.items))
    (λ kept is. subst (λ all. AllByRecursion IsSoundLine (lines all)) (sym is.1) (are_sound sight client session table condition rows suffices chosen are))
    c.allowed.result c.allowed.ensures.kept
