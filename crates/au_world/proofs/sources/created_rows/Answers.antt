use Rattle.std.proofs.Common.{◌∙◌, ap, sym, subst}
use Rattle.std.specs.List.{AllByRecursion}
use Rattle.au_query.specs.Combos.{IsSoundLine}
use Rattle.au_world.specs.Sights.{is_there_by, rows_by, sight_of}
use Rattle.au_world.proofs.LookUps.{soundly}
use Rattle.au_world.proofs.sources.created_rows.Goals as goal

pub returns-clause-seen : goal.returns-clause-seen
returns-clause-seen c =
    c.in_ok-view.ensures ∙ sym (ap (rows_by (sight_of c.args.world.now c.args.client) c.args.table.now) c.requires.created)

pub returns-clause-sound : goal.returns-clause-sound
returns-clause-sound c =
    let world = c.args.world.now in
    let tables = world.catalog.now.tables in
    subst (AllByRecursion IsSoundLine) (sym c.in_ok-view.ensures)
    (soundly world.desk.now c.args.client tables c.args.table.now (λ a b. (c.same_is_equal.ensures.table a b).0) c.requires.sound.seen
    (sym (ap (is_there_by tables c.args.table.now) c.requires.created) ∙ c.requires.there)).cells
