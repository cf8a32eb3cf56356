use Rattle.std.proofs.Common.{◌≡◌, ◌∙◌, ◌∷◌, [], inr, ap, sym}
use Rattle.std.specs.List.{AllByRecursion}
use Rattle.au_base.specs.declared.table.TableName.{TableName}
use Rattle.au_query.specs.Combos.{IsSoundLine, lines, rows_of}
use Rattle.au_txn.specs.Desks.{open_of}
use Rattle.au_txn.specs.Rows.{Row}
use Rattle.au_world.specs.Cutting.{IsCut}
use Rattle.au_world.specs.Inside.{AreUnder, condition_asked, told_by, whole_of}
use Rattle.au_world.specs.Sights.{is_there_by, sight_of}
use Rattle.au_world.proofs.KeyedCut.{keyed_cut}
use Rattle.au_world.proofs.LookUps.{if_both, if_ok, part_sound, soundly, whole_sound}
use Rattle.au_world.proofs.looking.count_source.Goals as goal

pub returns-clause-cut : goal.returns-clause-cut
returns-clause-cut c =
    let world = c.args.world.now in
    let desk = world.desk.now in
    let asked = c.args.asked.now in
    let own = open_of desk asked.client in
    let name = asked.table.now.name in
    if_both (λ source. source.table ≡ name) (λ source. AreUnder desk asked.client name c.args.key.now (rows_of source))
    (λ source. IsCut asked.session.now (condition_asked asked) (name ∷ []) 0 (whole_of (sight_of world asked.client) asked.table.now) (told_by source))
    (λ source table under. keyed_cut (λ (a b : TableName). (c.same_is_equal.ensures.table a b).0) world asked.client asked.session.now (condition_asked asked) (name ∷ []) 0 name c.args.key.now
    (c.rows_are_what_they_answer.ensures.ordered desk.rows own c.holds_together.ensures.rows)
    (λ (row : Row). c.rows_stand_by_tables.ensures.viewed desk.rows own name row c.holds_together.ensures.rows)
    (soundly desk asked.client world.catalog.now.tables name (λ (a b : TableName). (c.same_is_equal.ensures.table a b).0) c.requires.sound.seen (sym (ap (is_there_by world.catalog.now.tables name) c.requires.key.fixed.created) ∙ c.requires.found.there)).keys c.requires.key.fixed source table under)
    c.source_under.result c.source_under.ensures.table c.source_under.ensures.rows

pub returns-clause-whole : goal.returns-clause-whole
returns-clause-whole c = whole_sound c.args.world.now c.args.asked.now.client c.args.asked.now.table.now c.requires.sound c.requires.found (λ a b. (c.same_is_equal.ensures.table a b).0)

pub returns-clause-sound : goal.returns-clause-sound
returns-clause-sound c =
    let world = c.args.world.now in
    let asked = c.args.asked.now in
    let name = asked.table.now.name in
    let whole = whole_of (sight_of world asked.client) asked.table.now in
    if_ok (λ source. IsCut asked.session.now (condition_asked asked) (name ∷ []) 0 whole (told_by source))
    (λ source. AllByRecursion IsSoundLine (lines source.rows.items))
    (λ source is. part_sound asked.session.now (condition_asked asked) (name ∷ []) (0, whole) (told_by source) (inr is) (returns-clause-whole c))
    c.source_under.result (returns-clause-cut c)
