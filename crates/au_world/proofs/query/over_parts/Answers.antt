use Rattle.std.proofs.Common.{◌∙◌, ap, length, map, refl, sym, subst}
use Rattle.au_base.specs.declared.table.TableName.{TableName}
use Rattle.au_query.specs.Combos.{AreSoundRows, views}
use Rattle.au_world.specs.Cutting.{AreParts}
use Rattle.au_world.specs.Inside.{conditions_asked, told_by, wholes}
use Rattle.au_world.specs.Sights.{sight_of}
use Rattle.au_world.proofs.Answered.{selected_told}
use Rattle.au_world.proofs.CutAnswers.{answers_alike}
use Rattle.au_world.proofs.LookUps.{parts_long, wholes_sound}
use Rattle.au_world.proofs.Told.{views_told}
use Rattle.au_world.proofs.query.over_parts.Goals as goal

pub select-requires-clause-ranges : goal.select-requires-clause-ranges
select-requires-clause-ranges c =
    let asked = c.args.asked.now in
    c.requires.ranges
    ∙ parts_long asked.session.now (conditions_asked asked) (sight_of c.args.world.now asked.client) asked.tables.now c.in_ok-sources.sources.items c.in_ok-sources.ensures.parts
    ∙ sym (ap length c.as_slice.ensures.value)

pub select-requires-clause-sound : goal.select-requires-clause-sound
select-requires-clause-sound c = subst (λ sources. AreSoundRows (views sources)) (sym c.as_slice.ensures.value) c.in_ok-sources.ensures.sound

pub returns : goal.returns
returns c =
    let asked = c.args.asked.now in
    let world = c.args.world.now in
    let sight = sight_of world asked.client in
    let same = λ (a b : TableName). (c.same_is_equal.ensures.table a b).0 in
    let sources = c.as_slice.result.now in
    let parts = subst (λ those. AreParts asked.session.now (conditions_asked asked) (wholes sight asked.tables.now) (map told_by those)) (sym c.as_slice.ensures.value) c.in_ok-sources.ensures.parts in
    let sound = subst (λ those. AreSoundRows (views those)) (sym c.as_slice.ensures.value) c.in_ok-sources.ensures.sound in
    answers_alike same asked.session.now asked.ranges.now (wholes sight asked.tables.now) (map told_by sources) asked.select.now c.in_ok-selected.selected
    (wholes_sound world asked.client asked.tables.now c.requires.sound c.requires.found same)
    (subst AreSoundRows (views_told sources) sound) c.requires.never c.requires.few parts
    (selected_told asked.session.now asked.ranges.now sources (map told_by sources) asked.select.now c.in_ok-selected.selected refl c.in_ok-selected.ensures)
