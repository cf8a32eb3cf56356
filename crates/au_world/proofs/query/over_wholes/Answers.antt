use Rattle.std.proofs.Common.{◌∙◌, ap, length, map, sym, subst}
use Rattle.std.proofs.lemmas.List.{length-map}
use Rattle.au_query.specs.Combos.{AreSoundRows, views}
use Rattle.au_world.specs.Inside.{told_by, whole_of, wholes}
use Rattle.au_world.specs.Selecting.{seen_of}
use Rattle.au_world.specs.Sights.{sight_of}
use Rattle.au_world.proofs.Answered.{selected_told}
use Rattle.au_world.proofs.Told.{mapped_twice}
use Rattle.au_world.proofs.query.over_wholes.Goals as goal

pub select-requires-clause-ranges : goal.select-requires-clause-ranges
select-requires-clause-ranges c =
    let asked = c.args.asked.now in
    let sight = sight_of c.args.world.now asked.client in
    let seen = c.in_ok-sources.ensures.seen ∙ mapped_twice (λ table. table.name) (seen_of sight) asked.tables.now in
    c.requires.ranges ∙ sym (length-map asked.tables.now (whole_of sight)) ∙ sym (ap length seen) ∙ length-map c.in_ok-sources.sources.items told_by ∙ sym (ap length c.as_slice.ensures.value)

pub select-requires-clause-sound : goal.select-requires-clause-sound
select-requires-clause-sound c = subst (λ sources. AreSoundRows (views sources)) (sym c.as_slice.ensures.value) c.in_ok-sources.ensures.sound

pub returns : goal.returns
returns c =
    let asked = c.args.asked.now in
    let sight = sight_of c.args.world.now asked.client in
    selected_told asked.session.now asked.ranges.now c.as_slice.result.now (wholes sight asked.tables.now) asked.select.now c.in_ok-selected.selected
    (ap (map told_by) c.as_slice.ensures.value ∙ c.in_ok-sources.ensures.seen ∙ mapped_twice (λ table. table.name) (seen_of sight) asked.tables.now) c.in_ok-selected.ensures
