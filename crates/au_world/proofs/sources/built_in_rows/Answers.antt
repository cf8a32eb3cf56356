use Rattle.std.proofs.Common.{◌∙◌, ap, sym, subst}
use Rattle.std.specs.List.{AllByRecursion}
use Rattle.au_query.specs.Combos.{IsSoundLine}
use Rattle.au_world.specs.BuiltInTables.{kind_of, numbered}
use Rattle.au_world.specs.Sights.{sight_of}
use Rattle.au_world.proofs.Cells.{numbered_sound}
use Rattle.au_world.proofs.Seen.{made_seen}
use Rattle.au_world.proofs.sources.built_in_rows.Goals as goal

pub returns-clause-seen : goal.returns-clause-seen
returns-clause-seen c =
    let table = c.args.table.now in
    c.in_ok-rows.ensures ∙ ap numbered (c.as_slice.ensures ∙ c.requires.found.made.rows)
    ∙ made_seen (sight_of c.args.world.now c.args.client) table.name (kind_of table.name) c.requires.built_in

pub returns-clause-sound : goal.returns-clause-sound
returns-clause-sound c =
    let table = c.args.table.now in
    subst (AllByRecursion IsSoundLine) (sym (c.in_ok-rows.ensures ∙ ap numbered c.as_slice.ensures)) (numbered_sound 1 table.made c.requires.found.made.sound)
