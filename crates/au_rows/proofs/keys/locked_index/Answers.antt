use Rattle.std.proofs.Common.{◌↔◌, Bool, map, sym, subst}
use Rattle.std.specs.Prelude.{IsTrue}
use Rattle.au_rows.specs.Held.{SomeLocks}
use Rattle.au_rows.specs.Kept.{change_of, held_of}
use Rattle.au_rows.specs.Links.{live}
use Rattle.au_rows.proofs.SoughtLemmas.{locked-found}
use Rattle.au_rows.proofs.keys.locked_index.Goals as goal

pub returns : goal.returns
returns c =
    let asked = c.args.asked.now in
    let slots = c.args.versions.now.slots in
    subst (λ (b : Bool). IsTrue b ↔ SomeLocks asked.places.now (map (held_of slots) c.args.places.now.listed) asked.table asked.key.now asked.by (map (change_of slots) (live c.args.entries.now))) (sym c.is_some.ensures)
    (locked-found slots asked.by c.args.places.now.listed (live c.args.entries.now) c.requires.sound asked.table asked.places.now asked.key.now c.requires.indexed c.requires.keyed c.find.result c.find.ensures.some c.find.ensures.none)
