use Rattle.std.proofs.Common.{◌∙◌, List, ap₂, [], get_or, drop, suc, take}
use Rattle.std.specs.Prelude.{insert}
use Rattle.au_rows.specs.declared.place.Place.{Place}
use Rattle.au_rows.proofs.BlockLemmas.{set-insert}
use Rattle.au_rows.proofs.blocks.split.Goals as goal

pub returns-clause-items : goal.returns-clause-items
returns-clause-items c =
    let blocks = c.args.blocks.now.items in
    c.insert_behind.ensures.items
    ∙ (ap₂ (λ (bs : List (List Place)) (u : List Place). insert bs (suc c.args.at) u) c.part.ensures.lower c.part.ensures.upper
    ∙ set-insert blocks c.args.at c.requires.within (take 384 (get_or blocks c.args.at [])) (drop 384 (get_or blocks c.args.at [])))
