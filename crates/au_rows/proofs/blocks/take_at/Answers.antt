use Rattle.std.proofs.Common.{◌≡◌, ◌∙◌, List, [], ap, get_or}
use Rattle.au_rows.specs.declared.place.Place.{Place}
use Rattle.au_rows.specs.Edits.{edited}
use Rattle.au_rows.specs.Kept.{place_at, place_from}
use Rattle.au_rows.specs.Order.{in_order}
use Rattle.au_rows.proofs.BlockLemmas.{edited-home, filled-but-set, order-at, same-default}
use Rattle.au_rows.proofs.blocks.take_at.Goals as goal

pub take_out-requires : goal.take_out-requires
take_out-requires c =
    let is : c.index_mut.result.now ≡ get_or c.args.blocks.now.items c.args.at [] = c.index_mut.ensures.value ∙ same-default c.args.blocks.now.items c.args.at _ [] c.requires.home.within in
    ap in_order is ∙ order-at c.args.blocks.now.items c.args.at c.requires.home.within c.requires.order

pub returns-clause-places : goal.returns-clause-places
returns-clause-places c =
    let is : c.index_mut.result.now ≡ get_or c.args.blocks.now.items c.args.at [] = c.index_mut.ensures.value ∙ same-default c.args.blocks.now.items c.args.at _ [] c.requires.home.within in
    edited-home c.args.table c.args.number [] c.args.blocks.now.items c.args.at _ c.requires.home
    (c.take_out.ensures.places ∙ ap (λ (b : List Place). edited (place_from c.args.table c.args.number) (place_at c.args.table c.args.number) b []) is)

pub returns-clause-filled : goal.returns-clause-filled
returns-clause-filled c = filled-but-set c.args.blocks.now.items c.args.at _ c.requires.filled
