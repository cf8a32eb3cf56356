use Rattle.std.proofs.Common.{◌≡◌, ◌∙◌, [], ap, get_or, sym}
use Rattle.au_rows.specs.Kept.{place_in}
use Rattle.au_rows.specs.Order.{in_order}
use Rattle.au_rows.proofs.BlockLemmas.{found-home, order-at, same-default}
use Rattle.au_rows.proofs.blocks.find_in.Goals as goal

pub find-requires : goal.find-requires
find-requires c =
    let home = c.home_of-at.ensures.home in
    let is : c.places.result.now ≡ get_or c.args.blocks.now c.home_of-at.result [] = c.places.ensures ∙ (c.index-blocks-at.is ∙ same-default c.args.blocks.now c.home_of-at.result _ [] home.within) in
    ap in_order is ∙ order-at c.args.blocks.now c.home_of-at.result home.within c.requires.order

pub returns : goal.returns
returns c =
    let home = c.home_of-at.ensures.home in
    let is : c.places.result.now ≡ get_or c.args.blocks.now c.home_of-at.result [] = c.places.ensures ∙ (c.index-blocks-at.is ∙ same-default c.args.blocks.now c.home_of-at.result _ [] home.within) in
    c.find.ensures
    ∙ (ap (place_in c.args.table c.args.number) is
    ∙ sym (found-home c.args.table c.args.number c.args.blocks.now c.home_of-at.result home))
