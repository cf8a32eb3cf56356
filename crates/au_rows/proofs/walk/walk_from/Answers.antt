use Rattle.std.proofs.Common.{◌≡◌, ◌∙◌, ◌++◌, List, [], ap, ap₂, drop, get_or, length, arith}
use Rattle.std.specs.List.{position_or_len}
use Rattle.au_rows.specs.declared.place.Place.{Place}
use Rattle.au_rows.specs.Blocks.{joined}
use Rattle.au_rows.specs.Kept.{place_from}
use Rattle.au_rows.specs.Order.{in_order}
use Rattle.au_rows.proofs.BlockLemmas.{drop-home, order-at, same-default}
use Rattle.au_rows.proofs.walk.walk_from.Goals as goal

pub index_of-first-requires : goal.index_of-first-requires
index_of-first-requires c =
    let home = c.home_of-at.ensures.home in
    let blocks = c.args.blocks.now in
    let is : c.places-block.result.now ≡ get_or blocks c.home_of-at.result [] = c.places-block.ensures ∙ (c.index-blocks-at.is ∙ same-default blocks c.home_of-at.result _ [] home.within) in
    ap in_order is ∙ order-at blocks c.home_of-at.result home.within c.requires.order

pub returns : goal.returns
returns c =
    let home = c.home_of-at.ensures.home in
    let blocks = c.args.blocks.now in
    let is : c.places-block.result.now ≡ get_or blocks c.home_of-at.result [] = c.places-block.ensures ∙ (c.index-blocks-at.is ∙ same-default blocks c.home_of-at.result _ [] home.within) in
    let i = c.index_of-first.result in
    c.new.ensures
    ∙ (ap₂ (λ (b : List Place) (bs : List (List Place)). b ++ joined bs) (c.rest_of.ensures ∙ ap (drop i) is) c.behind.ensures
    ∙ drop-home c.args.table c.args.number blocks c.home_of-at.result i home
    (c.index_of-first.ensures.index ∙ ap (position_or_len (place_from c.args.table c.args.number)) is) (omega (arith, c.index_of-first.ensures.within, ap length is)))
