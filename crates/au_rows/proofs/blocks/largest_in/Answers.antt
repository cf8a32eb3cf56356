use Rattle.std.proofs.Common.{◌≡◌, ◌∙◌, ◌+◌, ◌-◌, ◌<◌, List, [], None, ap, get_or, length, sym, arith}
use Rattle.std.specs.List.{position_or_len}
use Rattle.au_rows.specs.declared.place.Place.{Place}
use Rattle.au_rows.specs.Kept.{place_from}
use Rattle.au_rows.specs.Order.{in_order}
use Rattle.au_rows.proofs.BlockLemmas.{order-at, same-default}
use Rattle.au_rows.proofs.LargestLemmas.{largest-at, none, some-end}
use Rattle.au_rows.proofs.blocks.largest_in.Goals as goal

abbrev no_place : Place
no_place = record { table = 0; number = record { 0 = 0 }; settled = None; owner = None; newest = None }

pub index_of-end-requires : goal.index_of-end-requires
index_of-end-requires c =
    let home = c.home_of-at.ensures.home in
    let blocks = c.args.blocks.now in
    let is : c.places-block.result.now ≡ get_or blocks c.home_of-at.result [] = c.places-block.ensures ∙ (c.index-blocks-at.is ∙ same-default blocks c.home_of-at.result _ [] home.within) in
    ap in_order is ∙ order-at blocks c.home_of-at.result home.within c.requires.order

pub overflow_sub-result : goal.overflow_sub-result
overflow_sub-result c =
    let home = c.home_of-at.ensures.home in
    let blocks = c.args.blocks.now in
    let is : c.places-block.result.now ≡ get_or blocks c.home_of-at.result [] = c.places-block.ensures ∙ (c.index-blocks-at.is ∙ same-default blocks c.home_of-at.result _ [] home.within) in
    let ends : c.index_of-end.result ≡ position_or_len (place_from (c.args.table + 1) none) (get_or blocks c.home_of-at.result []) = c.index_of-end.ensures.index ∙ ap (position_or_len (place_from (c.args.table + 1) none)) is in
    let some = some-end c.args.table blocks c.home_of-at.result home c.requires.order c.requires.filled c.requires.numbered c.home_of-at.ensures.begins c.requires.there in
    omega (arith, ends, some)

pub bounds-block-end : goal.bounds-block-end
bounds-block-end c =
    let home = c.home_of-at.ensures.home in
    let blocks = c.args.blocks.now in
    let is : c.places-block.result.now ≡ get_or blocks c.home_of-at.result [] = c.places-block.ensures ∙ (c.index-blocks-at.is ∙ same-default blocks c.home_of-at.result _ [] home.within) in
    let ends : c.index_of-end.result ≡ position_or_len (place_from (c.args.table + 1) none) (get_or blocks c.home_of-at.result []) = c.index_of-end.ensures.index ∙ ap (position_or_len (place_from (c.args.table + 1) none)) is in
    let some = some-end c.args.table blocks c.home_of-at.result home c.requires.order c.requires.filled c.requires.numbered c.home_of-at.ensures.begins c.requires.there in
    omega (arith, ends, some, c.index_of-end.ensures.within)

pub returns : goal.returns
returns c =
    let home = c.home_of-at.ensures.home in
    let blocks = c.args.blocks.now in
    let is : c.places-block.result.now ≡ get_or blocks c.home_of-at.result [] = c.places-block.ensures ∙ (c.index-blocks-at.is ∙ same-default blocks c.home_of-at.result _ [] home.within) in
    let ends : c.index_of-end.result ≡ position_or_len (place_from (c.args.table + 1) none) (get_or blocks c.home_of-at.result []) = c.index_of-end.ensures.index ∙ ap (position_or_len (place_from (c.args.table + 1) none)) is in
    let some = some-end c.args.table blocks c.home_of-at.result home c.requires.order c.requires.filled c.requires.numbered c.home_of-at.ensures.begins c.requires.there in
    let within : c.index_of-end.result - 1 < length (get_or blocks c.home_of-at.result []) = omega (arith, ends, some, c.index_of-end.ensures.within, ap length is) in
    ap (λ (b : List Place). (get_or b (c.index_of-end.result - 1) no_place).number.0) is
    ∙ largest-at c.args.table blocks c.home_of-at.result home c.requires.order c.requires.filled c.requires.numbered c.home_of-at.ensures.begins c.requires.there (c.index_of-end.result - 1) no_place (omega (arith, ends, some)) within
