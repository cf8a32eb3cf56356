use Rattle.std.proofs.Common.{◌≡◌, ◌∙◌, ◌+◌, ◌-◌, ◌<◌, ℕ, List, [], ◌∷◌, Option, ap, drop, get_or, length, suc, subst, sym, take}
use Rattle.std.specs.Prelude.{IsNone, IsSome}
use Rattle.au_rows.specs.declared.place.Place.{Place}
use Rattle.au_rows.specs.Blocks.{all_excess}
use Rattle.au_rows.specs.Edits.{edited}
use Rattle.au_rows.specs.Kept.{place_at, place_from, place_in}
use Rattle.au_rows.specs.Order.{in_order}
use Rattle.au_rows.proofs.BlockLemmas.{edited-home, edited-some, excess-at, excess-set, filled-set, found-home, has-length, order-at, same-default}
use Rattle.au_rows.proofs.blocks.put_at.Goals as goal

pub put-requires-clause-order : goal.put-requires-clause-order
put-requires-clause-order c =
    let is : c.index_mut.result.now ≡ get_or c.args.blocks.now.items c.args.at [] = c.index_mut.ensures.value ∙ same-default c.args.blocks.now.items c.args.at _ [] c.requires.home.within in
    ap in_order is ∙ order-at c.args.blocks.now.items c.args.at c.requires.home.within c.requires.order

pub put-requires-clause-room : goal.put-requires-clause-room
put-requires-clause-room c =
    let is : c.index_mut.result.now ≡ get_or c.args.blocks.now.items c.args.at [] = c.index_mut.ensures.value ∙ same-default c.args.blocks.now.items c.args.at _ [] c.requires.home.within in
    let place = c.args.place in
    subst (λ (b : List Place). IsNone (place_in place.table place.number b) → length b < 512) (sym is)
    (λ none. c.requires.room (subst (λ (o : Option Place). IsNone o) (sym (found-home place.table place.number c.args.blocks.now.items c.args.at c.requires.home)) none))

pub returns-clause-places : goal.returns-clause-places
returns-clause-places c =
    let is : c.index_mut.result.now ≡ get_or c.args.blocks.now.items c.args.at [] = c.index_mut.ensures.value ∙ same-default c.args.blocks.now.items c.args.at _ [] c.requires.home.within in
    let place = c.args.place in
    edited-home place.table place.number (place ∷ []) c.args.blocks.now.items c.args.at _ c.requires.home
    (c.put.ensures.places ∙ ap (λ (b : List Place). edited (place_from place.table place.number) (place_at place.table place.number) b (place ∷ [])) is)

pub returns-clause-filled : goal.returns-clause-filled
returns-clause-filled c =
    let place = c.args.place in
    filled-set c.args.blocks.now.items c.args.at c.put.new.self
    (has-length c.put.new.self (subst (λ (b : List Place). 0 < length b) (sym c.put.ensures.places) (edited-some (place_from place.table place.number) (place_at place.table place.number) c.index_mut.result.now place)))
    c.requires.filled

pub returns-clause-in_place : goal.returns-clause-in_place
returns-clause-in_place c = λ there.
    let blocks = c.args.blocks.now.items in
    let is : c.index_mut.result.now ≡ get_or blocks c.args.at [] = c.index_mut.ensures.value ∙ same-default blocks c.args.at _ [] c.requires.home.within in
    let place = c.args.place in
    let found : IsSome (place_in place.table place.number c.index_mut.result.now) =
    subst (λ (b : List Place). IsSome (place_in place.table place.number b)) (sym is) (subst (λ (o : Option Place). IsSome o) (found-home place.table place.number blocks c.args.at c.requires.home) there) in
    let same : length c.put.new.self ≡ length (get_or blocks c.args.at []) = c.put.ensures.in_place found ∙ ap length is in
    excess-set blocks c.args.at c.requires.home.within c.put.new.self
    ∙ (ap (λ (k : ℕ). all_excess (take c.args.at blocks) + ((k - 384) + all_excess (drop (suc c.args.at) blocks))) same
    ∙ sym (excess-at blocks c.args.at c.requires.home.within))
