use Rattle.std.proofs.Common.{◌≡◌, ◌∙◌, ◌+◌, ◌<◌, ◌≤◌, ℕ, List, [], ap, cond, drop, get_or, length, refl, subst, suc, sym}
use Rattle.au_rows.specs.declared.place.Place.{Place}
use Rattle.au_rows.specs.Blocks.{IsHome, all_excess, is_filled, joined, starts_past}
use Rattle.au_rows.proofs.BlockLemmas.{parted-excess, parted-filled, parted-home, parted-joined, parted-upper}
use Rattle.au_rows.proofs.blocks.split_home.Goals as goal

pub returns-clause-home : goal.returns-clause-home
returns-clause-home c =
    let t = c.args.table in
    let n = c.args.number in
    let at = c.args.at in
    let blocks = c.args.blocks.now.items in
    let upper = drop 384 (get_or blocks at []) in
    let within = c.requires.home.within in
    let side : c.side.result ≡ cond (starts_past t n upper) at (suc at) =
    c.side.ensures
    ∙ (ap (λ (bs : List (List Place)). cond (starts_past t n (get_or bs (suc at) [])) at (suc at)) (c.deref.ensures.value ∙ c.split.ensures.items)
    ∙ ap (λ (u : List Place). cond (starts_past t n u) at (suc at)) (parted-upper blocks at within c.split.ensures.size)) in
    let part = parted-home blocks at within c.split.ensures.size t n c.requires.home c.requires.order (starts_past t n upper) refl in
    subst (λ (k : ℕ). IsHome t n c.split.new.blocks.items k) (sym side)
    (subst (λ (bs : List (List Place)). IsHome t n bs (cond (starts_past t n upper) at (suc at))) (sym c.split.ensures.items) part.is_home)

pub returns-clause-places : goal.returns-clause-places
returns-clause-places c = ap joined c.split.ensures.items ∙ parted-joined c.args.blocks.now.items c.args.at c.requires.home.within c.split.ensures.size

pub returns-clause-filled : goal.returns-clause-filled
returns-clause-filled c = ap is_filled c.split.ensures.items ∙ parted-filled c.args.blocks.now.items c.args.at c.requires.home.within c.split.ensures.size c.requires.filled

pub returns-clause-room : goal.returns-clause-room
returns-clause-room c =
    let t = c.args.table in
    let n = c.args.number in
    let at = c.args.at in
    let blocks = c.args.blocks.now.items in
    let upper = drop 384 (get_or blocks at []) in
    let within = c.requires.home.within in
    let side : c.side.result ≡ cond (starts_past t n upper) at (suc at) =
    c.side.ensures
    ∙ (ap (λ (bs : List (List Place)). cond (starts_past t n (get_or bs (suc at) [])) at (suc at)) (c.deref.ensures.value ∙ c.split.ensures.items)
    ∙ ap (λ (u : List Place). cond (starts_past t n u) at (suc at)) (parted-upper blocks at within c.split.ensures.size)) in
    let part = parted-home blocks at within c.split.ensures.size t n c.requires.home c.requires.order (starts_past t n upper) refl in
    subst (λ (k : ℕ). length (get_or c.split.new.blocks.items k []) < 512) (sym side)
    (subst (λ (bs : List (List Place)). length (get_or bs (cond (starts_past t n upper) at (suc at)) []) < 512) (sym c.split.ensures.items) part.is_room)

pub returns-clause-excess : goal.returns-clause-excess
returns-clause-excess c =
    subst (λ (bs : List (List Place)). all_excess bs + 128 ≤ all_excess c.args.blocks.now.items) (sym c.split.ensures.items)
    (parted-excess c.args.blocks.now.items c.args.at c.requires.home.within c.split.ensures.size)
