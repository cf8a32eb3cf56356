use Rattle.std.proofs.Common.{◌≡◌, ◌∙◌, ◌<◌, ℕ, drop, true, refl, List, [], ◌∷◌, None, length, ap, sym, subst, map, arith}
use Rattle.std.specs.List.{Contains, list_all, position_or_len}
use Rattle.au_base.specs.declared.cell.Cell.{Cell}
use Rattle.au_base.specs.declared.numbers.RowNo.{RowNo}
use Rattle.au_rows.specs.declared.place.Place.{Place}
use Rattle.au_rows.specs.Held.{lent, view_of}
use Rattle.au_rows.specs.Kept.{held_of, place_from}
use Rattle.au_rows.specs.Order.{in_order}
use Rattle.au_rows.proofs.UnderLemmas.{none-contained, row-behind, row-here, row-within}
use Rattle.au_rows.proofs.ViewLemmas.{drop-order, later-from, step-from, step-order, step-past, view_of-drop, view_of-past}
use Rattle.au_rows.proofs.reading.under_walk.Goals as goal

abbrev nothing : Place
nothing = record { table = 0; number = record { 0 = 0 }; settled = None; owner = None; newest = None }

pub loop-place-init : goal.loop-place-init
loop-place-init c =
    let places = c.args.places.now.listed in
    let asked = c.args.asked.now in
    let slots = c.args.versions.now.slots in
    let F = place_from asked.table (record { 0 = 0 }) in
    let is = c.from-walk.ensures in
    let same : view_of asked.table asked.by (map (held_of slots) c.from-walk.result) ≡ view_of asked.table asked.by (map (held_of slots) places) =
    ap (λ (ps : List Place). view_of asked.table asked.by (map (held_of slots) ps)) is ∙ view_of-drop slots asked.table asked.by places in
    record {
      order = ap in_order is ∙ drop-order places (position_or_len F places) c.requires;
      from = ap (list_all F) is ∙ later-from asked.table (record { 0 = 0 }) places c.requires;
      within = λ row h. subst (λ (rows : List (RowNo × List Cell)). Contains rows row) same h;
      rest = λ row h has. subst (λ (rows : List (RowNo × List Cell)). Contains rows row) (sym same) h;
    }

pub loop-place-smaller : goal.loop-place-smaller
loop-place-smaller c = let one = ap length c.in-Some.ensures in omega arith

pub returns-then-place-asked-clause-none : goal.returns-then-place-asked-clause-none
returns-then-place-asked-clause-none c = λ row h has.
    let asked = c.args.asked.now in
    let i = c.loop-place.invariant in
    let past = step-past asked.table (record { 0 = 0 }) c.loop-place.walk c.step.new.self c.in-Some.place c.in-Some.ensures i.order i.from c.if-place-asked.true in
    none-contained _ row (view_of-past c.args.versions.now.slots asked.table asked.by c.loop-place.walk past) (i.rest row h has)

pub returns-in-Some-row_if_under-clause-some : goal.returns-in-Some-row_if_under-clause-some
returns-in-Some-row_if_under-clause-some c =
    let asked = c.args.asked.now in
    let slots = c.args.versions.now.slots in
    let i = c.loop-place.invariant in
    let p = c.in-Some.place in
    let rest = c.step.new.self in
    let is : c.loop-place.walk ≡ p ∷ rest = c.in-Some.ensures in
    let first : 0 < length (p ∷ rest) = omega arith in
    let row = c.in-Some-row_if_under.row in
    let some = c.in-Some-row_if_under.ensures.some in (
      i.within (lent row) (subst (λ (ps : List Place). Contains (view_of asked.table asked.by (map (held_of slots) ps)) (lent row)) (sym is)
          (row-here slots asked.table asked.by (p ∷ rest) 0 nothing row.0 row.1.now first c.if-place-asked.false some.0 some.1 (lent row) refl)),
      some.2,
    )

pub loop-place-preserved : goal.loop-place-preserved
loop-place-preserved c =
    let asked = c.args.asked.now in
    let slots = c.args.versions.now.slots in
    let i = c.loop-place.invariant in
    let p = c.in-Some.place in
    let rest = c.step.new.self in
    let is : c.loop-place.walk ≡ p ∷ rest = c.in-Some.ensures in
    let first : 0 < length (p ∷ rest) = omega arith in
    record {
      order = step-order asked.table (record { 0 = 0 }) c.loop-place.walk rest p is i.order i.from;
      from = step-from asked.table (record { 0 = 0 }) c.loop-place.walk rest p is i.order i.from;
      within = λ row h. i.within row (subst (λ (ps : List Place). Contains (view_of asked.table asked.by (map (held_of slots) ps)) row) (sym is) (row-within slots asked.table asked.by (p ∷ rest) 0 nothing row first h));
      rest = λ row h has.
          row-behind slots asked.table asked.by (p ∷ rest) 0 nothing asked.places.now asked.key.now row first c.in_default-row_if_under.ensures.none has
          (subst (λ (ps : List Place). Contains (view_of asked.table asked.by (map (held_of slots) ps)) row) is (i.rest row h has));
    }

pub returns-clause-none : goal.returns-clause-none
returns-clause-none c = λ row h has.
    none-contained _ row (ap (λ (ps : List Place). view_of c.args.asked.now.table c.args.asked.now.by (map (held_of c.args.versions.now.slots) ps)) c.in_default.ensures) (c.loop-place.invariant.rest row h has)
