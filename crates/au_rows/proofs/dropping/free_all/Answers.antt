use Rattle.std.proofs.Common.{◌≡◌, ◌∙◌, ◌⊎◌, inl, inr, ℕ, true, false, length, get_or, refl, ap, sym, None, arith}
use Rattle.std.specs.List.{list_all, list_any, position_or_len}
use Rattle.std.proofs.lemmas.Bool.{and_parts}
use Rattle.au_base.specs.declared.numbers.RowNo.{RowNo}
use Rattle.au_rows.specs.Kept.{is_whole, place_from}
use Rattle.au_rows.specs.Ends.{names_of}
use Rattle.au_rows.specs.Order.{in_order}
use Rattle.au_rows.proofs.UsedLemmas.{or-cases, vacant-stays}
use Rattle.au_rows.proofs.DropLemmas.{others-trans, whole-loose}
use Rattle.au_rows.proofs.EndLemmas.{frees-trans, loose-frees}
use Rattle.au_rows.proofs.SpanLemmas.{all-drop, named-drop, named-past}
use Rattle.au_rows.proofs.ViewLemmas.{drop-order, later-from, step-from, step-order, step-past}
use Rattle.au_rows.proofs.dropping.free_all.Goals as goal

pub loop-place-init : goal.loop-place-init
loop-place-init c =
    let places = c.args.places.now.listed in
    let zero_row : RowNo = record { 0 = 0 } in
    let from = place_from c.args.table zero_row in
    let is = c.from-walk.ensures in
    record {
      order = ap in_order is ∙ drop-order places (position_or_len from places) c.requires.order;
      from = ap (list_all from) is ∙ later-from c.args.table zero_row places c.requires.order;
      whole = ap (list_all (is_whole c.args.versions.now.slots)) is ∙ all-drop (is_whole c.args.versions.now.slots) places (position_or_len from places) c.requires.whole;
      others = λ t n slot other is. refl;
      frees = λ slot. inl refl;
      freed = λ slot h. inl (ap (list_any (names_of c.args.table slot)) is ∙ (named-drop c.args.table slot places ∙ h));
      room = omega arith;
    }

pub loop-place-preserved : goal.loop-place-preserved
loop-place-preserved c =
    let i = c.loop-place.invariant in
    let zero_row : RowNo = record { 0 = 0 } in
    record {
      order = step-order c.args.table zero_row c.loop-place.walk c.step.new.self c.in-Some.place c.in-Some.ensures i.order i.from;
      from = step-from c.args.table zero_row c.loop-place.walk c.step.new.self c.in-Some.place c.in-Some.ensures i.order i.from;
      whole = (and_parts (is_whole c.args.versions.now.slots c.in-Some.place) (list_all (is_whole c.args.versions.now.slots) c.step.new.self) (ap (list_all (is_whole c.args.versions.now.slots)) (sym c.in-Some.ensures) ∙ i.whole)).1;
      others = others-trans c.args.table c.args.versions.now.slots c.loop-place.versions.slots c.free_of.new.versions.slots i.others c.free_of.ensures.others;
      frees = frees-trans c.args.versions.now.slots c.loop-place.versions.slots c.free_of.new.versions.slots i.frees c.free_of.ensures.frees;
      freed = λ slot h. go slot (i.freed slot h);
      room = omega (arith, i.room, c.free_of.ensures.room);
    }
  where
    go : (slot : ℕ) → (list_any (names_of c.args.table slot) c.loop-place.walk ≡ true) ⊎ (get_or c.loop-place.versions.slots slot None ≡ None)
        → (list_any (names_of c.args.table slot) c.step.new.self ≡ true) ⊎ (get_or c.free_of.new.versions.slots slot None ≡ None)
    go slot (inr none) = inr (vacant-stays c.loop-place.versions.slots c.free_of.new.versions.slots c.free_of.ensures.frees slot none)
    go slot (inl some) = parts (or-cases (names_of c.args.table slot c.in-Some.place) (list_any (names_of c.args.table slot) c.step.new.self) (ap (list_any (names_of c.args.table slot)) (sym c.in-Some.ensures) ∙ some))
      where
        parts : (names_of c.args.table slot c.in-Some.place ≡ true) ⊎ (list_any (names_of c.args.table slot) c.step.new.self ≡ true) → (list_any (names_of c.args.table slot) c.step.new.self ≡ true) ⊎ (get_or c.free_of.new.versions.slots slot None ≡ None)
        parts (inl here) = inr (c.free_of.ensures.freed slot here)
        parts (inr rest) = inl rest

pub loop-place-smaller : goal.loop-place-smaller
loop-place-smaller c = let one = ap length c.in-Some.ensures in omega arith

pub returns-clause-freed : goal.returns-clause-freed
returns-clause-freed c = λ slot h. go slot (c.loop-place.invariant.freed slot h)
  where
    go : (slot : ℕ) → (list_any (names_of c.args.table slot) c.loop-place.walk ≡ true) ⊎ (get_or c.loop-place.versions.slots slot None ≡ None) → get_or c.loop-place.versions.slots slot None ≡ None
    go slot (inr vacant) = vacant
    go slot (inl some) = let no : false ≡ true = ap (list_any (names_of c.args.table slot)) (sym c.in_default.ensures) ∙ some in cc

pub returns-then-place-table-clause-freed : goal.returns-then-place-table-clause-freed
returns-then-place-table-clause-freed c = λ slot h. go slot (c.loop-place.invariant.freed slot h)
  where
    go : (slot : ℕ) → (list_any (names_of c.args.table slot) c.loop-place.walk ≡ true) ⊎ (get_or c.loop-place.versions.slots slot None ≡ None) → get_or c.loop-place.versions.slots slot None ≡ None
    go slot (inr vacant) = vacant
    go slot (inl some) =
        let i = c.loop-place.invariant in
        let past = step-past c.args.table (record { 0 = 0 }) c.loop-place.walk c.step.new.self c.in-Some.place c.in-Some.ensures i.order i.from c.if-place-table.true in
        let no : false ≡ true = sym (named-past c.args.table slot c.loop-place.walk past) ∙ some in cc

pub free_of-requires-clause-loose : goal.free_of-requires-clause-loose
free_of-requires-clause-loose c =
    let place = c.in-Some.place in
    let whole = (and_parts (is_whole c.args.versions.now.slots place) (list_all (is_whole c.args.versions.now.slots) c.step.new.self) (ap (list_all (is_whole c.args.versions.now.slots)) (sym c.in-Some.ensures) ∙ c.loop-place.invariant.whole)).0 in
    loose-frees c.args.versions.now.slots c.loop-place.versions.slots place.table place.number.0 place.settled c.loop-place.invariant.frees (whole-loose c.args.versions.now.slots place whole)
