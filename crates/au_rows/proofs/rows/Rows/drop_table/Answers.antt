use Rattle.std.proofs.Common.{◌≡◌, ◌∙◌, ℕ, ap, sym, filter, map, nat_eq, set, subst, List, Option, None, arith}
use Rattle.indexmap.specs.IndexMap.{get}
use Rattle.std.specs.List.{count_by}
use Rattle.au_base.specs.declared.numbers.RowNo.{RowNo}
use Rattle.au_rows.specs.Held.{is_elsewhere, number_of, owner_of}
use Rattle.au_rows.specs.declared.table.Table.{Table}
use Rattle.au_rows.specs.Kept.{AreKnown, held_of, place_elsewhere, place_shown}
use Rattle.au_rows.proofs.ApartLemmas.{apart-gone}
use Rattle.au_rows.proofs.DropLemmas.{all-same-contents, count-filter, gone-changes, gone-held, gone-open, gone-sound}
use Rattle.au_rows.proofs.IndexLemmas.{indexed-gone}
use Rattle.au_rows.proofs.KnownLemmas.{known-gone}
use Rattle.au_rows.proofs.PutLemmas.{spare-kept}
use Rattle.au_rows.proofs.rows.Rows.drop_table.Goals as goal

pub invariant_of-self : goal.invariant_of-self
invariant_of-self c =
    let places = c.self.inside.places.listed in
    let is : number_of c.args.table.now c.self.inside.tables.items ≡ c.number_of-number.result = sym (c.number_of-number.ensures.number ∙ ap (number_of c.args.table.now) c.deref.ensures.value) in
    let settled = rw (← c.self.view_is) at c.requires.settled in
    let settled_here = subst (λ (t : ℕ). (row : RowNo) → owner_of t row (map (held_of c.self.inside.versions.slots) places) ≡ None) is settled in
    let fewer = count-filter place_shown (place_elsewhere c.number_of-number.result) places in
    let room = c.self.invariant.2 in
    rw c.drop_rows.ensures.listed (
      gone-sound c.number_of-number.result c.self.inside.versions.slots c.drop_rows.new.versions.slots c.drop_rows.ensures.others places c.self.inside.unsettled.listed c.self.invariant.0 settled_here c.drop_rows.ensures.frees c.drop_rows.ensures.freed,
      gone-open c.number_of-number.result c.self.inside.tables.items places c.self.invariant.1,
      omega arith,
      indexed-gone c.number_of-number.result c.self.inside.tables.items (filter (place_elsewhere c.number_of-number.result) places) c.self.inside.versions.slots c.drop_rows.new.versions.slots c.self.inside.unsettled.listed
          (gone-sound c.number_of-number.result c.self.inside.versions.slots c.drop_rows.new.versions.slots c.drop_rows.ensures.others places c.self.inside.unsettled.listed c.self.invariant.0 settled_here c.drop_rows.ensures.frees c.drop_rows.ensures.freed)
          (gone-open c.number_of-number.result c.self.inside.tables.items places c.self.invariant.1) c.drop_rows.ensures.frees c.self.invariant.3,
      apart-gone c.self.inside.tables.items c.number_of-number.result c.self.invariant.4,
      subst (λ (tables : List (Option Table)). AreKnown tables (get nat_eq c.forget_name.new.guesses.numbers)) c.deref-2.ensures.value c.forget_name.ensures.known,
      omega (arith, c.drop_rows.ensures.tables, c.self.invariant.6),
    )

pub returns-clause-rest : goal.returns-clause-rest
returns-clause-rest c =
    let places = c.self.inside.places.listed in
    let is : number_of c.args.table.now c.self.inside.tables.items ≡ c.number_of-number.result = sym (c.number_of-number.ensures.number ∙ ap (number_of c.args.table.now) c.deref.ensures.value) in
    let settled = rw (← c.self.view_is) at c.requires.settled in
    let settled_here = subst (λ (t : ℕ). (row : RowNo) → owner_of t row (map (held_of c.self.inside.versions.slots) places) ≡ None) is settled in
    let sound = c.self.invariant.0 in
    rw (← c.self.view_is) (all-same-contents _ _ _ _ _ _ _
    (ap (λ (t : ℕ). set c.self.inside.tables.items t None) (sym is))
    (ap (map (held_of c.drop_rows.new.versions.slots)) c.drop_rows.ensures.listed
    ∙ (gone-held c.number_of-number.result c.self.inside.versions.slots c.drop_rows.new.versions.slots c.drop_rows.ensures.others places sound.whole
    ∙ ap (λ (t : ℕ). filter (is_elsewhere t) (map (held_of c.self.inside.versions.slots) places)) (sym is)))
    (gone-changes c.number_of-number.result c.self.inside.versions.slots c.drop_rows.new.versions.slots c.drop_rows.ensures.others places c.self.inside.unsettled.listed sound settled_here c.drop_rows.ensures.frees c.drop_rows.ensures.freed))

pub returns-clause-spare : goal.returns-clause-spare
returns-clause-spare c =
    let fewer = count-filter place_shown (place_elsewhere c.number_of-number.result) c.self.inside.places.listed in
    let counted = ap (count_by place_shown) c.drop_rows.ensures.listed in
    rw (← c.self.view_is) (spare-kept _ _ _ _ _ _ _ _ _ _ _ _ (omega (arith, c.drop_rows.ensures.tables)) c.forget_name.ensures.room (omega (arith, c.drop_rows.ensures.places_room)) c.drop_rows.ensures.room (omega arith))

pub forget_name-requires : goal.forget_name-requires
forget_name-requires c = record {
  known = subst (λ (tables : List (Option Table)). AreKnown tables (get nat_eq c.self.inside.guesses.numbers)) (sym c.deref-2.ensures.value)
      (known-gone c.self.inside.tables.items c.number_of-number.result (get nat_eq c.self.inside.guesses.numbers) c.self.invariant.5);
}
