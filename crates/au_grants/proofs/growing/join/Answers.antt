use Rattle.std.proofs.Common.{◌≡◌, ◌∙◌, true, sym, ap, reverse, [], ◌∷◌, ◌++◌, arith, subst}
use Rattle.au_grants.specs.Order.{is_in_order}
use Rattle.au_grants.specs.descent.Growing.{before_by, merged}
use Rattle.au_grants.specs.descent.Halving.{IsPlaceOf}
use Rattle.au_grants.proofs.Inserted.{cut_at}
use Rattle.au_grants.proofs.Merging.{front_ordered}
use Rattle.au_grants.proofs.Moving.{moved_last}
use Rattle.au_grants.proofs.Ordered.{kept_in_order}
use Rattle.au_grants.proofs.Orders.{apart, joins}
use Rattle.au_grants.proofs.growing.join.Goals as goal

pub loop-entry-preserved : goal.loop-entry-preserved
loop-entry-preserved g c =
    let fields = g.T.Entry.fields in
    let at = c.loop-entry.invariant in
    let L = c.loop-entry.kept.items in
    let F = c.pop.new.self.items in
    let y = c.in-Some.entry in
    let place = subst (λ ys. IsPlaceOf fields (fields y) ys c.place_among-place.result) c.as_slice.ensures.value c.place_among-place.ensures in
    let parts = cut_at fields y L c.place_among-place.result place in
    let ordered = subst (λ ys. is_in_order (before_by fields) ys ≡ true) c.in-Some.ensures.items at.1 in
    let fewer = c.in-Some.ensures.cases in
    let left = c.move_from.ensures.length in
    let longer = c.push_reserved.ensures.len in
    let b = before_by fields in (
      ap (λ xs. merged b F c.move_from.new.entries.items ++ reverse xs) c.push_reserved.ensures.items
          ∙ moved_last b (joins fields) (apart fields) F L c.move_from.new.entries.items c.loop-entry.moving.items c.move_from.new.moving.items y c.place_among-place.result ordered parts.0 parts.1 c.move_from.ensures.entries c.move_from.ensures.moving
          ∙ ap (λ xs. merged b xs L ++ reverse c.loop-entry.moving.items) (sym c.in-Some.ensures.items) ∙ at.0,
      front_ordered b F (y ∷ []) ordered,
      ap (is_in_order b) (c.move_from.ensures.entries ∙ sym parts.0) ∙ kept_in_order b (λ e. b e y) L at.2,
      omega (arith, fewer, left.0, left.1, longer, at.3),
      c.move_from.ensures.capacity.0 ∙ at.4,
      c.in-Some.ensures.capacity ∙ at.5,
      c.push_reserved.ensures.capacity ∙ c.move_from.ensures.capacity.1 ∙ at.6,
    )
