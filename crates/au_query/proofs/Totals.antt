-- The order of combinations by keys is total.
use Rattle.std.proofs.Common.{refl, Bool, true, false, List, [], ◌∷◌}
use Rattle.std.specs.Cmp.{IsTotalOrder, IsStrictWeakOrder}
use Rattle.std.proofs.lemmas.Cmp.{on_total, then_total, back_total, nat_cmp_total, int_cmp_total, nat_list_cmp_total}
use Rattle.std.proofs.lemmas.List.Sorted.{ranks_by}
use Rattle.au_expr.specs.declared.placed.Place.{Place}
use Rattle.au_expr.specs.Placing.{cell_at}
use Rattle.au_query.specs.Combos.{cells_of}
use Rattle.au_query.specs.Ordering.{cell_cmp, comes_before, key_cmp, kind_of_cell, moment_in, number_in, order_cmp, text_in}

cell_total : IsTotalOrder cell_cmp
cell_total = then_total (on_total kind_of_cell nat_cmp_total) (then_total (on_total number_in int_cmp_total) (then_total (on_total text_in nat_list_cmp_total) (on_total moment_in nat_cmp_total)))

key_total : (place : Place) (descending : Bool) → IsTotalOrder (key_cmp (place, descending))
key_total place true = back_total (on_total (λ rows. cell_at rows place) cell_total)
key_total place false = on_total (λ rows. cell_at rows place) cell_total

order_total : (keys : List (Place × Bool)) → IsTotalOrder (order_cmp keys)
order_total [] = record { antisymm = λ x y. refl; trans = λ x y z p q. p; congr = λ x y z p. refl }
order_total (key ∷ keys) = then_total (key_total key.0 key.1) (order_total keys)

pub before_is_weak : (keys : List (Place × Bool)) → IsStrictWeakOrder (comes_before keys)
before_is_weak keys = ranks_by (order_total keys) cells_of
