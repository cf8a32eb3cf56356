use Rattle.std.proofs.Common.{◌≡◌, ◌++◌, ◌∷◌, [], drop, length}
use Rattle.std.specs.List.{list_any}
use Rattle.au_query.specs.descent.Inside.{cell_views, cells_in, found_in, names_in, overflows_in}
use Rattle.au_query.proofs.overflow.+search.Given as goal

abbrev pub decreases-search : goal.decreases-search
decreases-search l = length l.sources.now

abbrev pub invariant-loop-cells : goal.invariant-loop-cells
invariant-loop-cells l =
    let each = list_any (λ x. found_in (overflows_in l.session l.expr) (names_in l.expr) (l.initial.row ++ x ∷ []) (cell_views l.rest)) in
    (l.row ≡ l.initial.row) × (each (cells_in (drop l.cells-index l.rows)) ≡ each (cells_in l.rows))
