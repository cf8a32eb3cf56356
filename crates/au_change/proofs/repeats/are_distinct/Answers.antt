use Rattle.std.proofs.Common.{◌==◌, sym, ap, ◌∙◌, length}
use Rattle.std.specs.Borrow.{Bor}
use Rattle.std.specs.Ordering.{eq_by_cmp}
use Rattle.std.specs.Set.{distinct_count}
use Rattle.std.proofs.lemmas.Iterator.{items_from_drains, YieldsList-from_slice}
use Rattle.std.proofs.lemmas.Map.Views.{btree_set_len-from_list}
use Rattle.au_change.proofs.Counting.{by_views, counted, same_count}
use Rattle.au_change.proofs.repeats.are_distinct.Goals as goal

pub returns : goal.returns
returns g c =
    let ran = c.in_ok-distinct.ensures.ran in
    let items = items_from_drains ran.0 ran.1 (YieldsList-from_slice c.args.values.now c.iter.ensures.rest) in
    let len = btree_set_len-from_list (by_views (λ (x : Bor g.row.T.Denot). x.now) g.T.Ord.cmp g.met.T.Ord.total) ran.0 c.in_ok-distinct.distinct ran.2 in
    let count = same_count (λ (x : Bor g.row.T.Denot). x.now) (eq_by_cmp (λ x y. g.T.Ord.cmp x.now y.now)) g.T.PartialEq.eq (λ x y. sym (g.met.T.Ord.matches_eq x.now y.now)) ran.0 in
    ap (λ n. n == length c.args.values.now) (c.len.ensures.len ∙ len ∙ count ∙ ap (distinct_count g.T.PartialEq.eq) items)
    ∙ counted g.met.T.Eq.laws c.args.values.now
