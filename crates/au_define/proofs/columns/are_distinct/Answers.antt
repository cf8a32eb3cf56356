use Rattle.std.proofs.Common.{◌==◌, List, ℕ, sym, ap, ◌∙◌, length}
use Rattle.std.specs.Borrow.{Bor}
use Rattle.std.specs.Ordering.{eq_by_cmp, nat_cmp}
use Rattle.std.specs.Str.{bytes_eq}
use Rattle.std.specs.Set.{distinct_count}
use Rattle.std.specs.Cmp.Lexicographic.{slice_cmp, nat_list_cmp_total, texts_ties}
use Rattle.std.proofs.lemmas.Iterator.{items_from_drains, YieldsList-from_slice}
use Rattle.std.proofs.lemmas.Map.Views.{btree_set_len-from_list}
use Rattle.au_define.proofs.Counting.{by_views, same_count}
use Rattle.au_define.proofs.columns.are_distinct.Goals as goal

pub returns : goal.returns
returns c =
    let ran = c.in_ok-distinct.ensures.ran in
    let items = items_from_drains ran.0 ran.1 (YieldsList-from_slice c.args.names.now c.iter.ensures.rest) in
    let len = btree_set_len-from_list (by_views (λ (x : Bor (List ℕ)). x.now) (slice_cmp nat_cmp) nat_list_cmp_total) ran.0 c.in_ok-distinct.distinct ran.2 in
    let count = same_count (λ (x : Bor (List ℕ)). x.now) (eq_by_cmp (λ x y. slice_cmp nat_cmp x.now y.now)) bytes_eq (λ x y. sym (texts_ties x.now y.now)) ran.0 in
    ap (λ n. n == length c.args.names.now) (c.len.ensures.len ∙ len ∙ count ∙ ap (distinct_count bytes_eq) items)
