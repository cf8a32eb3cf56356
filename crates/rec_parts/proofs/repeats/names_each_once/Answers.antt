use Rattle.std.proofs.Common.{ℕ, List, ◌==◌, sym, ap, ◌∙◌, length, rules, tests}
use Rattle.std.specs.Borrow.{Bor}
use Rattle.std.specs.Ordering.{eq_by_cmp, nat_cmp}
use Rattle.std.specs.Str.{bytes_eq}
use Rattle.std.specs.Set.{distinct_count}
use Rattle.std.specs.Cmp.Lexicographic.{slice_cmp, nat_list_cmp_total, texts_ties}
use Rattle.std.proofs.lemmas.Iterator.{items_from_drains, YieldsList-from_slice, YieldsList-from_map_by}
use Rattle.std.proofs.lemmas.Iterator.Consumers.{YieldsList-at}
use Rattle.std.proofs.lemmas.Map.Views.{btree_set_len-from_list}
use Rattle.au_entries.specs.declared.policy.Outcomes.{Outcomes}
use Rattle.rec_parts.proofs.Counting.{by_views, length-map, same_count}
use Rattle.rec_parts.proofs.repeats.names_each_once.Goals as goal

pub returns : goal.returns
returns c =
    let ran = c.in_ok-distinct.ensures.ran in
    let items = items_from_drains ran.0 ran.1 (YieldsList-from_map_by _ (λ (r : Bor (List ℕ)). r.now) (λ (user : List ℕ × Outcomes). user.0) (YieldsList-at c.map.ensures.source (YieldsList-from_slice c.args.users.now c.iter.ensures.rest)) c.map.ensures.closure (λ x r q k. search (rules, tests))) in
    let len = btree_set_len-from_list (by_views (λ (x : Bor (List ℕ)). x.now) (slice_cmp nat_cmp) nat_list_cmp_total) ran.0 c.in_ok-distinct.distinct ran.2 in
    let count = same_count (λ (x : Bor (List ℕ)). x.now) (eq_by_cmp (λ x y. slice_cmp nat_cmp x.now y.now)) bytes_eq (λ x y. sym (texts_ties x.now y.now)) ran.0 in
    let sizes = length-map (λ (user : List ℕ × Outcomes). user.0) c.args.users.now in
    rw sizes (ap (λ n. n == length c.args.users.now) (c.len.ensures.len ∙ len ∙ count ∙ ap (distinct_count bytes_eq) items))
