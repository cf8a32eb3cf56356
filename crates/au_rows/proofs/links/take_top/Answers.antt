use Rattle.std.proofs.Common.{◌≡◌, ◌∙◌, ℕ, List, None, Option, Some, ap, sym, get_or, nat_eq, cond, arith}
use Rattle.std.specs.Prelude.{true}
use Rattle.std.proofs.lemmas.List.{get_or_read}
use Rattle.au_rows.specs.Ends.{is_own}
use Rattle.au_rows.specs.Links.{is_own_entry, lane_in}
use Rattle.au_rows.proofs.LinkLemmas.{linked-less, live-taken, set-here, set-other, top-set}
use Rattle.au_rows.proofs.links.take_top.Goals as goal

pub returns-in-Some-clause-linked : goal.returns-in-Some-clause-linked
returns-in-Some-clause-linked c =
    let old = c.args.entries.now.items in
    let tops = c.args.tops.now.items in
    let lane = c.lane_of.ensures.lane in
    let within = (c.requires.linked.tops_there (lane_in c.args.by) c.args.at c.requires.top).0 in
    let here : get_or old c.args.at None ≡ Some c.in-Some.entry = sym (get_or_read old _ _ (omega arith) c.index.ensures None) ∙ c.in-Some.is in
    linked-less old _ (λ l. get_or tops l None) (λ l. get_or c.set_top.new.tops.items l None) _ c.args.at (lane_in c.args.by) c.in-Some.entry here c.requires.top
    (set-here old c.args.at None (omega arith))
    (set-other old c.args.at None)
    (λ other.
    ap (λ (xs : List (Option ℕ)). get_or xs other None) c.set_top.ensures.items
    ∙ (top-set tops c.lane_of.result c.in-Some.entry.below other (omega arith)
    ∙ ap (λ (x : ℕ). cond (nat_eq x other) c.in-Some.entry.below (get_or tops other None)) lane))
    c.requires.linked

pub returns-in-Some-clause-taken : goal.returns-in-Some-clause-taken
returns-in-Some-clause-taken c =
    let old = c.args.entries.now.items in
    let within = (c.requires.linked.tops_there (lane_in c.args.by) c.args.at c.requires.top).0 in
    let here : get_or old c.args.at None ≡ Some c.in-Some.entry = sym (get_or_read old _ _ (omega arith) c.index.ensures None) ∙ c.in-Some.is in
    let own : is_own c.args.by c.in-Some.entry.change ≡ true = ap (is_own_entry c.args.by) (sym here) ∙ c.requires.own in
    live-taken c.args.by old c.args.at c.in-Some.entry own here
