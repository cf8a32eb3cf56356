use Rattle.std.proofs.Common.{◌≡◌, ◌∙◌, ℕ, None, Some, ap, sym, nat_eq, cond, get_or, List, Option, arith}
use Rattle.std.proofs.lemmas.List.{get_or_read}
use Rattle.au_rows.specs.declared.entry.Entry.{Entry}
use Rattle.au_rows.specs.Links.{lane_in}
use Rattle.au_rows.proofs.LinkLemmas.{linked-more, linked-past, live-again, set-here, set-other, top-set}
use Rattle.au_rows.proofs.links.link.Goals as goal

pub returns-in-Some-clause-linked : goal.returns-in-Some-clause-linked
returns-in-Some-clause-linked c =
    let old = c.args.entries.now.items in
    let tops = c.args.tops.now.items in
    let lane = c.lane_of-lane.ensures.lane in
    let below : c.top_of-below.result ≡ get_or tops (lane_in c.in-Some.entry.change.by) None =
    c.top_of-below.ensures ∙ (ap (λ (xs : List (Option ℕ)). get_or xs c.lane_of-lane.result None) c.deref.ensures.value ∙ ap (λ (l : ℕ). get_or tops l None) lane) in
    linked-more old _ (λ l. get_or tops l None) (λ l. get_or c.set_top.new.tops.items l None) c.args.at c.in-Some.entry.change
    (set-here old c.args.at _ (omega arith) ∙ ap (λ (o : Option ℕ). let entry : Entry = record { change = c.in-Some.entry.change; below = o } in Some entry) below)
    (set-other old c.args.at _)
    (λ other.
    ap (λ (xs : List (Option ℕ)). get_or xs other None) c.set_top.ensures.items
    ∙ (top-set tops c.lane_of-lane.result (Some c.args.at) other (omega arith)
    ∙ ap (λ (x : ℕ). cond (nat_eq x other) (Some c.args.at) (get_or tops other None)) lane))
    c.requires.linked

pub returns-in-Some-clause-live : goal.returns-in-Some-clause-live
returns-in-Some-clause-live c =
    live-again c.args.entries.now.items c.args.at c.in-Some.entry c.top_of-below.result
    (sym (get_or_read c.args.entries.now.items _ _ (omega arith) c.index.ensures None) ∙ c.in-Some.is)

pub returns-in_default-clause-linked : goal.returns-in_default-clause-linked
returns-in_default-clause-linked c =
    linked-past c.args.entries.now.items (λ l. get_or c.args.tops.now.items l None) c.args.at
    (sym (get_or_read c.args.entries.now.items _ _ (omega arith) c.index.ensures None) ∙ c.in_default.is) c.requires.linked
