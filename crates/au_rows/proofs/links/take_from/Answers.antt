use Rattle.std.proofs.Common.{◌≡◌, ℕ, List, Option, None, Some, false, get_or, length, subst, vec_len, arith}
use Rattle.au_rows.specs.declared.entry.Entry.{Entry}
use Rattle.au_rows.specs.Ends.{is_own}
use Rattle.au_rows.specs.Links.{Linked}
use Rattle.au_rows.proofs.LaneLemmas.{none-listed}
use Rattle.au_rows.proofs.links.take_from.Goals as goal

pub find_above-requires-clause-linked : goal.find_above-requires-clause-linked
find_above-requires-clause-linked c =
    let entries = c.args.entries.now.items in
    let tops = c.args.tops.now.items in
    let all : vec_len c.args.entries.now ≡ length entries = omega arith in
    rw c.deref-2.ensures.value ((λ lane. get_or tops lane None), subst (Linked entries (λ lane. get_or tops lane None)) all c.requires.linked, c.requires.top)

pub take_below-requires-clause-linked : goal.take_below-requires-clause-linked
take_below-requires-clause-linked c = ((λ lane. get_or c.args.tops.now.items lane None), c.requires.linked)

pub returns-in-None-clause-none : goal.returns-in-None-clause-none
returns-in-None-clause-none c =
    none-listed c.args.by c.args.entries.now.items
    (subst (λ (xs : List (Option Entry)). (at : ℕ) (entry : Entry) → get_or xs at None ≡ Some entry → is_own c.args.by entry.change ≡ false) c.deref-2.ensures.value c.in-None.ensures.none)
