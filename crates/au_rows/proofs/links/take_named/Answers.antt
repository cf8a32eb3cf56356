use Rattle.std.proofs.Common.{◌≡◌, ◌∙◌, None, Some, ap, get_or, sym, true, arith}
use Rattle.au_rows.specs.Ends.{is_own}
use Rattle.au_rows.specs.Links.{is_own_entry}
use Rattle.au_rows.proofs.LaneLemmas.{passed-linked, passed-taken}
use Rattle.au_rows.proofs.links.take_named.Goals as goal

pub returns-in-Some-clause-linked : goal.returns-in-Some-clause-linked
returns-in-Some-clause-linked c = λ tops l.
    let old = c.args.entries.now.items in
    let here : get_or old c.args.here None ≡ Some c.in-Some.lower = ap (λ xs. get_or xs c.args.here None) (sym c.deref.ensures.value) ∙ (sym c.entry_at.ensures ∙ c.in-Some.is) in
    rw (c.pass_by.ensures.items, c.pass_by.ensures.len)
    (passed-linked c.args.by old tops _ c.args.above c.args.here c.args.upper c.in-Some.lower (omega arith) l c.requires.there c.requires.names here)

pub returns-in-Some-clause-taken : goal.returns-in-Some-clause-taken
returns-in-Some-clause-taken c =
    let old = c.args.entries.now.items in
    let here : get_or old c.args.here None ≡ Some c.in-Some.lower = ap (λ xs. get_or xs c.args.here None) (sym c.deref.ensures.value) ∙ (sym c.entry_at.ensures ∙ c.in-Some.is) in
    let own : is_own c.args.by c.in-Some.lower.change ≡ true = ap (is_own_entry c.args.by) (sym here) ∙ c.requires.own in
    rw c.pass_by.ensures.items
    (passed-taken c.args.by old c.requires.linked.0 _ c.args.above c.args.here c.args.upper c.in-Some.lower (omega arith) c.requires.linked.1 c.requires.there c.requires.names here own)
