use Rattle.std.proofs.Common.{◌≡◌, ◌∙◌, ◌+◌, ℕ, List, ap, sym, subst, None, get_or, Option, arith}
use Rattle.std.specs.Prelude.{vec_len}
use Rattle.au_rows.specs.declared.entry.Entry.{Entry}
use Rattle.au_rows.specs.Links.{Linked, live}
use Rattle.au_rows.proofs.LinkLemmas.{linked-before, live-more}
use Rattle.au_rows.proofs.links.add.Goals as goal

pub link-requires-clause-linked : goal.link-requires-clause-linked
link-requires-clause-linked c =
    let tops : ℕ → Option ℕ = λ lane. get_or c.args.tops.now.items lane None in
    let at : c.len-at.result ≡ vec_len c.args.entries.now = c.len-at.ensures in
    subst (λ (entries : List (Option Entry)). Linked entries tops c.len-at.result) (sym c.push_reserved.ensures.items)
    (linked-before c.args.entries.now.items tops _ c.len-at.result (omega arith) (subst (Linked c.args.entries.now.items tops) (sym at) c.requires.linked))

pub returns-clause-linked : goal.returns-clause-linked
returns-clause-linked c =
    let at : c.len-at.result ≡ vec_len c.args.entries.now = c.len-at.ensures in
    let all : c.len-at.result + 1 ≡ vec_len c.link.new.entries = omega arith in
    subst (Linked c.link.new.entries.items (λ lane. get_or c.link.new.tops.items lane None)) all c.link.ensures.linked

pub returns-clause-live : goal.returns-clause-live
returns-clause-live c = c.link.ensures.live ∙ (ap live c.push_reserved.ensures.items ∙ live-more c.args.entries.now.items _)
