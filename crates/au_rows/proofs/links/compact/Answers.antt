use Rattle.std.proofs.Common.{◌≡◌, ◌∙◌, ap, length, arith}
use Rattle.au_rows.specs.Links.{live}
use Rattle.au_rows.proofs.LinkLemmas.{kept-length, live-kept}
use Rattle.au_rows.proofs.links.compact.Goals as goal

pub returns-clause-live : goal.returns-clause-live
returns-clause-live c = c.link_all.ensures.live ∙ (ap live c.drop_vacant.ensures.items ∙ live-kept c.args.entries.now.items)

pub returns-clause-len : goal.returns-clause-len
returns-clause-len c =
    let kept : length c.drop_vacant.new.entries.items ≡ length (live c.args.entries.now.items) = ap length c.drop_vacant.ensures.items ∙ kept-length c.args.entries.now.items in
    omega arith
