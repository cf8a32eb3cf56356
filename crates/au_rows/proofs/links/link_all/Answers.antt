use Rattle.std.proofs.Common.{◌≡◌, ◌∙◌, None, get_or, refl, subst, vec_len, arith}
use Rattle.au_rows.specs.Links.{Linked}
use Rattle.au_rows.proofs.LinkLemmas.{linked-none}
use Rattle.au_rows.proofs.links.link_all.Goals as goal

pub loop-at-init : goal.loop-at-init
loop-at-init c = record {
  linked = linked-none c.args.entries.now.items (λ lane. get_or c.args.tops.now.items lane None) c.requires.none;
  live = refl;
  len = refl;
  capacity = refl;
  within = omega arith;
  lanes = c.requires.lanes;
}

pub link-requires-clause-linked : goal.link-requires-clause-linked
link-requires-clause-linked c = c.loop-at.invariant.linked

pub loop-at-preserved : goal.loop-at-preserved
loop-at-preserved c =
    let i = c.loop-at.invariant in
    let len = i.len in
    record {
      linked = c.link.ensures.linked;
      live = c.link.ensures.live ∙ i.live;
      len = c.link.ensures.len ∙ i.len;
      capacity = c.link.ensures.capacity ∙ i.capacity;
      within = omega arith;
      lanes = c.link.ensures.lanes;
    }

pub returns-clause-linked : goal.returns-clause-linked
returns-clause-linked c =
    let i = c.loop-at.invariant in
    let len = i.len in
    let within = i.within in
    let all : c.loop-at.at ≡ vec_len c.loop-at.entries = omega arith in
    subst (Linked c.loop-at.entries.items (λ lane. get_or c.loop-at.tops.items lane None)) all i.linked

pub returns-clause-live : goal.returns-clause-live
returns-clause-live c = c.loop-at.invariant.live
