use Rattle.au_base.proofs.LikeLemmas.{end-later, end-none, end-rest, later-end, rest-end}
use Rattle.au_base.proofs.pattern.has_end_like.Goals as goal

pub loop-later_end-preserved-in-Percent : goal.loop-later_end-preserved-in-Percent
loop-later_end-preserved-in-Percent c =
    let on = c.in-Percent.ensures.front in
    let kept = c.loop-later_end.invariant.2 in (
      c.in-Percent.ensures.less.3,
      c.in-Percent.ensures.less.2,
      (λ like. end-rest _ _ _ _ on (kept.0 like), λ like. kept.1 (rest-end _ _ _ _ on like)),
    )

pub loop-later_end-preserved : goal.loop-later_end-preserved
loop-later_end-preserved c =
    let cut = c.in-Some.ensures.cut in
    let kept = c.loop-later_end.invariant.2 in (
      c.in-Some.ensures.utf8,
      c.loop-later_end.invariant.1,
      (λ like. end-later _ _ _ _ cut c.in-Differs.ensures.front (kept.0 like), λ like. kept.1 (later-end _ _ _ _ cut like)),
    )

pub returns-in-None : goal.returns-in-None
returns-in-None c =
    let kept = c.loop-later_end.invariant.2 in
    (λ no. cc no, λ like. absurd (end-none _ _ c.in-None.ensures.cut c.in-Differs.ensures.front (kept.0 like)))
