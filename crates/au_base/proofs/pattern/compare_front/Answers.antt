use Rattle.std.proofs.Common.{IsTrue, false, arith, refl}
use Rattle.au_base.proofs.LikeLemmas.{differs, differs-end, go_on-more, text_left, whole}
use Rattle.au_base.proofs.pattern.compare_front.Goals as goal

pub returns-in-None-clause-front : goal.returns-in-None-clause-front
returns-in-None-clause-front c = whole _ _ _ _ c.loop-later_names.invariant.2 c.in-None.ensures.cut c.if-is_empty.ensures

pub returns-in-None-2-clause-front : goal.returns-in-None-2-clause-front
returns-in-None-2-clause-front c =
    text_left _ _ _ _ c.loop-later_names.invariant.2 c.loop-later_names.invariant.0 c.in-None.ensures.cut c.if-is_empty.ensures

pub returns-in-None-split_first-clause-front : goal.returns-in-None-split_first-clause-front
returns-in-None-split_first-clause-front c =
    differs-end _ _ _ _ _ _ c.loop-later_names.invariant.2 c.in-Some.ensures.cut c.in-None-split_first.ensures.cut c.in-Some.name-test.1

pub returns-then-not-is_named-clause-front : goal.returns-then-not-is_named-clause-front
returns-then-not-is_named-clause-front c =
    differs _ _ _ _ _ _ _ _ c.loop-later_names.invariant.2 c.in-Some.ensures.cut c.in-Some-split_first.ensures.cut c.in-Some.name-test.1
    (λ named. let no : IsTrue false = c.if-not-is_named.ensures.1 named in cc no)

pub loop-later_names-preserved : goal.loop-later_names-preserved
loop-later_names-preserved c = (
  c.in-Some-split_first.ensures.utf8,
  c.in-Some.ensures.utf8,
  go_on-more _ _ _ _ _ _ _ _ c.loop-later_names.invariant.2 c.in-Some.ensures.cut c.in-Some-split_first.ensures.cut c.in-Some.name-test.1 (c.if-not-is_named.ensures.0 refl),
  omega (arith, c.in-Some-split_first.ensures.less),
  omega (arith, c.in-Some.ensures.less),
)
