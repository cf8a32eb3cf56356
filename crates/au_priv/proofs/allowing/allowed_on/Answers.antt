use Rattle.au_priv.proofs.Answers.{exactly, not_both, not_at_false}
use Rattle.au_priv.proofs.allowing.allowed_on.Goals as goal

pub returns-then-is_dual : goal.returns-then-is_dual
returns-then-is_dual c = exactly _ _ _ _ _ (record {
  on_dual = λ same. c.on_dual.ensures;
  on_trail = λ same. absurd (not_both _ (c.is_dual.ensures.0 c.if-is_dual.true) same);
  on_table = λ no_dual no_trail. absurd (no_dual (c.is_dual.ensures.0 c.if-is_dual.true));
})

pub returns-then-is_trail : goal.returns-then-is_trail
returns-then-is_trail c = exactly _ _ _ _ _ (record {
  on_dual = λ same. absurd (not_both _ same (c.is_trail.ensures.0 c.if-is_trail.true));
  on_trail = λ same. c.on_trail.ensures;
  on_table = λ no_dual no_trail. absurd (no_trail (c.is_trail.ensures.0 c.if-is_trail.true));
})

pub returns : goal.returns
returns c = exactly _ _ _ _ _ (record {
  on_dual = λ same. absurd (not_at_false c.if-is_dual.false (c.is_dual.ensures.1 same));
  on_trail = λ same. absurd (not_at_false c.if-is_trail.false (c.is_trail.ensures.1 same));
  on_table = λ no_dual no_trail. c.on_table.ensures;
})
