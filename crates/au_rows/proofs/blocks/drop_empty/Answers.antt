use Rattle.std.proofs.Common.{◌≡◌, ◌∙◌, ℕ, List, [], ap, get_or, subst, sym, true, false, arith}
use Rattle.au_rows.specs.declared.place.Place.{Place}
use Rattle.au_rows.specs.Blocks.{has_none, is_filled, is_filled_but, joined}
use Rattle.au_rows.proofs.BlockLemmas.{filled-but-first, filled-but-gone, filled-but-some, joined-gone, some-not-none}
use Rattle.au_rows.proofs.blocks.drop_empty.Goals as goal
use Rattle.au_rows.proofs.blocks.drop_empty.Goals.{else-at-gt0-via-then-at-gt0+else-is_empty_at, else-at-gt0-via-else-at-gt0}

pub returns-then-is_empty_at-clause-places : goal.returns-then-is_empty_at-clause-places
returns-then-is_empty_at-clause-places c =
    let none : has_none (get_or c.args.blocks.now.items c.args.at []) ≡ true =
    ap (λ (bs : List (List Place)). has_none (get_or bs c.args.at [])) (sym c.deref.ensures.value) ∙ (sym c.is_empty_at.ensures ∙ c.if-is_empty_at.true) in
    ap joined c.remove-gone.ensures.items ∙ (joined-gone c.args.blocks.now.items c.args.at c.requires.within none).0

pub returns-then-is_empty_at-clause-filled : goal.returns-then-is_empty_at-clause-filled
returns-then-is_empty_at-clause-filled c =
    ap is_filled c.remove-gone.ensures.items ∙ filled-but-gone c.args.blocks.now.items c.args.at (omega (arith, c.if-at-gt0.true)) c.requires.filled

pub returns-else-at-gt0-clause-filled : goal.returns-else-at-gt0-clause-filled
returns-else-at-gt0-clause-filled c =
    elim c.else-at-gt0.branch [
      | else-at-gt0-via-then-at-gt0+else-is_empty_at w ↦
          let none : has_none (get_or c.args.blocks.now.items c.args.at []) ≡ false =
          ap (λ (bs : List (List Place)). has_none (get_or bs c.args.at [])) (sym w.deref.ensures.value) ∙ (sym w.is_empty_at.ensures ∙ w.if-is_empty_at.false) in
          filled-but-some c.args.blocks.now.items c.args.at c.requires.within c.requires.filled (some-not-none (get_or c.args.blocks.now.items c.args.at []) none)
      | else-at-gt0-via-else-at-gt0 w ↦
          let first : c.args.at ≡ 0 = omega (arith, w.if-at-gt0.false) in
          filled-but-first c.args.blocks.now.items (subst (λ (k : ℕ). is_filled_but k c.args.blocks.now.items ≡ true) first c.requires.filled)
    ]
