use Rattle.std.proofs.Common.{◌∙◌, ap, length, refl, vec_len, arith}
use Rattle.au_rows.proofs.LaneLemmas.{linked-trimmed, live-trimmed}
use Rattle.au_rows.proofs.LinkLemmas.{linked-same}
use Rattle.au_rows.proofs.links.trim.Goals as goal

pub loop-turn-init : goal.loop-turn-init
loop-turn-init c = record { linked = λ tops l. l; live = refl; len = omega arith; capacity = refl }

pub loop-turn-preserved : goal.loop-turn-preserved
loop-turn-preserved c =
    let i = c.loop-turn.invariant in
    let gone = c.drop_last.ensures.gone c.if-not-drop_last.false in
    record {
      linked = λ tops l. linked-trimmed c.loop-turn.entries.items c.drop_last.new.entries.items tops _ _ gone (omega arith) (omega arith) (i.linked tops l);
      live = live-trimmed c.loop-turn.entries.items c.drop_last.new.entries.items gone ∙ i.live;
      len = omega (arith, c.drop_last.ensures.len, i.len);
      capacity = c.drop_last.ensures.capacity ∙ i.capacity;
    }

pub returns-then-not-drop_last-clause-linked : goal.returns-then-not-drop_last-clause-linked
returns-then-not-drop_last-clause-linked c = λ tops l.
    let kept = c.drop_last.ensures.kept c.if-not-drop_last.true in
    let same = ap length kept in
    linked-same c.loop-turn.entries.items c.drop_last.new.entries.items tops tops (vec_len c.loop-turn.entries) (vec_len c.drop_last.new.entries) kept (λ lane. refl) (omega arith) (c.loop-turn.invariant.linked tops l)
