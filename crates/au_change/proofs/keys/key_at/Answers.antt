use Rattle.std.proofs.Common.{◌∙◌, ap, sym}
use Rattle.std.specs.Prelude.{Some}
use Rattle.au_base.specs.declared.cell.Cell.{Cell}
use Rattle.au_change.proofs.KeysOf.{key_next, key_stops}
use Rattle.au_change.proofs.keys.key_at.Goals as goal

pub returns-in-None : goal.returns-in-None
returns-in-None c =
    key_stops c.args.cells.now c.args.places.now c.loop-place.place-index 0 c.loop-place.key.items _ c.loop-place-test.true c.in-None.ensures c.loop-place.invariant

pub loop-place-preserved : goal.loop-place-preserved
loop-place-preserved c =
    key_next c.args.cells.now c.args.places.now c.loop-place.place-index 0 c.loop-place.key.items c.push.new.self.items c.in_ok-clone-in-Some.field-0 _ c.loop-place-test.true
    (c.in-Some.ensures ∙ ap (λ (x : Cell). Some x) (sym c.in_ok-clone-in-Some.ensures.cases))
    c.loop-place.invariant c.in_ok-push-in-Some.ensures.items
