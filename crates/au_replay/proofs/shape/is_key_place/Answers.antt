use Rattle.std.proofs.Common.{◌≡◌, ◌∙◌, true, false, sym, arith}
use Rattle.au_replay.proofs.Places.{past}
use Rattle.au_replay.proofs.Shapes.{key_place_from, key_place_to, key_place_within}
use Rattle.au_replay.proofs.shape.is_key_place.Goals as goal

pub returns-then-place-columns : goal.returns-then-place-columns
returns-then-place-columns c =
    let read = c.index-columns-place in
    (key_place_to c.args.columns.now c.args.place read.result c.if-place-columns.true, key_place_from c.args.columns.now c.args.place read.result)

pub returns-else-place-columns : goal.returns-else-place-columns
returns-else-place-columns c =
    (λ is. absurd (let e : false ≡ true = sym (past _ _ c.if-place-columns.false) ∙ is in cc), λ key. absurd (let within = key_place_within c.args.columns.now c.args.place key in omega (arith, within, c.if-place-columns.false)))
