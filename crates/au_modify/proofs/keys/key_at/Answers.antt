use Rattle.std.proofs.Common.{◌≡◌, ℕ, List, [], arith, sym, subst}
use Rattle.std.specs.Prelude.{Some}
use Rattle.std.specs.List.{AllZip, slice_get}
use Rattle.std.proofs.lemmas.List.{append-nil, drop_all}
use Rattle.au_base.specs.declared.cell.Cell.{Cell}
use Rattle.au_modify.proofs.Keyed.{has_key}
use Rattle.au_modify.proofs.keys.key_at.Goals as goal

pub returns : goal.returns
returns c =
    let places = c.args.places.now in
    let cells = c.args.cells.now in
    let are = λ (some : List ℕ) (key : List Cell). AllZip (λ (place : ℕ) (x : Cell). slice_get cells place ≡ Some x) some key in
    has_key cells places c.loop-place.key.items
    (subst (are places) (append-nil c.loop-place.key.items)
    (c.loop-place.invariant [] (subst (λ rest. are rest []) (sym (drop_all c.loop-place.place-index places (omega (arith, c.loop-place-test.false)))) tt)))
