use Rattle.std.proofs.Common.{◌∙◌, List, Vec, Global, ap, map, not, refl}
use lib.Pointwise.{pointwise}
use Rattle.au_change.specs.declared.clashes.Keyed.{Keyed}
use Rattle.au_change.specs.declared.keys.Part.{Part}
use Rattle.au_change.specs.contracts.keys.PartPartialEq.TheImpl.{ghosts}
use Rattle.au_change.specs.Inside.{repeats}
use Rattle.au_change.proofs.Clashing.{always, told_by}
use Rattle.au_change.proofs.Counting.{repeats_map}
use Rattle.au_change.proofs.Parts.{key_exact, key_itself}
use Rattle.au_change.proofs.clashes.are_two_under_one.Goals as goal

pub returns-in-Some : goal.returns-in-Some
returns-in-Some c =
    let keyed : Keyed = record { desk = c.args.desk; client = c.args.client; table = c.args.table; places = c.args.places; numbers = record { ref_ptr = c.args.table.ref_ptr; now = c.in_ok-numbers.numbers } } in
    told_by keyed c.args.changes.now
    (record { key = c.requires.key; keyed_is = c.requires.keyed; seen = c.requires.seen })
    (λ x y. (c.same_is_equal.ensures.table x y).1) c.in_ok-numbers.ensures c.requires.of_table c.requires.differ
    (c.clashes_are_told_before.ensures.broken _ _ _ _ c.requires.differ)
    (c.clashes_are_told_before.ensures.traced _ _ _ _ c.requires.keyed c.requires.seen)
    (pointwise (ghosts).eq) key_exact key_itself c.in_ok-distinct-in-Some.distinct
    (rw c.in-Some.is at c.in_ok-keys.ensures.stood)
    (c.in_ok-distinct-in-Some.ensures
    ∙ ap not (repeats_map (λ (v : Vec Part Global). v.items) (λ x y. pointwise (ghosts).eq x.items y.items) (pointwise (ghosts).eq) (λ x y. refl) c.as_slice.result.now
    ∙ ap (λ (keys : List (Vec Part Global)). repeats (pointwise (ghosts).eq) (map (λ (v : Vec Part Global). v.items) keys)) c.as_slice.ensures.value
    ∙ ap (repeats (pointwise (ghosts).eq)) (rw c.in-Some.is at c.in_ok-keys.ensures.keys)))

pub returns : goal.returns
returns c =
    let keyed : Keyed = record { desk = c.args.desk; client = c.args.client; table = c.args.table; places = c.args.places; numbers = record { ref_ptr = c.args.table.ref_ptr; now = c.in_ok-numbers.numbers } } in
    always keyed c.args.changes.now
    (record { key = c.requires.key; keyed_is = c.requires.keyed; seen = c.requires.seen })
    (λ x y. (c.same_is_equal.ensures.table x y).1) c.in_ok-numbers.ensures c.requires.of_table c.requires.differ
    (c.clashes_are_told_before.ensures.broken _ _ _ _ c.requires.differ)
    (c.clashes_are_told_before.ensures.traced _ _ _ _ c.requires.keyed c.requires.seen)
    (rw c.in-None.is at c.in_ok-keys.ensures.stood)
