use Rattle.std.proofs.Common.{◌≡◌, ◌∙◌, [], ◌∷◌, ap, sym, true, false}
use Rattle.std.specs.List.{list_all}
use Rattle.au_rows.specs.Edits.{edited}
use Rattle.au_rows.specs.Held.{is_by}
use Rattle.au_rows.proofs.EndLemmas.{ended-row, kept-row}
use Rattle.au_rows.proofs.SweepLemmas.{all-kept, swept}
use Rattle.au_rows.specs.Kept.{place_at, place_ended, place_from, place_left}
use Rattle.au_rows.proofs.ends.end_if_own.Goals as goal

pub returns-then-is_by-clause-row : goal.returns-then-is_by-clause-row
returns-then-is_by-clause-row c =
    let own : is_by c.args.by c.args.place.owner ≡ true = sym c.is_by.ensures ∙ c.if-is_by.true in
    rw c.end_place.ensures.listed (swept c.args.ending c.args.place.table c.args.place.number c.args.by c.args.places.now.listed _ c.args.versions.now.slots c.end_place.new.versions.slots c.requires.left
    (ended-row _ _ c.args.places.now.listed c.args.place c.args.ending c.args.by c.requires.order c.requires.whole c.requires.there own c.end_place.ensures.frees))

pub returns-then-is_by-clause-left : goal.returns-then-is_by-clause-left
returns-then-is_by-clause-left c =
    let place = c.args.place in
    ap (list_all place_left) c.end_place.ensures.listed
    ∙ all-kept place_left (edited (place_from place.table place.number) (place_at place.table place.number) c.args.places.now.listed (place_ended c.args.ending place ∷ []))

pub returns-else-is_by-clause-row : goal.returns-else-is_by-clause-row
returns-else-is_by-clause-row c =
    let other : is_by c.args.by c.args.place.owner ≡ false = sym c.is_by.ensures ∙ c.if-is_by.false in
    kept-row _ c.args.places.now.listed c.args.place.table c.args.place.number c.args.ending c.args.by c.requires.order c.requires.whole
    (rw c.requires.there other)
