use Rattle.std.proofs.Common.{◌≡◌, ◌∙◌, sym}
use Rattle.au_rows.specs.Kept.{place_at, place_from, place_left}
use Rattle.au_rows.proofs.SweepLemmas.{edited-gone, edited-left}
use Rattle.au_rows.proofs.ends.keep_left.Goals as goal

pub returns-then-is_left-clause-listed : goal.returns-then-is_left-clause-listed
returns-then-is_left-clause-listed c =
    c.put_over.ensures.listed
    ∙ sym (edited-left place_left (place_from c.args.place.table c.args.place.number) (place_at c.args.place.table c.args.place.number) c.args.places.now.listed c.args.place (sym c.is_left.ensures ∙ c.if-is_left.true) c.requires.left)

pub returns-else-is_left-clause-listed : goal.returns-else-is_left-clause-listed
returns-else-is_left-clause-listed c =
    c.take_out.ensures.listed
    ∙ sym (edited-gone place_left (place_from c.args.place.table c.args.place.number) (place_at c.args.place.table c.args.place.number) c.args.places.now.listed c.args.place (sym c.is_left.ensures ∙ c.if-is_left.false) c.requires.left)
