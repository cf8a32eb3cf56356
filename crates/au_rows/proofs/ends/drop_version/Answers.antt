use Rattle.std.proofs.Common.{◌≡◌, ◌∙◌, ap, sym, true}
use Rattle.au_rows.specs.Ends.{is_clear}
use Rattle.au_rows.specs.Kept.{place_in}
use Rattle.au_rows.proofs.EndLemmas.{dropped, dropped-gone, undropped, undropped-gone}
use Rattle.au_rows.proofs.ends.drop_version.Goals as goal

pub returns-then-is_clear-clause-dropped : goal.returns-then-is_clear-clause-dropped
returns-then-is_clear-clause-dropped c =
    let clear : is_clear c.args.change.slot (place_in c.args.change.table c.args.change.number c.args.places.now.listed) ≡ true =
    ap (is_clear c.args.change.slot) (sym c.find.ensures) ∙ (sym c.is_clear.ensures ∙ c.if-is_clear.true) in
    dropped _ _ c.args.change.table c.args.change.number c.args.change.slot c.free.ensures.frees c.requires.loose c.args.places.now.listed c.requires.order c.requires.whole clear

pub returns-then-is_clear-clause-gone : goal.returns-then-is_clear-clause-gone
returns-then-is_clear-clause-gone c = dropped-gone _ _ c.args.change.slot (place_in c.args.change.table c.args.change.number c.args.places.now.listed) c.free.ensures.frees

pub returns-else-is_clear-clause-gone : goal.returns-else-is_clear-clause-gone
returns-else-is_clear-clause-gone c =
    undropped-gone _ c.args.change.slot (place_in c.args.change.table c.args.change.number c.args.places.now.listed)
    (ap (is_clear c.args.change.slot) (sym c.find.ensures) ∙ (sym c.is_clear.ensures ∙ c.if-is_clear.false))

pub returns-else-is_clear-clause-dropped : goal.returns-else-is_clear-clause-dropped
returns-else-is_clear-clause-dropped c = undropped _ c.args.change.table c.args.change.number c.args.places.now.listed c.requires.whole
