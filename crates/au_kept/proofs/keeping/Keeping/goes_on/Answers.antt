use Rattle.std.proofs.Common.{◌∙◌, List, [], ap}
use Rattle.au_entries.specs.Changing.{KeptRow}
use Rattle.au_image.specs.Image.{kept_of, kept_rows}
use Rattle.au_kept.proofs.Shown.{told_going}
use Rattle.au_replay.specs.Sights.{rows_of, showable}
use Rattle.au_txn.specs.declared.change.RowChange.{RowChange}
use Rattle.au_txn.specs.Transactions.{laid_over}
use Rattle.au_kept.proofs.keeping.Keeping.goes_on.Goals as goal

pub returns : goal.returns
returns c =
    rw (← c.self.view_is)
    (told_going c.sights_suffice.ensures.goes (kept_of c.self.inside.catalog c.self.inside.grants (kept_rows c.self.inside.desk) c.self.inside.trail.items c.self.inside.last c.self.inside.instance) _ c.args.change.now
    (c.sight_of-sight.ensures.shown ∙ ap (λ (rows : List KeptRow). showable (kept_of c.self.inside.catalog c.self.inside.grants rows [] (record { 0 = 0 }) c.self.inside.instance))
    (ap (λ (changes : List RowChange). rows_of (laid_over c.self.inside.desk.rows changes)) c.self.invariant.desk_is.quiet))
    c.goes_on.result c.goes_on.ensures.goes)
