use Rattle.std.proofs.Common.{◌∙◌, ap₂, map}
use Rattle.au_query.specs.Combos.{lines}
use Rattle.au_change.specs.Inside.{source_of}
use Rattle.au_change.proofs.Chosen.{changes_of, refused_row, rows_come}
use Rattle.au_change.proofs.Updates.{valued_are}
use Rattle.au_change.proofs.updating.after_choice.Goals as goal

pub changes-requires : goal.changes-requires
changes-requires c = record { valued = valued_are c.args.asked.now.range.now c.args.asked.now.update.now.assignments c.args.settings.now c.requires.settings }

pub after_rows-requires-clause-changes : goal.after_rows-requires-clause-changes
after_rows-requires-clause-changes c =
    (rw c.in-Ok.is at c.in_ok-changes.ensures).1
    ∙ changes_of c.args.asked.now c.requires.asked c.args.settings.now (lines c.args.rows.now) c.requires.settings c.requires.chosen c.as_slice-3.result.now
    (c.as_slice-3.ensures.value ∙ c.in_ok-sources.ensures ∙ ap₂ (λ assignments columns. map (source_of assignments) columns) c.as_slice-2.ensures c.as_slice.ensures)

pub returns-in-Ok : goal.returns-in-Ok
returns-in-Ok c =
    rows_come c.args.asked.now c.requires.asked c.args.settings.now (lines c.args.rows.now) c.requires.settings c.requires.chosen c.after_rows.result (rw c.in-Ok.is at c.in_ok-changes.ensures).0 c.after_rows.ensures

pub returns : goal.returns
returns c =
    refused_row c.args.asked.now c.requires.asked c.args.settings.now (lines c.args.rows.now) c.requires.settings c.requires.chosen c.in-Err.code c.refused.result (rw c.in-Err.is at c.in_ok-changes.ensures) c.refused.ensures
