use Rattle.std.proofs.Common.{◌∙◌, sym, ap}
use Rattle.au_report.specs.declared.made.Made.{Made}
use Rattle.au_report.specs.descent.Fields.{fields_with}
use Rattle.au_report.proofs.RecordFields.{fields_are_cells}
use Rattle.au_report.proofs.exporting.push_record.Goals as goal

pub returns-clause-text : goal.returns-clause-text
returns-clause-text c =
    let fields = c.fields_with-fields.ensures ∙ ap (λ (made : Made). fields_with c.args.entry.now made) c.in_ok-made.ensures ∙ sym (fields_are_cells c.args.entry.now) in
    rw fields at c.push_fields.ensures.text
