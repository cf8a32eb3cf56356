use Rattle.std.proofs.Common.{◌≡◌, ◌++◌, Some, take}
use Rattle.std.specs.List.{flat_map}
use Rattle.csv.specs.Writing.{text_written}
use Rattle.au_report.specs.Exports.{column_names, record_fields}
use Rattle.au_report.specs.Lines.{line}
use Rattle.au_report.specs.descent.Writing.{IsReady}
use Rattle.au_report.proofs.exporting.trail_csv.Given as goal

abbrev pub invariant-loop-entry : goal.invariant-loop-entry
invariant-loop-entry l = record {
  ready : IsReady l.writer;
  text : text_written (λ v. Some v.items) l.writer ≡ Some (line column_names ++ flat_map (λ entry. line (record_fields entry)) (take l.entry-index l.records));
}
