use Rattle.std.proofs.Common.{◌≡◌, ◌∙◌, ℕ, ◌+◌, ◌<◌, List, [], ◌∷◌, ◌++◌, length, get_or, take, flat_map, Option, Some, sym, ap}
use Rattle.std.specs.Io.KnownBytes.{append_known}
use Rattle.std.proofs.lemmas.List.{flat_map_more, take_more}
use Rattle.au_entries.specs.declared.trail_record.Record.{Record}
use Rattle.au_report.specs.Exports.{column_names, record_fields}
use Rattle.au_report.specs.Lines.{line}
use Rattle.au_report.proofs.exporting.trail_csv.Goals as goal

abbrev written : Record → List ℕ
written entry = line (record_fields entry)

one_more : (before : List ℕ) (records : List Record) (i : ℕ) (entry : Record) → i < length records → entry ≡ get_or records i entry
    → (before ++ flat_map written (take i records)) ++ written entry ≡ before ++ flat_map written (take (i + 1) records)
one_more before records i entry least is =
    flat_map_more written before (take i records) entry
    ∙ ap (λ (xs : List Record). before ++ flat_map written xs) (sym (take_more records i entry least ∙ ap (λ (x : Record). take i records ++ x ∷ []) (sym is)))

pub loop-entry-preserved : goal.loop-entry-preserved
loop-entry-preserved c =
    let told = c.in_ok-push_record.ensures in
    let entry = c.entry-item.result in
    record {
      ready = told.ready;
      text =
          ap Some told.text
          ∙ ap (λ (text : Option (List ℕ)). append_known text (written entry)) c.loop-entry.invariant.text
          ∙ ap Some (one_more (line column_names) c.args.records.now c.loop-entry.entry-index entry c.loop-entry-test.true c.entry-item.is);
    }
