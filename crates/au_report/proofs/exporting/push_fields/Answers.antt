use Rattle.std.proofs.Common.{◌≢◌, ◌≤◌, ℕ, List, map, length, Bor, arith}
use Rattle.std.proofs.lemmas.List.{length-map}
use Rattle.csv.specs.declared.writer.QuoteStyle.TheVariants as style
use Rattle.au_report.proofs.CsvLines.{written_line}
use Rattle.au_report.proofs.exporting.push_fields.Goals.{in-Ok, in-Err}
use Rattle.au_report.proofs.exporting.push_fields.Goals as goal

pub returns-clause-text : goal.returns-clause-text
returns-clause-text c = elim c.match-write_fields.branch [
  | in-Ok w ↦
      let plain : c.args.writer.now.cfg.style ≢ style.NonNumeric = rw c.requires.setup (λ e. cc e) in
      let h = w.in-Ok.ensures.bytes c.requires.fresh c.requires.clean plain in
      let fields = map (λ (field : Bor (List ℕ)). field.now) c.args.fields.now in
      let many : 2 ≤ length fields = (let told = c.told-fields in let same = length-map c.args.fields.now (λ (field : Bor (List ℕ)). field.now) in omega (arith, told, same)) in
      let e = rw (c.requires.setup, c.as_slice.ensures, written_line fields many) at h in
      rw w.result-is e
  | in-Err w ↦ rw w.result-is tt
]
