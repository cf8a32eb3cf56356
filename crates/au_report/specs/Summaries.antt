-- The text of a sample's summary.
use Rattle.std.specs.Prelude.{ℕ, List, ◌++◌, codes}
use Rattle.au_report.specs.declared.summary.Summary.{Summary}
use Rattle.au_report.specs.Checks.{counted}

-- the five lines
abbrev pub summary_text : Summary → List ℕ
summary_text summary =
    counted (codes "asks") summary.asks
    ++ counted (codes "rows") summary.rows
    ++ counted (codes "high") summary.high
    ++ counted (codes "records") summary.records
    ++ counted (codes "fine") summary.fine
