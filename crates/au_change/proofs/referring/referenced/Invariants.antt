use Rattle.std.proofs.Common.{◌≡◌, ◌++◌, ℕ, drop, map, filter}
use Rattle.std.specs.List.{enumerate_from}
use Rattle.au_base.specs.declared.table.Column.{Column}
use Rattle.au_change.specs.Updating.{is_referenced, referenced}
use Rattle.au_change.proofs.referring.referenced.Given as goal

abbrev pub invariant-loop-number : goal.invariant-loop-number
invariant-loop-number l =
    l.names ++ map (λ (p : ℕ × Column). p.1.name) (filter (is_referenced l.asked.range.now l.asked.update.now) (enumerate_from l.number (drop l.number l.asked.range.now.1)))
    ≡ referenced l.asked.range.now l.asked.update.now
