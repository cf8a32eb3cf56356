use Rattle.std.proofs.Common.{◌≡◌, ℕ, map, drop}
use Rattle.std.specs.List.{enumerate_from, filter}
use Rattle.std.specs.Str.{bytes_eq}
use Rattle.au_base.specs.declared.table.Column.{Column}
use Rattle.au_expr.specs.Descent.{meant_from}
use Rattle.au_expr.specs.Names.{place_of, places_in}
use Rattle.au_expr.proofs.lookup.with_columns.Given as goal

abbrev pub invariant-loop-number : goal.invariant-loop-number
invariant-loop-number l =
    meant_from l.found (map (place_of l.range) (filter (λ (p : ℕ × Column). bytes_eq p.1.name l.name) (enumerate_from l.number (drop l.number l.columns))))
    ≡ meant_from l.fn.found (places_in l.range l.name l.columns)
