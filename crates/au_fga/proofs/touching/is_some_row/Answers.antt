use Rattle.std.proofs.Common.{◌≡◌, ◌∙◌, List, [], ◌∷◌, length, true, false, not, refl, sym, ap, arith}
use Rattle.std.specs.Prelude.{◌==◌}
use Rattle.std.specs.Borrow.{Bor}
use Rattle.std.proofs.lemmas.Bool.{or_left}
use Rattle.std.proofs.lemmas.Bool.Decides.{nat_tests}
use Rattle.au_base.specs.declared.cell.Cell.{Cell}
use Rattle.au_fga.specs.descent.Rows.{some_lent}
use Rattle.au_fga.proofs.touching.is_some_row.Goals as goal

not_none : (row : Bor (List Cell)) (rows : List (Bor (List Cell))) → (length (row ∷ rows) == 0) ≡ false
not_none row rows = grind (arith, nat_tests)

some : (rows : List (Bor (List Cell))) → not (length rows == 0) ≡ some_lent (λ (row : List Cell). true) rows
some [] = refl
some (row ∷ rows) = ap not (not_none row rows) ∙ sym (or_left true (some_lent (λ (row : List Cell). true) rows) refl)

pub returns : goal.returns
returns c = ap not c.is_empty.ensures ∙ some c.args.rows.now
