-- The parts of tables and rows are read exactly where they are spelled.
use Rattle.std.proofs.Common.{◌≡◌, ℕ, ℤ, ◌<◌, ◌^◌, cond, eqb, List, ◌++◌, length, Some, None, refl, sym, ap, subst, ◌∙◌, inl, inr}
use Rattle.std.specs.Prelude.{FitsSigned, nat_le}
use Rattle.std.specs.Int.{w64, cast_signed, cast_unsigned, to_be_bytes}
use Rattle.std.specs.Str.{IsUtf8, is_utf8}
use Rattle.std.proofs.lemmas.Bool.{eqb-true}
use Rattle.std.proofs.lemmas.Int.{of_z-to_z, to_z-of_z}
use mir.ValLaws as laws
use Rattle.std.proofs.lemmas.Str.{IsUtf8-from_is_utf8, is_utf8-from_IsUtf8}
use Rattle.au_base.specs.declared.cell.Cell.{Cell}
use Rattle.au_base.specs.declared.cell.Cell.TheVariants.{Null, Num, Text, Moment}
use Rattle.au_base.specs.declared.table.ColumnKind.{ColumnKind}
use Rattle.au_base.specs.declared.table.ColumnKind.TheVariants as kinds
use Rattle.rec_parts.specs.Tables.{cell, cell_text, cells, column, column_kind, column_kind_code, columns, integer, moment, places, row_number}
use Rattle.rec_parts.specs.Exactness.{IsBytes, IsExact, Takes}
use Rattle.rec_parts.specs.ExactLaws.{IsBehind, behind_behind, bind_some, by_parts_exact, byte_exact, chosen, coded_exact, counted_exact, exact16, exact32, exact64, long_exact, no_other_behind, nothing_exact, only_exact, pair_exact, some_is, such_that_exact, tagged_takes}
use Rattle.rec_parts.specs.descent.Reading.{number_first}
use Rattle.rec_parts.specs.descent.Tables.{cell_behind, cell_first, cell_text_first, cells_first, column_first, column_kind_first, column_kind_with, columns_first, integer_first, moment_first, places_first, row_number_first}
use Rattle.rec_parts.proofs.Elements.{name_exact, truth_exact}

column_kind_forth : (k : ColumnKind) → column_kind_with (column_kind_code k) ≡ Some k
column_kind_forth kinds.Number = refl
column_kind_forth kinds.Text = refl
column_kind_forth kinds.Moment = refl

column_kind_back : (n : ℕ) (k : ColumnKind) → column_kind_with n ≡ Some k → column_kind_code k ≡ n
column_kind_back n k e =
    elim (chosen (eqb n 1) (Some kinds.Number) (cond (eqb n 2) (Some kinds.Text) (cond (eqb n 3) (Some kinds.Moment) None)) (Some k) e) [
      | inl p ↦ ap column_kind_code (sym (some_is kinds.Number k p.1)) ∙ sym (eqb-true _ _ p.0)
      | inr p ↦ (elim (chosen (eqb n 2) (Some kinds.Text) (cond (eqb n 3) (Some kinds.Moment) None) (Some k) p.1) [
        | inl q ↦ ap column_kind_code (sym (some_is kinds.Text k q.1)) ∙ sym (eqb-true _ _ q.0)
        | inr q ↦ (elim (chosen (eqb n 3) (Some kinds.Moment) None (Some k) q.1) [
          | inl r ↦ ap column_kind_code (sym (some_is kinds.Moment k r.1)) ∙ sym (eqb-true _ _ r.0)
          | inr r ↦ absurd (cc r.1)
        ])
      ])
    ]

column_kind_exact : IsExact column_kind column_kind_first
unfolding column_kind column_kind_first
column_kind_exact = coded_exact column_kind_code column_kind_with column_kind_forth column_kind_back

column_exact : IsExact column column_first
unfolding column column_first
column_exact = by_parts_exact _ _ (λ x. refl) (λ c. refl) (pair_exact name_exact (pair_exact column_kind_exact (pair_exact exact16 truth_exact)))

pub columns_exact : IsExact columns columns_first
unfolding columns columns_first
columns_exact = counted_exact byte_exact column_exact

pub places_exact : IsExact places places_first
unfolding places places_first
places_exact = counted_exact byte_exact byte_exact

-- a number of eight bytes fits in one with a sign, and the other way round
signed_fits : (n : ℕ) → n < 2 ^ 64 → FitsSigned w64 (cast_signed w64 n)
signed_fits n lt = laws.to_z-Fits w64 n (record { fits = lt })

integer_takes : (bytes : List ℕ) (x : ℤ × List ℕ) → IsBytes bytes → integer_first bytes ≡ Some x → Takes integer bytes x
unfolding integer integer_first
integer_takes bytes x fits e =
    let a = bind_some (number_first w64 bytes) (λ (n : ℕ × List ℕ). Some (cast_signed w64 n.0, n.1)) x e in
    let t = exact64.takes bytes a.0 fits a.1 in
    let back : cast_unsigned w64 (cast_signed w64 a.0.0) ≡ a.0.0 = of_z-to_z w64 a.0.0 t.spellable in
    subst (Takes integer bytes) (some_is (cast_signed w64 a.0.0, a.0.1) x a.2) (record {
      spellable = signed_fits a.0.0 t.spellable;
      parts = t.parts ∙ ap (λ (n : ℕ). to_be_bytes w64 n ++ a.0.1) (sym back);
      rest_fits = t.rest_fits;
    })

integer_again : (z : ℤ) (rest : List ℕ) → integer.IsSpellable z → integer_first (integer.spelled z ++ rest) ≡ Some (z, rest)
unfolding integer integer_first
integer_again z rest h =
    let small : cast_unsigned w64 z < 2 ^ 64 = (laws.of_z_fits w64 z h).fits in
    rw (exact64.again (cast_unsigned w64 z) rest small) (ap (λ (n : ℤ). Some (n, rest)) (to_z-of_z w64 z h))

integer_exact : IsExact integer integer_first
integer_exact = record { takes = integer_takes; again = integer_again }

cell_text_exact : IsExact cell_text cell_text_first
unfolding cell_text cell_text_first
cell_text_exact = such_that_exact (λ bytes. nat_le 1 (length bytes)) (only_exact IsUtf8 is_utf8 IsUtf8-from_is_utf8 is_utf8-from_IsUtf8 (long_exact exact16))

moment_exact : IsExact moment moment_first
unfolding moment moment_first
moment_exact = such_that_exact (λ n. nat_le n 253_402_300_799_999_999) exact64

cell_reads : IsBehind cell cell_behind
unfolding cell cell_behind
cell_reads =
    behind_behind cell 0 (λ x. Null) (λ x. refl) (λ x h. tt) nothing_exact
    (behind_behind cell 1 Num (λ x. refl) (λ x h. h) integer_exact
    (behind_behind cell 2 Text (λ x. refl) (λ x h. h) cell_text_exact
    (behind_behind cell 3 Moment (λ x. refl) (λ x h. h) moment_exact
    (no_other_behind cell))))

cell_again : (x : Cell) (rest : List ℕ) → cell.IsSpellable x → cell_first (cell.spelled x ++ rest) ≡ Some (x, rest)
unfolding cell cell_first cell_behind
cell_again Null rest h = refl
cell_again (Num n) rest h = rw (integer_exact.again n rest h) refl
cell_again (Text t) rest h = rw (cell_text_exact.again t rest h) refl
cell_again (Moment m) rest h = rw (moment_exact.again m rest h) refl

cell_exact : IsExact cell cell_first
unfolding cell_first
cell_exact = record { takes = tagged_takes cell_reads; again = cell_again }

pub cells_exact : IsExact cells cells_first
unfolding cells cells_first
cells_exact = counted_exact byte_exact cell_exact

pub row_number_exact : IsExact row_number row_number_first
unfolding row_number row_number_first
row_number_exact = by_parts_exact (λ n. record { 0 = n }) (λ r. r.0) (λ n. refl) (λ r. refl) exact32
