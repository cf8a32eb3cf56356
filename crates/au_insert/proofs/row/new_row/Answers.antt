use Rattle.std.proofs.Common.{◌≡◌, ◌∙◌, false, [], map, ap, ap₂, sym}
use Rattle.std.specs.Prelude.{None, Some}
use Rattle.std.specs.List.{list_any}
use Rattle.au_insert.specs.Inserting.{cell_of, value_overflows}
use Rattle.au_insert.specs.Inside.{fits, given_row, written_code}
use Rattle.au_insert.proofs.Free.{free_values}
use Rattle.au_insert.proofs.Refused.{fitting, unfit}
use Rattle.au_insert.proofs.row.new_row.Goals as goal

pub given_cells-requires : goal.given_cells-requires
given_cells-requires c =
    free_values (λ columns names values. c.kinds_are_told_one_by_one.ensures [] columns names values) c.targets_are_columns.ensures c.args.columns.now c.as_slice.result.now c.as_slice-values.result.now
    (sym c.written_code.ensures ∙ c.in_default.is)

pub returns-in-Some-row_code : goal.returns-in-Some-row_code
returns-in-Some-row_code c =
    let session = c.args.session.now in
    let columns = c.args.columns.now in
    let insert = c.args.insert.now in
    let named = c.in_ok-named.named in
    let given = c.as_slice-in-Some-2-2.result.now in
    let cells = c.in_ok-cells-in-Some-2.cells in
    let gives = rw c.in-Some-2.is at c.in_ok-given.ensures in
    let unbroken : written_code columns named insert.values ≡ None = sym (ap₂ (written_code columns) c.as_slice.ensures c.as_slice-values.ensures) ∙ sym c.written_code.ensures ∙ c.in_default.is in
    let small : list_any (value_overflows session) insert.values ≡ false = sym (ap (list_any (value_overflows session)) c.as_slice-values.ensures) ∙ gives.0 in
    let made : given ≡ map (cell_of session) insert.values = c.as_slice-in-Some-2-2.ensures.value ∙ gives.1 ∙ ap (map (cell_of session)) c.as_slice-values.ensures in
    let row : cells ≡ given_row columns named given = c.in_ok-cells-in-Some-2.ensures ∙ ap (λ names. given_row columns names given) c.as_slice-in-Some-2.ensures in
    let code : fits columns cells ≡ Some c.in-Some-row_code.code = sym (ap (fits columns) c.as_slice-in-Some-2-3.ensures) ∙ sym c.row_code.ensures ∙ c.in-Some-row_code.is in
    unfit session columns insert named given cells c.in_ok-named.ensures unbroken small made row c.in-Some-row_code.code code

pub returns-in-None-row_code : goal.returns-in-None-row_code
returns-in-None-row_code c =
    let session = c.args.session.now in
    let columns = c.args.columns.now in
    let insert = c.args.insert.now in
    let named = c.in_ok-named.named in
    let given = c.as_slice-in-Some-2-2.result.now in
    let cells = c.in_ok-cells-in-Some-2.cells in
    let gives = rw c.in-Some-2.is at c.in_ok-given.ensures in
    let unbroken : written_code columns named insert.values ≡ None = sym (ap₂ (written_code columns) c.as_slice.ensures c.as_slice-values.ensures) ∙ sym c.written_code.ensures ∙ c.in_default.is in
    let small : list_any (value_overflows session) insert.values ≡ false = sym (ap (list_any (value_overflows session)) c.as_slice-values.ensures) ∙ gives.0 in
    let made : given ≡ map (cell_of session) insert.values = c.as_slice-in-Some-2-2.ensures.value ∙ gives.1 ∙ ap (map (cell_of session)) c.as_slice-values.ensures in
    let row : cells ≡ given_row columns named given = c.in_ok-cells-in-Some-2.ensures ∙ ap (λ names. given_row columns names given) c.as_slice-in-Some-2.ensures in
    let code : fits columns cells ≡ None = sym (ap (fits columns) c.as_slice-in-Some-2-3.ensures) ∙ sym c.row_code.ensures ∙ c.in-None-row_code.is in
    fitting session columns insert named given cells c.in_ok-named.ensures unbroken small made row code
