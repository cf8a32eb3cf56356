-- Where the asks for rows and those behind them stand in the sample.
use Rattle.std.proofs.Common.{◌≡◌, ◌∙◌, ℕ, ◌+◌, ◌/◌, ◌<◌, ◌++◌, length, length-append, arith, Some}
use Rattle.std.specs.List.{slice_get}
use Rattle.au_base.specs.declared.ask.Ask.{Ask}
use Rattle.au_base.specs.declared.ask.Ask.TheVariants.{Sql}
use Rattle.au_gen.specs.Sample.{ask_of, closing, ending_text, insert_text, opening, rows_asks, sample}
use Rattle.au_gen.specs.descent.Places.{row_ask_at}
use Rattle.au_gen.proofs.Hundreds.{at_place, get_left, get_right, size}

abbrev put : ℕ → ℕ → Ask
put seed row = Sql (insert_text seed row)

abbrev end : ℕ → Ask
end row = Sql (ending_text row)

row_count : (seed rows : ℕ) → length (rows_asks seed rows) ≡ rows + rows / 100
row_count seed rows = size (put seed) end rows

pub at_rows : (seed rows n place : ℕ) → n ≡ 5 + place → place < rows + rows / 100 → ask_of seed rows n ≡ Some (row_ask_at seed place)
at_rows seed rows n place at least =
    let few : place < length (rows_asks seed rows) = (let e = row_count seed rows in omega (arith, e, least)) in
    get_right opening (rows_asks seed rows ++ closing) n place at
    ∙ get_left (rows_asks seed rows) closing place few
    ∙ at_place (put seed) end rows place least

pub at_closing : (seed rows n place : ℕ) → n ≡ 5 + (rows + rows / 100) + place → ask_of seed rows n ≡ slice_get closing place
at_closing seed rows n place at =
    get_right opening (rows_asks seed rows ++ closing) n (rows + rows / 100 + place) (omega (arith, at))
    ∙ get_right (rows_asks seed rows) closing (rows + rows / 100 + place) place (let e = row_count seed rows in omega (arith, e))

pub sample_length : (seed rows : ℕ) → length (sample seed rows) ≡ rows + rows / 100 + 7
sample_length seed rows =
    let all = length-append opening (rows_asks seed rows ++ closing) in
    let behind = length-append (rows_asks seed rows) closing in
    let count = row_count seed rows in
    omega (arith, all, behind, count)
