-- Where the asks for rows stand: each hundred of rows takes 101 places.
use Rattle.std.specs.Prelude.{ℕ, ◌+◌, ◌*◌, ◌/◌, ◌%◌, ◌==◌, if◌then◌else◌}
use Rattle.au_base.specs.declared.ask.Ask.{Ask}
use Rattle.au_base.specs.declared.ask.Ask.TheVariants.{Sql}
use Rattle.au_gen.specs.Sample.{ending_text, insert_text}

-- the ask at this place among those for rows
abbrev pub row_ask_at : ℕ → ℕ → Ask
row_ask_at seed place =
    if place % 101 == 100 then Sql (ending_text (place / 101 * 100 + 100))
    else Sql (insert_text seed (place / 101 * 100 + place % 101 + 1))
