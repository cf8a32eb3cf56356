-- For private clauses: the end of a head, by a walk over its bytes.
use Rattle.std.specs.Prelude.{ℕ, ◌+◌, ◌==◌, List, [], ◌∷◌, if◌then◌else◌, Option, Some, None, option_map}
use Rattle.au_http.specs.declared.head_end.Place.{Place}
use Rattle.au_http.specs.declared.head_end.Place.TheVariants.{Start, StartReturn, Line, Fresh, FreshReturn}
use Rattle.au_http.specs.HeadEnds.{line_feed, carriage_return}

-- the place behind a byte, or none where the byte ends the head
abbrev pub after : Place → ℕ → Option Place
after Start b = if b == line_feed then Some Start else (if b == carriage_return then Some StartReturn else Some Line)
after StartReturn b = if b == line_feed then Some Start else Some Line
after Line b = if b == line_feed then Some Fresh else Some Line
after Fresh b = if b == line_feed then None else (if b == carriage_return then Some FreshReturn else Some Line)
after FreshReturn b = if b == line_feed then None else Some Line

-- what a step comes to: the head ends with this byte, or the walk goes on
abbrev pub ends_or : Option Place → (Place → Option ℕ) → Option ℕ
ends_or None walk = Some 1
ends_or (Some place) walk = option_map (λ n. n + 1) (walk place)

-- how many bytes end the head, from a place on
abbrev pub end_from : Place → List ℕ → Option ℕ
end_from place [] = None
end_from place (b ∷ rest) = ends_or (after place b) (λ next. end_from next rest)
