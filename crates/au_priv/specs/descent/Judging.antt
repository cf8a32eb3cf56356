-- What becomes of the pairs of a statement.
use Rattle.std.specs.Prelude.{◌≡◌, List, Result, Ok, Err}
use Rattle.au_base.specs.declared.code.Code.{Code}
use Rattle.au_grants.specs.declared.change.GrantChange.{GrantChange}
use Rattle.au_grants.specs.declared.grants.Grants.{Grants}
use Rattle.au_priv.specs.descent.Progressing.{Done}
use Rattle.au_priv.specs.Pairs.{Pair}
use Rattle.au_priv.specs.Walking.{AllPass, SomeRefused, made_all}

-- what all pairs change, or the refusal of one
abbrev pub Judged : Grants → List Pair → Result (List GrantChange) Code → Type 0
Judged grants pairs (Ok changes) = AllPass grants pairs × (changes ≡ made_all grants pairs)
Judged grants pairs (Err code) = SomeRefused grants pairs code

-- the changes of a walk that came to its end
abbrev pub changes_in : Result Done Code → Result (List GrantChange) Code
changes_in (Ok end) = Ok end.changes
changes_in (Err code) = Err code
