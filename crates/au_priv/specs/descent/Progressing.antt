-- How far the pairs of a statement are done.
use Rattle.std.specs.Prelude.{◌≡◌, ◌++◌, List, Result, Ok, Err}
use Rattle.au_base.specs.declared.code.Code.{Code}
use Rattle.au_grants.specs.declared.change.GrantChange.{GrantChange}
use Rattle.au_grants.specs.Changing.{applied_all}
use Rattle.au_grants.specs.Rights.{Grants}
use Rattle.au_priv.specs.Pairs.{Pair}
use Rattle.au_priv.specs.Walking.{AllPass, SomeRefused, made_all}

-- the changes so far, and the grants after them
pub record Done : Type 0 where
  pub after : Grants
  pub changes : List GrantChange

-- the grants and the changes after the pairs, or the refusal of one
abbrev pub Walked : Done → List Pair → Result Done Code → Type 0
Walked start pairs (Ok end) =
    AllPass start.after pairs × (end.changes ≡ start.changes ++ made_all start.after pairs) × (end.after ≡ applied_all (made_all start.after pairs) start.after)
Walked start pairs (Err code) = SomeRefused start.after pairs code
