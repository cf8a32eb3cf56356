-- Changes one after another.
use Rattle.std.proofs.Common.{◌≡◌, ◌∙◌, ℕ, ◌<◌, ◌+◌, List, ◌∷◌, length, drop, get_or, sym, ap}
use Rattle.std.proofs.lemmas.List.{drop_more}
use Rattle.au_grants.specs.declared.change.GrantChange.{GrantChange}
use Rattle.au_grants.specs.Changing.{applied, applied_all}
use Rattle.au_grants.specs.Rights.{Grants}

-- after one more change there is one fewer to make
pub one_more : (changes : List GrantChange) (i : ℕ) (change : GrantChange) (after next start : Grants) → i < length changes → change ≡ get_or changes i change
    → applied_all (drop i changes) after ≡ applied_all changes start → next ≡ applied change after → applied_all (drop (i + 1) changes) next ≡ applied_all changes start
one_more changes i change after next start within is so_far makes =
    ap (applied_all (drop (i + 1) changes)) makes
    ∙ ap (λ (xs : List GrantChange). applied_all xs after) (ap (λ (x : GrantChange). x ∷ drop (i + 1) changes) is ∙ sym (drop_more changes i change within))
    ∙ so_far
