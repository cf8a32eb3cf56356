-- Names that rise one by one stand in order.
use Rattle.std.proofs.Common.{◌≡◌, ℕ, Bool, true, ◌&&◌, List, [], ◌∷◌, refl}
use Rattle.std.specs.Prelude.{Option, Some, None}
use Rattle.std.proofs.lemmas.Bool.{and_from, and_parts}
use Rattle.std.specs.List.{list_all}
use Rattle.au_base.specs.Order.{is_in_order, name_before}
use Rattle.au_base.specs.OrderLaws.{names_transitive}
use Rattle.trials_calls.specs.Rising.{comes_behind}

all_behind : (first next : List ℕ) (names : List (List ℕ)) → name_before first next ≡ true → list_all (name_before next) names ≡ true → list_all (name_before first) names ≡ true
all_behind first next [] less all = refl
all_behind first next (name ∷ names) less all =
    let parts = and_parts (name_before next name) (list_all (name_before next) names) all in
    and_from (name_before first name) (list_all (name_before first) names) (names_transitive first next name less parts.0) (all_behind first next names less parts.1)

-- a name before those that rise behind the next one
one_before : (first next : List ℕ) (names : List (List ℕ)) → name_before first next ≡ true → (list_all (name_before next) names && is_in_order name_before names) ≡ true
    → (list_all (name_before first) (next ∷ names) && is_in_order name_before (next ∷ names)) ≡ true
one_before first next names less rise =
    let parts = and_parts (list_all (name_before next) names) (is_in_order name_before names) rise in
    and_from (list_all (name_before first) (next ∷ names)) (is_in_order name_before (next ∷ names))
    (and_from (name_before first next) (list_all (name_before first) names) less (all_behind first next names less parts.0)) rise

-- the names rise behind the last one, where there is one
abbrev pub rise_behind : Option (List ℕ) → List (List ℕ) → Bool
rise_behind None names = is_in_order name_before names
rise_behind (Some last) names = list_all (name_before last) names && is_in_order name_before names

-- one more name, where those behind it rise
pub one_more : (last : Option (List ℕ)) (name : List ℕ) (names : List (List ℕ)) → comes_behind last name ≡ true → rise_behind (Some name) names ≡ true → rise_behind last (name ∷ names) ≡ true
one_more None name names less rise = rise
one_more (Some last) name names less rise = one_before last name names less rise

pub none_left : (last : Option (List ℕ)) → rise_behind last [] ≡ true
none_left None = refl
none_left (Some last) = refl
