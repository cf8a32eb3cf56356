-- Where a table has no row, there is no combination.
use Rattle.std.proofs.Common.{◌≡◌, ◌∙◌, List, [], ◌∷◌, ◌++◌, map, refl, ap}
use Rattle.std.specs.List.{flat_map}
use Rattle.au_query.specs.Combos.{product}

-- without a row of the first table
pub none_of_none : {X : Type 0} (view : List X) (views : List (List X)) → view ≡ [] → product (view ∷ views) ≡ []
none_of_none {X} view views none = ap (λ (v : List X). product (v ∷ views)) none

each_none : {X : Type 0} (view : List X) (rows : List (List X)) → rows ≡ [] → flat_map (λ x. map (λ row. x ∷ row) rows) view ≡ []
each_none [] rows none = refl
each_none {X} (x ∷ view) rows none = ap (λ (rs : List (List X)). map (λ row. x ∷ row) rs ++ flat_map (λ y. map (λ row. y ∷ row) rows) view) none ∙ each_none view rows none

-- without a combination of those behind it
pub none_behind : {X : Type 0} (view : List X) (views : List (List X)) → product views ≡ [] → product (view ∷ views) ≡ []
none_behind view views none = each_none view (product views) none
