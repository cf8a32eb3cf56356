use Rattle.std.proofs.Common.{◌≡◌, ◌∙◌, ℕ, List, insert, subst}
use Rattle.au_grants.specs.Order.{placed}
use Rattle.au_grants.specs.descent.Growing.{before_by}
use Rattle.au_grants.specs.descent.Halving.{IsPlaceOf}
use Rattle.au_grants.proofs.Inserted.{inserted}
use Rattle.au_grants.proofs.growing.place.Goals as goal

put : {X : Type 0} (fields : X → List (List ℕ)) (entry : X) (xs lent after : List X) (k : ℕ) → lent ≡ xs → IsPlaceOf fields (fields entry) lent k → after ≡ insert xs k entry → after ≡ placed (before_by fields) entry xs
put fields entry xs lent after k same place makes = makes ∙ inserted fields entry xs k (subst (λ ys. IsPlaceOf fields (fields entry) ys k) same place)

pub returns-clause-items : goal.returns-clause-items
returns-clause-items g c = put g.T.Entry.fields c.args.entry _ _ _ _ c.as_slice.ensures.value c.place_among-place.ensures c.insert_at.ensures.items
