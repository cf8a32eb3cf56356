-- The order of entries by their fields.
use Rattle.std.proofs.Common.{ℕ, List}
use Rattle.au_base.specs.Order.{IsIrreflexive, IsTransitive}
use Rattle.au_base.specs.OrderLaws.{fields_irreflexive, fields_transitive}
use Rattle.au_grants.specs.descent.Growing.{before_by}

pub joins : {X : Type 0} (fields : X → List (List ℕ)) → IsTransitive (before_by fields)
joins fields a b c one two = fields_transitive (fields a) (fields b) (fields c) one two

pub apart : {X : Type 0} (fields : X → List (List ℕ)) → IsIrreflexive (before_by fields)
apart fields a = fields_irreflexive (fields a)
