use Rattle.std.proofs.Common.{rules, [], ◌∷◌}
use Rattle.std.proofs.lemmas.List.Sorted.{IsPartitionPoint-from_clause}
use Rattle.au_base.specs.Actions as actions
use Rattle.au_grants.specs.Order.{fields_before, object_fields}
use Rattle.au_grants.proofs.Halving.{parted}
use Rattle.au_grants.proofs.places.object_place.Goals as goal

pub returns : goal.returns
returns c =
    let these = c.args.grantee.now ∷ c.args.table.now.owner ∷ c.args.table.now.name ∷ (actions.code_of c.args.action ∷ []) ∷ [] in
    (c.partition_point.ensures.bound, IsPartitionPoint-from_clause (λ x. fields_before (object_fields x) these) _ _ c.partition_point.ensures.partitioned (parted object_fields these _ c.requires.order) (λ a r f' k. search rules))
