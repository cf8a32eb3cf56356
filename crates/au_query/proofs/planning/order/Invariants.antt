use Rattle.std.proofs.Common.{◌≡◌, ◌++◌, drop, map}
use Rattle.std.specs.List.{flat_map}
use Rattle.au_expr.specs.Names.{first}
use Rattle.au_query.specs.Queries.{places_of_key}
use Rattle.au_query.specs.Refusals.{key_code}
use Rattle.au_query.proofs.planning.order.Given as goal

abbrev pub invariant-loop-key : goal.invariant-loop-key
invariant-loop-key l =
    (first (map (key_code l.ranges) (drop l.key-index l.key-items)) ≡ first (map (key_code l.ranges) l.key-items))
    × (l.keys.items ++ flat_map (places_of_key l.ranges) (drop l.key-index l.key-items) ≡ flat_map (places_of_key l.ranges) l.key-items)
