use Rattle.std.proofs.Common.{rules, [], ◌∷◌}
use Rattle.std.proofs.lemmas.List.Sorted.{IsPartitionPoint-from_clause}
use Rattle.au_base.specs.Order.{fields_before}
use Rattle.au_define.proofs.Halving.{by_names, parted}
use Rattle.au_define.proofs.finding.name_place.Goals as goal

pub returns : goal.returns
returns g c =
    let these = c.args.name.now ∷ [] in
    (c.partition_point.ensures.bound, IsPartitionPoint-from_clause (λ x. fields_before (g.T.Named.name_of x ∷ []) these) _ _ c.partition_point.ensures.partitioned (parted (λ x. g.T.Named.name_of x ∷ []) these _ (by_names g.T.Named.name_of _ c.requires.order)) (λ a r f' k. search rules))
