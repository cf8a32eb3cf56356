use Rattle.std.proofs.Common.{rules}
use Rattle.au_pindex.proofs.Emptied.{all_full, full_as, same_places}
use Rattle.au_pindex.proofs.buckets.drop_empty.Goals as goal

pub returns-clause-places : goal.returns-clause-places
returns-clause-places g c key at =
    same_places _ _ (λ k v b w f' h. let met = h.called.met.0 in full_as v w _ _ b h.shows.1 h.leaves met.0 met.1 (search rules)) _ g.met.K.Ord.total key at _ _ c.retain.ensures.was_ordered c.retain.ensures.filtered

pub returns-clause-left : goal.returns-clause-left
returns-clause-left g c = all_full _ _ (λ k v b w f' h. let met = h.called.met.0 in full_as v w _ _ b h.shows.1 h.leaves met.0 met.1 (search rules)) _ _ c.retain.ensures.filtered
