use Rattle.std.proofs.Common.{None, get_or, refl, vec_len}
use Rattle.au_rows.proofs.LinkLemmas.{linked-same}
use Rattle.au_rows.proofs.links.grow.Goals as goal

pub returns-in_err-reserve_exact-clause-linked : goal.returns-in_err-reserve_exact-clause-linked
returns-in_err-reserve_exact-clause-linked c =
    linked-same c.compact.new.entries.items _ (λ lane. get_or c.compact.new.tops.items lane None) _ (vec_len c.compact.new.entries) _ c.reserve_exact.ensures.items (λ lane. refl) c.reserve_exact.ensures.len c.compact.ensures.linked

pub returns-clause-linked : goal.returns-clause-linked
returns-clause-linked c =
    linked-same c.compact.new.entries.items _ (λ lane. get_or c.compact.new.tops.items lane None) _ (vec_len c.compact.new.entries) _ c.reserve_exact.ensures.items (λ lane. refl) c.reserve_exact.ensures.len c.compact.ensures.linked
