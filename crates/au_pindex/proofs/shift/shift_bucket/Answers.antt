use Rattle.std.proofs.Common.{◌∙◌, ◌^◌, rules, nat_lt, ◌&&◌, sym, ap}
use Rattle.std.specs.Prelude.{◌==◌}
use Rattle.au_pindex.specs.Places.{passes}
use Rattle.au_pindex.specs.descent.Shifting.{came_from}
use Rattle.au_pindex.proofs.Shifted.{any_from, kept_any}
use Rattle.au_pindex.proofs.shift.shift_bucket.Goals as goal

pub returns-clause-places : goal.returns-clause-places
returns-clause-places c at =
    let from = came_from c.args.shift.now in
    kept_any _ (λ to x. nat_lt to (2 ^ 64) && passes (λ s. x == s) (from to)) _
    (λ x b t y h. (λ to. ap (λ z. b && (z == to)) (sym h.leaves) ∙ h.called.met.0 to ∙ ap (λ z. nat_lt to (2 ^ 64) && passes (λ s. z == s) (from to)) h.shows, search rules)) _ _ c.retain_mut.ensures.filtered at
    ∙ any_from (nat_lt at (2 ^ 64)) (from at) c.args.bucket.now.items
