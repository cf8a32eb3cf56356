use Rattle.std.proofs.Common.{◌∙◌, ℕ, List, Option, None, ap, get_or, sym, arith}
use Rattle.au_rows.proofs.LinkLemmas.{none-own}
use Rattle.au_rows.proofs.links.take_newest.Goals as goal

pub returns-in-None-clause-none : goal.returns-in-None-clause-none
returns-in-None-clause-none c =
    none-own c.args.by c.args.entries.now.items (λ lane. get_or c.args.tops.now.items lane None) _ (omega arith) c.requires.linked
    (ap (λ (lane : ℕ). get_or c.args.tops.now.items lane None) (sym c.lane_of.ensures.lane)
    ∙ (ap (λ (xs : List (Option ℕ)). get_or xs c.lane_of.result None) (sym c.deref.ensures.value) ∙ (sym c.top_of.ensures ∙ c.in-None.is)))
