use Rattle.std.proofs.Common.{◌≡◌, ◌∙◌, ℕ, List, ap, get_or, sym}
use Rattle.std.specs.List.{count_by}
use Rattle.au_rows.specs.Blocks.{joined}
use Rattle.au_rows.specs.Kept.{place_of}
use Rattle.au_rows.proofs.NumberLemmas.{none-largest}
use Rattle.au_rows.proofs.places.Places.numbers.Goals as goal

pub returns-then-count-eq0-clause-largest : goal.returns-then-count-eq0-clause-largest
returns-then-count-eq0-clause-largest c =
    let places = joined c.self.inside.blocks.items in
    let none : count_by (place_of c.args.table) places ≡ 0 =
    sym (c.self.invariant.0.counted c.args.table) ∙ (ap (λ (cs : List ℕ). get_or cs c.args.table 0) (sym c.deref.ensures.value) ∙ (sym c.count_of-count.ensures ∙ c.if-count-eq0.true)) in
    rw (← c.self.view_is) (sym (none-largest c.args.table places none))
