use Rattle.std.proofs.Common.{◌≡◌, ◌∙◌, ℕ, ◌+◌, ◌-◌, List, [], Some, get_or, ap, sym, subst, arith}
use Rattle.std.specs.List.{position, slice_get}
use Rattle.std.specs.Str.{bytes_eq}
use Rattle.std.proofs.lemmas.List.Quantifiers.{position-Some}
use Rattle.std.proofs.lemmas.Option.{slice_get-get_or}
use Rattle.std.proofs.lemmas.Slice.Eq.{bytes_eq-Decides}
use Rattle.au_script.proofs.labels.Labels.client_of.Goals as goal

at_position : (label : List ℕ) (labels : List (List ℕ)) (i n : ℕ) → position (bytes_eq label) labels ≡ Some i → n ≡ i → slice_get labels n ≡ Some label
at_position label labels i n e same =
    let h = position-Some (bytes_eq label) labels i [] e in
    ap (slice_get labels) same ∙ slice_get-get_or labels i [] h.0 ∙ ap Some (sym ((bytes_eq-Decides label (get_or labels i [])).0 h.1))

pub returns-in-Some-clause-place : goal.returns-in-Some-clause-place
returns-in-Some-clause-place c =
    let view : c.self.inside.used.keys ≡ c.args.self.now = c.self.view_is in
    subst (λ (labels : List (List ℕ)). slice_get labels (c.in-Some.place + 1 - 1) ≡ Some c.args.label.now) view
    (at_position c.args.label.now c.self.inside.used.keys c.in-Some.place (c.in-Some.place + 1 - 1) (sym c.in-Some.ensures.index) (omega arith))
