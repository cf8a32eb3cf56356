use Rattle.std.proofs.Common.{◌∙◌, ap, sym, length}
use Rattle.std.proofs.lemmas.List.{length-map}
use Rattle.au_http.proofs.heads.count.Goals as goal

pub returns : goal.returns
returns c =
    ap length c.as_slice.ensures.value ∙ sym (length-map c.in_ok-values.field-0.items (λ s. s.now)) ∙ ap length c.in_ok-values.ensures
