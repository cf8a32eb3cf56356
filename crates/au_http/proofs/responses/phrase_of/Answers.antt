use Rattle.std.proofs.Common.{◌≡◌, ◌∙◌, [], Option, Some, None, option_map, refl, ap}
use Rattle.std.specs.Option.{unwrap_or}
use Rattle.au_http.specs.Responses.{phrase_of}
use Rattle.au_http.proofs.responses.phrase_of.Goals as goal

either : {A B : Type 0} (f : A → B) (o : Option A) (a : A) → f (unwrap_or o a) ≡ unwrap_or (option_map f o) (f a)
either f None a = refl
either f (Some x) a = refl

pub returns : goal.returns
unfolding phrase_of
returns c = ap (λ s. s.now) c.unwrap_or.ensures ∙ either (λ s. s.now) c.canonical_reason.result _ ∙ ap (λ o. unwrap_or o []) c.canonical_reason.ensures.value
