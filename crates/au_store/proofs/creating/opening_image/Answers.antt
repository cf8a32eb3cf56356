use Rattle.std.proofs.Common.{◌≡◌, subst, IfOk}
use Rattle.au_image.specs.Image.{image_of}
use Rattle.rec_codec.specs.Frames.{IsSpellable, framed}
use Rattle.au_step.specs.State.{State}
use Rattle.au_store.proofs.creating.opening_image.Goals as goal

pub returns-clause-bytes : goal.returns-clause-bytes
returns-clause-bytes c =
    subst (λ (s : State). IfOk c.image-framed.result (λ bytes. bytes.items ≡ framed (image_of s.kept))) c.in_ok-engine.ensures c.image-framed.ensures.bytes

pub returns-clause-spellable : goal.returns-clause-spellable
returns-clause-spellable c = subst (λ (s : State). IfOk c.image-framed.result (λ bytes. IsSpellable (image_of s.kept))) c.in_ok-engine.ensures c.image-framed.ensures.spellable
