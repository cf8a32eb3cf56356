use Rattle.std.proofs.Common.{◌≡◌, ◌∙◌, ap, sym, subst}
use Rattle.au_entries.specs.declared.kept.Kept.{Kept}
use Rattle.au_image.specs.Image.{IsWritable, image_of}
use Rattle.au_kept.specs.Anew.{untold}
use Rattle.au_step.specs.State.{State}
use Rattle.au_engine.specs.Imaging.{Takes}
use Rattle.au_replay.specs.Reading.{conditions}
use Rattle.au_engine.proofs.Bodies.{image_takes}
use Rattle.au_engine.proofs.Untold.{told_all, untold_writable}
use Rattle.au_engine.proofs.engine.Engine.copy_untold.Goals as goal
use Rattle.rec_codec.specs.Frames.{IsSpellable, framed}

pub image_told-requires : goal.image_told-requires
image_told-requires c =
    let kept = c.args.self.now.state.kept in
    let bare = told_all kept c.all.result (record { 0 = 0 }) c.all.ensures.records c.all.ensures.last in
    subst IsWritable (sym bare) (untold_writable conditions kept c.lawful.ensures.kept)

pub after_body-requires-clause-takes : goal.after_body-requires-clause-takes
after_body-requires-clause-takes c =
    let kept = c.args.self.now.state.kept in
    let bare = told_all kept c.all.result (record { 0 = 0 }) c.all.ensures.records c.all.ensures.last in
    let lent : c.as_slice.result.now ≡ c.in_ok-image.image.items = cc in
    let bytes = subst (λ (k : Kept). c.in_ok-image.image.items ≡ framed (image_of k)) bare c.in_ok-image.ensures.bytes in
    let spelled = subst (λ (k : Kept). IsSpellable (image_of k)) bare c.in_ok-image.ensures.spellable in
    let is = c.body_in.ensures (image_of (untold kept)) (lent ∙ bytes) in
    let takes = image_takes (record { goes = c.images_come_back.ensures.goes; back = c.images_come_back.ensures.back }) kept c.body_in.result.now is spelled c.lawful.ensures.kept c.requires.seated in
    (untold kept, subst (λ (m : State). Takes m.kept c.body_in.result.now (untold kept)) (sym c.in_ok-blank.ensures) takes)

pub returns : goal.returns
returns c =
    let kept = c.args.self.now.state.kept in
    let bare = told_all kept c.all.result (record { 0 = 0 }) c.all.ensures.records c.all.ensures.last in
    let lent : c.as_slice.result.now ≡ c.in_ok-image.image.items = cc in
    let bytes = subst (λ (k : Kept). c.in_ok-image.image.items ≡ framed (image_of k)) bare c.in_ok-image.ensures.bytes in
    let spelled = subst (λ (k : Kept). IsSpellable (image_of k)) bare c.in_ok-image.ensures.spellable in
    let is = c.body_in.ensures (image_of (untold kept)) (lent ∙ bytes) in
    let takes = image_takes (record { goes = c.images_come_back.ensures.goes; back = c.images_come_back.ensures.back }) kept c.body_in.result.now is spelled c.lawful.ensures.kept c.requires.seated in
    c.in_ok-copy.ensures (untold kept) (subst (λ (m : State). Takes m.kept c.body_in.result.now (untold kept)) (sym c.in_ok-blank.ensures) takes)
    ∙ ap (λ (m : State). record m { kept = untold kept }) c.in_ok-blank.ensures
