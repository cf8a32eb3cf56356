use Rattle.std.proofs.Common.{◌∙◌, ap, sym, subst, map, length, IsUtf8}
use Rattle.std.proofs.lemmas.List.{length-map}
use Rattle.std.specs.Char.{to_ascii_uppercase}
use Rattle.smallvec.proofs.SmallVecLemmas.{items-with_items}
use Rattle.std_alloc.proofs.string.Cased.{raised as stays_utf8}
use Rattle.au_base.proofs.text.Text.make_ascii_uppercase.Goals as goal

pub invariant_of-self : goal.invariant_of-self
invariant_of-self c =
    let raised = c.make_ascii_uppercase.ensures.after ∙ ap (map to_ascii_uppercase) c.as_mut_slice.ensures.value in
    let same = items-with_items c.self.inside.bytes c.make_ascii_uppercase.new.self (ap length raised ∙ length-map c.self.inside.bytes.items to_ascii_uppercase) ∙ raised in
    subst IsUtf8 (sym same) (stays_utf8 c.self.inside.bytes.items c.self.invariant)
