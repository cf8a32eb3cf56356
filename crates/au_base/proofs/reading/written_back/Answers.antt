use Rattle.std.proofs.Common.{◌≡◌, ◌∙◌, ap, arith, min, sym}
use Rattle.au_base.specs.Limits.{LAST_MOMENT}
use Rattle.au_base.specs.Moments.{text_of_moment}
use Rattle.au_base.proofs.MomentWritten.{written}
use Rattle.au_base.proofs.reading.written_back.Goals as goal

pub returns-in-Some : goal.returns-in-Some
returns-in-Some c =
    let last : min c.in-Some.moment LAST_MOMENT ≡ c.in-Some.moment = omega (arith, c.in-Some.ensures.last) in
    c.moment_text.ensures.text ∙ ap text_of_moment last ∙ sym (written c.args.text.now c.in-Some.moment c.requires c.in-Some.ensures.cases)
