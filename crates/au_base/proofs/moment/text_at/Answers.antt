use Rattle.std.proofs.Common.{◌∙◌, ap, sym}
use Rattle.au_base.specs.Calendar.{civil_at}
use Rattle.au_base.specs.Moments.{civil_text, text_of_moment}
use Rattle.au_base.proofs.CalendarCounts.{back}
use Rattle.au_base.proofs.moment.text_at.Goals as goal

pub returns-clause-value : goal.returns-clause-value
unfolding text_of_moment
returns-clause-value c =
    c.text_of.ensures ∙ ap civil_text (sym (back c.civil_of.result c.civil_of.ensures.civil)) ∙ ap (λ moment. civil_text (civil_at moment)) c.civil_of.ensures.value
