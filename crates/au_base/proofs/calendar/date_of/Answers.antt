use Rattle.std.proofs.Common.{◌≡◌, ◌∙◌, pos, ap, arith, w16, FitsSigned}
use Rattle.std.proofs.lemmas.Int.{to_z-of_z}
use Rattle.std.specs.Prelude.{unsigned_abs}
use Rattle.jiff_core.specs.Calendar.{IsCivilDate, days_from_civil}
use Rattle.jiff_core.proofs.SignedLemmas.{signed_arith}
use Rattle.au_base.proofs.CalendarDays.{as_day}
use Rattle.au_base.proofs.calendar.date_of.Goals as goal

pub returns : goal.returns
returns c =
    let date = c.from_days_since_min-date.result in
    let civil : IsCivilDate date.year date.month date.day = (date.year_in, date.month_in, date.day_in) in
    let number : days_from_civil date.year date.month date.day ≡ pos c.args.days = omega (arith, signed_arith, c.from_days_since_min-date.ensures) in
    let day = as_day date.year date.month date.day c.args.days civil number in
    let fits : FitsSigned w16 date.year = omega (arith, signed_arith, date.year_in) in
    let year : c.from.result ≡ unsigned_abs date.year = c.from.ensures ∙ c.unsigned_abs.ensures.value ∙ ap unsigned_abs (to_z-of_z w16 date.year fits) in
    record {
      day = rw (year, c.from-2.ensures, c.from-3.ensures) day.0;
      value = rw (year, c.from-2.ensures, c.from-3.ensures) day.1;
    }
