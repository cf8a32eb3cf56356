use Rattle.std.proofs.Common.{◌≡◌, ◌+◌, ◌*◌, arith, refl, Some, drop}
use Rattle.std.proofs.lemmas.Grind.{common_steps}
use Rattle.au_base.specs.Moments.{fraction_of}
use Rattle.au_base.proofs.MomentPairs.{HasMarks, HasPairs, date_told, spelled}
use Rattle.au_base.proofs.reading.read_moment.Goals as goal

pub returns-in_err-days-clause-cases : goal.returns-in_err-days-clause-cases
returns-in_err-days-clause-cases c =
    rw c.from_residual-in_err-days.ensures (λ k civil s. c.in_err-days.ensures.value
    (date_told k c.args.text.now s.0 c.in_ok-century.century c.in_ok-year.year c.in_ok-month.month c.in_ok-day.day civil s.1
    c.in_ok-century.ensures c.in_ok-year.ensures c.in_ok-month.ensures c.in_ok-day.ensures))

pub returns-clause-cases : goal.returns-clause-cases
returns-clause-cases c =
    let marks : HasMarks c.args.text.now = record {
      long = omega arith;
      first_dash = omega arith;
      second_dash = omega arith;
      space = omega arith;
      first_colon = omega arith;
      second_colon = omega arith;
    } in
    let pairs : HasPairs c.args.text.now c.in_ok-century.century c.in_ok-year.year c.in_ok-month.month c.in_ok-day.day c.in_ok-hour.hour c.in_ok-minute.minute c.in_ok-second.second = record {
      century_is = c.in_ok-century.ensures;
      year_is = c.in_ok-year.ensures;
      month_is = c.in_ok-month.ensures;
      day_is = c.in_ok-day.ensures;
      hour_is = c.in_ok-hour.ensures;
      minute_is = c.in_ok-minute.ensures;
      second_is = c.in_ok-second.ensures;
    } in
    let text = spelled c.args.text.now c.in_ok-century.century c.in_ok-year.year c.in_ok-month.month c.in_ok-day.day c.in_ok-hour.hour c.in_ok-minute.minute c.in_ok-second.second c.in_ok-micro.micro marks pairs in
    let date = c.in_ok-days.ensures.value in
    let rest : fraction_of (drop 19 c.args.text.now) ≡ Some c.in_ok-micro.micro = grind (arith, common_steps, c.in_ok-micro.ensures.value) in (
      record {
        year = c.in_ok-century.century * 100 + c.in_ok-year.year;
        month = c.in_ok-month.month;
        day = c.in_ok-day.day;
        hour = c.in_ok-hour.hour;
        minute = c.in_ok-minute.minute;
        second = c.in_ok-second.second;
        micro = c.in_ok-micro.micro;
      },
      record { date = date.0; hour = omega arith; minute = omega arith; second = omega arith; micro = c.in_ok-micro.ensures.small },
      (drop 19 c.args.text.now, text, rest),
      rw (c.from.ensures, c.from-2.ensures, c.from-3.ensures, c.from-4.ensures, date.1) refl,
    )

pub returns-clause-last : goal.returns-clause-last
returns-clause-last c =
    omega (arith, c.in_ok-days.ensures.bound, c.in_ok-micro.ensures.small, c.from.ensures, c.from-2.ensures, c.from-3.ensures, c.from-4.ensures)
