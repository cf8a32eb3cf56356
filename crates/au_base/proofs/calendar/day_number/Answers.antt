use Rattle.std.proofs.Common.{◌∙◌, arith, w8, w16}
use Rattle.std.proofs.lemmas.Int.{to_z_pos}
use Rattle.au_base.proofs.CalendarDays.{same_day}
use Rattle.au_base.proofs.calendar.day_number.Goals as goal

pub overflow_sub-days_since_min : goal.overflow_sub-days_since_min
overflow_sub-days_since_min c =
    let y = to_z_pos w16 c.args.year (omega arith) in
    let m = to_z_pos w8 c.args.month (omega arith) in
    let d = to_z_pos w8 c.args.day (omega arith) in
    let value = c.in-Ok.ensures.value in
    let date = c.in-Ok.date in
    let told = same_day date.year date.month date.day c.args.year c.args.month c.args.day c.days_since_min.result
    (date.year_in, date.month_in, date.day_in) (value.0 ∙ y) (value.1 ∙ m) (value.2 ∙ d) (omega arith) c.days_since_min.ensures.value in
    omega (arith, told.1)

pub returns-in-Ok-clause-value : goal.returns-in-Ok-clause-value
returns-in-Ok-clause-value c =
    let y = to_z_pos w16 c.args.year (omega arith) in
    let m = to_z_pos w8 c.args.month (omega arith) in
    let d = to_z_pos w8 c.args.day (omega arith) in
    let value = c.in-Ok.ensures.value in
    let date = c.in-Ok.date in
    let told = same_day date.year date.month date.day c.args.year c.args.month c.args.day c.days_since_min.result
    (date.year_in, date.month_in, date.day_in) (value.0 ∙ y) (value.1 ∙ m) (value.2 ∙ d) (omega arith) c.days_since_min.ensures.value in
    (told.0, omega (arith, told.1))
