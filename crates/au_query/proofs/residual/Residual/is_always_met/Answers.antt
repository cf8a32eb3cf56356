use Rattle.au_query.proofs.Residuals.{unmet_by_column, unmet_by_sum}
use Rattle.au_query.proofs.residual.Residual.is_always_met.Goals as goal

pub returns-in-Column : goal.returns-in-Column
returns-in-Column c = unmet_by_column c.args.self c.in-Column._column c.in-Column.is

pub returns-in-Sum : goal.returns-in-Sum
returns-in-Sum c = unmet_by_sum c.args.self c.in-Sum._before c.in-Sum._minus c.in-Sum._column c.in-Sum.is
