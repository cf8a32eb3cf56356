use Rattle.std.proofs.Common.{rules, tests}
use Rattle.std.proofs.lemmas.Iterator.{YieldsList-from_slice}
use Rattle.std.proofs.lemmas.Iterator.Consumers.{YieldsList-from_filter, count_from_yields_List}
use Rattle.au_main.specs.Samples.{is_of_pay}
use Rattle.au_main.proofs.sampling.rows_of_pay.Goals as goal

pub returns : goal.returns
returns c =
    count_from_yields_List _ _ c.count.ensures.ran
    (YieldsList-from_filter _ is_of_pay (YieldsList-from_slice c.args.rows.now cc) c.filter.ensures.closure (λ x r q k. search (rules, tests)))
