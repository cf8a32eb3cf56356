use Rattle.au_step.proofs.OneResult.{one_logged, one_run, one_step}
use Rattle.au_step.proofs.laws.one_result.Goals as goal

pub returns-clause-logged : goal.returns-clause-logged
returns-clause-logged c =
    one_logged (record {
      statement = c.one_reading.ensures.statement;
      code = c.one_reading.ensures.code;
      apart = c.one_reading.ensures.apart;
      ruling = c.rulings_are_one.ensures.one;
      admission = c.admissions_hold.ensures.one;
      finals = c.finals_settle.ensures.one;
    })

pub returns-clause-step : goal.returns-clause-step
returns-clause-step c =
    one_step (record {
      statement = c.one_reading.ensures.statement;
      code = c.one_reading.ensures.code;
      apart = c.one_reading.ensures.apart;
      ruling = c.rulings_are_one.ensures.one;
      admission = c.admissions_hold.ensures.one;
      finals = c.finals_settle.ensures.one;
    })

pub returns-clause-run : goal.returns-clause-run
returns-clause-run c =
    one_run (record {
      statement = c.one_reading.ensures.statement;
      code = c.one_reading.ensures.code;
      apart = c.one_reading.ensures.apart;
      ruling = c.rulings_are_one.ensures.one;
      admission = c.admissions_hold.ensures.one;
      finals = c.finals_settle.ensures.one;
    })
