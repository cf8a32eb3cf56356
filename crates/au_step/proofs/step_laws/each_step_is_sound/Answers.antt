use Rattle.au_step.proofs.Logons.{local_there}
use Rattle.au_step.proofs.Steps.{each_sound}
use Rattle.au_step.proofs.step_laws.each_step_is_sound.Goals as goal

pub returns : goal.returns
returns c =
    let rulings = c.rulings_go_on.ensures in
    let writing = c.rulings_can_be_written.ensures in
    let logons = c.admissions_hold.ensures in
    each_sound (record {
      rulings = record {
        goes = rulings.goes;
        whole = rulings.whole;
        stay = rulings.stay;
        rowless = rulings.rowless;
        alone = rulings.alone;
        rows = c.rulings_change_rows.ensures.rows;
        told = writing.told;
        written = writing.written;
        fired = writing.fired;
        few = writing.few;
        purged = writing.purged;
        object = writing.object;
      };
      logons = record {
        logon = λ kept crowded user password admission utf8 admits. record {
          named = logons.named kept.users kept.grants crowded user password admission utf8 admits;
          there = logons.there kept.users kept.grants crowded user password admission admits;
          told = logons.told kept.users kept.grants crowded user password admission admits;
          open_to = logons.open_to kept.users kept.grants crowded user password admission admits;
        };
        «local» = λ kept crowded admission sys is. record {
          named = logons.local_named crowded admission is;
          there = λ done. local_there kept crowded admission sys is;
          told = logons.local_told crowded admission is;
          open_to = logons.local_open crowded admission is;
        };
      };
      texts = record { some = c.recorded_texts_fit.ensures.some; fits = c.recorded_texts_fit.ensures.fits };
      records = record {
        written = c.records_can_be_written.ensures.written;
        few = c.records_can_be_written.ensures.few;
        left = c.results_stay_in_order.ensures.left;
        forgotten = c.results_stay_in_order.ensures.forgotten;
      };
      commits = record {
        goes = c.commits_can_settle.ensures.goes;
        left = c.commits_can_settle.ensures.left;
        kept = c.commits_can_settle.ensures.kept;
        few = c.commits_can_settle.ensures.few;
        spelled = c.commits_can_settle.ensures.spelled;
      };
      transactions = record {
        same = c.transactions_hold.ensures.same;
        written = c.transactions_hold.ensures.written;
        ended = c.transactions_hold.ensures.ended;
        settled = c.transactions_hold.ensures.settled;
      };
    })
