use Rattle.au_turn.specs.Pass.{seen}
use Rattle.au_session.proofs.Turning.{deed_goes_on, leaves_told}
use Rattle.au_session.proofs.turns.answer_held.Goals as goal

pub give_back-requires-clause-value : goal.give_back-requires-clause-value
give_back-requires-clause-value g c =
    let d = g.D.Disk in
    let k = g.C.Clock in
    deed_goes_on d.told d.meaning d.faults k.ticking c.args.client c.args.ask.now c.args.store c.answer-said.new.self c.answer-said.result c.reading.result
    (seen c.args.pass.now) c.answer-said.ensures.tries c.reading.ensures c.requires.value

pub returns-clause-step : goal.returns-clause-step
returns-clause-step g c =
    let told = c.give_back.ensures.entries in
    record {
      made = told.0;
      leaves = leaves_told c.args.client c.args.ask.now c.reading.result c.answer-said.result told.0 told.1;
      grew = told.2;
      reading = c.answer-said.new.self.reading;
      reached = _;
      leads = c.give_back.ensures.value.leads;
      step = c.answer-said.ensures.step;
    }
