use Rattle.au_http.specs.declared.requests.Need.TheVariants.{Bad, Got, More}
use Rattle.au_http.specs.Requests.{Needs}
use Rattle.au_session.specs.Exchanges.{Exchange}
use Rattle.au_session.specs.Session.{told_of}
use Rattle.au_session.proofs.Requesting.{asked_closed, asked_on, asked_ungiven, needs_at, no_memory, refused, serving_start, serving_taken, untaken}
use Rattle.au_session.proofs.serving.serve_requests.Goals as goal

pub loop-init : goal.loop-init
loop-init g c =
    let s = g.K.Stream in
    record {
      own = c.requires.own;
      idle = c.requires.idle;
      serving = serving_start c.args.client (told_of s.left s.taken s.given s.faults c.args.link.now) c.args.pass.now c.new-buffer.result.items c.new-buffer.ensures.items;
    }

pub returns-in_default-clause-served : goal.returns-in_default-clause-served
returns-in_default-clause-served g c =
    let s = g.K.Stream in
    let told = told_of s.left s.taken s.given s.faults in
    no_memory c.args.client (told c.args.link.now) c.args.pass.now (told c.loop.link) c.loop.pass c.loop.buffer.items c.loop.invariant.serving

pub loop-preserved-in_default-take_more : goal.loop-preserved-in_default-take_more
loop-preserved-in_default-take_more g c =
    let s = g.K.Stream in
    let told = told_of s.left s.taken s.given s.faults in
    record {
      own = c.loop.invariant.own;
      idle = c.loop.invariant.idle;
      serving = serving_taken c.args.client (told c.args.link.now) c.args.pass.now (told c.loop.link) c.loop.pass c.loop.buffer.items c.loop.invariant.serving
          c.keep_requests.ensures (told c.take_more.new.link) c.take_more.new.buffer.items c.in_default-take_more.ensures.ok;
    }

pub returns-in-Err-clause-served : goal.returns-in-Err-clause-served
returns-in-Err-clause-served g c =
    let s = g.K.Stream in
    let told = told_of s.left s.taken s.given s.faults in
    let need : Needs c.loop.buffer.items More = needs_at c.deref.result.now c.loop.buffer.items c.in-Ok.need More c.in-Ok.ensures.needs c.deref.ensures.value c.in-More.is in
    untaken c.args.client (told c.args.link.now) c.args.pass.now (told c.loop.link) c.loop.pass c.loop.buffer.items c.loop.invariant.serving
    c.keep_requests.ensures (told c.take_more.new.link) c.in-Err.ended need c.in-Err.ensures.err

pub returns-in-Err-respond-clause-served : goal.returns-in-Err-respond-clause-served
returns-in-Err-respond-clause-served g c =
    let s = g.K.Stream in
    let told = told_of s.left s.taken s.given s.faults in
    let went = c.ask_once-said.ensures.went in
    let x : Exchange = record { ask = c.in-Got.ask; close = c.in-Got.close; said = c.ask_once-said.result } in
    let need : Needs c.loop.buffer.items (Got c.in-Got.used x.ask x.close) = needs_at c.deref.result.now c.loop.buffer.items c.in-Ok.need (Got c.in-Got.used x.ask x.close) c.in-Ok.ensures.needs c.deref.ensures.value c.in-Got.is in
    asked_ungiven c.args.client (told c.args.link.now) c.args.pass.now (told c.loop.link) c.loop.pass c.loop.buffer.items c.loop.invariant.serving
    c.ask_once-said.new.pass x c.in-Got.used went.0 went.1 need went.2 went.3 (told c.respond.new.link) c.in-Err-respond.ended c.in-Err-respond.ensures.err

pub returns-then-close-clause-served : goal.returns-then-close-clause-served
returns-then-close-clause-served g c =
    let s = g.K.Stream in
    let told = told_of s.left s.taken s.given s.faults in
    let went = c.ask_once-said.ensures.went in
    let x : Exchange = record { ask = c.in-Got.ask; close = c.in-Got.close; said = c.ask_once-said.result } in
    let need : Needs c.loop.buffer.items (Got c.in-Got.used x.ask x.close) = needs_at c.deref.result.now c.loop.buffer.items c.in-Ok.need (Got c.in-Got.used x.ask x.close) c.in-Ok.ensures.needs c.deref.ensures.value c.in-Got.is in
    asked_closed c.args.client (told c.args.link.now) c.args.pass.now (told c.loop.link) c.loop.pass c.loop.buffer.items c.loop.invariant.serving
    c.ask_once-said.new.pass x c.in-Got.used went.0 went.1 need went.2 went.3 (told c.respond.new.link) c.in_default-respond.ensures.ok c.if-close.true

pub loop-preserved : goal.loop-preserved
loop-preserved g c =
    let s = g.K.Stream in
    let told = told_of s.left s.taken s.given s.faults in
    let went = c.ask_once-said.ensures.went in
    let x : Exchange = record { ask = c.in-Got.ask; close = c.in-Got.close; said = c.ask_once-said.result } in
    let need : Needs c.loop.buffer.items (Got c.in-Got.used x.ask x.close) = needs_at c.deref.result.now c.loop.buffer.items c.in-Ok.need (Got c.in-Got.used x.ask x.close) c.in-Ok.ensures.needs c.deref.ensures.value c.in-Got.is in
    record {
      own = c.ask_once-said.ensures.own;
      idle = c.ask_once-said.ensures.idle;
      serving = asked_on c.args.client (told c.args.link.now) c.args.pass.now (told c.loop.link) c.loop.pass c.loop.buffer.items c.loop.invariant.serving
          c.ask_once-said.new.pass x c.in-Got.used went.0 went.1 need went.2 went.3 (told c.respond.new.link) c.in_default-respond.ensures.ok c.drop_front.new.buffer.items c.drop_front.ensures c.if-close.false;
    }

pub returns-in-Bad-clause-served : goal.returns-in-Bad-clause-served
returns-in-Bad-clause-served g c =
    let s = g.K.Stream in
    let told = told_of s.left s.taken s.given s.faults in
    let need : Needs c.loop.buffer.items (Bad c.in-Bad.status) = needs_at c.deref.result.now c.loop.buffer.items c.in-Ok.need (Bad c.in-Bad.status) c.in-Ok.ensures.needs c.deref.ensures.value c.in-Bad.is in
    refused c.args.client (told c.args.link.now) c.args.pass.now (told c.loop.link) c.loop.pass c.loop.buffer.items c.loop.invariant.serving
    c.in-Bad.status need (told c.refuse.new.link) c.refuse.result c.refuse.ensures
