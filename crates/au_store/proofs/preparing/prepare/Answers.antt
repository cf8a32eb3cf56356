use Rattle.std.proofs.Common.{sym, subst}
use Rattle.au_engine.specs.Prepared.{after, logged_of}
use Rattle.au_step.specs.Replaying.{EndsWell}
use Rattle.au_step.specs.State.{State}
use Rattle.au_store.specs.descent.Making.{CarriesTo, IsImageFor}
use Rattle.au_store.proofs.EventFrames.{step_suits, writes_on}
use Rattle.au_store.proofs.Frames.{carries_on}
use Rattle.au_store.proofs.preparing.prepare.Goals as goal

pub image_after-requires-clause-seated : goal.image_after-requires-clause-seated
image_after-requires-clause-seated g c = subst (λ (s : State). EndsWell s.kept) (sym c.prepare.ensures.keeps) c.requires.seated

pub image_after-requires-clause-carries : goal.image_after-requires-clause-carries
image_after-requires-clause-carries g c =
    let m = c.args.engine.now.state in
    let p = c.in_ok-prepared.prepared in
    subst (λ (s : State). CarriesTo s.kept p.framed (after p s).kept) (sym c.prepare.ensures.keeps)
    (carries_on m (after p m) c.args.client c.args.ask.now c.args.stamp.0 p.framed c.in_ok-prepared.ensures.writes
    (λ frame of_step. c.frames_lead_on.ensures.leads m (after p m) c.args.client c.args.ask.now c.args.stamp.0 frame of_step c.asks_are_text.ensures c.lawful.ensures c.requires.stamp c.requires.seated c.requires.client))

pub image_after-requires-clause-ends : goal.image_after-requires-clause-ends
image_after-requires-clause-ends g c =
    let m = c.args.engine.now.state in
    let p = c.in_ok-prepared.prepared in
    let w = c.in_ok-prepared.ensures.writes in
    subst (λ (s : State). EndsWell (after p s).kept) (sym c.prepare.ensures.keeps)
    (c.frames_lead_on.ensures.ends m (after p m) c.args.client c.args.ask.now c.args.stamp.0 w.frame w.of_step c.asks_are_text.ensures c.lawful.ensures c.requires.stamp c.requires.seated c.requires.client)

pub returns-clause-ready : goal.returns-clause-ready
returns-clause-ready g c =
    let m = c.args.engine.now.state in
    let p = c.in_ok-prepared.prepared in
    let image = c.in_ok-image.image in
    let w = c.in_ok-prepared.ensures.writes in
    let for = subst (λ (s : State). IsImageFor (after p s).kept (logged_of p).purge image) c.prepare.ensures.keeps c.in_ok-image.ensures in
    record { writes = w; suits = step_suits m (after p m) c.args.client c.args.ask.now c.args.stamp.0 p.reply (logged_of p) p.framed image w c.one_result.ensures.logged c.in_ok-prepared.ensures.logged for }

pub returns-clause-carries : goal.returns-clause-carries
returns-clause-carries g c =
    let m = c.args.engine.now.state in
    let p = c.in_ok-prepared.prepared in
    let image = c.in_ok-image.image in
    let for = subst (λ (s : State). IsImageFor (after p s).kept (logged_of p).purge image) c.prepare.ensures.keeps c.in_ok-image.ensures in
    writes_on m.kept (after p m).kept (logged_of p).purge p.framed image
    (carries_on m (after p m) c.args.client c.args.ask.now c.args.stamp.0 p.framed c.in_ok-prepared.ensures.writes
    (λ frame of_step. c.frames_lead_on.ensures.leads m (after p m) c.args.client c.args.ask.now c.args.stamp.0 frame of_step c.asks_are_text.ensures c.lawful.ensures c.requires.stamp c.requires.seated c.requires.client)) for

pub returns-clause-ends : goal.returns-clause-ends
returns-clause-ends g c =
    let m = c.args.engine.now.state in
    let p = c.in_ok-prepared.prepared in
    let w = c.in_ok-prepared.ensures.writes in
    c.frames_lead_on.ensures.ends m (after p m) c.args.client c.args.ask.now c.args.stamp.0 w.frame w.of_step c.asks_are_text.ensures c.lawful.ensures c.requires.stamp c.requires.seated c.requires.client
