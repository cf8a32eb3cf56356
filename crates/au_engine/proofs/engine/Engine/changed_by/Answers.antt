use Rattle.std.proofs.Common.{◌∙◌, ap, sym, subst}
use Rattle.au_kept.specs.Anew.{untold}
use Rattle.au_step.specs.State.{State}
use Rattle.au_engine.specs.Imaging.{Takes}
use Rattle.au_engine.specs.Prepared.{after}
use Rattle.au_engine.proofs.Bodies.{body_takes, none_leads}
use Rattle.au_engine.proofs.engine.Engine.changed_by.Goals as goal

pub returns-in-None : goal.returns-in-None
returns-in-None c =
    let m = c.args.self.now.state in
    let prepared = c.args.prepared.now in
    ap (λ (n : State). untold n.kept) c.in_ok-copy.ensures ∙ none_leads m.kept (after prepared m).kept prepared.framed c.in-None.ensures c.requires.leads

pub after_body-requires-clause-takes : goal.after_body-requires-clause-takes
after_body-requires-clause-takes c =
    let m = c.args.self.now.state in
    let prepared = c.args.prepared.now in
    let led = body_takes c.sights_suffice.ensures.goes m.kept (after prepared m).kept prepared.framed c.in-Some.body.now c.in-Some.ensures c.requires.leads in
    (led.to, subst (λ (n : State). Takes n.kept c.in-Some.body.now led.to) (sym c.in_ok-copy.ensures) led.takes)

pub returns-in_ok-changed-in-Some : goal.returns-in_ok-changed-in-Some
returns-in_ok-changed-in-Some c =
    let m = c.args.self.now.state in
    let prepared = c.args.prepared.now in
    let led = body_takes c.sights_suffice.ensures.goes m.kept (after prepared m).kept prepared.framed c.in-Some.body.now c.in-Some.ensures c.requires.leads in
    ap (λ (n : State). untold n.kept) (c.in_ok-changed-in-Some.ensures led.to (subst (λ (n : State). Takes n.kept c.in-Some.body.now led.to) (sym c.in_ok-copy.ensures) led.takes)) ∙ led.same
