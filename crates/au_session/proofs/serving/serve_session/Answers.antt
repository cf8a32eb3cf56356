use Rattle.std.proofs.Common.{sym, subst}
use Rattle.au_io.specs.Visits.{Told}
use Rattle.au_session.specs.Answered.{MayComeBack}
use Rattle.au_session.specs.Session.{Served, told_of}
use Rattle.au_session.proofs.Closing.{served_back}
use Rattle.au_session.proofs.Requesting.{same_told, served_ended}
use Rattle.au_session.proofs.serving.serve_session.Goals as goal

pub returns-clause-served : goal.returns-clause-served
returns-clause-served g c =
    let s = g.K.Stream in
    let told = told_of s.left s.taken s.given s.faults in
    let went = c.end_session.ensures.went in
    let shut = c.shut.ensures in
    let same = same_told (told c.serve_requests-ended.new.link) (told c.shut.new.self) shut.left shut.taken shut.given shut.faults in (
      went.1,
      went.2,
      subst (λ (t : Told). Served c.args.client (told c.args.link.now) t c.args.pass.now c.end_session.new.pass c.serve_requests-ended.result went.1) (sym same)
          (served_ended c.args.client (told c.args.link.now) c.args.pass.now (told c.serve_requests-ended.new.link) c.serve_requests-ended.new.pass c.end_session.new.pass
          c.serve_requests-ended.result went.0 went.1 c.serve_requests-ended.ensures.served went.3),
    )

pub returns-clause-back : goal.returns-clause-back
returns-clause-back g c = λ fresh.
    let s = g.K.Stream in
    let told = told_of s.left s.taken s.given s.faults in
    let shut = c.shut.ensures in
    let same = same_told (told c.serve_requests-ended.new.link) (told c.shut.new.self) shut.left shut.taken shut.given shut.faults in
    subst (λ (t : Told). MayComeBack c.serve_requests-ended.result t) (sym same)
    (served_back c.args.client (told c.args.link.now) (told c.serve_requests-ended.new.link) c.args.pass.now c.serve_requests-ended.new.pass c.serve_requests-ended.result _ fresh c.serve_requests-ended.ensures.served)
