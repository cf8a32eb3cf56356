use Rattle.std.proofs.Common.{refl}
use Rattle.au_opening.specs.Opening.{opening}
use Rattle.au_replay.specs.Reading.{conditions}
use Rattle.au_engine.proofs.Opens.{opens}
use Rattle.au_engine.proofs.engine.Engine.take_opening.Goals as goal

pub unreachable-requires : goal.unreachable-requires
unreachable-requires c =
    let kept = opening c.args.password.now in
    opens kept c.args.self.now.state (record { 0 = 0 }) c.in_ok-changes.changes c.new.result c.in_ok-replay.field-0 c.requires refl c.in_ok-changes.ensures
    (c.images_lead_back.ensures.goes conditions kept (c.opening_is_kept.ensures.kept c.args.password.now) (c.opening_is_kept.ensures.sys c.args.password.now))
    c.in_ok-replay.ensures.rule c.if-branch.false
