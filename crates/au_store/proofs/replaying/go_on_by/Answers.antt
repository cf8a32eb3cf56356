use Rattle.std.proofs.Common.{◌∙◌, sym}
use Rattle.std.proofs.lemmas.Bool.{false≢true}
use Rattle.au_step.specs.Replaying.{IsImage}
use Rattle.au_store.proofs.Begun.{ends_after, gone_after, resting_after}
use Rattle.au_store.proofs.Reading.{no_going_on, wrong_going_on}
use Rattle.au_store.proofs.replaying.go_on_by.Goals as goal

pub returns-in-None-clause-goes : goal.returns-in-None-clause-goes
returns-in-None-clause-goes c = no_going_on c.args.body.now c.args.engine.now.state.kept (rw c.in-None.is at c.in_ok-read.ensures)

pub returns-then-is_image-clause-goes : goal.returns-then-is_image-clause-goes
returns-then-is_image-clause-goes c =
    wrong_going_on c.one_front.ensures c.args.body.now c.args.engine.now.state.kept c.in-Some.frame (rw c.in-Some.is at c.in_ok-read.ensures)
    (λ no_image _. no_image (c.is_image.ensures.0 c.if-is_image.true))

pub replay-requires-clause-spelled : goal.replay-requires-clause-spelled
replay-requires-clause-spelled c = (rw c.in-Some.is at c.in_ok-read.ensures).spellable

pub replay-requires-clause-first : goal.replay-requires-clause-first
replay-requires-clause-first c image = absurd (false≢true (sym c.if-is_image.false ∙ c.is_image.ensures.1 image))

pub returns-else-is_image-clause-goes : goal.returns-else-is_image-clause-goes
returns-else-is_image-clause-goes c =
    gone_after c.args.engine.now.state c.replay.new.self.state c.in-Some.frame c.args.body.now (rw c.in-Some.is at c.in_ok-read.ensures)
    c.one_front.ensures (λ (image : IsImage c.in-Some.frame). false≢true (sym c.if-is_image.false ∙ c.is_image.ensures.1 image)) c.replay.result c.replay.ensures.rule c.replay.ensures.state

pub returns-else-is_image-clause-resting : goal.returns-else-is_image-clause-resting
returns-else-is_image-clause-resting c =
    resting_after c.args.engine.now.state c.replay.new.self.state c.in-Some.frame c.replay.result c.replay.ensures.state c.replay.ensures.err c.requires.resting

pub returns-else-is_image-clause-ends : goal.returns-else-is_image-clause-ends
returns-else-is_image-clause-ends c =
    ends_after c.args.engine.now.state c.replay.new.self.state c.in-Some.frame c.replay.result c.replay.ensures.rule c.replay.ensures.state c.replay.ensures.err c.requires.ends
