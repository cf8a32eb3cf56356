use Rattle.std.proofs.Common.{◌∙◌, sym}
use Rattle.std.proofs.lemmas.Bool.{false≢true}
use Rattle.au_store.proofs.Begun.{begun_after, resting_after}
use Rattle.au_store.proofs.Reading.{no_beginning, wrong_beginning}
use Rattle.au_store.proofs.replaying.begin_by.Goals as goal

pub returns-in-None-clause-begins : goal.returns-in-None-clause-begins
returns-in-None-clause-begins c = no_beginning c.args.body.now (rw c.in-None.is at c.in_ok-read.ensures)

pub replay-requires-clause-spelled : goal.replay-requires-clause-spelled
replay-requires-clause-spelled c = (rw c.in-Some.is at c.in_ok-read.ensures).spellable

pub returns-then-is_image-clause-begins : goal.returns-then-is_image-clause-begins
returns-then-is_image-clause-begins c =
    begun_after c.args.engine.now.state c.replay.new.self.state c.in-Some.frame c.args.body.now (rw c.in-Some.is at c.in_ok-read.ensures)
    c.requires.blank c.one_front.ensures (c.is_image.ensures.0 c.if-is_image.true) c.replay.result c.replay.ensures.rule c.replay.ensures.state

pub returns-then-is_image-clause-resting : goal.returns-then-is_image-clause-resting
returns-then-is_image-clause-resting c =
    resting_after c.args.engine.now.state c.replay.new.self.state c.in-Some.frame c.replay.result c.replay.ensures.state c.replay.ensures.err c.requires.resting

pub returns-else-is_image-clause-begins : goal.returns-else-is_image-clause-begins
returns-else-is_image-clause-begins c =
    wrong_beginning c.one_front.ensures c.args.body.now c.in-Some.frame (rw c.in-Some.is at c.in_ok-read.ensures)
    (λ image _. false≢true (sym c.if-is_image.false ∙ c.is_image.ensures.1 image))
