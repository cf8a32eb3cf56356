use Rattle.std.proofs.Common.{inl, inr, ◌∙◌}
use Rattle.au_io.specs.Moments.{both_calls}
use Rattle.au_journal.specs.Creation.{IsOnly, OthersAreBlank, FormatLeaves, FormatPasses}
use Rattle.au_journal.proofs.Created.{laid_new, format_since, others_since}
use Rattle.au_journal.proofs.journal.Journal.format.Goals as goal

pub returns-in-Ok-clause-done : goal.returns-in-Ok-clause-done
returns-in-Ok-clause-done g c = λ told body is done.
    let laws = g.met.D.Disk g.world.𝓛 g.world.𝓜 g.world.𝓡 ((λ s x. x), (λ x. x), (λ x. x), λ x. x) in
    let old = g.D.Disk.meaning c.args.disk.now in
    let mid = g.D.Disk.meaning c.is_formatted.new.disk in
    let new = g.D.Disk.meaning c.lay_down.new.disk in
    let stays = c.in-Ok-false.ensures.stays in
    let only : IsOnly old.reads mid = λ image is. c.in-Ok-false.ensures.still image is ∙ stays.reads in
    λ image here. laid_new c.args.limit c.args.framed.now body old.reads image c.requires.in_range is (c.in-Ok.ensures.done told old.reads only image here)

pub returns-in-Ok-clause-laid_down : goal.returns-in-Ok-clause-laid_down
returns-in-Ok-clause-laid_down g c = λ told done.
    let laws = g.met.D.Disk g.world.𝓛 g.world.𝓜 g.world.𝓡 ((λ s x. x), (λ x. x), (λ x. x), λ x. x) in
    let old = g.D.Disk.meaning c.args.disk.now in
    let mid = g.D.Disk.meaning c.is_formatted.new.disk in
    let new = g.D.Disk.meaning c.lay_down.new.disk in
    let stays = c.in-Ok-false.ensures.stays in
    let only : IsOnly old.reads mid = λ image is. c.in-Ok-false.ensures.still image is ∙ stays.reads in
    c.in-Ok.ensures.done told old.reads only

pub returns-in-Ok-clause-any_moment : goal.returns-in-Ok-clause-any_moment
returns-in-Ok-clause-any_moment g c = λ told body is others.
    let laws = g.met.D.Disk g.world.𝓛 g.world.𝓜 g.world.𝓡 ((λ s x. x), (λ x. x), (λ x. x), λ x. x) in
    let old = g.D.Disk.meaning c.args.disk.now in
    let mid = g.D.Disk.meaning c.is_formatted.new.disk in
    let new = g.D.Disk.meaning c.lay_down.new.disk in
    let stays = c.in-Ok-false.ensures.stays in
    let only : IsOnly old.reads mid = λ image is. c.in-Ok-false.ensures.still image is ∙ stays.reads in
    let here = others old.reads (laws.reads_is_image c.args.disk.now told) in
    let unformed = c.in-Ok-false.ensures.not told c.in-Ok-false.field-0-test in
    let way = c.lay_down.ensures.any_moment told old.reads only in
    both_calls (FormatLeaves old c.args.limit body) old mid new stays.time c.lay_down.ensures.time (λ image since. inl (stays.images image since))
    (λ image since. inr (format_since c.args.limit c.args.framed.now old mid new old.reads here unformed way body c.requires.in_range is image since))

pub returns-in-Ok-clause-again : goal.returns-in-Ok-clause-again
returns-in-Ok-clause-again g c = λ told others.
    let laws = g.met.D.Disk g.world.𝓛 g.world.𝓜 g.world.𝓡 ((λ s x. x), (λ x. x), (λ x. x), λ x. x) in
    let old = g.D.Disk.meaning c.args.disk.now in
    let mid = g.D.Disk.meaning c.is_formatted.new.disk in
    let new = g.D.Disk.meaning c.lay_down.new.disk in
    let stays = c.in-Ok-false.ensures.stays in
    let only : IsOnly old.reads mid = λ image is. c.in-Ok-false.ensures.still image is ∙ stays.reads in
    let here = others old.reads (laws.reads_is_image c.args.disk.now told) in
    let unformed = c.in-Ok-false.ensures.not told c.in-Ok-false.field-0-test in
    let way = c.lay_down.ensures.any_moment told old.reads only in
    both_calls OthersAreBlank old mid new stays.time c.lay_down.ensures.time (λ image since. others image (stays.images image since))
    (others_since c.args.limit c.args.framed.now old mid new old.reads here unformed way)

pub returns-in-Err-lay_down-clause-any_moment : goal.returns-in-Err-lay_down-clause-any_moment
returns-in-Err-lay_down-clause-any_moment g c = λ told body is others.
    let laws = g.met.D.Disk g.world.𝓛 g.world.𝓜 g.world.𝓡 ((λ s x. x), (λ x. x), (λ x. x), λ x. x) in
    let old = g.D.Disk.meaning c.args.disk.now in
    let mid = g.D.Disk.meaning c.is_formatted.new.disk in
    let new = g.D.Disk.meaning c.lay_down.new.disk in
    let stays = c.in-Ok-false.ensures.stays in
    let only : IsOnly old.reads mid = λ image is. c.in-Ok-false.ensures.still image is ∙ stays.reads in
    let here = others old.reads (laws.reads_is_image c.args.disk.now told) in
    let unformed = c.in-Ok-false.ensures.not told c.in-Ok-false.field-0-test in
    let way = c.lay_down.ensures.any_moment told old.reads only in
    both_calls (FormatLeaves old c.args.limit body) old mid new stays.time c.lay_down.ensures.time (λ image since. inl (stays.images image since))
    (λ image since. inr (format_since c.args.limit c.args.framed.now old mid new old.reads here unformed way body c.requires.in_range is image since))

pub returns-in-Err-lay_down-clause-again : goal.returns-in-Err-lay_down-clause-again
returns-in-Err-lay_down-clause-again g c = λ told others.
    let laws = g.met.D.Disk g.world.𝓛 g.world.𝓜 g.world.𝓡 ((λ s x. x), (λ x. x), (λ x. x), λ x. x) in
    let old = g.D.Disk.meaning c.args.disk.now in
    let mid = g.D.Disk.meaning c.is_formatted.new.disk in
    let new = g.D.Disk.meaning c.lay_down.new.disk in
    let stays = c.in-Ok-false.ensures.stays in
    let only : IsOnly old.reads mid = λ image is. c.in-Ok-false.ensures.still image is ∙ stays.reads in
    let here = others old.reads (laws.reads_is_image c.args.disk.now told) in
    let unformed = c.in-Ok-false.ensures.not told c.in-Ok-false.field-0-test in
    let way = c.lay_down.ensures.any_moment told old.reads only in
    both_calls OthersAreBlank old mid new stays.time c.lay_down.ensures.time (λ image since. others image (stays.images image since))
    (others_since c.args.limit c.args.framed.now old mid new old.reads here unformed way)

pub returns-in-Ok-clause-on_the_way : goal.returns-in-Ok-clause-on_the_way
returns-in-Ok-clause-on_the_way g c = λ told.
    let old = g.D.Disk.meaning c.args.disk.now in
    let mid = g.D.Disk.meaning c.is_formatted.new.disk in
    let new = g.D.Disk.meaning c.lay_down.new.disk in
    let stays = c.in-Ok-false.ensures.stays in
    let only : IsOnly old.reads mid = λ image is. c.in-Ok-false.ensures.still image is ∙ stays.reads in
    both_calls (FormatPasses old c.args.limit c.args.framed.now) old mid new stays.time c.lay_down.ensures.time (λ image since. inl (stays.images image since))
    (λ image since. inr (c.lay_down.ensures.any_moment told old.reads only image since))

pub returns-in-Err-lay_down-clause-on_the_way : goal.returns-in-Err-lay_down-clause-on_the_way
returns-in-Err-lay_down-clause-on_the_way g c = λ told.
    let old = g.D.Disk.meaning c.args.disk.now in
    let mid = g.D.Disk.meaning c.is_formatted.new.disk in
    let new = g.D.Disk.meaning c.lay_down.new.disk in
    let stays = c.in-Ok-false.ensures.stays in
    let only : IsOnly old.reads mid = λ image is. c.in-Ok-false.ensures.still image is ∙ stays.reads in
    both_calls (FormatPasses old c.args.limit c.args.framed.now) old mid new stays.time c.lay_down.ensures.time (λ image since. inl (stays.images image since))
    (λ image since. inr (c.lay_down.ensures.any_moment told old.reads only image since))
