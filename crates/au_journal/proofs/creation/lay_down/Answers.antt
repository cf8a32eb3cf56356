use Rattle.au_io.specs.Moments.{both_calls, both_pass}
use Rattle.au_journal.specs.Creation.{IsOnTheWay, a_cut}
use Rattle.au_journal.specs.Creation.IsOnTheWay.{cutting, selecting}
use Rattle.au_journal.proofs.creation.lay_down.Goals as goal

pub returns-in_err-cut_a-clause-any_moment : goal.returns-in_err-cut_a-clause-any_moment
returns-in_err-cut_a-clause-any_moment g c = λ told all only image since. cutting (c.cut_a.ensures.any_moment all only image since)

pub returns-in_err-select_a-clause-any_moment : goal.returns-in_err-select_a-clause-any_moment
returns-in_err-select_a-clause-any_moment g c = λ told all only.
    let way = IsOnTheWay c.args.limit c.args.framed.now all in
    let old = g.D.Disk.meaning c.args.disk.now in
    let one = g.D.Disk.meaning c.cut_a.new.disk in
    let two = g.D.Disk.meaning c.select_a.new.disk in
    let cut = c.in_ok-cut_a.ensures.done told all only in
    both_calls way old one two c.cut_a.ensures.time c.select_a.ensures.time (λ image since. cutting (c.cut_a.ensures.any_moment all only image since))
    (λ image since. selecting (c.select_a.ensures.any_moment (a_cut all) cut image since))

pub returns-clause-any_moment : goal.returns-clause-any_moment
returns-clause-any_moment g c = λ told all only.
    let way = IsOnTheWay c.args.limit c.args.framed.now all in
    let old = g.D.Disk.meaning c.args.disk.now in
    let one = g.D.Disk.meaning c.cut_a.new.disk in
    let two = g.D.Disk.meaning c.select_a.new.disk in
    let new = g.D.Disk.meaning c.fill_a.new.disk in
    let cut = c.in_ok-cut_a.ensures.done told all only in
    both_calls way old two new (both_pass old one two c.cut_a.ensures.time c.select_a.ensures.time) c.fill_a.ensures.time
    (both_calls way old one two c.cut_a.ensures.time c.select_a.ensures.time (λ image since. cutting (c.cut_a.ensures.any_moment all only image since))
    (λ image since. selecting (c.select_a.ensures.any_moment (a_cut all) cut image since)))
    (c.fill_a.ensures.any_moment told all (c.in_ok-select_a.ensures.done told all cut))

pub returns-clause-done : goal.returns-clause-done
returns-clause-done g c = λ told all only.
    c.fill_a.ensures.done told all (c.in_ok-select_a.ensures.done told all (c.in_ok-cut_a.ensures.done told all only))
