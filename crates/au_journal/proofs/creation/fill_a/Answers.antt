use Rattle.au_io.specs.Moments.{both_calls, both_pass}
use Rattle.au_journal.specs.Creation.{IsOnTheWay, a_selected, rest_written}
use Rattle.au_journal.specs.Creation.IsOnTheWay.{opening, shutting, writing}
use Rattle.au_journal.proofs.creation.fill_a.Goals as goal

pub returns-in_err-shut_a-clause-any_moment : goal.returns-in_err-shut_a-clause-any_moment
returns-in_err-shut_a-clause-any_moment g c = λ told all only image since. shutting (c.shut_a.ensures.any_moment (a_selected all) only image since)

pub returns-in_err-write_rest-clause-any_moment : goal.returns-in_err-write_rest-clause-any_moment
returns-in_err-write_rest-clause-any_moment g c = λ told all only.
    let way = IsOnTheWay c.args.limit c.args.framed.now all in
    let old = g.D.Disk.meaning c.args.disk.now in
    let one = g.D.Disk.meaning c.shut_a.new.disk in
    let two = g.D.Disk.meaning c.write_rest.new.disk in
    let shut = c.in_ok-shut_a.ensures.done told all only in
    both_calls way old one two c.shut_a.ensures.time c.write_rest.ensures.time (λ image since. shutting (c.shut_a.ensures.any_moment (a_selected all) only image since))
    (λ image since. writing (c.write_rest.ensures.any_moment all shut image since))

pub returns-clause-any_moment : goal.returns-clause-any_moment
returns-clause-any_moment g c = λ told all only.
    let way = IsOnTheWay c.args.limit c.args.framed.now all in
    let old = g.D.Disk.meaning c.args.disk.now in
    let one = g.D.Disk.meaning c.shut_a.new.disk in
    let two = g.D.Disk.meaning c.write_rest.new.disk in
    let new = g.D.Disk.meaning c.open_a.new.disk in
    let shut = c.in_ok-shut_a.ensures.done told all only in
    let rest = c.in_ok-write_rest.ensures.done told all shut in
    both_calls way old two new (both_pass old one two c.shut_a.ensures.time c.write_rest.ensures.time) c.open_a.ensures.time
    (both_calls way old one two c.shut_a.ensures.time c.write_rest.ensures.time (λ image since. shutting (c.shut_a.ensures.any_moment (a_selected all) only image since))
    (λ image since. writing (c.write_rest.ensures.any_moment all shut image since)))
    (λ image since. opening (c.open_a.ensures.any_moment (rest_written c.args.limit c.args.framed.now all) rest image since))

pub returns-clause-done : goal.returns-clause-done
returns-clause-done g c = λ told all only.
    c.open_a.ensures.done told c.args.limit c.args.framed.now all (c.in_ok-write_rest.ensures.done told all (c.in_ok-shut_a.ensures.done told all only))
