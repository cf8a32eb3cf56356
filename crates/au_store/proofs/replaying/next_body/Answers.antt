use Rattle.std.proofs.Common.{◌≡◌, ◌∙◌, ◌++◌, ◌∷◌, ◌+◌, [], List, ℕ, length, sym, ap, subst, arith}
use Rattle.std.proofs.lemmas.Result.{err_from_is_err_and}
use Rattle.au_io.specs.Moments.{both_stay}
use Rattle.au_journal.specs.Journals.{disk_of, seat_of}
use Rattle.au_journal.specs.Walk.{IsBefore, IsWalked}
use Rattle.au_store.proofs.Begun.{fault_after, refilled}
use Rattle.au_store.proofs.Reading.{mount_cause, walk_says}
use Rattle.au_store.proofs.replaying.next_body.Goals as goal

pub returns-in_err-next_length-clause-why : goal.returns-in_err-next_length-clause-why
returns-in_err-next_length-clause-why g c = λ told bodies walked before.
    let p = err_from_is_err_and c.from_residual.result c.from_residual.ensures.1 in
    let j = c.args.journal.now in
    let why = c.in_err-next_length.field-0.0 in
    rw (p.1, p.2) (walk_says (g.D.Disk.meaning (disk_of j)) (seat_of j) bodies walked why before (c.in_err-next_length.ensures.why told bodies walked))

pub returns-in_err-next_length-clause-cause : goal.returns-in_err-next_length-clause-cause
returns-in_err-next_length-clause-cause g c =
    let p = err_from_is_err_and c.from_residual.result c.from_residual.ensures.1 in
    let old = g.D.Disk.faults (disk_of c.args.journal.now) in
    let new = g.D.Disk.faults (disk_of c.next_length.new.self) in
    let why = c.in_err-next_length.field-0.0 in
    rw (p.1, p.2) (mount_cause why old new c.in_err-next_length.ensures.cause)

pub returns-in_err-resize-in-Some-clause-why : goal.returns-in_err-resize-in-Some-clause-why
returns-in_err-resize-in-Some-clause-why g c = λ told bodies walked before.
    let p = err_from_is_err_and c.from_residual-in_err-resize-in-Some.result c.from_residual-in_err-resize-in-Some.ensures.1 in rw (p.1, p.2) tt

pub returns-in_err-resize-in-Some-clause-cause : goal.returns-in_err-resize-in-Some-clause-cause
returns-in_err-resize-in-Some-clause-cause g c =
    let p = err_from_is_err_and c.from_residual-in_err-resize-in-Some.result c.from_residual-in_err-resize-in-Some.ensures.1 in
    rw (p.1, p.2) c.in_ok-next_length.ensures.cause

pub next_frame-requires-clause-before : goal.next_frame-requires-clause-before
next_frame-requires-clause-before g c = λ _ _.
    let size : length c.deref_mut.result.now ≡ c.in-Some.n = cc (c.in_ok-resize-in-Some.ensures) in
    let reach = rw c.in-Some.is at c.in_ok-next_length.ensures.ended in
    reach ∙ ap (λ (k : ℕ). (seat_of c.next_length.new.self).used + 9 + k) (sym size)

pub returns-in_err-next_frame-in-Some-clause-why : goal.returns-in_err-next_frame-in-Some-clause-why
returns-in_err-next_frame-in-Some-clause-why g c = λ told bodies walked before.
    let p = err_from_is_err_and c.from_residual-in_err-next_frame-in-Some.result c.from_residual-in_err-next_frame-in-Some.ensures.1 in
    let j = c.next_length.new.self in
    let size : length c.deref_mut.result.now ≡ c.in-Some.n = cc (c.in_ok-resize-in-Some.ensures) in
    let there = rw c.in-Some.is at (c.in_ok-next_length.ensures.next told bodies walked) in
    let at_it = subst (λ (k : ℕ). IsBefore (g.D.Disk.meaning (disk_of j)) (seat_of j) k bodies) (sym size) there in
    rw (p.1, p.2, c.in_err-next_frame-in-Some.ensures.why told bodies at_it) tt

pub returns-in_err-next_frame-in-Some-clause-same : goal.returns-in_err-next_frame-in-Some-clause-same
returns-in_err-next_frame-in-Some-clause-same g c =
    let one = c.next_length.ensures.same in
    let two = c.next_frame.ensures.same in
    (two.0 ∙ one.0, two.1 ∙ one.1, two.2 ∙ one.3)

pub returns-in_err-next_frame-in-Some-clause-stays : goal.returns-in_err-next_frame-in-Some-clause-stays
returns-in_err-next_frame-in-Some-clause-stays g c =
    let laws = g.met.D.Disk g.world.𝓛 g.world.𝓜 g.world.𝓡 ((λ s x. x), (λ x. x), (λ x. x), λ x. x) in
    let meaning = g.D.Disk.meaning in
    both_stay (meaning (disk_of c.args.journal.now)) (meaning (disk_of c.next_length.new.self)) (meaning (disk_of c.next_frame.new.self)) (laws.counts_now (disk_of c.next_length.new.self))
    c.next_length.ensures.stays c.next_frame.ensures.stays

pub returns-in_err-next_frame-in-Some-clause-cause : goal.returns-in_err-next_frame-in-Some-clause-cause
returns-in_err-next_frame-in-Some-clause-cause g c =
    let p = err_from_is_err_and c.from_residual-in_err-next_frame-in-Some.result c.from_residual-in_err-next_frame-in-Some.ensures.1 in
    let faults = g.D.Disk.faults in
    rw (p.1, p.2) (fault_after c.in_err-next_frame-in-Some.field-0.0 (faults (disk_of c.args.journal.now)) (faults (disk_of c.next_length.new.self)) (faults (disk_of c.next_frame.new.self))
    c.in_ok-next_length.ensures.cause c.in_err-next_frame-in-Some.ensures.cause)

pub returns-in-None-clause-next : goal.returns-in-None-clause-next
returns-in-None-clause-next g c = λ told bodies walked. rw c.in-None.is at (c.in_ok-next_length.ensures.next told bodies walked)

pub returns-in_ok-next_frame-in-Some-clause-next : goal.returns-in_ok-next_frame-in-Some-clause-next
returns-in_ok-next_frame-in-Some-clause-next g c = λ told bodies walked.
    let j = c.next_length.new.self in
    let size : length c.deref_mut.result.now ≡ c.in-Some.n = cc (c.in_ok-resize-in-Some.ensures) in
    let there = rw c.in-Some.is at (c.in_ok-next_length.ensures.next told bodies walked) in
    let at_it = subst (λ (k : ℕ). IsBefore (g.D.Disk.meaning (disk_of j)) (seat_of j) k bodies) (sym size) there in
    let n = c.next_frame.new.self in
    let body = c.resize.new.room in
    let room = c.next_frame.new.room in
    let sized : length body.items ≡ body.len = omega (arith, body.ok.0) in
    let full : length room ≡ body.len = omega (arith, c.next_frame.auto.room, ap length c.deref_mut.ensures.value, body.ok.0) in
    subst (λ (l : List ℕ). IsWalked (g.D.Disk.meaning (disk_of n)) (seat_of n) (bodies ++ l ∷ [])) (sym (refilled body.len room body.items full sized))
    (c.in_ok-next_frame-in-Some.ensures.next told bodies at_it)

pub returns-in_ok-next_frame-in-Some-clause-same : goal.returns-in_ok-next_frame-in-Some-clause-same
returns-in_ok-next_frame-in-Some-clause-same g c =
    let one = c.next_length.ensures.same in
    let two = c.next_frame.ensures.same in
    (two.0 ∙ one.0, two.1 ∙ one.1, two.2 ∙ one.3)

pub returns-in_ok-next_frame-in-Some-clause-stays : goal.returns-in_ok-next_frame-in-Some-clause-stays
returns-in_ok-next_frame-in-Some-clause-stays g c =
    let laws = g.met.D.Disk g.world.𝓛 g.world.𝓜 g.world.𝓡 ((λ s x. x), (λ x. x), (λ x. x), λ x. x) in
    let meaning = g.D.Disk.meaning in
    both_stay (meaning (disk_of c.args.journal.now)) (meaning (disk_of c.next_length.new.self)) (meaning (disk_of c.next_frame.new.self)) (laws.counts_now (disk_of c.next_length.new.self))
    c.next_length.ensures.stays c.next_frame.ensures.stays

pub returns-in_ok-next_frame-in-Some-clause-cause : goal.returns-in_ok-next_frame-in-Some-clause-cause
returns-in_ok-next_frame-in-Some-clause-cause g c = c.in_ok-next_frame-in-Some.ensures.cause ∙ c.in_ok-next_length.ensures.cause
