use Rattle.std.proofs.Common.{◌≡◌, ◌∙◌, ◌∷◌, [], inr, List, ℕ, refl, sym, subst, IfErr}
use Rattle.std.proofs.lemmas.Result.{err_from_is_err_and}
use Rattle.au_io.specs.Areas.{Areas}
use Rattle.au_io.specs.Moments.{both_stay}
use Rattle.au_journal.specs.Journals.{disk_of, seat_of}
use Rattle.au_store.specs.Recovery.{BeginsBy}
use Rattle.au_store.specs.Looking.{LookSays}
use Rattle.au_store.proofs.Begun.{begun_ends, meets_after}
use Rattle.au_store.proofs.Reading.{body_damage, never_empty}
use Rattle.au_store.proofs.replaying.replay_all.Goals as goal

pub returns-in_err-next_body-clause-why : goal.returns-in_err-next_body-clause-why
returns-in_err-next_body-clause-why g c = λ told mounted.
    let p = err_from_is_err_and c.from_residual.result c.from_residual.ensures.1 in
    rw (p.1, p.2) (c.in_err-next_body.ensures.why told [] mounted.walked tt)

pub returns-in_err-next_body-clause-cause : goal.returns-in_err-next_body-clause-cause
returns-in_err-next_body-clause-cause g c =
    let p = err_from_is_err_and c.from_residual.result c.from_residual.ensures.1 in
    rw (p.1, p.2) c.in_err-next_body.ensures.cause

pub returns-then-not-branch-clause-why : goal.returns-then-not-branch-clause-why
returns-then-not-branch-clause-why g c = λ told mounted.
    let laws = g.met.D.Disk g.world.𝓛 g.world.𝓜 g.world.𝓡 ((λ s x. x), (λ x. x), (λ x. x), λ x. x) in
    let meaning = g.D.Disk.meaning in
    let old = c.args.journal.now in
    let new = c.next_body.new.journal in
    let settled = rw c.if-not-branch.true at (c.in_ok-next_body.ensures.next told [] mounted.walked) in
    absurd (never_empty (meaning (disk_of old)) (meaning (disk_of new)) (seat_of old) (seat_of new) c.next_body.ensures.stays.reads c.next_body.ensures.same.0 c.next_body.ensures.same.1 mounted
    settled (laws.reads_is_image (disk_of new) told))

pub returns-then-not-branch-clause-cause : goal.returns-then-not-branch-clause-cause
returns-then-not-branch-clause-cause g c = c.in_ok-next_body.ensures.cause

pub returns-in_err-begin_by-clause-why : goal.returns-in_err-begin_by-clause-why
returns-in_err-begin_by-clause-why g c = λ told mounted.
    let p = err_from_is_err_and c.from_residual-in_err-begin_by.result c.from_residual-in_err-begin_by.ensures.1 in
    rw (p.1, p.2) tt

pub returns-in_err-begin_by-clause-cause : goal.returns-in_err-begin_by-clause-cause
returns-in_err-begin_by-clause-cause g c =
    let p = err_from_is_err_and c.from_residual-in_err-begin_by.result c.from_residual-in_err-begin_by.ensures.1 in
    rw (p.1, p.2) c.in_ok-next_body.ensures.cause

pub returns-then-not-branch-2-clause-why : goal.returns-then-not-branch-2-clause-why
returns-then-not-branch-2-clause-why g c = λ told mounted.
    let meaning = g.D.Disk.meaning in
    let old = c.args.journal.now in
    let new = c.next_body.new.journal in
    let body = c.next_body.new.room.items in
    let is : c.deref.result.now ≡ body = cc in
    let walked = rw c.if-not-branch.false at (c.in_ok-next_body.ensures.next told [] mounted.walked) in
    let never = rw c.if-not-branch-2.true at c.in_ok-begin_by.ensures.begins in
    rw c.area-area.ensures (inr (body_damage c.frames_stand_in_a_row.ensures.pushed (meaning (disk_of old)) (meaning (disk_of new)) (seat_of old) (seat_of new) [] body c.next_body.ensures.stays.reads c.next_body.ensures.same.0 c.next_body.ensures.same.1
    mounted.walked walked c.used-at.result c.used-at.ensures tt (λ kept by. never kept (subst (λ (b : List ℕ). BeginsBy b kept) (sym is) by))))

pub returns-then-not-branch-2-clause-cause : goal.returns-then-not-branch-2-clause-cause
returns-then-not-branch-2-clause-cause g c = c.in_ok-next_body.ensures.cause

pub go_on-requires-clause-ends : goal.go_on-requires-clause-ends
go_on-requires-clause-ends g c = λ _ _. begun_ends c.deref.result.now c.begin_by.new.engine.state.kept (rw c.if-not-branch-2.false at c.in_ok-begin_by.ensures.begins)

pub returns-clause-read : goal.returns-clause-read
returns-clause-read g c = λ told mounted.
    let body = c.next_body.new.room.items in
    let first = c.begin_by.new.engine.state.kept in
    let is : c.deref.result.now ≡ body = cc in
    let walked = rw c.if-not-branch.false at (c.in_ok-next_body.ensures.next told [] mounted.walked) in
    let begins = subst (λ (b : List ℕ). BeginsBy b first) is (rw c.if-not-branch-2.false at c.in_ok-begin_by.ensures.begins) in
    c.go_on.ensures.read told (record { bodies = body ∷ []; walked = walked; so = (first, begins, refl) })

pub returns-clause-why : goal.returns-clause-why
returns-clause-why g c = λ told mounted.
    let body = c.next_body.new.room.items in
    let first = c.begin_by.new.engine.state.kept in
    let is : c.deref.result.now ≡ body = cc in
    let walked = rw c.if-not-branch.false at (c.in_ok-next_body.ensures.next told [] mounted.walked) in
    let begins = subst (λ (b : List ℕ). BeginsBy b first) is (rw c.if-not-branch-2.false at c.in_ok-begin_by.ensures.begins) in
    subst (λ (all : Areas). IfErr c.go_on.result (LookSays all)) c.next_body.ensures.stays.reads
    (c.go_on.ensures.why told (record { bodies = body ∷ []; walked = walked; so = (first, begins, refl) }))

pub returns-clause-settled : goal.returns-clause-settled
returns-clause-settled g c = c.go_on.ensures.settled ∙ c.next_body.ensures.same.2

pub returns-clause-stays : goal.returns-clause-stays
returns-clause-stays g c =
    let laws = g.met.D.Disk g.world.𝓛 g.world.𝓜 g.world.𝓡 ((λ s x. x), (λ x. x), (λ x. x), λ x. x) in
    let meaning = g.D.Disk.meaning in
    both_stay (meaning (disk_of c.args.journal.now)) (meaning (disk_of c.next_body.new.journal)) (meaning (disk_of c.go_on.new.journal)) (laws.counts_now (disk_of c.next_body.new.journal))
    c.next_body.ensures.stays c.go_on.ensures.stays

pub returns-clause-cause : goal.returns-clause-cause
returns-clause-cause g c =
    let faults = g.D.Disk.faults in
    meets_after c.go_on.result (faults (disk_of c.args.journal.now)) (faults (disk_of c.next_body.new.journal)) (faults (disk_of c.go_on.new.journal)) c.in_ok-next_body.ensures.cause c.go_on.ensures.cause
