use Rattle.std.proofs.Common.{arith, inr}
use Rattle.au_main.proofs.AnsweredLines.{Answered-skip, Answered-told, Answered-told_in_part, on_ok}
use Rattle.au_main.proofs.answering.answer_line.Goals as goal

pub returns-in-None-clause-bad : goal.returns-in-None-clause-bad
returns-in-None-clause-bad g c = λ _. rw c.in-None.is at c.in_ok-line.ensures

pub returns-in-Some-Skip-clause-ok : goal.returns-in-Some-Skip-clause-ok
returns-in-Some-Skip-clause-ok g c = Answered-skip _ _ _ _ _ (rw c.in-Some-Skip.field-0-is at (rw c.in-Some-Skip.is at c.in_ok-line.ensures))

pub returns-in_ok-client-in-Some-Ask-clause-ok : goal.returns-in_ok-client-in-Some-Ask-clause-ok
returns-in_ok-client-in-Some-Ask-clause-ok g c =
    let said = rw c.in-Some-Ask.is at c.in_ok-line.ensures in
    let says = rw c.in-Some-Ask.field-0-is at said in
    on_ok c.answer.result _ _ (λ told. Answered-told _ _ _ _ _ _ _ _ _ _ _ says c.in_ok-client-in-Some-Ask.ensures.number c.in_ok-client-in-Some-Ask.ensures.used told) c.answer.ensures.ok

pub returns-in_ok-client-in-Some-Ask-clause-write_fault : goal.returns-in_ok-client-in-Some-Ask-clause-write_fault
returns-in_ok-client-in-Some-Ask-clause-write_fault g c = λ failed.
    let said = rw c.in-Some-Ask.is at c.in_ok-line.ensures in
    let says = rw c.in-Some-Ask.field-0-is at said in
    Answered-told_in_part _ _ _ _ _ _ _ _ _ _ says c.in_ok-client-in-Some-Ask.ensures.number (c.answer.ensures.write_fault failed)

pub returns-in_ok-client-in-Some-Ask-clause-memory : goal.returns-in_ok-client-in-Some-Ask-clause-memory
returns-in_ok-client-in-Some-Ask-clause-memory g c = λ failed.
    let said = rw c.in-Some-Ask.is at c.in_ok-line.ensures in
    let says = rw c.in-Some-Ask.field-0-is at said in
    inr (Answered-told_in_part _ _ _ _ _ _ _ _ _ _ says c.in_ok-client-in-Some-Ask.ensures.number (c.answer.ensures.memory failed))

pub answer-requires-clause-client : goal.answer-requires-clause-client
answer-requires-clause-client g c = λ zero. omega (arith, zero, c.in_ok-client-in-Some-Ask.ensures.number)
