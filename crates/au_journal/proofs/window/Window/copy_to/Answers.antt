use Rattle.std.proofs.Common.{ℕ, List, ◌++◌, drop, ◌∙◌, ap, arith}
use Rattle.au_journal.proofs.Pieces.{front_shown}
use Rattle.au_journal.proofs.window.Window.copy_to.Goals as goal

pub returns-clause-bytes : goal.returns-clause-bytes
returns-clause-bytes c = λ area shown.
    let window = c.args.self.now in
    let held = c.held_from-held in
    ap (λ (l : List ℕ). l ++ drop c.min-count.result c.args.room.now)
    (c.copy_from_slice.ensures.after
    ∙ front_shown window.bytes area held.result.now window.filled window.place c.args.at c.min-count.result shown (omega (arith, c.min-count.ensures)) held.ensures.from held.ensures.before)
