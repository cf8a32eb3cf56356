use Rattle.std.proofs.Common.{sym, ap}
use Rattle.std.specs.List.{slice_range}
use Rattle.au_main.proofs.Pieces.{ended-moved, all-moved}
use Rattle.au_main.proofs.stretch.Pending.move_line.Goals as goal

pub returns-in_ok-extend_from_slice-in-Some-clause-moved :
    goal.returns-in_ok-extend_from_slice-in-Some-clause-moved
returns-in_ok-extend_from_slice-in-Some-clause-moved c =
    let found = c.in-Some.ensures in
    let chunk = c.self.inside.chunk.items in
    let bytes = ap (λ xs. slice_range xs c.self.inside.front c.self.inside.end) c.deref.ensures.value in
    ended-moved chunk _ _ _ _ c.self.inside.front c.self.inside.end c.in-Some.at c.self.invariant.0 (ap (λ s. s.bytes) (sym c.self.view_is)) bytes found.1 found.2 c.in_ok-extend_from_slice-in-Some.ensures.items

pub returns-in_ok-extend_from_slice-in-None-clause-moved :
    goal.returns-in_ok-extend_from_slice-in-None-clause-moved
returns-in_ok-extend_from_slice-in-None-clause-moved c =
    let chunk = c.self.inside.chunk.items in
    let bytes = ap (λ xs. slice_range xs c.self.inside.front c.self.inside.end) c.deref.ensures.value in
    all-moved chunk _ _ _ _ c.self.inside.front c.self.inside.end c.self.invariant.0 (ap (λ s. s.bytes) (sym c.self.view_is)) bytes c.in-None.ensures c.in_ok-extend_from_slice-in-None.ensures.items
