use Rattle.std.proofs.Common.{◌≡◌, ◌-◌}
use Rattle.au_main.specs.Lines.{script_limit}
use Rattle.au_main.proofs.Gathering.{Gathers}
use Rattle.au_main.proofs.next_line.next_line.Given as goal

abbrev pub invariant-loop-line : goal.invariant-loop-line
invariant-loop-line g l =
    let source = g.S.Stream in
    record {
      gathers : Gathers l.fn.pending l.pending (source.left l.fn.source) (source.left l.source) l.line.items;
      well : source.faults l.source ≡ source.faults l.fn.source;
    }

abbrev pub decreases-loop-line : goal.decreases-loop-line
decreases-loop-line g l = script_limit - l.pending.taken
