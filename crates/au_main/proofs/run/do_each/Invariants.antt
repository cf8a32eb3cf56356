use Rattle.std.proofs.Common.{◌≡◌, ◌+◌, ◌-◌, ◌≤◌}
use Rattle.au_main.specs.Lines.{script_limit}
use Rattle.au_main.specs.Means.{means_of}
use Rattle.au_main.proofs.Runs.{RanSoFar}
use Rattle.au_main.proofs.run.do_each.Given as goal

abbrev pub invariant-loop-line : goal.invariant-loop-line
invariant-loop-line g l =
    let source = g.S.Stream in
    let sink = g.W.Stream in
    record {
      ran : RanSoFar (means_of g.D.Disk.told g.D.Disk.meaning g.D.Disk.faults g.C.Clock.ticking) (l.number - 1) l.labels l.fn.store l.store l.pending (source.left l.fn.source) (source.left l.source) (sink.given l.fn.sink) (sink.given l.sink);
      counts : 1 ≤ l.number;
      within : l.pending.taken ≤ script_limit;
      read : source.faults l.source ≡ source.faults l.fn.source;
      wrote : sink.faults l.sink ≡ sink.faults l.fn.sink;
    }

abbrev pub decreases-loop-line : goal.decreases-loop-line
decreases-loop-line g l = (script_limit + 1) - l.number
