-- What is seen of a connection in memory.
use Rattle.std.specs.Prelude.{ℕ, ◌+◌, ◌-◌, ◌^◌, min, Some}
use Rattle.au_io.specs.declared.mem_link.MemLink.{MemLink}
use Rattle.au_io.specs.MemSource.{source_left, source_taken, source_faults}
use Rattle.au_io.specs.MemSink.{sink_given, sink_faults}
use Rattle.au_io.specs.Visits.{Told}

-- how often it has failed: the sum of its two sides; the last number of 64 bits stands
abbrev pub link_faults : MemLink → ℕ
link_faults link = min (source_faults link.source + sink_faults link.sink) (2 ^ 64 - 1)

-- what it tells
abbrev pub link_told : MemLink → Told
link_told link = record {
  left = Some (source_left link.source);
  taken = Some (source_taken link.source);
  given = Some (sink_given link.sink);
  faults = link_faults link;
}
