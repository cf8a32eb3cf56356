use Rattle.std.proofs.Common.{◌≡◌, ◌++◌, ◌+◌, [], drop, map}
use Rattle.std.specs.List.{enumerate_from}
use Rattle.au_entries.specs.declared.trail_record.Record.{Record}
use Rattle.au_query.specs.Combos.{lines}
use Rattle.au_world.specs.BuiltInTables.{numbered, numbered_row}
use Rattle.au_world.proofs.built_in.numbered_records.Given as goal

abbrev pub invariant-loop-place : goal.invariant-loop-place
invariant-loop-place l =
    lines l.listed.items ++ map numbered_row (enumerate_from (l.place + 1) (map (λ (entry : Record). []) (drop l.place l.records)))
    ≡ numbered (map (λ (entry : Record). []) l.records)
