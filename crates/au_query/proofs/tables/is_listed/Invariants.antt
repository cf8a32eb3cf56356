use Rattle.std.proofs.Common.{◌≡◌, drop}
use Rattle.std.specs.List.{list_any}
use Rattle.au_base.specs.Sameness.{same_table}
use Rattle.au_query.specs.declared.source.Source.{Source}
use Rattle.au_query.proofs.tables.is_listed.Given as goal

abbrev pub invariant-loop-source : goal.invariant-loop-source
invariant-loop-source l =
    list_any (λ (source : Source). same_table source.table l.table) (drop l.source-index l.sources) ≡ list_any (λ (source : Source). same_table source.table l.table) l.sources
