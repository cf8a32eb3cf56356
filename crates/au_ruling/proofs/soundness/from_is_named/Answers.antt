use Rattle.std.proofs.Common.{map, subst}
use Rattle.std.specs.List.{AllByRecursion}
use Rattle.au_base.specs.declared.table.TableReference.{TableReference}
use Rattle.au_define.specs.Names.{IsTableNamed}
use Rattle.au_ruling.proofs.Lists.{all_under}
use Rattle.au_ruling.proofs.soundness.from_is_named.Goals as goal
use Rattle.sql_ast.specs.declared.query.Join.{Join}

abbrev written : Join → TableReference
written join = join.table.table

pub returns : goal.returns
returns c = (
  c.table_is_named.ensures,
  subst (λ joins. AllByRecursion IsTableNamed (map written joins)) c.as_slice.ensures
      (all_under IsTableNamed written c.as_slice.result.now c.joins_are_named.ensures),
)
