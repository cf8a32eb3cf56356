use Rattle.std.proofs.Common.{◌≡◌, true, subst, List}
use Rattle.std.specs.List.{Contains}
use Rattle.au_base.specs.declared.table.TableName.{TableName}
use Rattle.au_priv.proofs.Answers.{not_at_false}
use Rattle.au_priv.proofs.deciding.table_refusal.Goals as goal

pub privilege_refusal-requires-clause-not_built_in : goal.privilege_refusal-requires-clause-not_built_in
privilege_refusal-requires-clause-not_built_in c built_in = not_at_false c.if-is_built_in.false (c.is_built_in.ensures.1 built_in)

pub privilege_refusal-requires-clause-there : goal.privilege_refusal-requires-clause-there
privilege_refusal-requires-clause-there c =
    let is : c.is_table_among.result ≡ true = cc in
    subst (λ (tables : List TableName). Contains tables c.args.table.now) c.as_slice.ensures (c.is_table_among.ensures.0 is)
