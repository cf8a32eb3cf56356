use Rattle.au_ruling.proofs.soundness.statements_are_sound.Goals as goal

pub returns : goal.returns
returns c text reads = record {
  named = c.names_are_names.ensures;
  administered = c.administration_is_named.ensures;
  tables = c.tables_are_named.ensures;
  formed = c.read_statements_are_well_formed.ensures text c.args.statement.now reads;
  timely = c.read_statements_are_timely.ensures text c.args.statement.now reads;
  few = c.read_statements_are_few.ensures text c.args.statement.now reads;
  short = c.read_statements_are_short.ensures text c.args.statement.now reads;
  literals = c.literals_are_sound.ensures text c.args.statement.now reads;
}
