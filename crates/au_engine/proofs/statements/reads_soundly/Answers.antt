use Rattle.au_engine.proofs.statements.reads_soundly.Goals as goal

pub returns : goal.returns
returns c = λ reads. record {
  reads = reads;
  sound = c.statements_are_sound.ensures c.args.text.now reads;
  placed = c.statements_stand_in_their_texts.ensures c.args.text.now c.args.statement.now c.as_bytes-bytes.ensures.utf8 reads;
}
