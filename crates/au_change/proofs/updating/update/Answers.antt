use Rattle.au_change.specs.declared.updating.Asked.{Asked}
use Rattle.au_change.proofs.Chosen.{refused_text}
use Rattle.au_change.proofs.updating.update.Goals as goal

pub returns : goal.returns
returns c =
    let asked : Asked = record {
      world = c.args.world.now;
      client = c.args.client;
      session = c.args.session;
      table = c.args.table;
      range = record { ref_ptr = c.args.table.ref_ptr; now = c.in_ok-range.range };
      update = c.args.update;
    } in
    refused_text asked
    (record { sound = c.requires.sound; there = c.requires.there; created = c.requires.created; laid = c.requires.laid; range = c.in_ok-range.ensures c.args.client })
    c.in-Err.code c.refused.result (rw c.in-Err.is at c.in_ok-settings.ensures) c.refused.ensures
