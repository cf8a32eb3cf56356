use Rattle.au_main.proofs.Exported.{found}
use Rattle.au_main.proofs.exporting.export.Goals as goal

pub returns-in-Ok-clause-exports : goal.returns-in-Ok-clause-exports
returns-in-Ok-clause-exports g c =
    let disk = g.D.Disk.meaning c.args.disk in
    record {
      ends = found c.args.command g.D.Disk.told disk.reads (g.D.Disk.faults c.args.disk) (g.D.Disk.faults c.look-disk.result.0) _ _
          c.in-Ok.found.0 c.in-Ok.found.1 (rw c.in-Ok.is at c.look-disk.ensures.found) (rw c.in-Ok.is at c.look-disk.ensures.cause) c.give_text.result c.give_text.ensures.gives;
      stays = c.look-disk.ensures.stays;
    }
