use Rattle.rec_codec.proofs.Pieces.{begun_holds}
use Rattle.rec_codec.proofs.image_writer.ImageWriter.new.Goals as goal

pub returns-clause-holds : goal.returns-clause-holds
returns-clause-holds c =
    begun_holds c.new-bytes.result.items c.write_u8.new.out.items c.write_u64.new.out.items c.write_u32.new.out.items c.write_count_behind.new.out.items c.args.last c.args.changes c.args.records
    c.requires c.ranges.changes.fits c.ranges.records.fits c.new-bytes.ensures.items c.in_ok-write_u8.ensures c.in_ok-write_u64.ensures c.in_ok-write_u32.ensures c.in_ok-write_count_behind.ensures
