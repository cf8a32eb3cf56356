use Rattle.std.proofs.Common.{rules}
use Rattle.rec_codec.proofs.Pieces.{all_spellable, finished}
use Rattle.rec_codec.proofs.image_writer.ImageWriter.finish.Goals as goal

pub returns-clause-bytes : goal.returns-clause-bytes
returns-clause-bytes c =
    finished c.args.self c.rotate_right.new.self.items c.len-len.result c.write_u64.new.out.items c.requires.changes c.requires.records
    (search rules) (search rules) (search rules)

pub returns-clause-spellable : goal.returns-clause-spellable
returns-clause-spellable c = all_spellable c.args.self c.requires.changes c.requires.records

pub returns-in_err-write_u8-clause-spellable : goal.returns-in_err-write_u8-clause-spellable
returns-in_err-write_u8-clause-spellable c = all_spellable c.args.self c.requires.changes c.requires.records

pub returns-in_err-write_u64-clause-spellable : goal.returns-in_err-write_u64-clause-spellable
returns-in_err-write_u64-clause-spellable c = all_spellable c.args.self c.requires.changes c.requires.records
