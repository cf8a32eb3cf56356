use Rattle.rec_codec.proofs.ImageLaws.{both_wrote, none_wrote}
use Rattle.rec_codec.proofs.image_writer.writes_join.Goals as goal

pub returns : goal.returns
returns c = record { none = none_wrote; both = both_wrote }
