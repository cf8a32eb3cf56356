use Rattle.au_http.proofs.MomentBytes.{moment_ascii}
use Rattle.au_http.proofs.replies.moment_value.Goals as goal

pub from_ascii-requires : goal.from_ascii-requires
from_ascii-requires c = moment_ascii _ c.moment_text.result c.moment_text.ensures.told
