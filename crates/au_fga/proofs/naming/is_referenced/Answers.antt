use Rattle.std.proofs.Common.{◌∙◌, sym}
use Rattle.std.specs.Str.{bytes_eq}
use Rattle.au_fga.proofs.Touched.{any_of}
use Rattle.au_fga.proofs.naming.is_referenced.Goals as goal

pub returns : goal.returns
returns c = c.is_named.ensures ∙ sym (any_of (bytes_eq c.args.column.now) c.args.table.now c.args.named.now)
