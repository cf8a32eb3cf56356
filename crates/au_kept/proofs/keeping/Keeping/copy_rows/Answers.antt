use Rattle.std.proofs.Common.{List, subst, sym}
use Rattle.au_entries.specs.declared.table.Table.{Table}
use Rattle.au_image.specs.Image.{IsDeskOf}
use Rattle.au_kept.proofs.keeping.Keeping.copy_rows.Goals as goal

pub copy_rows-requires : goal.copy_rows-requires
copy_rows-requires c = subst (λ (tables : List Table). IsDeskOf tables c.self.inside.desk) (sym c.as_slice.ensures) c.self.invariant.desk_is

pub returns : goal.returns
returns c = rw (← c.self.view_is) c.copy_rows.ensures
