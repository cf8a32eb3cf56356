use Rattle.std.proofs.Common.{subst}
use Rattle.std.specs.Prelude.{IfSome}
use Rattle.au_catalog.specs.Settling.{catalog_of}
use Rattle.au_pindex.specs.Indexing.{IsIndexOf}
use Rattle.au_engine.specs.Reserved.{Reserved}
use Rattle.au_engine.proofs.engine.Engine.index_is_of_catalogue.Goals as goal

pub returns : goal.returns
returns c = subst (λ (e : Reserved). IfSome e.index (IsIndexOf (catalog_of e.state.kept))) c.self.view_is c.self.invariant.4
