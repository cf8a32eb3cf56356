-- Changes of an index that are ready to be made with no memory: which catalogue they lead to, and which index they fit.
use Rattle.au_catalog.specs.declared.catalog.Catalog.{Catalog}
use Rattle.au_pindex.specs.declared.index.Index.{Index}
use Rattle.au_pindex.specs.declared.staged.StagedIndex.{StagedIndex}
use Rattle.au_pindex.specs.descent.Fitting.{FitsEdit}
use Rattle.au_pindex.specs.descent.Leading.{Leads}

-- what is ready makes of an index of the first catalogue one of the second
abbrev pub IsStaged : Catalog → Catalog → StagedIndex → Type 0
IsStaged catalog after staged = Leads catalog.enabled catalog.policies after.enabled after.policies staged.edit

-- what is ready fits the index, which has room for what is added
abbrev pub Fits : StagedIndex → Index → Type 0
Fits staged index = FitsEdit staged.edit index
