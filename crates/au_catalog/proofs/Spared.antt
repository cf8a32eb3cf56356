-- Room for what staged edits put in.
use Rattle.std.proofs.Common.{◌≡◌, ◌≤◌, ℕ, List, true, false, arith}
use Rattle.std.specs.Prelude.{Result, Ok, Err, IsOk, OnOk}
use Rattle.au_catalog.specs.declared.catalog.Catalog.{Catalog}
use Rattle.au_catalog.specs.declared.counts.Counts.{Counts}
use Rattle.au_catalog.specs.declared.edit.Edit.{Edit}
use Rattle.au_catalog.specs.declared.lists.CatalogLists.{CatalogLists}
use Rattle.au_catalog.specs.Staging.{Fits}
use Rattle.au_catalog.specs.descent.Editing.{AreSpared, Holds, counts_in, staged_from}

-- what is said of Ok holds where it is Ok
pub at_done : {T E P : Type 0} (r : Result T E) → IsOk r → OnOk r P → P
at_done (Ok x) is holds = holds
at_done (Err e) is holds = absurd (let f : false ≡ true = is in cc)

-- what is made ready on a catalogue fits it
pub fits_own : (edits : List Edit) (catalog : Catalog) → Fits (staged_from edits (counts_in catalog)) catalog
fits_own edits catalog = record { users = omega arith; roles = omega arith; tables = omega arith; policies = omega arith; enabled = omega arith; fga = omega arith }

fewer : (standing less more capacity : ℕ) → Holds standing more capacity → less ≤ standing → Holds less more capacity
fewer standing less more capacity holds few = λ some. (let all = holds some in omega arith)

-- and room for so many entries is room for fewer
pub spared_fewer : (edits : List Edit) (counts : Counts) (room : CatalogLists) (catalog : Catalog) → AreSpared counts edits room → Fits (staged_from edits counts) catalog → AreSpared (counts_in catalog) edits room
spared_fewer edits counts room catalog spared fits = record {
  users = fewer _ _ _ _ spared.users fits.users;
  roles = fewer _ _ _ _ spared.roles fits.roles;
  tables = fewer _ _ _ _ spared.tables fits.tables;
  policies = fewer _ _ _ _ spared.policies fits.policies;
  enabled = fewer _ _ _ _ spared.enabled fits.enabled;
  fga = fewer _ _ _ _ spared.fga fits.fga;
}
