-- Of which events the records can be written.
use Rattle.std.specs.Prelude.{◌≢◌, ◌≤◌, ◌<◌, ◌^◌, ⊤, ℕ, List, length, Option, Some, None}
use Rattle.std.specs.List.{AllByRecursion}
use Rattle.std.specs.Str.{IsUtf8}
use Rattle.au_audit.specs.Statements.{Object}
use Rattle.au_audit.specs.declared.place.Place.{Place}
use Rattle.au_base.specs.Actions.{code_of}
use Rattle.au_base.specs.BuiltIn.{ora_mandatory}
use Rattle.au_base.specs.Limits.{CATALOG_OBJECTS, LAST_MOMENT, STATEMENT_BYTES}
use Rattle.au_base.specs.Naming.{IsName}
use Rattle.au_catalog.specs.declared.catalog.Catalog.{Catalog}
use Rattle.au_entries.specs.declared.facts.Facts.{Facts}
use Rattle.au_entries.specs.declared.fine_grained.FgaName.{FgaName}
use Rattle.au_entries.specs.declared.policy.AuditPolicy.{AuditPolicy}
use Rattle.au_recording.specs.Keeping.{ArePoliciesOrdered}

-- what is known of an event: the user has a name, the action is one that can be done, and the code fits
pub record AreFactsSpellable (facts : Facts) : Type 0 where
  pub user : IsName facts.user
  pub action : 1 ≤ code_of facts.action
  pub code : facts.code.0 < 2 ^ 32

-- where there is a name, it is one
abbrev pub IsNamed : Option (List ℕ) → Type 0
IsNamed None = ⊤
IsNamed (Some name) = IsName name

-- an object's name is one, and so is its owner's, where it has one
abbrev pub IsObjectNamed : Option Object → Type 0
IsObjectNamed None = ⊤
IsObjectNamed (Some object) = IsNamed object.0 × IsName object.1

-- where there is a text of a statement, it is text, isn't empty, and isn't too long
abbrev pub IsStatementText : Option (List ℕ) → Type 0
IsStatementText None = ⊤
IsStatementText (Some text) = (1 ≤ length text) × (length text ≤ STATEMENT_BYTES) × IsUtf8 text

-- where the records stand: the session's number has at most 18 digits, the statement's fits, and the stamp is a moment
pub record IsPlaceSpellable (place : Place) : Type 0 where
  pub session : place.session.0 ≤ 999_999_999_999_999_999
  pub statement : place.statement < 2 ^ 32
  pub stamp : place.stamp.0 ≤ LAST_MOMENT
  pub object : IsObjectNamed place.object
  pub sql : IsStatementText place.sql

-- the names of a fine-grained policy are names
abbrev pub IsFgaNamed : FgaName → Type 0
IsFgaNamed name = IsName name.table.owner × IsName name.table.name × IsName name.policy

-- The audit policies' names are names and stand in byte order, none is that of what is mandatory, and there are no more
-- than there may be. It is so of all that is kept.
pub record ArePoliciesNamed (policies : List AuditPolicy) : Type 0 where
  pub names : AllByRecursion (λ policy. IsName policy.name) policies
  pub order : ArePoliciesOrdered policies
  pub unreserved : AllByRecursion (λ policy. policy.name ≢ ora_mandatory) policies
  pub few : length policies ≤ CATALOG_OBJECTS

-- the records that such an event leaves can be written
pub record CanBeRecorded (catalog : Catalog) (known : Facts) (at : Place) (names : List FgaName) : Type 0 where
  pub policies : ArePoliciesNamed catalog.policies
  pub facts : AreFactsSpellable known
  pub place : IsPlaceSpellable at
  pub fired : AllByRecursion IsFgaNamed names
