-- The records of an event that can be recorded have spellings, and are few.
use Rattle.std.proofs.Common.{◌≡◌, ◌≢◌, ◌≤◌, ◌<◌, ◌^◌, ◌+◌, ◌⊎◌, inl, inr, min, ℕ, Bool, true, false, nat_le, nat_lt, if◌then◌else◌, List, [], ◌∷◌, ◌++◌, length, get_or, map, refl, subst, arith}
use Rattle.std.specs.Prelude.{IsAscii, IsTrue}
use Rattle.std.specs.List.{AllByRecursion, Contains, enumerate_from, list_all}
use Rattle.std.proofs.lemmas.Bool.Decides.{nat_tests}
use Rattle.std.proofs.lemmas.List.{length-append, length-map}
use Rattle.std.proofs.lemmas.List.FromFn.{length-enumerate_from}
use Rattle.std.proofs.lemmas.List.Elements.{All-get_or, All-from_get_or}
use Rattle.std.proofs.lemmas.List.Sums.{AllPass-from_list_all}
use Rattle.std.proofs.lemmas.Str.{IsUtf8-from_ascii}
use Rattle.std.proofs.lemmas.Str.Ascii.{IsAscii-from_all}
use Rattle.au_audit.specs.Conditions.{is_unrecorded, nothing_demanded}
use Rattle.au_audit.specs.Records.{fine_grained_record, numbered, records_of, unified_record, unified_records}
use Rattle.au_audit.specs.declared.place.Place.{Place}
use Rattle.au_base.specs.Actions.{code_of}
use Rattle.au_base.specs.BuiltIn.{ora_mandatory}
use Rattle.au_base.specs.Codes.{DONE}
use Rattle.au_base.specs.Limits.{LAST_MOMENT, SESSION_COUNT}
use Rattle.au_base.specs.Naming.{IsName}
use Rattle.au_base.specs.Order.{is_in_order, name_before}
use Rattle.au_base.specs.declared.action.Action.{Action}
use Rattle.au_base.specs.declared.code.Code.{Code}
use Rattle.au_catalog.specs.declared.catalog.Catalog.{Catalog}
use Rattle.au_entries.specs.declared.facts.Demanded.{Demanded}
use Rattle.au_entries.specs.declared.facts.Facts.{Facts}
use Rattle.au_entries.specs.declared.fine_grained.FgaName.{FgaName}
use Rattle.au_entries.specs.declared.policy.AuditPolicy.{AuditPolicy}
use Rattle.au_entries.specs.declared.policy.Enabled.{Enabled}
use Rattle.au_entries.specs.declared.results.KeptResults.{KeptResults}
use Rattle.au_entries.specs.declared.trail_record.Record.{Record}
use Rattle.au_entries.specs.declared.trail_record.RecordKind.{RecordKind}
use Rattle.au_entries.specs.Demand.{demanded}
use Rattle.au_expr.specs.Sessions.{Session}
use Rattle.au_grants.specs.declared.grants.Grants.{Grants}
use Rattle.au_policy.specs.Asking.{demanded_now}
use Rattle.au_recording.specs.Recording.{left_by}
use Rattle.au_recording.specs.Writing.{AreFactsSpellable, ArePoliciesNamed, CanBeRecorded, IsFgaNamed, IsPlaceSpellable}
use Rattle.au_recording.proofs.Members.{here, none, split, there}
use Rattle.au_recording.proofs.Told.{demanding_told, name_told, none_told, object_told, owner_told, text_told, used_told}
use Rattle.rec_codec.specs.Records.{deed, deed_of, done_action, grounds, grounds_of, origin, origin_of, trail_record}
use Rattle.rec_parts.specs.Parts as parts

at_most : (m n : ℕ) → m ≤ n → nat_le m n ≡ true
at_most m n le = grind (arith, nat_tests)

-- ---- one record

-- the record has a spelling whatever its number among those of its session, up to the last
abbrev CanBeNumbered : Record → Type 0
CanBeNumbered r = (entry : ℕ) → entry ≤ SESSION_COUNT → trail_record.IsSpellable (record r { entry = entry })

origin_told : (kind : RecordKind) (facts : Facts) (place : Place) (entry : ℕ) → AreFactsSpellable facts → IsPlaceSpellable place → entry ≤ SESSION_COUNT
    → origin.IsSpellable (record { kind = kind; session = place.session; entry = entry; statement = place.statement; stamp = place.stamp; user = facts.user })
unfolding origin parts.kind parts.session parts.stamp
origin_told kind facts place entry known at few =
    let session = at.session in
    let statement = at.statement in
    let stamp = at.stamp in
    (tt, ((omega arith, at_most place.session.0 999_999_999_999_999_999 session), (omega arith, (omega arith, ((omega arith, at_most place.stamp.0 LAST_MOMENT stamp), name_told facts.user known.user)))))

action_told : (action : Action) → 1 ≤ code_of action → done_action.IsSpellable action
unfolding done_action parts.action
action_told action some = (tt, at_most 1 (code_of action) some)

code_told : (code : Code) → code.0 < 2 ^ 32 → parts.return_code.IsSpellable code
unfolding parts.return_code
code_told code small = omega arith

-- a record has a spelling where its parts have
joined_told : (r : Record) → origin.IsSpellable (origin_of r) → deed.IsSpellable (deed_of r) → grounds.IsSpellable (grounds_of r) → trail_record.IsSpellable r
unfolding trail_record
joined_told r one two three = (one, (two, three))

unified_told : (facts : Facts) (place : Place) (policies : List (List ℕ)) → AreFactsSpellable facts → IsPlaceSpellable place → length policies ≤ 10_001 → AllByRecursion IsName policies
    → is_in_order name_before policies ≡ true → CanBeNumbered (unified_record facts place policies)
unfolding deed grounds
unified_told facts place policies known at few each ordered entry last =
    joined_told (record (unified_record facts place policies) { entry = entry })
    (origin_told _ facts place entry known at last)
    (action_told facts.action known.action, (owner_told place.object at.object, (object_told place.object at.object, text_told place.sql at.sql)))
    (used_told facts.used, (demanding_told policies few each ordered, (tt, code_told facts.code known.code)))

fine_grained_told : (facts : Facts) (place : Place) (policy : FgaName) → AreFactsSpellable facts → IsPlaceSpellable place → IsFgaNamed policy → CanBeNumbered (fine_grained_record facts place policy)
unfolding deed grounds
fine_grained_told facts place policy known at names entry last =
    joined_told (record (fine_grained_record facts place policy) { entry = entry })
    (origin_told _ facts place entry known at last)
    (action_told facts.action known.action, (name_told policy.table.owner names.0, (name_told policy.table.name names.1, text_told place.sql at.sql)))
    (none_told, (demanding_told [] (omega arith) tt refl, (name_told policy.policy names.2, code_told DONE (omega arith))))

-- ---- all records

all_joined : {X : Type 0} (P : X → Type 0) (xs ys : List X) → AllByRecursion P xs → AllByRecursion P ys → AllByRecursion P (xs ++ ys)
all_joined P [] ys one two = two
all_joined P (x ∷ xs) ys one two = (one.0, all_joined P xs ys one.1 two)

all_numbered : (first place : ℕ) (records : List Record) → AllByRecursion CanBeNumbered records → AllByRecursion trail_record.IsSpellable (map (numbered first) (enumerate_from place records))
all_numbered first place [] all = tt
all_numbered first place (r ∷ records) all = (all.0 (min (first + place) SESSION_COUNT) (omega arith), all_numbered first (place + 1) records all.1)

all_unified : (facts : Facts) (place : Place) (policies : List (List ℕ)) → CanBeNumbered (unified_record facts place policies) → AllByRecursion CanBeNumbered (unified_records facts place policies)
all_unified facts place [] can = tt
all_unified facts place (policy ∷ policies) can = (can, tt)

all_fine_grained : (facts : Facts) (place : Place) (fired : List FgaName) → AreFactsSpellable facts → IsPlaceSpellable place → AllByRecursion IsFgaNamed fired
    → AllByRecursion CanBeNumbered (map (fine_grained_record facts place) fired)
all_fine_grained facts place [] known at names = tt
all_fine_grained facts place (policy ∷ fired) known at names = (fine_grained_told facts place policy known at names.0, all_fine_grained facts place fired known at names.1)

records_told : (facts : Facts) (place : Place) (policies : List (List ℕ)) (fired : List FgaName) → AreFactsSpellable facts → IsPlaceSpellable place → AllByRecursion IsFgaNamed fired
    → length policies ≤ 10_001 → AllByRecursion IsName policies → is_in_order name_before policies ≡ true → AllByRecursion trail_record.IsSpellable (records_of facts place policies fired)
records_told facts place policies fired known at names few each ordered =
    all_numbered place.entry 0 (unified_records facts place policies ++ map (fine_grained_record facts place) fired)
    (all_joined CanBeNumbered (unified_records facts place policies) (map (fine_grained_record facts place) fired)
    (all_unified facts place policies (unified_told facts place policies known at few each ordered)) (all_fine_grained facts place fired known at names))

-- ---- the names that are demanded

abbrev FromPolicies : List AuditPolicy → List (List ℕ) → Type 0
FromPolicies policies found = (name : List ℕ) → Contains found name → (ora_mandatory ≡ name) ⊎ Contains (map (λ (policy : AuditPolicy). policy.name) policies) name

abbrev is_ascii : ℕ → Bool
is_ascii b = nat_lt b 128

ascii_byte : (b : ℕ) → is_ascii b ≡ true → b < 128
ascii_byte b is = grind (arith, nat_tests)

ascii : (text : List ℕ) → list_all is_ascii text ≡ true → IsAscii text
ascii text all =
    IsAscii-from_all text (All-from_get_or (λ b. b < 128) text 0 (λ i inside. ascii_byte (get_or text i 0) (All-get_or (λ b. is_ascii b ≡ true) text i 0 inside (AllPass-from_list_all is_ascii text all))))

mandatory_named : IsName ora_mandatory
mandatory_named = (record { some = omega arith; capped = omega arith }, IsUtf8-from_ascii ora_mandatory (ascii ora_mandatory refl))

one_named : (policies : List AuditPolicy) → AllByRecursion (λ policy. IsName policy.name) policies → (name : List ℕ) → Contains (map (λ (policy : AuditPolicy). policy.name) policies) name → IsName name
one_named [] all name has = absurd (none name has)
one_named (policy ∷ policies) all name has = elim (split policy.name (map (λ (policy : AuditPolicy). policy.name) policies) name has) [
  | inl same ↦ subst IsName same all.0
  | inr later ↦ one_named policies all.1 name later
]

all_named : (policies : List AuditPolicy) → AllByRecursion (λ policy. IsName policy.name) policies → (found : List (List ℕ)) → FromPolicies policies found → AllByRecursion IsName found
all_named policies all [] from = tt
all_named policies all (name ∷ found) from = (
  elim (from name (here name found)) [
    | inl same ↦ subst IsName same mandatory_named
    | inr has ↦ one_named policies all name has
  ],
  all_named policies all found (λ other has. from other (there name found other has)),
)

demanded_told : (facts : Facts) (place : Place) (fired : List FgaName) (policies : List AuditPolicy) (some : Demanded) (b : Bool) → ArePoliciesNamed policies → AreFactsSpellable facts → IsPlaceSpellable place → AllByRecursion IsFgaNamed fired
    → length some.names ≤ length policies + 1 → FromPolicies policies some.names → is_in_order name_before some.names ≡ true
    → AllByRecursion trail_record.IsSpellable (records_of facts place (if b then nothing_demanded else some).names fired)
demanded_told facts place fired policies some true named known at names few from ordered = records_told facts place [] fired known at names (omega arith) tt refl
demanded_told facts place fired policies some false named known at names few from ordered =
    let capped = named.few in
    records_told facts place some.names fired known at names (omega arith) (all_named policies named.names some.names from) ordered

-- ---- the laws; what is known of the names that are demanded is an argument

module _ (how_many : (when : AuditPolicy → Bool) (grants : Grants) (enabled : List (List ℕ × Enabled)) (policies : List AuditPolicy) (facts : Facts) → length (demanded when grants enabled policies facts) ≤ length policies + 1)
    (which : (when : AuditPolicy → Bool) (grants : Grants) (enabled : List (List ℕ × Enabled)) (policies : List AuditPolicy) (facts : Facts) (name : List ℕ)
    → Contains (demanded when grants enabled policies facts) name → (ora_mandatory ≡ name) ⊎ Contains (map (λ policy. policy.name) policies) name)
    (in_order : (when : AuditPolicy → Bool) (grants : Grants) (enabled : List (List ℕ × Enabled)) (policies : List AuditPolicy) (facts : Facts)
    → IsTrue (is_in_order name_before (map (λ policy. policy.name) policies)) → AllByRecursion (λ policy. policy.name ≢ ora_mandatory) policies
    → IsTrue (is_in_order name_before (demanded when grants enabled policies facts))) where
  pub written : (catalog : Catalog) (grants : Grants) (kept : KeptResults) (session : Session) (facts : Facts) (place : Place) (fired : List FgaName) (forgets : List (List ℕ))
      → CanBeRecorded catalog facts place fired → AllByRecursion trail_record.IsSpellable (left_by catalog grants kept session facts place fired forgets).records
  written catalog grants kept session facts place fired forgets can =
      demanded_told facts place fired catalog.policies _ (is_unrecorded facts.code) can.policies can.facts can.place can.fired
      (how_many _ grants catalog.enabled catalog.policies facts) (which _ grants catalog.enabled catalog.policies facts) (in_order _ grants catalog.enabled catalog.policies facts can.policies.order can.policies.unreserved)

one_at_most : (facts : Facts) (place : Place) (policies : List (List ℕ)) → length (unified_records facts place policies) ≤ 1
one_at_most facts place [] = omega arith
one_at_most facts place (policy ∷ policies) = omega arith

records_few : (facts : Facts) (place : Place) (policies : List (List ℕ)) (fired : List FgaName) → length (records_of facts place policies fired) ≤ 1 + length fired
records_few facts place policies fired =
    let all = unified_records facts place policies ++ map (fine_grained_record facts place) fired in
    let same = length-map (enumerate_from 0 all) (numbered place.entry) in
    let counted = length-enumerate_from 0 all in
    let joined = length-append (unified_records facts place policies) (map (fine_grained_record facts place) fired) in
    let one = one_at_most facts place policies in
    let others = length-map fired (fine_grained_record facts place) in
    omega arith

pub few : (catalog : Catalog) (grants : Grants) (kept : KeptResults) (session : Session) (facts : Facts) (place : Place) (fired : List FgaName) (forgets : List (List ℕ))
    → length (left_by catalog grants kept session facts place fired forgets).records ≤ 1 + length fired
few catalog grants kept session facts place fired forgets = records_few facts place (demanded_now catalog grants kept session facts).names fired
