-- Images that are written entry by entry.
use Rattle.std.proofs.Common.{◌≡◌, ◌∙◌, ℕ, suc, ◌+◌, ◌≤◌, ◌<◌, zero, List, [], ◌∷◌, ◌++◌, length, map, take, get_or, refl, sym, ap, subst, arith}
use Rattle.std.specs.Prelude.{Option}
use Rattle.std.specs.List.{AllByRecursion}
use Rattle.std.proofs.lemmas.List.{append-nil, length-append, length-take, map-append, take_all, take_more}
use Rattle.au_base.specs.declared.numbers.Stamp.{Stamp}
use Rattle.au_catalog.specs.declared.catalog.Catalog.{Catalog}
use Rattle.au_entries.specs.declared.change.Change.{Change}
use Rattle.au_entries.specs.declared.change.Change.TheVariants.{Start}
use Rattle.au_entries.specs.declared.kept.Kept.{Kept}
use Rattle.au_entries.specs.declared.trail_record.Record.{Record}
use Rattle.au_entries.specs.Changing.{KeptRow}
use Rattle.au_grants.specs.Rights.{Grants}
use Rattle.rec_codec.specs.Changes.{IsChangeSpellable}
use Rattle.rec_codec.specs.Images.{Holds, WritesJoin, Written, Wrote}
use Rattle.rec_codec.specs.Records.{trail_record}
use Rattle.au_image.specs.Image.{IsReady, archive_changes, audit_changes, enablement_change, fga_change, image_changes, object_change, policy_change, role_change, role_grant_change, row_change, system_change, table_change, user_change}

pub length_mapped : {X Y : Type 0} (f : X → Y) (xs : List X) → length (map f xs) ≡ length xs
length_mapped f [] = refl
length_mapped f (x ∷ xs) = ap suc (length_mapped f xs)

pub all_front : {X : Type 0} (P : X → Type 0) (xs ys : List X) → AllByRecursion P (xs ++ ys) → AllByRecursion P xs
all_front P [] ys all = tt
all_front P (x ∷ xs) ys all = (all.0, all_front P xs ys all.1)

pub all_behind : {X : Type 0} (P : X → Type 0) (xs ys : List X) → AllByRecursion P (xs ++ ys) → AllByRecursion P ys
all_behind P [] ys all = all
all_behind P (x ∷ xs) ys all = all_behind P xs ys all.1

-- Entries stand in front of the rest, and are written from a slice. They can be written, and then the rest.
pub fits : {X : Type 0} (f : X → Change) (xs slice : List X) (rest : List Change) (left : ℕ) → (left ≡ length (map f xs ++ rest)) × AllByRecursion IsChangeSpellable (map f xs ++ rest) → slice ≡ xs → length slice ≤ left
fits f xs slice rest left ready is =
    let all = ready.0 in
    let same : length slice ≡ length xs = ap length is in
    omega (arith, all, length-append (map f xs) rest, length_mapped f xs, same)

pub spells : {X : Type 0} (f : X → Change) (xs slice : List X) (rest : List Change) (left : ℕ) → (left ≡ length (map f xs ++ rest)) × AllByRecursion IsChangeSpellable (map f xs ++ rest) → slice ≡ xs → AllByRecursion IsChangeSpellable (map f slice)
spells {X} f xs slice rest left ready is =
    subst (λ (ys : List X). AllByRecursion IsChangeSpellable (map f ys)) (sym is) (all_front IsChangeSpellable (map f xs) rest ready.1)

pub rest_ready : (xs rest : List Change) (a b : Written) → IsReady a (xs ++ rest) → Wrote a b xs [] → IsReady b rest
rest_ready xs rest a b ready wrote =
    let all = ready.0 in
    (omega (arith, all, wrote.changes_left, length-append xs rest), all_behind IsChangeSpellable xs rest ready.1)

pub wrote_list : {X : Type 0} (f : X → Change) (xs slice : List X) (a b : Written) → slice ≡ xs → Wrote a b (map f slice) [] → Wrote a b (map f xs) []
wrote_list {X} f xs slice a b is wrote = subst (λ (ys : List X). Wrote a b (map f ys) []) is wrote

pub step : {X : Type 0} (f : X → Change) (xs slice : List X) (rest : List Change) (a b : Written) → IsReady a (map f xs ++ rest) → slice ≡ xs → Wrote a b (map f slice) [] → IsReady b rest
step f xs slice rest a b ready is wrote = rest_ready (map f xs) rest a b ready (wrote_list f xs slice a b is wrote)

-- two parts are written
pub both_changes : (laws : WritesJoin) (a b c : Written) (xs ys : List Change) → Wrote a b xs [] → Wrote b c ys [] → Wrote a c (xs ++ ys) []
both_changes laws a b c xs ys one two = laws.both a b c xs ys [] [] one two

pub joins : {X : Type 0} (laws : WritesJoin) (f : X → Change) (xs slice : List X) (rest : List Change) (a b c : Written) → slice ≡ xs → Wrote a b (map f slice) [] → Wrote b c rest [] → Wrote a c (map f xs ++ rest) []
joins laws f xs slice rest a b c is one two = both_changes laws a b c (map f xs) rest (wrote_list f xs slice a b is one) two

-- the archive timestamp stands in front of the rest
pub archive_fits : (archive : Option Stamp) (rest : List Change) (left : ℕ) → (left ≡ length (archive_changes archive ++ rest)) × AllByRecursion IsChangeSpellable (archive_changes archive ++ rest) → length (archive_changes archive) ≤ left
archive_fits archive rest left ready = let all = ready.0 in omega (arith, all, length-append (archive_changes archive) rest)

pub archive_spells : (archive : Option Stamp) (rest : List Change) (left : ℕ) → (left ≡ length (archive_changes archive ++ rest)) × AllByRecursion IsChangeSpellable (archive_changes archive ++ rest) → AllByRecursion IsChangeSpellable (archive_changes archive)
archive_spells archive rest left ready = all_front IsChangeSpellable (archive_changes archive) rest ready.1

-- what stands behind each group
abbrev pub behind_fga : Catalog → ℕ → List Change
behind_fga catalog instance = archive_changes catalog.archive ++ Start instance ∷ []

abbrev pub behind_enabled : Catalog → ℕ → List Change
behind_enabled catalog instance = map fga_change catalog.fga ++ behind_fga catalog instance

abbrev pub behind_policies : Catalog → ℕ → List Change
behind_policies catalog instance = map enablement_change catalog.enabled ++ behind_enabled catalog instance

abbrev pub behind_rows : Catalog → Grants → ℕ → List Change
behind_rows catalog grants instance = map object_change grants.object ++ audit_changes catalog instance

abbrev pub behind_tables : Catalog → Grants → List KeptRow → ℕ → List Change
behind_tables catalog grants rows instance = map row_change rows ++ behind_rows catalog grants instance

abbrev pub stored : Catalog → Grants → List KeptRow → ℕ → List Change
stored catalog grants rows instance = map table_change catalog.tables ++ behind_tables catalog grants rows instance

abbrev pub behind_system : Catalog → Grants → List KeptRow → ℕ → List Change
behind_system catalog grants rows instance = map role_grant_change grants.role ++ stored catalog grants rows instance

abbrev pub behind_roles : Catalog → Grants → List KeptRow → ℕ → List Change
behind_roles catalog grants rows instance = map system_change grants.system ++ behind_system catalog grants rows instance

abbrev pub behind_users : Catalog → Grants → List KeptRow → ℕ → List Change
behind_users catalog grants rows instance = map role_change catalog.roles ++ behind_roles catalog grants rows instance

-- a loop over entries has come to one more
pub one_change : {X : Type 0} (laws : WritesJoin) (f : X → Change) (entries : List X) (a b c : Written) (i : ℕ) (x : X) (change : Change) → i < length entries → x ≡ get_or entries i x → change ≡ f x
    → Wrote a b (map f (take i entries)) [] → Wrote b c (change ∷ []) [] → Wrote a c (map f (take (i + 1) entries)) []
one_change {X} laws f entries a b c i x change within is made before here =
    let list : take (i + 1) entries ≡ take i entries ++ x ∷ [] = take_more entries i x within ∙ ap (λ (y : X). take i entries ++ y ∷ []) (sym is) in
    subst (λ (cs : List Change). Wrote a c cs [])
    (ap (λ (d : Change). map f (take i entries) ++ d ∷ []) made ∙ sym (map-append f (take i entries) (x ∷ [])) ∙ ap (map f) (sym list))
    (both_changes laws a b c (map f (take i entries)) (change ∷ []) before here)

length_taken : {Y : Type 0} (ys : List Y) (n : ℕ) → length (take n ys) ≤ n
length_taken ys n = omega (arith, length-take n ys)

pub some_left : {X : Type 0} (f : X → Change) (entries : List X) (a b : Written) (i : ℕ) → i < length entries → length entries ≤ a.changes → Wrote a b (map f (take i entries)) [] → 0 < b.changes
some_left f entries a b i within few before =
    let taken = length_taken entries i in
    omega (arith, within, few, before.changes_left, length_mapped f (take i entries), taken)

-- each change of a list can be written
pub spelled_at : {X : Type 0} (f : X → Change) (entries : List X) (i : ℕ) (x : X) (change : Change) → i < length entries → x ≡ get_or entries i x → change ≡ f x → AllByRecursion IsChangeSpellable (map f entries) → IsChangeSpellable change
spelled_at f [] i x change within is made all = absurd (omega (arith, within))
spelled_at f (y ∷ entries) zero x change within is made all = subst IsChangeSpellable (ap f (sym is) ∙ sym made) all.0
spelled_at f (y ∷ entries) (suc i) x change within is made all = spelled_at f entries i x change (omega (arith, within)) is made all.1

pub record_at : (trail : List Record) (i : ℕ) (x : Record) → i < length trail → x ≡ get_or trail i x → AllByRecursion trail_record.IsSpellable trail → trail_record.IsSpellable x
record_at [] i x within is all = absurd (omega (arith, within))
record_at (y ∷ trail) zero x within is all = subst trail_record.IsSpellable (sym is) all.0
record_at (y ∷ trail) (suc i) x within is all = record_at trail i x (omega (arith, within)) is all.1

-- a whole list was written
pub all_changes : {X : Type 0} (f : X → Change) (entries : List X) (a b : Written) (i : ℕ) → length entries ≤ i → Wrote a b (map f (take i entries)) [] → Wrote a b (map f entries) []
all_changes f entries a b i past wrote = subst (λ (xs : List _). Wrote a b (map f xs) []) (take_all i entries past) wrote

pub all_records : (trail : List Record) (a b : Written) (i : ℕ) → length trail ≤ i → Wrote a b [] (take i trail) → Wrote a b [] trail
all_records trail a b i past wrote = subst (λ (rs : List Record). Wrote a b [] rs) (take_all i trail past) wrote

-- how many changes an image has, by how many entries each list has
group_length : {X : Type 0} (f : X → Change) (xs : List X) (ys : List Change) → length (map f xs ++ ys) ≡ length xs + length ys
group_length f xs ys = length-append (map f xs) ys ∙ ap (λ (n : ℕ). n + length ys) (length_mapped f xs)

group_of : {count mine total : ℕ} (rest : ℕ) → count ≡ mine → total ≡ mine + rest → total ≡ count + rest
group_of {count} {mine} {total} rest is all = all ∙ ap (λ (n : ℕ). n + rest) (sym is)

in_all : (users roles system role tables rows object policies enabled fga archive : ℕ) (total n1 n2 n3 n4 n5 n6 n7 n8 n9 n10 : ℕ)
    → total ≡ users + n1 → n1 ≡ roles + n2 → n2 ≡ system + n3 → n3 ≡ role + n4 → n4 ≡ tables + n5 → n5 ≡ rows + n6
    → n6 ≡ object + n7 → n7 ≡ policies + n8 → n8 ≡ enabled + n9 → n9 ≡ fga + n10 → n10 ≡ archive + 1
    → users + roles + system + role + (tables + rows) + object + (policies + enabled) + (fga + archive) + 1 ≡ total
in_all users roles system role tables rows object policies enabled fga archive total n1 n2 n3 n4 n5 n6 n7 n8 n9 n10 h0 h1 h2 h3 h4 h5 h6 h7 h8 h9 h10 =
    omega (arith, h0, h1, h2, h3, h4, h5, h6, h7, h8, h9, h10)

pub image_count : (kept : Kept) (users roles system role tables rows object policies enabled fga archive : ℕ)
    → users ≡ length kept.users → roles ≡ length kept.roles → system ≡ length kept.grants.system → role ≡ length kept.grants.role → tables ≡ length kept.tables → length kept.rows ≡ rows
    → object ≡ length kept.grants.object → policies ≡ length kept.policies → enabled ≡ length kept.enabled → fga ≡ length kept.fga → archive ≡ length (archive_changes kept.archive)
    → users + roles + system + role + (tables + rows) + object + (policies + enabled) + (fga + archive) + 1 ≡ length (image_changes kept)
image_count kept users roles system role tables rows object policies enabled fga archive is0 is1 is2 is3 is4 is5 is6 is7 is8 is9 is10 =
    in_all users roles system role tables rows object policies enabled fga archive (length (image_changes kept)) _ _ _ _ _ _ _ _ _ _
    (group_of _ is0 (group_length user_change kept.users _))
    (group_of _ is1 (group_length role_change kept.roles _))
    (group_of _ is2 (group_length system_change kept.grants.system _))
    (group_of _ is3 (group_length role_grant_change kept.grants.role _))
    (group_of _ is4 (group_length table_change kept.tables _))
    (group_of _ (sym is5) (group_length row_change kept.rows _))
    (group_of _ is6 (group_length object_change kept.grants.object _))
    (group_of _ is7 (group_length policy_change kept.policies _))
    (group_of _ is8 (group_length enablement_change kept.enabled _))
    (group_of _ is9 (group_length fga_change kept.fga _))
    (group_of _ is10 (length-append (archive_changes kept.archive) (Start kept.instance ∷ [])))

-- the image is written: the changes, and then the records
pub image_held : (a b c : Written) (last : Stamp) (changes : List Change) (trail : List Record) → Holds a last [] [] → Wrote a b changes [] → Wrote b c [] trail → Holds c last changes trail
image_held a b c last changes trail begun one two =
    subst (λ (cs : List Change). Holds c last cs trail) (append-nil changes) (two.holds last changes [] (one.holds last [] [] begun))

pub one_record : (laws : WritesJoin) (trail : List Record) (a b c : Written) (i : ℕ) (x : Record) → i < length trail → x ≡ get_or trail i x → Wrote a b [] (take i trail) → Wrote b c [] (x ∷ []) → Wrote a c [] (take (i + 1) trail)
one_record laws trail a b c i x within is before here =
    let list : take (i + 1) trail ≡ take i trail ++ x ∷ [] = take_more trail i x within ∙ ap (λ (y : Record). take i trail ++ y ∷ []) (sym is) in
    subst (λ (rs : List Record). Wrote a c [] rs) (sym list) (laws.both a b c [] [] (take i trail) (x ∷ []) before here)

pub some_records_left : (trail : List Record) (a b : Written) (i : ℕ) → i < length trail → length trail ≤ a.records → Wrote a b [] (take i trail) → 0 < b.records
some_records_left trail a b i within few before = let taken = length_taken trail i in omega (arith, within, few, before.records_left, taken)

-- records alone leave no change to come where there was none
pub no_change : (a b : Written) (records : List Record) → a.changes ≡ 0 → Wrote a b [] records → b.changes ≡ 0
no_change a b records none wrote = omega (arith, none, wrote.changes_left)

-- where one change is ready, one is to come
pub one_left : (left : ℕ) (change : Change) → (left ≡ length (change ∷ [])) × AllByRecursion IsChangeSpellable (change ∷ []) → 0 < left
one_left left change ready = let one = ready.0 in omega (arith, one)

-- what a writer was told, and what is left of it
pub changes_told : (a b : Written) (changes : List Change) (count total : ℕ) → a.changes ≡ count → count ≡ total → total ≡ length changes → Wrote a b changes [] → b.changes ≡ 0
changes_told a b changes count total told is all wrote = omega (arith, told, is, all, wrote.changes_left)

pub records_wait : (a b : Written) (changes : List Change) (trail : List Record) (count : ℕ) → a.records ≡ count → count ≡ length trail → Wrote a b changes [] → length trail ≤ b.records
records_wait a b changes trail count told is wrote = omega (arith, told, is, wrote.records_left)

pub records_done : (a b c : Written) (changes : List Change) (trail : List Record) (count : ℕ) → a.records ≡ count → count ≡ length trail → Wrote a b changes [] → Wrote b c [] trail → c.records ≡ 0
records_done a b c changes trail count told is one two = omega (arith, told, is, one.records_left, two.records_left)
