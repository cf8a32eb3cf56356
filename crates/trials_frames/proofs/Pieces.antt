-- Images that are written change by change and record by record.
use Rattle.std.proofs.Common.{◌≡◌, ◌∙◌, ℕ, zero, suc, ◌+◌, ◌≤◌, ◌<◌, List, [], ◌∷◌, ◌++◌, length, take, get_or, refl, sym, ap, subst, arith}
use Rattle.std.specs.List.{AllByRecursion}
use Rattle.std.proofs.lemmas.Bool.{leb-true}
use Rattle.std.proofs.lemmas.List.{length-take, take_all, take_more}
use Rattle.au_base.specs.declared.numbers.Stamp.{Stamp}
use Rattle.au_entries.specs.declared.change.Change.{Change}
use Rattle.au_entries.specs.declared.trail_record.Record.{Record}
use Rattle.rec_codec.specs.Changes.{IsChangeSpellable, change}
use Rattle.rec_codec.specs.Frames.{body}
use Rattle.rec_codec.specs.Images.{WritesJoin, Written, Wrote}
use Rattle.rec_parts.specs.Parts.{stamp}
use Rattle.rec_codec.specs.Records.{trail_record}

length_taken : {Y : Type 0} (ys : List Y) (n : ℕ) → length (take n ys) ≤ n
length_taken ys n = omega (arith, length-take n ys)

pub one_at : {X : Type 0} (P : X → Type 0) (xs : List X) (i : ℕ) (x : X) → i < length xs → x ≡ get_or xs i x → AllByRecursion P xs → P x
one_at P [] i x within is all = absurd (omega (arith, within))
one_at P (y ∷ xs) zero x within is all = subst P (sym is) all.0
one_at P (y ∷ xs) (suc i) x within is all = one_at P xs i x (omega (arith, within)) is all.1

one_further : {X : Type 0} (xs : List X) (i : ℕ) (x : X) → i < length xs → x ≡ get_or xs i x → take i xs ++ x ∷ [] ≡ take (i + 1) xs
one_further {X} xs i x within is = ap (λ (y : X). take i xs ++ y ∷ []) is ∙ sym (take_more xs i x within)

pub one_change : (laws : WritesJoin) (changes : List Change) (a b c : Written) (i : ℕ) (x : Change) → i < length changes → x ≡ get_or changes i x → Wrote a b (take i changes) [] → Wrote b c (x ∷ []) [] → Wrote a c (take (i + 1) changes) []
one_change laws changes a b c i x within is before here =
    subst (λ (cs : List Change). Wrote a c cs []) (one_further changes i x within is) (laws.both a b c (take i changes) (x ∷ []) [] [] before here)

pub one_record : (laws : WritesJoin) (trail : List Record) (a b c : Written) (i : ℕ) (x : Record) → i < length trail → x ≡ get_or trail i x → Wrote a b [] (take i trail) → Wrote b c [] (x ∷ []) → Wrote a c [] (take (i + 1) trail)
one_record laws trail a b c i x within is before here =
    subst (λ (rs : List Record). Wrote a c [] rs) (one_further trail i x within is) (laws.both a b c [] [] (take i trail) (x ∷ []) before here)

pub change_left : (changes : List Change) (a b : Written) (i : ℕ) → i < length changes → length changes ≤ a.changes → Wrote a b (take i changes) [] → 0 < b.changes
change_left changes a b i within few before = let taken = length_taken changes i in omega (arith, within, few, before.changes_left, taken)

pub record_left : (trail : List Record) (a b : Written) (i : ℕ) → i < length trail → length trail ≤ a.records → Wrote a b [] (take i trail) → 0 < b.records
record_left trail a b i within few before = let taken = length_taken trail i in omega (arith, within, few, before.records_left, taken)

pub no_change : (a b : Written) (records : List Record) → a.changes ≡ 0 → Wrote a b [] records → b.changes ≡ 0
no_change a b records none wrote = omega (arith, none, wrote.changes_left)

pub all_changes : (changes : List Change) (a b : Written) (i : ℕ) → length changes ≤ i → Wrote a b (take i changes) [] → Wrote a b changes []
all_changes changes a b i past wrote = subst (λ (cs : List Change). Wrote a b cs []) (take_all i changes past) wrote

pub all_records : (trail : List Record) (a b : Written) (i : ℕ) → length trail ≤ i → Wrote a b [] (take i trail) → Wrote a b [] trail
all_records trail a b i past wrote = subst (λ (rs : List Record). Wrote a b [] rs) (take_all i trail past) wrote

-- what an image that can be spelled is made of
pub last_fits : (last : Stamp) (changes : List Change) (records : List Record) → body.IsSpellable (last, (changes, records)) → last.0 ≤ 253_402_300_799_999_999
unfolding body stamp
last_fits last changes records h = leb-true last.0 253_402_300_799_999_999 h.0.1

pub changes_spelled : (last : Stamp) (changes : List Change) (records : List Record) → body.IsSpellable (last, (changes, records)) → AllByRecursion IsChangeSpellable changes
unfolding body change
changes_spelled last changes records h = h.1.0.1

pub records_spelled : (last : Stamp) (changes : List Change) (records : List Record) → body.IsSpellable (last, (changes, records)) → AllByRecursion trail_record.IsSpellable records
unfolding body
records_spelled last changes records h = h.1.1.1

-- after all changes none is to come, and the records are
pub changes_done : (a b : Written) (changes : List Change) (count : ℕ) → a.changes ≡ count → count ≡ length changes → Wrote a b changes [] → b.changes ≡ 0
changes_done a b changes count told is wrote = omega (arith, told, is, wrote.changes_left)

pub records_wait : (a b : Written) (changes : List Change) (records : List Record) (count : ℕ) → a.records ≡ count → count ≡ length records → Wrote a b changes [] → length records ≤ b.records
records_wait a b changes records count told is wrote = omega (arith, told, is, wrote.records_left)

pub records_done : (a b c : Written) (changes : List Change) (records : List Record) (count : ℕ) → a.records ≡ count → count ≡ length records → Wrote a b changes [] → Wrote b c [] records → c.records ≡ 0
records_done a b c changes records count told is one two = omega (arith, told, is, one.records_left, two.records_left)
