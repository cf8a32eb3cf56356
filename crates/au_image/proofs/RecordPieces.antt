-- Records that stay, counted and written one after another.
use Rattle.std.proofs.Common.{◌≡◌, ◌∙◌, ℕ, zero, suc, ◌+◌, ◌≤◌, ◌<◌, Bool, true, false, cond, List, [], ◌∷◌, ◌++◌, length, take, get_or, sym, ap, subst, arith, append_assoc}
use Rattle.std.specs.List.{AllByRecursion, filter}
use Rattle.std.proofs.lemmas.List.{length-append, take_all}
use Rattle.std.proofs.lemmas.List.Elements.{filter-append, filter_more}
use Rattle.au_entries.specs.declared.trail_record.Record.{Record}
use Rattle.rec_codec.specs.Images.{WritesJoin, Written, Wrote}
use Rattle.rec_codec.specs.Records.{trail_record}
use Rattle.au_image.proofs.Pieces.{all_behind, all_front}

-- what a test says of one record
pub one_stays : (test : Record → Bool) (x : Record) → test x ≡ true → filter test (x ∷ []) ≡ x ∷ []
one_stays test x is = ap (λ (b : Bool). cond b (x ∷ []) []) is

pub one_goes : (test : Record → Bool) (x : Record) → test x ≡ false → filter test (x ∷ []) ≡ []
one_goes test x is = ap (λ (b : Bool). cond b (x ∷ []) []) is

pub one_left : (test : Record → Bool) (x : Record) (left : ℕ) → test x ≡ true → length (filter test (x ∷ [])) ≤ left → 0 < left
one_left test x left is few = let one : length (filter test (x ∷ [])) ≡ 1 = ap length (one_stays test x is) in omega (arith, one, few)

-- one record more
one_more : (test : Record → Bool) (trail : List Record) (i : ℕ) (x : Record) → i < length trail → x ≡ get_or trail i x
    → filter test (take (i + 1) trail) ≡ filter test (take i trail) ++ filter test (x ∷ [])
one_more test trail i x within is =
    filter_more test trail i x within ∙ ap (λ (y : Record). filter test (take i trail) ++ cond (test y) (y ∷ []) []) (sym is)

-- what stands behind the records so far: the next one, where it stays, and more
behind_it : (test : Record → Bool) (trail : List Record) (i : ℕ) (x : Record) → i < length trail → x ≡ get_or trail i x
    → (rest : List Record) × (filter test trail ≡ filter test (take i trail) ++ (filter test (x ∷ []) ++ rest))
behind_it test [] i x within is = absurd (omega arith)
behind_it test (t ∷ trail) zero x within is =
    (filter test trail, filter-append test (t ∷ []) trail ∙ ap (λ (y : Record). filter test (y ∷ []) ++ filter test trail) (sym is))
behind_it test (t ∷ trail) (suc i) x within is =
    let more = behind_it test trail i x (omega arith) is in
    let behind : List Record = filter test (x ∷ []) ++ more.0 in (
      more.0,
      filter-append test (t ∷ []) trail
          ∙ (ap (λ (rest : List Record). filter test (t ∷ []) ++ rest) more.1
          ∙ (sym (append_assoc (filter test (t ∷ [])) (filter test (take i trail)) behind)
          ∙ ap (λ (front : List Record). front ++ behind) (sym (filter-append test (t ∷ []) (take i trail))))),
    )

pub next_left : (test : Record → Bool) (trail : List Record) (a b : Written) (i : ℕ) (x : Record) → i < length trail → x ≡ get_or trail i x
    → length (filter test trail) ≤ a.records → Wrote a b [] (filter test (take i trail)) → length (filter test (x ∷ [])) ≤ b.records
next_left test trail a b i x within is few wrote =
    let behind = behind_it test trail i x within is in
    let all = ap length behind.1 in
    let one = length-append (filter test (take i trail)) (filter test (x ∷ []) ++ behind.0) in
    let two = length-append (filter test (x ∷ [])) behind.0 in
    let left = wrote.records_left in
    omega arith

pub next_spelled : (test : Record → Bool) (trail : List Record) (i : ℕ) (x : Record) → i < length trail → x ≡ get_or trail i x
    → AllByRecursion trail_record.IsSpellable (filter test trail) → AllByRecursion trail_record.IsSpellable (filter test (x ∷ []))
next_spelled test trail i x within is all =
    let behind = behind_it test trail i x within is in
    let rest = all_behind trail_record.IsSpellable (filter test (take i trail)) (filter test (x ∷ []) ++ behind.0) (subst (AllByRecursion trail_record.IsSpellable) behind.1 all) in
    all_front trail_record.IsSpellable (filter test (x ∷ [])) behind.0 rest

pub next_written : (laws : WritesJoin) (test : Record → Bool) (trail : List Record) (a b c : Written) (i : ℕ) (x : Record) → i < length trail → x ≡ get_or trail i x
    → Wrote a b [] (filter test (take i trail)) → Wrote b c [] (filter test (x ∷ [])) → Wrote a c [] (filter test (take (i + 1) trail))
next_written laws test trail a b c i x within is before here =
    subst (λ (rs : List Record). Wrote a c [] rs) (sym (one_more test trail i x within is))
    (laws.both a b c [] [] (filter test (take i trail)) (filter test (x ∷ [])) before here)

pub all_that_stay : (test : Record → Bool) (trail : List Record) (a b : Written) (i : ℕ) → length trail ≤ i → Wrote a b [] (filter test (take i trail)) → Wrote a b [] (filter test trail)
all_that_stay test trail a b i past wrote = subst (λ (rs : List Record). Wrote a b [] (filter test rs)) (take_all i trail past) wrote

-- two parts of the records
pub first_fits : (xs ys : List Record) (left : ℕ) → length (xs ++ ys) ≤ left → length xs ≤ left
first_fits xs ys left few = let both = length-append xs ys in omega arith

pub second_fits : (xs ys : List Record) (a b : Written) → length (xs ++ ys) ≤ a.records → Wrote a b [] xs → length ys ≤ b.records
second_fits xs ys a b few wrote =
    let both = length-append xs ys in
    let left = wrote.records_left in
    omega arith

pub both_records : (laws : WritesJoin) (a b c : Written) (xs ys : List Record) → Wrote a b [] xs → Wrote b c [] ys → Wrote a c [] (xs ++ ys)
both_records laws a b c xs ys one two = laws.both a b c [] [] xs ys one two
