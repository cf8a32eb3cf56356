-- Tables whose names differ.
use Rattle.std.proofs.Common.{◌≡◌, ◌≢◌, ◌∙◌, ℕ, zero, suc, ◌+◌, ◌≤◌, ◌<◌, Bool, true, false, List, [], ◌∷◌, length, get_or, set, refl, ap, ap₂, sym, subst, arith, Option, None, Some}
use Rattle.std.specs.Prelude.{◌==◌}
use Rattle.std.specs.List.{position_or_len}
use Rattle.std.proofs.lemmas.Grind.{common_steps}
use Rattle.std.proofs.lemmas.List.{get_or-set_other}
use Rattle.std.proofs.lemmas.List.Sums.{position_or_len_is}
use Rattle.std.proofs.lemmas.Slice.Eq.{bytes_eq-Decides}
use Rattle.au_base.specs.declared.table.TableName.{TableName}
use Rattle.au_rows.specs.declared.table.Table.{Table}
use Rattle.au_rows.specs.Edits.{edited}
use Rattle.au_rows.specs.Held.{is_named, is_vacant, number_of}
use Rattle.au_rows.specs.Kept.{AreApart}
use Rattle.au_rows.proofs.AllLemmas.{no-more}

-- a place at which the name stands is the first one
pub number-is : (name : TableName) (tables : List (Option Table)) (n : ℕ) → AreApart tables → n < length tables → is_named name (get_or tables n None) ≡ true → number_of name tables ≡ n
number-is name tables n apart within named =
    position_or_len_is (is_named name) tables n None (omega arith) (λ k lt. before k lt (is_named name (get_or tables k None)) refl) (λ lt. named)
  where
    before : (k : ℕ) → k < n → (b : Bool) → is_named name (get_or tables k None) ≡ b → is_named name (get_or tables k None) ≡ false
    before k lt false e = e
    before k lt true e = let same = apart name k n e named in absurd (omega arith)

-- a table has one name
pub named-one : (name : TableName) (table : Table) → is_named name (Some table) ≡ true → name ≡ table.name
named-one name table h =
    let owner : table.name.owner ≡ name.owner = (bytes_eq-Decides table.name.owner name.owner).0 (grind arith) in
    let own : table.name.name ≡ name.name = (bytes_eq-Decides table.name.name name.name).0 (grind arith) in
    ap₂ (λ (o n : List ℕ). let t : TableName = record { owner = o; name = n } in t) (sym owner) (sym own)

-- a name that stands somewhere is that of a table
named-within : (name : TableName) (tables : List (Option Table)) (n : ℕ) → is_named name (get_or tables n None) ≡ true → number_of name tables < length tables
named-within name [] n h = absurd (cc)
named-within name (t ∷ ts) zero h = let here : number_of name (t ∷ ts) ≡ 0 = rw h refl in omega arith
named-within name (t ∷ ts) (suc n) h = step (is_named name t) refl (named-within name ts n h)
  where
    step : (b : Bool) → is_named name t ≡ b → number_of name ts < length ts → number_of name (t ∷ ts) < length (t ∷ ts)
    step true e rest = let here : number_of name (t ∷ ts) ≡ 0 = rw e refl in omega arith
    step false e rest = let here : number_of name (t ∷ ts) ≡ 1 + number_of name ts = rw e refl in omega arith

-- what stands at a place once there is one more table
abbrev pub with_new : Table → List (Option Table) → List (Option Table)
with_new new tables = edited is_vacant is_vacant tables (Some new ∷ [])

pub data Stands (new : Table) (tables : List (Option Table)) (n : ℕ) : Type 0 where
  is_new : n ≡ position_or_len is_vacant tables → get_or (with_new new tables) n None ≡ Some new → Stands new tables n
  is_old : get_or (with_new new tables) n None ≡ get_or tables n None → Stands new tables n

pub stands : (new : Table) (tables : List (Option Table)) (n : ℕ) → Stands new tables n
stands new [] zero = is_new refl refl
stands new [] (suc n) = is_old refl
stands new (None ∷ ts) zero = is_new refl refl
stands new (None ∷ ts) (suc n) = is_old refl
stands new (Some t ∷ ts) zero = is_old refl
stands new (Some t ∷ ts) (suc n) = go (stands new ts n)
  where
    go : Stands new ts n → Stands new (Some t ∷ ts) (suc n)
    go (is_new at is) = is_new (omega arith) is
    go (is_old same) = is_old same

-- names still differ once there is one more table, of a new name
pub apart-open : (tables : List (Option Table)) (new : Table) → AreApart tables → length tables ≤ number_of new.name tables → AreApart (with_new new tables)
apart-open tables new apart none name t u here there = go (stands new tables t) (stands new tables u)
  where
    taken : (n m : ℕ) → is_named name (get_or (with_new new tables) n None) ≡ true → get_or (with_new new tables) n None ≡ Some new
        → is_named name (get_or (with_new new tables) m None) ≡ true → get_or (with_new new tables) m None ≡ get_or tables m None → ⊥
    taken n m at_n is at_m same =
        let one : name ≡ new.name = named-one name new (ap (is_named name) (sym is) ∙ at_n) in
        let old : is_named name (get_or tables m None) ≡ true = ap (is_named name) (sym same) ∙ at_m in
        let within = named-within new.name tables m (subst (λ (x : TableName). is_named x (get_or tables m None) ≡ true) one old) in
        omega arith

    go : Stands new tables t → Stands new tables u → t ≡ u
    go (is_new at is) (is_new at' is') = at ∙ sym at'
    go (is_new at is) (is_old same) = absurd (taken t u here is there same)
    go (is_old same) (is_new at is) = absurd (taken u t there is here same)
    go (is_old same) (is_old same') = apart name t u (ap (is_named name) (sym same) ∙ here) (ap (is_named name) (sym same') ∙ there)

-- and once a table is gone
pub apart-gone : (tables : List (Option Table)) (gone : ℕ) → AreApart tables → AreApart (set tables gone None)
apart-gone tables gone apart name t u here there = apart name t u (was t here) (was u there)
  where
    vacant : (xs : List (Option Table)) (n : ℕ) → is_named name (get_or (set xs n None) n None) ≡ false
    vacant [] n = refl
    vacant (x ∷ xs) zero = refl
    vacant (x ∷ xs) (suc n) = vacant xs n

    was : (n : ℕ) → is_named name (get_or (set tables gone None) n None) ≡ true → is_named name (get_or tables n None) ≡ true
    was n h = go (gone == n) refl
      where
        go : (b : Bool) → (gone == n) ≡ b → is_named name (get_or tables n None) ≡ true
        go true e =
            let same : gone ≡ n = grind (arith, common_steps) in
            let none : is_named name (get_or (set tables gone None) n None) ≡ false = subst (λ (m : ℕ). is_named name (get_or (set tables gone None) m None) ≡ false) same (vacant tables gone) in
            absurd (no-more (is_named name (get_or (set tables gone None) n None)) h none)
        go false e =
            let other : n ≢ gone = λ same. let here : (gone == n) ≡ true = grind (arith, common_steps) in no-more (gone == n) here e in
            ap (is_named name) (sym (get_or-set_other tables gone n None None other)) ∙ h
