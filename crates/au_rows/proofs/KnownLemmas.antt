-- Tables whose names the index knows.
use Rattle.std.proofs.Common.{◌≡◌, ◌≢◌, ◌∙◌, ℕ, zero, suc, Bool, true, false, cond, is_some, ◌||◌, List, [], ◌∷◌, length, get_or, set, refl, ap, sym, subst, nat_eq, arith, Option, None, Some}
use Rattle.std.specs.Prelude.{◌==◌}
use Rattle.std.specs.List.{list_any}
use Rattle.std.proofs.lemmas.Grind.{common_steps}
use Rattle.std.proofs.lemmas.List.{get_or-set_other}
use Rattle.std.proofs.lemmas.List.Sums.{position_or_len_is}
use Rattle.au_base.specs.declared.table.TableName.{TableName}
use Rattle.au_rows.specs.declared.table.Table.{Table}
use Rattle.au_rows.specs.Hash.{name_hash}
use Rattle.au_rows.specs.Held.{is_named, number_of}
use Rattle.au_rows.specs.Kept.{AreKnown, has_number}
use Rattle.au_rows.proofs.ApartLemmas.{Stands, is_new, is_old, named-one, stands, with_new}

some-of : (o : Option ℕ) → o ≡ None → is_some o ≡ true → ⊥
some-of o none some = let wrong : false ≡ true = ap is_some (sym none) ∙ some in cc

-- a name that the index doesn't know is no table's
pub unknown : (name : TableName) (tables : List (Option Table)) (numbers : ℕ → Option ℕ) → AreKnown tables numbers → numbers (name_hash name) ≡ None → length tables ≡ number_of name tables
unknown name tables numbers known none =
    sym (position_or_len_is (is_named name) tables (length tables) None (omega arith) (λ k lt. go k (get_or tables k None) refl) (λ lt. absurd (omega arith)))
  where
    other : (k : ℕ) (table : Table) → get_or tables k None ≡ Some table → (b : Bool) → is_named name (Some table) ≡ b → b ≡ false
    other k table is false e = refl
    other k table is true e = absurd (some-of (numbers (name_hash name)) none (subst (λ (n : TableName). is_some (numbers (name_hash n)) ≡ true) (sym (named-one name table e)) (known k table is)))

    go : (k : ℕ) (o : Option Table) → get_or tables k None ≡ o → is_named name (get_or tables k None) ≡ false
    go k None e = ap (is_named name) e
    go k (Some table) e = ap (is_named name) e ∙ other k table e (is_named name (Some table)) refl

own-number : (n : ℕ) → nat_eq n n ≡ true
own-number n = grind (arith, common_steps)

-- names stay known where there is one more table
pub known-open : (tables : List (Option Table)) (new : Table) (old numbers : ℕ → Option ℕ) (number : ℕ) → AreKnown tables old
    → ((hash : ℕ) → numbers hash ≡ cond (nat_eq (name_hash new.name) hash) (Some number) (old hash)) → AreKnown (with_new new tables) numbers
known-open tables new old numbers number known is at table there = ap is_some (is (name_hash table.name)) ∙ go (nat_eq (name_hash new.name) (name_hash table.name)) refl (stands new tables at)
  where
    go : (b : Bool) → nat_eq (name_hash new.name) (name_hash table.name) ≡ b → Stands new tables at → is_some (cond b (Some number) (old (name_hash table.name))) ≡ true
    go true e s = refl
    go false e (is_old same) = known at table (sym same ∙ there)
    go false e (is_new place here) =
        let one : new ≡ table = cc in
        let wrong : true ≡ false = sym (own-number (name_hash new.name)) ∙ (ap (λ (t : Table). nat_eq (name_hash new.name) (name_hash t.name)) one ∙ e) in
        absurd (cc)

-- and where one is gone
pub known-gone : (tables : List (Option Table)) (gone : ℕ) (numbers : ℕ → Option ℕ) → AreKnown tables numbers → AreKnown (set tables gone None) numbers
known-gone tables gone numbers known at table there = known at table (was (gone == at) refl)
  where
    vacant : (xs : List (Option Table)) (n : ℕ) → get_or (set xs n None) n None ≡ None
    vacant [] n = refl
    vacant (x ∷ xs) zero = refl
    vacant (x ∷ xs) (suc n) = vacant xs n

    was : (b : Bool) → (gone == at) ≡ b → get_or tables at None ≡ Some table
    was true e =
        let same : gone ≡ at = grind (arith, common_steps) in
        let none : get_or (set tables gone None) at None ≡ None = subst (λ (m : ℕ). get_or (set tables gone None) m None ≡ None) same (vacant tables gone) in
        absurd (let wrong : None ≡ Some table = sym none ∙ there in cc)
    was false e =
        let other : at ≢ gone = λ same. (let here : (gone == at) ≡ true = grind (arith, common_steps) in let wrong : true ≡ false = sym here ∙ e in cc) in
        sym (get_or-set_other tables gone at None None other) ∙ there

pub known-same : (tables : List (Option Table)) (old numbers : ℕ → Option ℕ) → ((hash : ℕ) → numbers hash ≡ old hash) → AreKnown tables old → AreKnown tables numbers
known-same tables old numbers same known at table there = ap is_some (same (name_hash table.name)) ∙ known at table there

any-none : (hash : ℕ) (tables : List (Option Table)) (at : ℕ) (table : Table) → list_any (has_number hash) tables ≡ false → get_or tables at None ≡ Some table → (name_hash table.name == hash) ≡ false
any-none hash [] at table none there = absurd (let wrong : None ≡ Some table = there in cc)
any-none hash (t ∷ ts) zero table none there = first (has_number hash t) refl none
  where
    first : (b : Bool) → has_number hash t ≡ b → (b || list_any (has_number hash) ts) ≡ false → (name_hash table.name == hash) ≡ false
    first true e is = absurd (let wrong : true ≡ false = is in cc)
    first false e is = ap (has_number hash) (sym there) ∙ e
any-none hash (t ∷ ts) (suc at) table none there = any-none hash ts at table (rest (has_number hash t) none) there
  where
    rest : (b : Bool) → (b || list_any (has_number hash) ts) ≡ false → list_any (has_number hash) ts ≡ false
    rest true is = absurd (let wrong : true ≡ false = is in cc)
    rest false is = is

-- and where a number is forgotten that no name has
pub known-less : (tables : List (Option Table)) (hash : ℕ) (old numbers : ℕ → Option ℕ) → list_any (has_number hash) tables ≡ false
    → ((other : ℕ) → numbers other ≡ cond (nat_eq hash other) None (old other)) → AreKnown tables old → AreKnown tables numbers
known-less tables hash old numbers none is known at table there =
    ap is_some (is (name_hash table.name)) ∙ go (nat_eq hash (name_hash table.name)) refl (any-none hash tables at table none there)
  where
    go : (b : Bool) → nat_eq hash (name_hash table.name) ≡ b → (name_hash table.name == hash) ≡ false → is_some (cond b None (old (name_hash table.name))) ≡ true
    go false e other = known at table there
    go true e other =
        let same : hash ≡ name_hash table.name = grind (arith, common_steps) in
        let here : (name_hash table.name == hash) ≡ true = grind (arith, common_steps) in
        absurd (let wrong : true ≡ false = sym here ∙ other in cc)
