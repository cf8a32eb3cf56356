-- Keys that two rows would have.
use Rattle.std.proofs.Common.{◌≡◌, ◌≢◌, ◌∙◌, inl, inr, ℕ, ◌<◌, ◌+◌, Bool, true, false, not, List, [], ◌∷◌, ◌++◌, append_assoc, drop, get_or, length, map, refl, sym, ap}
use Rattle.std.specs.List.{AllByRecursion, Contains}
use Rattle.std.proofs.lemmas.List.{drop_more}
use Rattle.std.specs.Prelude.{IsTrue, None, Some}
use Rattle.std.specs.BTreeSet.{contains}
use Rattle.std.specs.Ordering.{nat_cmp}
use Rattle.au_base.specs.declared.cell.Cell.{Cell}
use Rattle.au_base.specs.declared.numbers.RowNo.{RowNo}
use Rattle.au_base.specs.declared.table.TableName.{TableName}
use Rattle.au_base.specs.Sameness.{same_table}
use Rattle.au_rows.specs.Held.{HasKey}
use Rattle.au_change.specs.declared.clashes.Keyed.{Keyed}
use Rattle.au_change.specs.declared.keys.Part.{Part}
use Rattle.au_change.specs.Inside.{IsKeyedTable, IsSomeStood, IsStanding, IsStood, all_parts, has_number, key_parts, new_key, repeats, seen_in}
use Rattle.au_txn.specs.declared.change.RowChange.{RowChange}
use Rattle.au_txn.specs.Keys.{AreDoubled, Clashes, KeysDiffer}
use Rattle.au_txn.specs.Rows.{Row, row_at}
use Rattle.au_txn.specs.Transactions.{IsUnderOther, laid_over, names_row, rows_differ}
use Rattle.au_change.proofs.Members.{all_at}
use Rattle.au_change.proofs.Twins.{has_key, key_has, named_is, twice, twins}

pub keys_same : (places : List ℕ) (table : TableName) (rows : List Row) (m n : RowNo) (key : List Cell) → places ≢ [] → KeysDiffer places table rows
    → HasKey places key (row_at table m rows) → HasKey places key (row_at table n rows) → m ≡ n
keys_same [] table rows m n key some differ one other = absurd (some refl)
keys_same (place ∷ places) table rows m n key some differ one other = differ m n key one other

not_true : (b : Bool) → not b ≡ true → b ≡ false
not_true true is = absurd (let e : false ≡ true = is in cc)
not_true false is = refl

not_not : (b : Bool) → not (not b) ≡ b
not_not true = refl
not_not false = refl

-- the one row under the key tells of all
pub standing_told : (keyed : Keyed) (row other : RowNo) (key : List Cell) (found : Bool) → IsKeyedTable keyed → IsUnderOther keyed.places.now key keyed.table.now (seen_in keyed) row other
    → found ≡ contains nat_cmp keyed.numbers.now other.0
    → (IsTrue (not found) → IsStanding keyed row key) × (IsStanding keyed row key → IsTrue (not found))
standing_told keyed row other key found is under told = (
  (λ no. (other, under, sym told ∙ not_true found no)),
  (λ standing.
      let same = keys_same keyed.places.now keyed.table.now (seen_in keyed) standing.0 other key is.keyed_is is.seen standing.1.1 under.1 in
      ap not (told ∙ (sym (ap (λ (n : RowNo). contains nat_cmp keyed.numbers.now n.0) same) ∙ standing.2))),
)

-- a change that makes no key stands at no row
pub none_stood : (keyed : Keyed) (change : RowChange) → None ≡ new_key keyed.places.now change → ¬ IsStood keyed change
none_stood keyed change none stood = absurd (let e : None ≡ Some stood.0 = none ∙ stood.1 in cc)

-- ---- whether two rows would have one key

abbrev pub after : Keyed → List RowChange → List Row
after keyed changes = laid_over (seen_in keyed) changes

module _ (keyed : Keyed) (changes : List RowChange) (is : IsKeyedTable keyed)
    (tables : (x y : TableName) → x ≡ y → same_table x y ≡ true)
    (numbers : (row : RowNo) → contains nat_cmp keyed.numbers.now row.0 ≡ has_number row changes)
    (all : AllByRecursion (λ (c : RowChange). c.table ≡ keyed.table.now) changes)
    (differ : rows_differ changes ≡ true)
    (broken : Clashes keyed.places.now keyed.table.now (seen_in keyed) changes → AreDoubled keyed.places.now keyed.table.now (after keyed changes))
    (traced : AreDoubled keyed.places.now keyed.table.now (after keyed changes) → Clashes keyed.places.now keyed.table.now (seen_in keyed) changes) where
  told_of : (row : RowNo) → names_row keyed.table.now row changes ≡ contains nat_cmp keyed.numbers.now row.0
  told_of row = named_is tables keyed.table.now row changes all ∙ sym (numbers row)

  in_table : (c : RowChange) → Contains changes c → c.table ≡ keyed.table.now
  in_table c has = all_at (λ (x : RowChange). x.table ≡ keyed.table.now) changes c all has

  pub stood_doubles : IsSomeStood keyed changes → AreDoubled keyed.places.now keyed.table.now (after keyed changes)
  stood_doubles (c, has, stood) = broken (
    c,
    has,
    in_table c has,
    stood.0,
    key_has keyed.places.now stood.0 c.new stood.1,
    (stood.2.0, stood.2.1.0, inl (told_of stood.2.0 ∙ stood.2.2, stood.2.1.1)),
  )

  pub always : IsSomeStood keyed changes → (IsTrue true → AreDoubled keyed.places.now keyed.table.now (after keyed changes)) × (AreDoubled keyed.places.now keyed.table.now (after keyed changes) → IsTrue true)
  always stood = ((λ yes. stood_doubles stood), (λ doubled. refl))

  module _ (same : List Part → List Part → Bool) (exact : (p q : List Part) → same p q ≡ true → p ≡ q) (itself : (p : List Part) → same p p ≡ true) where
    pub twice_doubles : repeats same (all_parts keyed.places.now changes) ≡ true → AreDoubled keyed.places.now keyed.table.now (after keyed changes)
    twice_doubles twice_is =
        let t = twins same exact keyed.places.now tables keyed.table.now changes all differ twice_is in
        broken (
          t.0,
          t.2,
          in_table t.0 t.2,
          t.5.0,
          key_has keyed.places.now t.5.0 t.0.new t.5.1,
          (t.1.row, (λ e. t.4 (sym e)), inr (t.1, t.3, in_table t.1 t.3, refl, key_has keyed.places.now t.5.0 t.1.new t.5.2)),
        )

    clash_twice : ((c : RowChange) → Contains changes c → ¬ IsStood keyed c) → Clashes keyed.places.now keyed.table.now (seen_in keyed) changes → repeats same (all_parts keyed.places.now changes) ≡ true
    clash_twice none (c, has, of_table, key, made, (other, apart, inl kept)) =
        absurd (none c has (key, has_key keyed.places.now key c.new made, (other, (apart, kept.1), sym (told_of other) ∙ kept.0)))
    clash_twice none (c, has, of_table, key, made, (other, apart, inr (twin, has_twin, of_twin, at, twin_made))) =
        twice same exact keyed.places.now itself changes c twin key has has_twin (λ e. apart (sym (e ∙ at)))
        (has_key keyed.places.now key c.new made) (has_key keyed.places.now key twin.new twin_made)

    pub told_by : (distinct : Bool) → ((c : RowChange) → Contains changes c → ¬ IsStood keyed c) → distinct ≡ not (repeats same (all_parts keyed.places.now changes))
        → (IsTrue (not distinct) → AreDoubled keyed.places.now keyed.table.now (after keyed changes)) × (AreDoubled keyed.places.now keyed.table.now (after keyed changes) → IsTrue (not distinct))
    told_by distinct none told = (
      (λ no. twice_doubles (sym (not_not (repeats same (all_parts keyed.places.now changes))) ∙ sym (ap not told) ∙ no)),
      (λ doubled. ap not told ∙ not_not (repeats same (all_parts keyed.places.now changes)) ∙ clash_twice none (traced doubled)),
    )

-- ---- keys one by one

pub next_keys : {V : Type 0} (f : V → List Part) (places : List ℕ) (changes : List RowChange) (i : ℕ) (d : RowChange) (keys news : List V) (all : List (List Part)) → i < length changes
    → map f news ≡ map f keys ++ key_parts (new_key places (get_or changes i d)) → map f keys ++ all_parts places (drop i changes) ≡ all
    → map f news ++ all_parts places (drop (i + 1) changes) ≡ all
next_keys f places changes i d keys news all within added so_far =
    ap (λ (ks : List (List Part)). ks ++ all_parts places (drop (i + 1) changes)) added
    ∙ append_assoc (map f keys) (key_parts (new_key places (get_or changes i d))) (all_parts places (drop (i + 1) changes))
    ∙ sym (ap (λ (cs : List RowChange). map f keys ++ all_parts places cs) (drop_more changes i d within))
    ∙ so_far
