-- What is listed of rows, one name after another, is what a transaction leaves of them.
use Rattle.std.proofs.Common.{◌≡◌, ◌≢◌, ◌<◌, ◌≤◌, ◌+◌, ◌∙◌, ◌⊎◌, inl, inr, ℕ, zero, suc, Bool, true, false, not, cond, ◌&&◌, ◌||◌, List, [], ◌∷◌, ◌++◌, get_or, length, map, take, refl, sym, ap, subst, add-one, arith, Option, None, Some}
use Rattle.std.specs.Prelude.{◌==◌, nat_lt}
use Rattle.std.specs.List.{AllByRecursion, Contains, list_all}
use Rattle.std.specs.Cmp.{IsStrictWeakOrder}
use Rattle.std.specs.List.Sorted.{IsSortedBy}
use Rattle.std.proofs.lemmas.List.Sorted.{sorted_far}
use Rattle.au_base.specs.OrderLaws.{fields_irreflexive}
use Rattle.std.specs.Option.{option_and_then, option_map}
use Rattle.std.specs.Prelude.{Result, IfOk}
use Rattle.std.proofs.lemmas.Result.{IfOk-weaker}
use Rattle.std.proofs.lemmas.Bool.{and_parts, and_from}
use Rattle.std.proofs.Math.Seq.{take-suc}
use Rattle.std.proofs.lemmas.Bool.Decides.{nat_tests}
use Rattle.std.proofs.lemmas.Grind.{common_steps}
use Rattle.au_base.specs.declared.cell.Cell.{Cell}
use Rattle.au_base.specs.declared.numbers.ClientNo.{ClientNo}
use Rattle.au_base.specs.declared.numbers.RowNo.{RowNo}
use Rattle.au_base.specs.declared.table.TableName.{TableName}
use Rattle.au_base.specs.Sameness.{same_table}
use Rattle.au_rows.specs.Held.{Contents, Held, held_from, next_of, number_of, or_else, row_at as kept_at, seen_at, seen_by}
use Rattle.au_txn.specs.declared.change.RowChange.{RowChange}
use Rattle.au_txn.specs.declared.finals.Final.{Final}
use Rattle.au_txn.specs.declared.row_name.RowName.{RowName}
use Rattle.au_txn.specs.Finals.{AreFinals, final_before}
use Rattle.au_txn.specs.Inside.{Ties, committed, held_in_order}
use Rattle.au_txn.specs.Listing.{AreListed, IsAdded, final_name, final_of, is_one_name, name_before, name_of, names_rise}
use Rattle.au_txn.specs.Rows.{Row, place_of, row_at}
use Rattle.au_txn.specs.Transactions.{is_of_row, laid_over, names_row}
use Rattle.au_txn.proofs.HeldLemmas.{find-step, none-after, first-of, rest-of}
use Rattle.au_txn.proofs.Histories.{laid-untouched}
use Rattle.au_txn.proofs.Numbered.{contains-has, has-contains}
use Rattle.au_txn.proofs.Ordered.{Has, all_from, has-either, has-left, has-right, joined-ordered}
use Rattle.au_txn.proofs.RowOrder.{number-is, number-self, rows_apart, rows_transitive, same_table-is, same_table-self}
use Rattle.au_txn.proofs.Standing.{seen-is}

-- the cells of a row that is found, where it has the number
abbrev pub if_number : RowNo → RowNo × List Cell → Option (List Cell)
if_number n row = cond (row.0.0 == n.0) (Some row.1) None

-- the first row over the number before is the row itself, where it is seen
pub next-seen : (k : ℕ) (n after : RowNo) (c : ClientNo) → n.0 ≡ after.0 + 1 → (hs : List Held) → held_in_order hs ≡ true → option_and_then (if_number n) (next_of k after c hs) ≡ seen_at k n c hs
next-seen k n after c next [] o = refl
next-seen k n after c next (h ∷ hs) o =
    go (h.table == k) (nat_lt after.0 h.number.0) (h.number.0 == n.0) (seen_by c h) refl refl refl refl (next-seen k n after c next hs (rest-of h hs o))
    ∙ sym (ap (option_and_then (seen_by c)) (find-step k n h hs o))
  where
    none : (h.table == k) ≡ true → nat_lt after.0 h.number.0 ≡ true → kept_at k n hs ≡ None
    none t l = none-after k n h hs (from t l) (first-of h hs o)
      where
        from : (h.table == k) ≡ true → nat_lt after.0 h.number.0 ≡ true → held_from k n h ≡ true
        from t l = grind (arith, common_steps)

    below : (h.number.0 == n.0) ≡ true → nat_lt after.0 h.number.0 ≡ false → ⊥
    below e l = let same : h.number.0 ≡ n.0 = grind (arith, nat_tests) in let more : nat_lt after.0 h.number.0 ≡ true = grind (arith, nat_tests) in let wrong : true ≡ false = sym more ∙ l in cc

    go : (t l e : Bool) (s : Option (List Cell)) → (h.table == k) ≡ t → nat_lt after.0 h.number.0 ≡ l → (h.number.0 == n.0) ≡ e → seen_by c h ≡ s → option_and_then (if_number n) (next_of k after c hs) ≡ seen_at k n c hs
        → option_and_then (if_number n) (or_else (cond (t && l) (option_map (λ (cells : List Cell). let row : RowNo × List Cell = (h.number, cells) in row) s) None) (next_of k after c hs))
        ≡ option_and_then (seen_by c) (cond (t && e) (Some h) (kept_at k n hs))
    go false l e s f g i j rest = rest
    go true false true s f g i j rest = absurd (below i g)
    go true false false s f g i j rest = rest
    go true true true (Some cells) f g i j rest = ap (λ b. cond b (Some cells) None) i ∙ sym j
    go true true true None f g i j rest = rest ∙ (ap (option_and_then (seen_by c)) (none f g) ∙ sym j)
    go true true false (Some cells) f g i j rest = ap (λ b. cond b (Some cells) None) i ∙ sym (ap (option_and_then (seen_by c)) (none f g))
    go true true false None f g i j rest = rest

-- names in order
row_of : RowName → Row
row_of name = record { table = name.table; number = name.row; cells = [] }

name-is : (a b : RowName) → is_one_name a b ≡ true → a ≡ b
name-is a b is =
    let parts = and_parts (same_table a.table b.table) (a.row.0 == b.row.0) is in
    λ i. record { table = same_table-is a.table b.table parts.0 i; row = number-is a.row b.row parts.1 i }

name-trans : (a b c : RowName) → name_before a b ≡ true → name_before b c ≡ true → name_before a c ≡ true
unfolding row_of
name-trans a b c one two = rows_transitive (row_of a) (row_of b) (row_of c) one two

name-apart : (a b : RowName) → is_one_name b a ≡ false → (name_before b a ≡ true) ⊎ (name_before a b ≡ true)
unfolding row_of
name-apart a b other = rows_apart (row_of a) (row_of b) other

-- a name that isn't before another comes behind it, or is it
up : (a b c : RowName) → name_before b a ≡ false → name_before b c ≡ true → name_before a c ≡ true
up a b c least less = go (is_one_name b a) refl
  where
    go : (x : Bool) → is_one_name b a ≡ x → name_before a c ≡ true
    go true e = subst (λ (z : RowName). name_before z c ≡ true) (name-is b a e) less
    go false e = elim (name-apart a b e) [
      | inl wrong ↦ absurd (let both : true ≡ false = sym wrong ∙ least in cc)
      | inr before ↦ name-trans a b c before less
    ]

not-true : (b : Bool) → not b ≡ true → b ≡ false
not-true true is = absurd (let wrong : false ≡ true = is in cc)
not-true false is = refl

has-get : {X : Type 0} (xs : List X) (k : ℕ) (d : X) → k < length xs → Has xs (get_or xs k d)
has-get [] k d lt = absurd (omega arith)
has-get (x ∷ xs) zero d lt = inl refl
has-get (x ∷ xs) (suc k) d lt = inr (has-get xs k d (omega arith))

-- before a name that isn't repeated stand lesser names alone
pub rising-before : (names : List RowName) (at : ℕ) (d : RowName) → names_rise names ≡ true → at < length names
    → ((k : ℕ) → at ≡ k + 1 → is_one_name (get_or names k d) (get_or names at d) ≡ false) → (y : RowName) → Has (take at names) y → name_before y (get_or names at d) ≡ true
rising-before [] at d rise lt differ y has = absurd (omega arith)
rising-before (x ∷ xs) zero d rise lt differ y has = absurd has
rising-before (x ∷ xs) (suc zero) d rise lt differ y (inl same) =
    let parts = and_parts (list_all (λ later. not (name_before later x)) xs) (names_rise xs) rise in
    let least : name_before (get_or xs 0 d) x ≡ false = not-true (name_before (get_or xs 0 d) x) (all_from (λ later. not (name_before later x)) xs parts.0 (get_or xs 0 d) (has-get xs 0 d (omega arith))) in
    subst (λ (z : RowName). name_before z (get_or xs 0 d) ≡ true) same (elim (name-apart (get_or xs 0 d) x (differ 0 (omega arith))) [
      | inl before ↦ before
      | inr wrong ↦ absurd (let both : true ≡ false = sym wrong ∙ least in cc)
    ])
rising-before (x ∷ xs) (suc zero) d rise lt differ y (inr has) = absurd has
rising-before (x ∷ xs) (suc (suc k)) d rise lt differ y has = go has (rising-before xs (suc k) d parts.1 (omega arith) (λ j e. differ' j e))
  where
    parts : (list_all (λ later. not (name_before later x)) xs ≡ true) × (names_rise xs ≡ true)
    parts = and_parts (list_all (λ later. not (name_before later x)) xs) (names_rise xs) rise

    differ' : (j : ℕ) → suc k ≡ j + 1 → is_one_name (get_or xs j d) (get_or xs (suc k) d) ≡ false
    differ' j e = differ (suc j) (omega arith)

    first : (ys : List RowName) (e : RowName) → Has (take (suc k) ys) (get_or ys 0 e) ⊎ (ys ≡ [])
    first [] e = inr refl
    first (z ∷ zs) e = inl (inl refl)

    go : Has (x ∷ take (suc k) xs) y → ((z : RowName) → Has (take (suc k) xs) z → name_before z (get_or xs (suc k) d) ≡ true) → name_before y (get_or xs (suc k) d) ≡ true
    go (inr later) rest = rest y later
    go (inl same) rest = elim (first xs d) [
      | inl there ↦
          let least : name_before (get_or xs 0 d) x ≡ false = not-true (name_before (get_or xs 0 d) x) (all_from (λ later. not (name_before later x)) xs parts.0 (get_or xs 0 d) (has-get xs 0 d (omega arith))) in
          subst (λ (z : RowName). name_before z (get_or xs (suc k) d) ≡ true) same (up x (get_or xs 0 d) (get_or xs (suc k) d) least (rest (get_or xs 0 d) there))
      | inr none ↦ absurd (let long : length xs ≡ 0 = ap length none in omega arith)
    ]

-- a repeated name stands among those before it
pub repeated-there : (names : List RowName) (k : ℕ) (d : RowName) → k + 1 < length names → Has (take (k + 1) names) (get_or names k d)
repeated-there [] k d lt = absurd (omega arith)
repeated-there (x ∷ xs) zero d lt = inl refl
repeated-there (x ∷ xs) (suc k) d lt = subst (λ (m : ℕ). Has (take m (x ∷ xs)) (get_or xs k d)) (let e : suc (k + 1) ≡ suc k + 1 = omega arith in e) (inr (repeated-there xs k d (omega arith)))

module _ (now before : TableName → RowNo → Option (List Cell)) (done : List RowName) (name : RowName) (finals : List Final) (so_far : AreListed now before done finals) where
  grown-done : (x : RowName) → Contains (done ++ name ∷ []) x → Contains done x ⊎ (name ≡ x)
  grown-done x has = elim (has-either done (name ∷ []) x (contains-has (done ++ name ∷ []) x has)) [
    | inl old ↦ inl (has-contains done x old)
    | inr new ↦ elim new [ inl same ↦ inr same | inr none ↦ absurd none ]
  ]

  in-done : (x : RowName) → Contains done x → Contains (done ++ name ∷ []) x
  in-done x has = has-contains (done ++ name ∷ []) x (has-left done (name ∷ []) x (contains-has done x has))

  -- a name that is done already, or whose content is the one before, adds nothing
  pub listed-again : Contains done name → AreListed now before (done ++ name ∷ []) finals
  listed-again again = record {
    ordered = so_far.ordered;
    sound = λ f has. let it = so_far.sound f has in (in-done (final_name f) it.0, it.1, it.2);
    complete = λ x has. elim (grown-done x has) [
      | inl old ↦ so_far.complete x old
      | inr same ↦ so_far.complete x (subst (Contains done) same again)
    ];
  }

  pub listed-same : now name.table name.row ≡ before name.table name.row → AreListed now before (done ++ name ∷ []) finals
  listed-same equal = record {
    ordered = so_far.ordered;
    sound = λ f has. let it = so_far.sound f has in (in-done (final_name f) it.0, it.1, it.2);
    complete = λ x has. elim (grown-done x has) [
      | inl old ↦ so_far.complete x old
      | inr same ↦ inl (subst (λ (z : RowName). now z.table z.row ≡ before z.table z.row) same equal)
    ];
  }

  pub listed-more : ((y : RowName) → Has done y → name_before y name ≡ true) → now name.table name.row ≢ before name.table name.row → AreListed now before (done ++ name ∷ []) (finals ++ final_of now name ∷ [])
  listed-more less differ = record {
    ordered = joined-ordered final_before finals (final_of now name ∷ []) so_far.ordered refl
        (λ f g has last. elim last [
          | inl same ↦ subst (λ (z : Final). final_before f z ≡ true) same (less (final_name f) (contains-has done (final_name f) (so_far.sound f (has-contains finals f has)).0))
          | inr none ↦ absurd none
        ]);
    sound = λ f has. elim (has-either finals (final_of now name ∷ []) f (contains-has (finals ++ final_of now name ∷ []) f has)) [
      | inl old ↦ let it = so_far.sound f (has-contains finals f old) in (in-done (final_name f) it.0, it.1, it.2)
      | inr new ↦ elim new [
        | inl same ↦ new-sound f same
        | inr none ↦ absurd none
      ]
    ];
    complete = λ x has. elim (grown-done x has) [
      | inl old ↦ elim (so_far.complete x old) [
        | inl equal ↦ inl equal
        | inr listed ↦ inr (has-contains (finals ++ final_of now name ∷ []) (final_of now x) (has-left finals (final_of now name ∷ []) (final_of now x) (contains-has finals (final_of now x) listed)))
      ]
      | inr same ↦ inr (has-contains (finals ++ final_of now name ∷ []) (final_of now x) (has-right finals (final_of now name ∷ []) (final_of now x) (inl (ap (final_of now) same))))
    ];
  }
    where
      new-sound : (f : Final) → final_of now name ≡ f → Contains (done ++ name ∷ []) (final_name f) × (f.content ≡ now f.table f.row) × (f.content ≢ before f.table f.row)
      new-sound f same = subst (λ (z : Final). Contains (done ++ name ∷ []) (final_name z) × (z.content ≡ now z.table z.row) × (z.content ≢ before z.table z.row)) same
          (has-contains (done ++ name ∷ []) name (has-right done (name ∷ []) name (inl refl)), refl, differ)

pub none-listed : (now before : TableName → RowNo → Option (List Cell)) → AreListed now before [] []
none-listed now before = record {
  ordered = refl;
  sound = λ f has. absurd (contains-has [] f has);
  complete = λ x has. absurd (contains-has [] x has);
}

has-named : (t : TableName) (n : RowNo) (changes : List RowChange) → names_row t n changes ≡ true → (x : RowChange) × Has changes x × (name_of x ≡ record { table = t; row = n })
has-named t n [] named = absurd (let wrong : false ≡ true = named in cc)
has-named t n (x ∷ xs) named = go (is_of_row t n x) refl named (has-named t n xs)
  where
    go : (b : Bool) → is_of_row t n x ≡ b → (b || names_row t n xs) ≡ true → (names_row t n xs ≡ true → (y : RowChange) × Has xs y × (name_of y ≡ record { table = t; row = n })) → (y : RowChange) × Has (x ∷ xs) y × (name_of y ≡ record { table = t; row = n })
    go true e is rest = (x, inl refl, name-is (name_of x) (record { table = t; row = n }) e)
    go false e is rest = let it = rest is in (it.0, inr it.1, it.2)

has-name : (changes : List RowChange) (name : RowName) → Has (map name_of changes) name → names_row name.table name.row changes ≡ true
has-name [] name has = absurd has
has-name (x ∷ xs) name (inl same) = subst (λ (z : RowName). (is_of_row z.table z.row x || names_row z.table z.row xs) ≡ true) same (ap (λ b. b || names_row x.table x.row xs) (and_from (same_table x.table x.table) (x.row.0 == x.row.0) (same_table-self x.table) (number-self x.row.0)))
has-name (x ∷ xs) name (inr later) = ap (λ b. is_of_row name.table name.row x || b) (has-name xs name later) ∙ right (is_of_row name.table name.row x)
  where
    right : (b : Bool) → (b || true) ≡ true
    right true = refl
    right false = refl

module _ (kept : Contents) (transactions : ClientNo → List RowChange) (ties : Ties kept transactions) (client other : ClientNo) (apart : other.0 ≢ client.0) where
  -- another client sees what is committed of a row that the client names
  other-sees : (t : TableName) (n : RowNo) → names_row t n (transactions client) ≡ true → seen_at (number_of t kept.tables) n other kept.held ≡ row_at t n (committed kept.tables kept.held)
  other-sees t n named = seen-is kept transactions ties t n other ∙ laid-untouched t n (committed kept.tables kept.held) (transactions other) (ties.apart client other t n (λ same. apart (sym same)) named)

  -- what is listed of the rows that the client names is what its changes leave
  pub finals-of : (names : List RowName) (finals : List Final)
      → ((change : RowChange) → Contains (transactions client) change → Contains names (name_of change)) → ((name : RowName) → Contains names name → Contains (map name_of (transactions client)) name)
      → AreListed (λ t n. seen_at (number_of t kept.tables) n client kept.held) (λ t n. seen_at (number_of t kept.tables) n other kept.held) names finals
      → AreFinals (committed kept.tables kept.held) (transactions client) finals
  finals-of names finals all_named named_all listed = record {
    ordered = listed.ordered;
    sound = λ f has.
        let it = listed.sound f has in
        let named = has-name (transactions client) (final_name f) (contains-has (map name_of (transactions client)) (final_name f) (named_all (final_name f) it.0)) in
        (it.1 ∙ seen-is kept transactions ties f.table f.row client, λ same. it.2 (same ∙ sym (other-sees f.table f.row named)));
    complete = λ t n. go t n (names_row t n (transactions client)) refl;
  }
    where
      go : (t : TableName) (n : RowNo) (b : Bool) → names_row t n (transactions client) ≡ b
          → (row_at t n (laid_over (committed kept.tables kept.held) (transactions client)) ≡ row_at t n (committed kept.tables kept.held))
          ⊎ Contains finals (record { table = t; row = n; content = row_at t n (laid_over (committed kept.tables kept.held) (transactions client)) })
      go t n false e = inl (laid-untouched t n (committed kept.tables kept.held) (transactions client) e)
      go t n true e =
          let it = has-named t n (transactions client) e in
          let has = subst (Contains names) it.2 (all_named it.0 (has-contains (transactions client) it.0 it.1)) in
          elim (listed.complete (record { table = t; row = n }) has) [
            | inl same ↦ inl (sym (seen-is kept transactions ties t n client) ∙ (same ∙ other-sees t n e))
            | inr there ↦ inr (subst (λ (content : Option (List Cell)). Contains finals (record { table = t; row = n; content = content })) (seen-is kept transactions ties t n client) there)
          ]

-- the order of names
names_weak : IsStrictWeakOrder name_before
names_weak = record {
  one_way = λ x y less. never x y less (name_before y x) refl;
  chain = λ x y z first second. through x y z first second (name_before x z) refl;
}
  where
    never : (x y : RowName) → name_before x y ≡ true → (b : Bool) → name_before y x ≡ b → name_before y x ≡ false
    never x y less false e = e
    never x y less true e = absurd (let wrong : true ≡ false = sym (name-trans x y x less e) ∙ itself x in cc)
      where
        itself : (a : RowName) → name_before a a ≡ false
        itself a = fields_irreflexive (place_of a.table a.row)

    through : (x y z : RowName) → name_before x y ≡ false → name_before y z ≡ false → (b : Bool) → name_before x z ≡ b → name_before x z ≡ false
    through x y z first second false e = e
    through x y z first second true e = absurd (let wrong : true ≡ false = sym (up y x z first e) ∙ second in cc)

-- sorted names rise
pub sorted-rise : (names : List RowName) → IsSortedBy name_before names → names_rise names ≡ true
sorted-rise [] sorted = refl
sorted-rise (x ∷ xs) sorted =
    and_from (list_all (λ later. not (name_before later x)) xs) (names_rise xs)
    (each xs (λ j d lt. ap not (sorted_far name_before names_weak (x ∷ xs) sorted 0 (suc j) d (omega arith) (omega arith))))
    (sorted-rise xs (λ k d low high. subst (λ (m : ℕ). name_before (get_or (x ∷ xs) m d) (get_or xs k d) ≡ false) (let at : suc k + 1 ≡ suc (k + 1) = omega arith in at) (sorted (suc k) d (omega arith) (omega arith))))
  where
    each : (ys : List RowName) → ((j : ℕ) (d : RowName) → j < length ys → not (name_before (get_or ys j d) x) ≡ true) → list_all (λ later. not (name_before later x)) ys ≡ true
    each [] all = refl
    each (y ∷ ys) all = and_from (not (name_before y x)) (list_all (λ later. not (name_before later x)) ys) (all 0 y (omega arith)) (each ys (λ j d lt. all (suc j) d (omega arith)))

pub has-mapped : (changes : List RowChange) (change : RowChange) → Contains changes change → Contains (map name_of changes) (name_of change)
has-mapped changes change has = has-contains (map name_of changes) (name_of change) (go changes (contains-has changes change has))
  where
    go : (xs : List RowChange) → Has xs change → Has (map name_of xs) (name_of change)
    go [] has = absurd has
    go (x ∷ xs) (inl same) = inl (ap name_of same)
    go (x ∷ xs) (inr later) = inr (go xs later)

-- each name is numbered as the changes are
pub all-numbered : (changes : List RowChange) (names : List RowName) → AllByRecursion (λ (x : RowChange). 1 ≤ x.row.0) changes → ((name : RowName) → Contains names name → Contains (map name_of changes) name)
    → (k : ℕ) (d : RowName) → k < length names → 1 ≤ (get_or names k d).row.0
all-numbered changes names all from k d lt = go changes all (contains-has (map name_of changes) (get_or names k d) (from (get_or names k d) (has-contains names (get_or names k d) (has-get names k d lt))))
  where
    go : (xs : List RowChange) → AllByRecursion (λ (x : RowChange). 1 ≤ x.row.0) xs → Has (map name_of xs) (get_or names k d) → 1 ≤ (get_or names k d).row.0
    go [] all has = absurd has
    go (x ∷ xs) all (inl same) = subst (λ (name : RowName). 1 ≤ name.row.0) same all.0
    go (x ∷ xs) all (inr later) = go xs all.1 later

-- one name more is done
module _ (now before : TableName → RowNo → Option (List Cell)) (names : List RowName) (at : ℕ) (name : RowName) (old new : List Final) (within : at < length names) (is : name ≡ get_or names at name) where
  one-more : take (at + 1) names ≡ take at names ++ name ∷ []
  one-more = ap (λ (n : ℕ). take n names) (add-one at) ∙ (take-suc names at name within ∙ ap (λ (x : RowName). take at names ++ x ∷ []) (sym is))

  pub added-listed : AreListed now before (take at names) old → IsAdded now before name old new → names_rise names ≡ true → ((k : ℕ) (d : RowName) → at ≡ k + 1 → is_one_name (get_or names k d) (get_or names at d) ≡ false)
      → AreListed now before (take (at + 1) names) new
  added-listed so_far added rise differ = subst (λ (done : List RowName). AreListed now before done new) (sym one-more) (elim added [
    | inl same ↦ subst (AreListed now before (take at names ++ name ∷ [])) (sym same.1) (listed-same now before (take at names) name old so_far same.0)
    | inr more ↦ subst (AreListed now before (take at names ++ name ∷ [])) (sym more.1) (listed-more now before (take at names) name old so_far
        (λ y has. subst (λ (x : RowName). name_before y x ≡ true) (sym is) (rising-before names at name rise within (λ k e. differ k name e) y has)) more.0)
  ])

pub again-listed : (now before : TableName → RowNo → Option (List Cell)) (names : List RowName) (at k : ℕ) (d : RowName) (old : List Final) → at < length names → at ≡ k + 1
    → is_one_name (get_or names k d) (get_or names at d) ≡ true → AreListed now before (take at names) old → AreListed now before (take (at + 1) names) old
again-listed now before names at k d old within next same so_far =
    subst (λ (done : List RowName). AreListed now before done old) (sym (ap (λ (n : ℕ). take n names) (add-one at) ∙ take-suc names at d within))
    (listed-again now before (take at names) (get_or names at d) old so_far
    (has-contains (take at names) (get_or names at d) (subst (Has (take at names)) (name-is (get_or names k d) (get_or names at d) same)
    (subst (λ (n : ℕ). Has (take n names) (get_or names k d)) (sym next) (repeated-there names k d (omega arith))))))

-- a place is the first one, or behind another
pub first-or-later : (at : ℕ) → (at ≡ 0) ⊎ ((k : ℕ) × (at ≡ k + 1))
first-or-later zero = inl refl
first-or-later (suc k) = inr (k, omega arith)

-- what follows from what a call says of its value
pub weaker : {X Y : Type 0} (r : Result X Y) {P Q : X → Type 0} → IfOk r P → ((x : X) → P x → Q x) → IfOk r Q
weaker {X} {Y} r {P} {Q} is more = IfOk-weaker r P Q more is
