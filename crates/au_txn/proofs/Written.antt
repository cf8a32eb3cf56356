-- What a client's change, and a list of them, leaves of how the rows that are kept stand to the open changes.
use Rattle.std.proofs.Common.{◌≡◌, ◌≢◌, ◌≤◌, ◌∙◌, ◌⊎◌, inl, inr, ℕ, Bool, true, false, cond, ◌||◌, is_some, List, [], ◌∷◌, ◌++◌, filter, map, refl, sym, ap, ap₂, subst, arith, append_assoc, Option, None, Some}
use Rattle.std.specs.Prelude.{◌==◌, nat_le, IsSome}
use Rattle.std.specs.List.{AllByRecursion, cons_option, filter_map, list_all}
use Rattle.std.specs.Option.{option_and_then}
use Rattle.std.proofs.lemmas.Bool.{and_parts}
use Rattle.std.proofs.lemmas.Bool.Decides.{nat_tests}
use Rattle.std.proofs.lemmas.List.Elements.{filter-append}
use Rattle.au_base.specs.declared.cell.Cell.{Cell}
use Rattle.au_base.specs.declared.numbers.ClientNo.{ClientNo}
use Rattle.au_base.specs.declared.numbers.RowNo.{RowNo}
use Rattle.au_base.specs.declared.table.TableName.{TableName}
use Rattle.au_base.specs.Sameness.{same_table}
use Rattle.au_rows.specs.declared.table.Table.{Table}
use Rattle.au_rows.specs.Held.{Contents, Held, IsOpen, is_left, is_this, last_change, number_of, owned, row_at as kept_at, settled_of, with_row}
use Rattle.au_txn.specs.declared.change.RowChange.{RowChange}
use Rattle.au_txn.specs.Desks.{IsWritable}
use Rattle.au_txn.specs.Inside.{CanWrite, MayWrite, Ties, committed, held_after, held_in_order, held_numbered, held_open, is_own, kept_change, open_tables, own_changes}
use Rattle.au_txn.specs.Rows.{Row, row_at, with_content}
use Rattle.au_txn.specs.Transactions.{AreFrom, IsRowLocked, is_of_row, laid_over, names_row}
use Rattle.au_txn.proofs.ChangeLemmas.{last-push, under}
use Rattle.au_txn.proofs.Committed.{committed-at, committed-ordered}
use Rattle.au_txn.proofs.HeldLemmas.{with_row-all, with_row-found, with_row-order, with_row-other}
use Rattle.au_txn.proofs.Histories.{from-append, laid_over-append, names-append}
use Rattle.au_txn.proofs.RowOrder.{client-is, number-is, number-self, same_rows, same_table-is}
use Rattle.au_txn.proofs.Standing.{seen-is, unlocked-free}
use Rattle.au_txn.proofs.TableLemmas.{name-open, open-there}

-- the same changes, read another way, and rows with another spare
pub ties-same : (kept : Contents) (a b : ClientNo → List RowChange) → ((q : ClientNo) → a q ≡ b q) → Ties kept a → Ties kept b
ties-same kept a b same ties = subst (Ties kept) (λ i q. same q i) ties

pub ties-with : (kept : Contents) (transactions : ClientNo → List RowChange) (spare : ℕ) → Ties kept transactions
    → Ties (record { tables = kept.tables; held = kept.held; changes = kept.changes; spare = spare }) transactions
ties-with kept transactions spare ties = record {
  order = ties.order;
  left = ties.left;
  open_tables = ties.open_tables;
  rows_numbered = ties.rows_numbered;
  names = ties.names;
  agrees = ties.agrees;
  logged = ties.logged;
  there = ties.there;
  numbered = ties.numbered;
  apart = ties.apart;
  from = ties.from;
}

or-true : (b : Bool) → (b || true) ≡ true
or-true true = refl
or-true false = refl

or-false : (b : Bool) → (b || false) ≡ b
or-false true = refl
or-false false = refl

pub append-none : {X : Type 0} (xs : List X) → xs ++ [] ≡ xs
append-none [] = refl
append-none (x ∷ xs) = ap (λ ys. x ∷ ys) (append-none xs)

map-append : {X Y : Type 0} (f : X → Y) (xs ys : List X) → map f (xs ++ ys) ≡ map f xs ++ map f ys
map-append f [] ys = refl
map-append f (x ∷ xs) ys = ap (λ zs. f x ∷ zs) (map-append f xs ys)

all-append : {X : Type 0} (P : X → Type 0) (xs ys : List X) → AllByRecursion P xs → AllByRecursion P ys → AllByRecursion P (xs ++ ys)
all-append P [] ys one two = two
all-append P (x ∷ xs) ys one two = (one.0, all-append P xs ys one.1 two)

-- the changes with more of one client
abbrev pub with_changes : ClientNo → List RowChange → (ClientNo → List RowChange) → ClientNo → List RowChange
with_changes c changes transactions = λ q. cond (q.0 == c.0) (transactions q ++ changes) (transactions q)

module _ (tables : List (Option Table)) (held : List Held) (k : ℕ) (m : RowNo) (c : ClientNo) (content : Option (List Cell)) where
  -- a change leaves what is settled
  settled-same : held_in_order held ≡ true → (u : ℕ) (n : RowNo) → settled_of u n (with_row k m c content held) ≡ settled_of u n held
  settled-same o u n = go (is_this k m u n) refl
    where
      go : (b : Bool) → is_this k m u n ≡ b → settled_of u n (with_row k m c content held) ≡ settled_of u n held
      go true e =
          let parts = and_parts (u == k) (n.0 == m.0) e in
          let table : k ≡ u = grind (arith, nat_tests) in
          let number : m ≡ n = sym (number-is n m parts.1) in
          ap₂ (λ (t : ℕ) (r : RowNo). settled_of t r (with_row k m c content held)) (sym table) (sym number)
          ∙ (ap (option_and_then (λ (row : Held). row.settled)) (with_row-found k m c content held)
          ∙ ap₂ (λ (t : ℕ) (r : RowNo). settled_of t r held) table number)
      go false e = ap (option_and_then (λ (row : Held). row.settled)) (with_row-other k m c content held u n e o)

module _ (kept : Contents) (transactions : ClientNo → List RowChange) (ties : Ties kept transactions) (c : ClientNo) (change : RowChange) where
  place : ℕ
  place = number_of change.table kept.tables

  abbrev after_held : List Held
  after_held = with_row (number_of change.table kept.tables) change.row c change.new kept.held

  module _ (opened : IsOpen change.table kept.tables) where
    opens : list_all (held_open kept.tables) (with_row (number_of change.table kept.tables) change.row c change.new kept.held) ≡ true
    opens = with_row-all (held_open kept.tables) (number_of change.table kept.tables) change.row c change.new kept.held ties.open_tables
        (let it = name-open change.table kept.tables opened in ap is_some it.1)

    -- and what is committed
    pub committed-same : committed kept.tables (with_row (number_of change.table kept.tables) change.row c change.new kept.held) ≡ committed kept.tables kept.held
    committed-same = same_rows (committed kept.tables (with_row (number_of change.table kept.tables) change.row c change.new kept.held)) (committed kept.tables kept.held)
        (committed-ordered kept.tables (with_row (number_of change.table kept.tables) change.row c change.new kept.held) ties.names
        (with_row-order (number_of change.table kept.tables) change.row c change.new kept.held ties.order) opens)
        (committed-ordered kept.tables kept.held ties.names ties.order ties.open_tables)
        (λ t n. committed-at kept.tables (with_row (number_of change.table kept.tables) change.row c change.new kept.held) ties.names
        (with_row-order (number_of change.table kept.tables) change.row c change.new kept.held ties.order) opens t n
        ∙ (settled-same kept.tables kept.held (number_of change.table kept.tables) change.row c change.new ties.order (number_of t kept.tables) n
        ∙ sym (committed-at kept.tables kept.held ties.names ties.order ties.open_tables t n)))

    module _ (unlocked : IsRowLocked transactions c change.table change.row → ⊥) (old : change.old ≡ row_at change.table change.row (laid_over (committed kept.tables kept.held) (transactions c))) (from_one : 1 ≤ change.row.0) where
      agree : (u : ℕ) (n : RowNo) → option_and_then owned (kept_at u n (with_row (number_of change.table kept.tables) change.row c change.new kept.held))
          ≡ last_change u n (kept.changes ++ kept_change kept.tables c change ∷ [])
      agree u n = go (is_this u n (number_of change.table kept.tables) change.row) refl ∙ sym (last-push u n kept.changes (kept_change kept.tables c change))
        where
          other : is_this u n (number_of change.table kept.tables) change.row ≡ false → is_this (number_of change.table kept.tables) change.row u n ≡ false
          other e = grind (arith, nat_tests)

          go : (b : Bool) → is_this u n (number_of change.table kept.tables) change.row ≡ b
              → option_and_then owned (kept_at u n (with_row (number_of change.table kept.tables) change.row c change.new kept.held)) ≡ cond b (Some (under c change.new)) (last_change u n kept.changes)
          go true e =
              let parts = and_parts (number_of change.table kept.tables == u) (change.row.0 == n.0) e in
              let table : u ≡ number_of change.table kept.tables = grind (arith, nat_tests) in
              let number : n ≡ change.row = sym (number-is change.row n parts.1) in
              ap₂ (λ (t : ℕ) (r : RowNo). option_and_then owned (kept_at t r (with_row (number_of change.table kept.tables) change.row c change.new kept.held))) table number
              ∙ ap (option_and_then owned) (with_row-found (number_of change.table kept.tables) change.row c change.new kept.held)
          go false e =
              ap (option_and_then owned) (with_row-other (number_of change.table kept.tables) change.row c change.new kept.held u n (other e) ties.order)
              ∙ ties.agrees u n

      log : (q : ClientNo) → own_changes q (kept.changes ++ kept_change kept.tables c change ∷ []) ≡ map (kept_change kept.tables q) (with_changes c (change ∷ []) transactions q)
      log q = filter-append (is_own q) kept.changes (kept_change kept.tables c change ∷ []) ∙ go (q.0 == c.0) refl
        where
          mine : (q.0 == c.0) ≡ true → (c.0 == q.0) ≡ true
          mine e = grind (arith, nat_tests)

          others : (q.0 == c.0) ≡ false → (c.0 == q.0) ≡ false
          others e = grind (arith, nat_tests)

          go : (b : Bool) → (q.0 == c.0) ≡ b
              → own_changes q kept.changes ++ filter (is_own q) (kept_change kept.tables c change ∷ []) ≡ map (kept_change kept.tables q) (cond b (transactions q ++ change ∷ []) (transactions q))
          go true e =
              ap₂ (λ xs b. xs ++ cond b (kept_change kept.tables c change ∷ []) []) (ties.logged q) (mine e)
              ∙ (ap (λ (x : ClientNo). map (kept_change kept.tables q) (transactions q) ++ kept_change kept.tables x change ∷ []) (sym (client-is q c e))
              ∙ sym (map-append (kept_change kept.tables q) (transactions q) (change ∷ [])))
          go false e =
              ap₂ (λ xs b. xs ++ cond b (kept_change kept.tables c change ∷ []) []) (ties.logged q) (others e)
              ∙ append-none (map (kept_change kept.tables q) (transactions q))

      are_there : (q : ClientNo) → AllByRecursion (λ (x : RowChange). IsOpen x.table kept.tables) (with_changes c (change ∷ []) transactions q)
      are_there q = go (q.0 == c.0)
        where
          go : (b : Bool) → AllByRecursion (λ (x : RowChange). IsOpen x.table kept.tables) (cond b (transactions q ++ change ∷ []) (transactions q))
          go true = all-append (λ (x : RowChange). IsOpen x.table kept.tables) (transactions q) (change ∷ []) (ties.there q) (opened, tt)
          go false = ties.there q

      are_numbered : (q : ClientNo) → AllByRecursion (λ (x : RowChange). 1 ≤ x.row.0) (with_changes c (change ∷ []) transactions q)
      are_numbered q = go (q.0 == c.0)
        where
          go : (b : Bool) → AllByRecursion (λ (x : RowChange). 1 ≤ x.row.0) (cond b (transactions q ++ change ∷ []) (transactions q))
          go true = all-append (λ (x : RowChange). 1 ≤ x.row.0) (transactions q) (change ∷ []) (ties.numbered q) (from_one, tt)
          go false = ties.numbered q

      named-then : (q : ClientNo) (t : TableName) (n : RowNo) → names_row t n (transactions q ++ change ∷ []) ≡ (names_row t n (transactions q) || is_of_row t n change)
      named-then q t n = names-append t n (transactions q) (change ∷ []) ∙ ap (λ b. names_row t n (transactions q) || b) (or-false (is_of_row t n change))

      -- another client doesn't name the row of the change
      unnamed : (q : ClientNo) → q.0 ≢ c.0 → (t : TableName) (n : RowNo) → is_of_row t n change ≡ true → names_row t n (transactions q) ≡ true → ⊥
      unnamed q ne t n of named =
          let parts = and_parts (same_table change.table t) (change.row.0 == n.0) of in
          let named_here : names_row change.table change.row (transactions q) ≡ true =
          ap₂ (λ (x : TableName) (r : RowNo). names_row x r (transactions q)) (same_table-is change.table t parts.0) (number-is change.row n parts.1) ∙ named in
          unlocked (q, ne, named_here)

      parted : (a b : ClientNo) (t : TableName) (n : RowNo) → a.0 ≢ b.0 → names_row t n (with_changes c (change ∷ []) transactions a) ≡ true → names_row t n (with_changes c (change ∷ []) transactions b) ≡ false
      parted a b t n ne named = go (a.0 == c.0) (b.0 == c.0) refl refl named
        where
          differ : (x : ClientNo) → (x.0 == c.0) ≡ false → x.0 ≢ c.0
          differ x e = λ same. (let is : (x.0 == c.0) ≡ true = grind (arith, nat_tests) in let both : true ≡ false = sym is ∙ e in cc)

          mine : (x y : Bool) → names_row t n (transactions a) ≡ x → is_of_row t n change ≡ y → (x || y) ≡ true → (b.0 == c.0) ≡ false → names_row t n (transactions b) ≡ false
          mine true y f g is e = ties.apart a b t n ne f
          mine false true f g is e = go' (names_row t n (transactions b)) refl
            where
              go' : (z : Bool) → names_row t n (transactions b) ≡ z → names_row t n (transactions b) ≡ false
              go' false h = h
              go' true h = absurd (unnamed b (differ b e) t n g h)
          mine false false f g is e = absurd (let wrong : false ≡ true = is in cc)

          theirs : (y : Bool) → is_of_row t n change ≡ y → names_row t n (transactions a) ≡ true → (a.0 == c.0) ≡ false → (names_row t n (transactions b) || is_of_row t n change) ≡ false
          theirs true g f e = absurd (unnamed a (differ a e) t n g f)
          theirs false g f e = ap₂ (λ x y. x || y) (ties.apart a b t n ne f) g

          go : (x y : Bool) → (a.0 == c.0) ≡ x → (b.0 == c.0) ≡ y → names_row t n (cond x (transactions a ++ change ∷ []) (transactions a)) ≡ true
              → names_row t n (cond y (transactions b ++ change ∷ []) (transactions b)) ≡ false
          go true true e f is = absurd (ne (grind (arith, nat_tests)))
          go true false e f is = mine (names_row t n (transactions a)) (is_of_row t n change) refl refl (sym (named-then a t n) ∙ is) f
          go false true e f is = named-then b t n ∙ theirs (is_of_row t n change) refl is e
          go false false e f is = ties.apart a b t n ne is

      are_from : (q : ClientNo) → AreFrom (committed kept.tables (with_row (number_of change.table kept.tables) change.row c change.new kept.held)) (with_changes c (change ∷ []) transactions q)
      are_from q = subst (λ rows. AreFrom rows (with_changes c (change ∷ []) transactions q)) (sym committed-same) (go (q.0 == c.0) refl)
        where
          go : (b : Bool) → (q.0 == c.0) ≡ b → AreFrom (committed kept.tables kept.held) (cond b (transactions q ++ change ∷ []) (transactions q))
          go true e = subst (λ (x : ClientNo). AreFrom (committed kept.tables kept.held) (transactions x ++ change ∷ [])) (sym (client-is q c e))
              (from-append (committed kept.tables kept.held) (transactions c) (change ∷ []) (ties.from c) (old, tt))
          go false e = ties.from q

      at_least : nat_le 1 change.row.0 ≡ true
      at_least = grind (arith, nat_tests)

      -- one change
      pub ties-written : (spare : ℕ) → Ties (record { tables = kept.tables; held = with_row (number_of change.table kept.tables) change.row c change.new kept.held; changes = kept.changes ++ kept_change kept.tables c change ∷ []; spare = spare })
          (with_changes c (change ∷ []) transactions)
      ties-written spare = record {
        order = with_row-order (number_of change.table kept.tables) change.row c change.new kept.held ties.order;
        left = with_row-all is_left (number_of change.table kept.tables) change.row c change.new kept.held ties.left (or-true (is_some (settled_of (number_of change.table kept.tables) change.row kept.held)));
        open_tables = opens;
        rows_numbered = with_row-all held_numbered (number_of change.table kept.tables) change.row c change.new kept.held ties.rows_numbered at_least;
        names = ties.names;
        agrees = agree;
        logged = log;
        there = are_there;
        numbered = are_numbered;
        apart = parted;
        from = are_from;
      }

      -- the client may make the change
      pub may-write : IsSome change.old ⊎ IsSome change.new → MayWrite kept.tables c change kept.held
      may-write content = record {
        there = opened;
        free = unlocked-free kept transactions ties change.table change.row c unlocked;
        numbered = from_one;
        content = elim content [
          | inl was ↦ inr (subst IsSome (old ∙ sym (seen-is kept transactions ties change.table change.row c)) was)
          | inr new ↦ inl new
        ];
      }

-- what a list of changes leaves
pub record IsWritten (kept : Contents) (transactions : ClientNo → List RowChange) (c : ClientNo) (changes : List RowChange) : Type 0 where
  pub can : CanWrite kept.tables c changes kept.held
  pub ties : (spare : ℕ) → Ties (record { tables = kept.tables; held = held_after kept.tables c changes kept.held; changes = kept.changes ++ map (kept_change kept.tables c) changes; spare = spare })
      (with_changes c changes transactions)
  pub rows : committed kept.tables (held_after kept.tables c changes kept.held) ≡ committed kept.tables kept.held

-- a row that isn't locked stays so, whatever the client itself adds
still-free : (transactions : ClientNo → List RowChange) (c : ClientNo) (changes : List RowChange) (t : TableName) (n : RowNo) → (IsRowLocked transactions c t n → ⊥) → IsRowLocked (with_changes c changes transactions) c t n → ⊥
still-free transactions c changes t n unlocked locked = go (locked.0.0 == c.0) refl locked.2
  where
    go : (b : Bool) → (locked.0.0 == c.0) ≡ b → names_row t n (cond b (transactions locked.0 ++ changes) (transactions locked.0)) ≡ true → ⊥
    go true e named = locked.1 (grind (arith, nat_tests))
    go false e named = unlocked (locked.0, locked.1, named)

all-free : (tables : List Table) (transactions : ClientNo → List RowChange) (c : ClientNo) (more changes : List RowChange) → AllByRecursion (IsWritable tables transactions c) changes
    → AllByRecursion (IsWritable tables (with_changes c more transactions) c) changes
all-free tables transactions c more [] each = tt
all-free tables transactions c more (change ∷ changes) each = (
  record {
    there = each.0.there;
    free = still-free transactions c more change.table change.row each.0.free;
    numbered = each.0.numbered;
    content = each.0.content;
  },
  all-free tables transactions c more changes each.1,
)

with-none : (c : ClientNo) (transactions : ClientNo → List RowChange) (q : ClientNo) → transactions q ≡ with_changes c [] transactions q
with-none c transactions q = go (q.0 == c.0)
  where
    go : (b : Bool) → transactions q ≡ cond b (transactions q ++ []) (transactions q)
    go true = sym (append-none (transactions q))
    go false = refl

with-more : (c : ClientNo) (change : RowChange) (changes : List RowChange) (transactions : ClientNo → List RowChange) (q : ClientNo)
    → with_changes c changes (with_changes c (change ∷ []) transactions) q ≡ with_changes c (change ∷ changes) transactions q
with-more c change changes transactions q = go (q.0 == c.0)
  where
    go : (b : Bool) → cond b (cond b (transactions q ++ change ∷ []) (transactions q) ++ changes) (cond b (transactions q ++ change ∷ []) (transactions q)) ≡ cond b (transactions q ++ change ∷ changes) (transactions q)
    go true = append_assoc (transactions q) (change ∷ []) changes
    go false = refl

own-then : (rows : List Row) (c : ClientNo) (change : RowChange) (transactions : ClientNo → List RowChange)
    → laid_over rows (with_changes c (change ∷ []) transactions c) ≡ with_content change.table change.row change.new (laid_over rows (transactions c))
own-then rows c change transactions = ap (λ b. laid_over rows (cond b (transactions c ++ change ∷ []) (transactions c))) (number-self c.0) ∙ laid_over-append rows (transactions c) (change ∷ [])

pub write : (changes : List RowChange) (kept : Contents) (transactions : ClientNo → List RowChange) (c : ClientNo) → Ties kept transactions
    → AllByRecursion (IsWritable (open_tables kept.tables) transactions c) changes → AreFrom (laid_over (committed kept.tables kept.held) (transactions c)) changes → IsWritten kept transactions c changes
write [] kept transactions c ties each from = record {
  can = tt;
  ties = λ spare. ties-same (record { tables = kept.tables; held = kept.held; changes = kept.changes ++ []; spare = spare }) transactions (with_changes c [] transactions) (with-none c transactions)
      (subst (λ xs. Ties (record { tables = kept.tables; held = kept.held; changes = xs; spare = spare }) transactions) (sym (append-none kept.changes)) (ties-with kept transactions spare ties));
  rows = refl;
}
write (change ∷ changes) kept transactions c ties each from =
    let opened : IsOpen change.table kept.tables = open-there change.table kept.tables each.0.there in
    let same = committed-same kept transactions ties c change opened in
    let next = ties-written kept transactions ties c change opened each.0.free from.0 each.0.numbered 0 in
    let rest = write changes (record { tables = kept.tables; held = with_row (number_of change.table kept.tables) change.row c change.new kept.held; changes = kept.changes ++ kept_change kept.tables c change ∷ []; spare = 0 })
    (with_changes c (change ∷ []) transactions) c next (all-free (open_tables kept.tables) transactions c (change ∷ []) changes each.1)
    (subst (λ rows. AreFrom rows changes)
    (sym (ap (λ rows. laid_over rows (with_changes c (change ∷ []) transactions c)) same ∙ own-then (committed kept.tables kept.held) c change transactions)) from.1) in
    record {
      can = (may-write kept transactions ties c change opened each.0.free from.0 each.0.numbered each.0.content, rest.can);
      ties = λ spare. ties-same (record { tables = kept.tables; held = held_after kept.tables c (change ∷ changes) kept.held; changes = kept.changes ++ map (kept_change kept.tables c) (change ∷ changes); spare = spare })
          (with_changes c changes (with_changes c (change ∷ []) transactions)) (with_changes c (change ∷ changes) transactions) (with-more c change changes transactions)
          (subst (λ xs. Ties (record { tables = kept.tables; held = held_after kept.tables c (change ∷ changes) kept.held; changes = xs; spare = spare }) (with_changes c changes (with_changes c (change ∷ []) transactions)))
          (append_assoc kept.changes (kept_change kept.tables c change ∷ []) (map (kept_change kept.tables c) changes)) (rest.ties spare));
      rows = rest.rows ∙ same;
    }

-- lists that are as they were, but for one that has more
pub grown : (c : ClientNo) (changes : List RowChange) (old new : ClientNo → List RowChange) → new c ≡ old c ++ changes → ((q : ClientNo) → q.0 ≢ c.0 → new q ≡ old q) → (q : ClientNo) → with_changes c changes old q ≡ new q
grown c changes old new own others q = go (q.0 == c.0) refl
  where
    go : (b : Bool) → (q.0 == c.0) ≡ b → cond b (old q ++ changes) (old q) ≡ new q
    go true e = subst (λ (x : ClientNo). old x ++ changes ≡ new x) (sym (client-is q c e)) (sym own)
    go false e = sym (others q (grind (arith, nat_tests)))

-- the rows, part by part
pub written-rows : (old new : Contents) (c : ClientNo) (seen changes : List RowChange) → seen ≡ changes → new.tables ≡ old.tables → new.held ≡ held_after old.tables c seen old.held
    → new.changes ≡ old.changes ++ map (kept_change old.tables c) seen
    → new ≡ record { tables = old.tables; held = held_after old.tables c changes old.held; changes = old.changes ++ map (kept_change old.tables c) changes; spare = new.spare }
written-rows old new c seen changes same tables held logged = λ i. record {
  tables = tables i;
  held = (held ∙ ap (λ xs. held_after old.tables c xs old.held) same) i;
  changes = (logged ∙ ap (λ xs. old.changes ++ map (kept_change old.tables c) xs) same) i;
  spare = new.spare;
}

cons-same : {X : Type 0} (o : Option X) (xs ys : List X) → cons_option o xs ≡ cons_option o ys → xs ≡ ys
cons-same None xs ys e = e
cons-same (Some x) xs ys e = cc

-- what is left of the contents for the changes that are left
pub contents-left : (change : RowChange) (changes : List RowChange) (before after : List (List Cell)) → before ≡ cons_option change.new after
    → before ≡ filter_map (λ (x : RowChange). x.new) (change ∷ changes) → after ≡ filter_map (λ (x : RowChange). x.new) changes
contents-left change changes before after one all = cons-same change.new after (filter_map (λ (x : RowChange). x.new) changes) (sym one ∙ all)
