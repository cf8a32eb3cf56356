-- What replay has laid is what the changes that are kept say, but for those that stand in a list.
use Rattle.std.proofs.Common.{◌≡◌, ◌≢◌, ◌≤◌, ◌+◌, ◌-◌, ◌∙◌, ◌⊎◌, inl, inr, ℕ, zero, suc, Bool, true, false, cond, List, [], ◌∷◌, ◌++◌, get_or, length, map, take, refl, sym, ap, ap₂, subst, arith, append_assoc, Option, None, Some}
use Rattle.std.specs.Prelude.{◌==◌, IsSome}
use Rattle.std.specs.List.{AllByRecursion}
use Rattle.std.specs.Option.{option_map}
use Rattle.std.proofs.lemmas.Bool.Decides.{nat_tests}
use Rattle.au_base.specs.declared.cell.Cell.{Cell}
use Rattle.au_base.specs.declared.numbers.ClientNo.{ClientNo}
use Rattle.au_base.specs.declared.numbers.RowNo.{RowNo}
use Rattle.au_base.specs.declared.table.TableName.{TableName}
use Rattle.au_rows.specs.declared.table.Table.{Table}
use Rattle.au_rows.specs.Held.{Change, Contents, IsOpen, number_of, seen_at}
use Rattle.au_txn.specs.declared.change.RowChange.{RowChange}
use Rattle.au_txn.specs.declared.finals.Final.{Final}
use Rattle.au_txn.specs.Desks.{is_open, laid_but, laid_by, open_in, replayer}
use Rattle.au_txn.specs.Inside.{Ties, changes_from, committed, final_in, kept_change, laid_in, name_in, open_tables, unlisted}
use Rattle.au_txn.specs.Logs.{Changes, changes_of}
use Rattle.au_txn.specs.Rows.{Row, row_at, with_content}
use Rattle.au_txn.specs.Transactions.{AreFrom, IsRowLocked, laid_over, made}
use Rattle.au_txn.proofs.Ended.{without_client}
use Rattle.au_txn.proofs.RowOrder.{client-is}
use Rattle.au_txn.proofs.Standing.{seen-is}
use Rattle.au_txn.proofs.TableLemmas.{name-open}
use Rattle.au_txn.proofs.Written.{IsWritten, append-none, grown, ties-same, with_changes, write}

length-map : {X Y : Type 0} (f : X → Y) (xs : List X) → length (map f xs) ≡ length xs
length-map f [] = refl
length-map f (x ∷ xs) = let rest = length-map f xs in omega arith

length-append : {X : Type 0} (xs ys : List X) → length (xs ++ ys) ≡ length xs + length ys
length-append [] ys = omega arith
length-append (x ∷ xs) ys = let rest = length-append xs ys in omega arith

take-mapped : {X Y : Type 0} (f : X → Y) (n : ℕ) (xs ys : List X) → n ≡ length xs → take n (map f (xs ++ ys)) ≡ map f xs
take-mapped f n [] ys e = ap (λ k. take k (map f ys)) e
take-mapped f zero (x ∷ xs) ys e = absurd (omega arith)
take-mapped f (suc n) (x ∷ xs) ys e = ap (λ zs. f x ∷ zs) (take-mapped f n xs ys (omega arith))

all-left : {X : Type 0} (P : X → Type 0) (xs ys : List X) → AllByRecursion P (xs ++ ys) → AllByRecursion P xs
all-left P [] ys all = tt
all-left P (x ∷ xs) ys all = (all.0, all-left P xs ys all.1)

pub all-right : {X : Type 0} (P : X → Type 0) (xs ys : List X) → AllByRecursion P (xs ++ ys) → AllByRecursion P ys
all-right P [] ys all = all
all-right P (x ∷ xs) ys all = all-right P xs ys all.1

-- a change of an open table gives its row what it makes
final-made : (tables : List (Option Table)) (c : ClientNo) (change : RowChange) → IsOpen change.table tables → final_in tables (kept_change tables c change) ≡ made change
final-made tables c change opened =
    let it = name-open change.table tables opened in
    let name : name_in (get_or tables (number_of change.table tables) None) ≡ change.table = ap name_in it.1 ∙ it.2 in
    λ i. record { table = name i; row = change.row; content = change.new }

finals-made : (tables : List (Option Table)) (c : ClientNo) (changes : List RowChange) → AllByRecursion (λ (change : RowChange). IsOpen change.table tables) changes
    → map (final_in tables) (map (kept_change tables c) changes) ≡ map made changes
finals-made tables c [] opened = refl
finals-made tables c (x ∷ xs) opened = ap₂ (λ (f : Final) (fs : List Final). f ∷ fs) (final-made tables c x opened.0) (finals-made tables c xs opened.1)

-- changes are what they make, of what stood before each
from-made : (rows : List Row) (xs ys : List RowChange) → AreFrom rows (xs ++ ys) → changes_from rows (map made xs) ≡ xs
from-made rows [] ys from = refl
from-made rows (x ∷ xs) ys from =
    let first : record { table = x.table; row = x.row; old = _; new = x.new } ≡ x = λ i. record { table = x.table; row = x.row; old = sym from.0 i; new = x.new } in
    ap₂ (λ (c : RowChange) (cs : List RowChange). c ∷ cs) first (from-made (with_content x.table x.row x.new rows) xs ys from.1)

laid-is : (kept : Contents) (laid : List RowChange) (logs : List Changes) → Ties kept (open_in laid logs) → laid_in kept logs ≡ laid
unfolding laid_in
laid-is kept laid logs ties =
    ap (λ (changes : List Change). changes_from (committed kept.tables kept.held) (map (final_in kept.tables) changes)) front
    ∙ (ap (changes_from (committed kept.tables kept.held)) (finals-made kept.tables replayer laid (all-left _ laid (changes_of replayer logs) (ties.there replayer)))
    ∙ from-made (committed kept.tables kept.held) laid (changes_of replayer logs) (ties.from replayer))
  where
    all : List Change
    all = map (kept_change kept.tables replayer) (laid ++ changes_of replayer logs)

    count : length (map (kept_change kept.tables replayer) (laid ++ changes_of replayer logs)) - length (changes_of replayer logs) ≡ length laid
    count =
        let mapped = length-map (kept_change kept.tables replayer) (laid ++ changes_of replayer logs) in
        let joined = length-append laid (changes_of replayer logs) in
        omega arith

    front : unlisted kept.changes logs ≡ map (kept_change kept.tables replayer) laid
    front =
        ap (λ (own : List Change). take (length own - length (changes_of replayer logs)) own) (ties.logged replayer)
        ∙ take-mapped (kept_change kept.tables replayer) _ laid (changes_of replayer logs) count

-- rows that stand to what is laid and to lists as they are kept
pub relaid : (kept : Contents) (transactions : ClientNo → List RowChange) (laid : List RowChange) (logs : List Changes) → ((q : ClientNo) → transactions q ≡ open_in laid logs q)
    → Ties kept transactions → Ties kept (open_in (laid_in kept logs) logs)
relaid kept transactions laid logs same ties =
    let here = ties-same kept transactions (open_in laid logs) same ties in
    subst (λ xs. Ties kept (open_in xs logs)) (sym (laid-is kept laid logs here)) here

pub laid-then : (kept : Contents) (transactions : ClientNo → List RowChange) (laid : List RowChange) (logs : List Changes) → ((q : ClientNo) → transactions q ≡ open_in laid logs q)
    → Ties kept transactions → laid_in kept logs ≡ laid
laid-then kept transactions laid logs same ties = laid-is kept laid logs (ties-same kept transactions (open_in laid logs) same ties)

-- lists that are as they were, but for one that is empty, where nothing of its client is laid any more
pub but-cleared : (c : ClientNo) (laid : List RowChange) (old new : List Changes) → changes_of c new ≡ [] → ((q : ClientNo) → q.0 ≢ c.0 → changes_of q new ≡ changes_of q old)
    → (q : ClientNo) → without_client c (open_in laid old) q ≡ open_in (laid_but c laid) new q
but-cleared c laid old new own others q = go (q.0 == c.0) refl (q.0 == 0) refl (c.0 == 0) refl
  where
    go : (b : Bool) → (q.0 == c.0) ≡ b → (x : Bool) → (q.0 == 0) ≡ x → (y : Bool) → (c.0 == 0) ≡ y
        → cond b [] (cond x laid [] ++ changes_of q old) ≡ cond x (cond y [] laid) [] ++ changes_of q new
    go true e true f true g = sym (ap (λ (p : ClientNo). changes_of p new) (client-is q c e) ∙ own)
    go true e true f false g = absurd (let wrong : ⊥ = absurd (grind (arith, nat_tests)) in wrong)
    go true e false f y g = sym (ap (λ (p : ClientNo). changes_of p new) (client-is q c e) ∙ own)
    go false e true f true g = absurd (let wrong : ⊥ = absurd (grind (arith, nat_tests)) in wrong)
    go false e true f false g = ap (λ xs. laid ++ xs) (sym (others q (grind (arith, nat_tests))))
    go false e false f y g = sym (others q (grind (arith, nat_tests)))

-- nothing of the client is laid then
pub none-laid : (c : ClientNo) (laid : List RowChange) → laid_by c (laid_but c laid) ≡ []
none-laid c laid = go (c.0 == 0)
  where
    go : (b : Bool) → cond b (cond b [] laid) [] ≡ []
    go true = refl
    go false = refl

-- and of the others as much as before
pub others-laid : (c q : ClientNo) (laid : List RowChange) → q.0 ≢ c.0 → laid_by q (laid_but c laid) ≡ laid_by q laid
others-laid c q laid ne = go (q.0 == 0) refl (c.0 == 0) refl
  where
    go : (x : Bool) → (q.0 == 0) ≡ x → (y : Bool) → (c.0 == 0) ≡ y → cond x (cond y [] laid) [] ≡ cond x laid []
    go true e true f = absurd (let same : q.0 ≡ c.0 = grind (arith, nat_tests) in ne same)
    go true e false f = refl
    go false e y f = refl

pub laid-elsewhere : (q : ClientNo) (laid : List RowChange) → q.0 ≢ 0 → laid_by q laid ≡ []
laid-elsewhere q laid ne = ap (λ b. cond b laid []) (let e : (q.0 == 0) ≡ false = grind (arith, nat_tests) in e)

-- what holds of what is laid and of the lists once a client's list is empty
pub record IsEnded (c : ClientNo) (laid : List RowChange) (old new : List Changes) (kept : Contents) : Type 0 where
  pub ties : Ties kept (open_in (laid_in kept new) new)
  pub laid_is : laid_in kept new ≡ laid_but c laid
  pub own : open_in (laid_in kept new) new c ≡ []
  pub others : (q : ClientNo) → q.0 ≢ c.0 → open_in (laid_in kept new) new q ≡ open_in laid old q

pub ended-lists : (c : ClientNo) (laid : List RowChange) (old new : List Changes) (kept : Contents) → Ties kept (without_client c (open_in laid old))
    → changes_of c new ≡ [] → ((q : ClientNo) → q.0 ≢ c.0 → changes_of q new ≡ changes_of q old) → IsEnded c laid old new kept
ended-lists c laid old new kept ties own others =
    let is : laid_in kept new ≡ laid_but c laid = laid-then kept (without_client c (open_in laid old)) (laid_but c laid) new (but-cleared c laid old new own others) ties in
    record {
      ties = relaid kept (without_client c (open_in laid old)) (laid_but c laid) new (but-cleared c laid old new own others) ties;
      laid_is = is;
      own = ap₂ (λ (xs ys : List RowChange). xs ++ ys) (ap (laid_by c) is ∙ none-laid c laid) own;
      others = λ q ne. ap₂ (λ (xs ys : List RowChange). xs ++ ys) (ap (laid_by q) is ∙ others-laid c q laid ne) (others q ne);
    }

-- the same where the lists are as they were
pub record IsSame (laid : List RowChange) (old new : List Changes) (kept : Contents) : Type 0 where
  pub ties : Ties kept (open_in (laid_in kept new) new)
  pub laid_is : laid_in kept new ≡ laid
  pub changes : (q : ClientNo) → open_in (laid_in kept new) new q ≡ open_in laid old q

pub same-lists : (laid : List RowChange) (old new : List Changes) (kept : Contents) → Ties kept (open_in laid old)
    → ((q : ClientNo) → changes_of q new ≡ changes_of q old) → IsSame laid old new kept
same-lists laid old new kept ties same =
    let each : (q : ClientNo) → open_in laid old q ≡ open_in laid new q = λ q. ap (λ xs. laid_by q laid ++ xs) (sym (same q)) in
    let is : laid_in kept new ≡ laid = laid-then kept (open_in laid old) laid new each ties in
    record {
      ties = relaid kept (open_in laid old) laid new each ties;
      laid_is = is;
      changes = λ q. ap (λ xs. laid_by q xs ++ changes_of q new) is ∙ sym (each q);
    }

-- and where one list has more
pub record IsGrown (c : ClientNo) (changes laid : List RowChange) (old new : List Changes) (kept : Contents) : Type 0 where
  pub ties : Ties kept (open_in (laid_in kept new) new)
  pub laid_is : laid_in kept new ≡ laid
  pub own : open_in (laid_in kept new) new c ≡ open_in laid old c ++ changes
  pub others : (q : ClientNo) → q.0 ≢ c.0 → open_in (laid_in kept new) new q ≡ open_in laid old q

pub grown-lists : (c : ClientNo) (changes laid : List RowChange) (old new : List Changes) (kept : Contents) → Ties kept (with_changes c changes (open_in laid old))
    → changes_of c new ≡ changes_of c old ++ changes → ((q : ClientNo) → q.0 ≢ c.0 → changes_of q new ≡ changes_of q old) → IsGrown c changes laid old new kept
grown-lists c changes laid old new kept ties own others =
    let mine : open_in laid new c ≡ open_in laid old c ++ changes = ap (λ xs. laid_by c laid ++ xs) own ∙ sym (append_assoc (laid_by c laid) (changes_of c old) changes) in
    let theirs : (q : ClientNo) → q.0 ≢ c.0 → open_in laid new q ≡ open_in laid old q = λ q ne. ap (λ xs. laid_by q laid ++ xs) (others q ne) in
    let each : (q : ClientNo) → with_changes c changes (open_in laid old) q ≡ open_in laid new q = grown c changes (open_in laid old) (open_in laid new) mine theirs in
    let is : laid_in kept new ≡ laid = laid-then kept (with_changes c changes (open_in laid old)) laid new each ties in
    record {
      ties = relaid kept (with_changes c changes (open_in laid old)) laid new each ties;
      laid_is = is;
      own = ap (λ xs. laid_by c xs ++ changes_of c new) is ∙ mine;
      others = λ q ne. ap (λ xs. laid_by q xs ++ changes_of q new) is ∙ theirs q ne;
    }

-- and where one more row is laid
more-laid : (change : RowChange) (laid : List RowChange) (logs : List Changes) → changes_of replayer logs ≡ []
    → (q : ClientNo) → with_changes replayer (change ∷ []) (open_in laid logs) q ≡ open_in (laid ++ change ∷ []) logs q
more-laid change laid logs none q = go (q.0 == 0) refl
  where
    go : (b : Bool) → (q.0 == 0) ≡ b → cond b ((cond b laid [] ++ changes_of q logs) ++ change ∷ []) (cond b laid [] ++ changes_of q logs) ≡ cond b (laid ++ change ∷ []) [] ++ changes_of q logs
    go false e = refl
    go true e =
        let empty : changes_of q logs ≡ [] = ap (λ (p : ClientNo). changes_of p logs) (client-is q replayer e) ∙ none in
        ap (λ xs. (laid ++ xs) ++ change ∷ []) empty
        ∙ (ap (λ xs. xs ++ change ∷ []) (append-none laid)
        ∙ (sym (append-none (laid ++ change ∷ []))
        ∙ ap (λ xs. (laid ++ change ∷ []) ++ xs) (sym empty)))

pub laid-ties : (kept : Contents) (change : RowChange) (laid : List RowChange) (logs : List Changes) → changes_of replayer logs ≡ []
    → Ties kept (with_changes replayer (change ∷ []) (open_in laid logs)) → Ties kept (open_in (laid_in kept logs) logs)
laid-ties kept change laid logs none ties = relaid kept (with_changes replayer (change ∷ []) (open_in laid logs)) (laid ++ change ∷ []) logs (more-laid change laid logs none) ties

pub laid-more : (kept : Contents) (change : RowChange) (laid : List RowChange) (logs : List Changes) → changes_of replayer logs ≡ []
    → Ties kept (with_changes replayer (change ∷ []) (open_in laid logs)) → laid_in kept logs ≡ laid ++ change ∷ []
laid-more kept change laid logs none ties = laid-then kept (with_changes replayer (change ∷ []) (open_in laid logs)) (laid ++ change ∷ []) logs (more-laid change laid logs none) ties

-- the replayer's changes are one more then, and those of others as they were
pub own-more : (change : RowChange) (laid new : List RowChange) (logs : List Changes) → changes_of replayer logs ≡ [] → new ≡ laid ++ change ∷ []
    → open_in new logs replayer ≡ open_in laid logs replayer ++ change ∷ []
own-more change laid new logs none e =
    ap₂ (λ (xs ys : List RowChange). xs ++ ys) e none ∙ (append-none (laid ++ change ∷ [])
    ∙ sym (ap (λ (xs : List RowChange). (laid ++ xs) ++ change ∷ []) none ∙ ap (λ (xs : List RowChange). xs ++ change ∷ []) (append-none laid)))

pub other-more : (laid new : List RowChange) (logs : List Changes) (q : ClientNo) → q.0 ≢ 0 → open_in new logs q ≡ open_in laid logs q
other-more laid new logs q ne = ap (λ (xs : List RowChange). xs ++ changes_of q logs) (laid-elsewhere q new ne ∙ sym (laid-elsewhere q laid ne))

-- nothing is laid where nothing is kept
pub none-kept : laid_in (record { tables = []; held = []; changes = []; spare = 0 }) [] ≡ []
unfolding laid_in
none-kept = refl

nothing-tied : Ties (record { tables = []; held = []; changes = []; spare = 0 }) (λ client. [])
nothing-tied = record {
  order = refl;
  left = refl;
  open_tables = refl;
  rows_numbered = refl;
  names = λ at table is. absurd (let wrong : None ≡ Some table = is in cc);
  agrees = λ table number. refl;
  logged = λ client. refl;
  there = λ client. tt;
  numbered = λ client. tt;
  apart = λ a b table number ne named. refl;
  from = λ client. tt;
}

pub nothing-kept : Ties (record { tables = []; held = []; changes = []; spare = 0 }) (open_in (laid_in (record { tables = []; held = []; changes = []; spare = 0 }) []) [])
nothing-kept = relaid (record { tables = []; held = []; changes = []; spare = 0 }) (λ client. []) [] [] (λ q. go (q.0 == 0)) nothing-tied
  where
    go : (b : Bool) → [] ≡ cond {A = List RowChange} b [] [] ++ []
    go true = refl
    go false = refl

-- a row may be laid
pub some-mapped : {X Y : Type 0} (f : X → Y) (o : Option X) → IsSome o → IsSome (option_map f o)
some-mapped f None some = some
some-mapped f (Some x) some = some

pub lay : (t : TableName) (n : RowNo) (content : Option (List Cell)) (kept : Contents) (transactions : ClientNo → List RowChange) → Ties kept transactions
    → is_open t (open_tables kept.tables) ≡ true → (IsRowLocked transactions replayer t n → ⊥) → 1 ≤ n.0
    → IsSome content ⊎ IsSome (row_at t n (laid_over (committed kept.tables kept.held) (transactions replayer)))
    → IsWritten kept transactions replayer
    ((record { table = t; row = n; old = row_at t n (laid_over (committed kept.tables kept.held) (transactions replayer)); new = content }) ∷ [])
lay t n content kept transactions ties there free numbered some = write
    ((record { table = t; row = n; old = row_at t n (laid_over (committed kept.tables kept.held) (transactions replayer)); new = content }) ∷ [])
    kept transactions replayer ties
    (record { there = there; free = free; numbered = numbered; content = elim some [ inl new ↦ inr new | inr old ↦ inl old ] }, tt)
    (refl, tt)

pub seen-content : {X : Type 0} (t : TableName) (n : RowNo) (content : Option X) (kept : Contents) (transactions : ClientNo → List RowChange) → Ties kept transactions
    → IsSome content ⊎ IsSome (row_at t n (laid_over (committed kept.tables kept.held) (transactions replayer)))
    → IsSome content ⊎ IsSome (seen_at (number_of t kept.tables) n replayer kept.held)
seen-content t n content kept transactions ties some = elim some [
  | inl new ↦ inl new
  | inr old ↦ inr (subst (λ (o : Option (List Cell)). IsSome o) (sym (seen-is kept transactions ties t n replayer)) old)
]
