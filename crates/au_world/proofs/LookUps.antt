-- Tables that are looked up by key are parts of the tables that are seen.
use Rattle.std.proofs.Common.{◌≡◌, ◌≢◌, ◌∙◌, ◌≤◌, ◌<◌, ◌+◌, ℕ, zero, suc, Bool, true, false, cond, ◌⊎◌, inl, inr, List, [], ◌∷◌, ◌++◌, map, length, filter, drop, get_or, add-one, append_assoc, refl, sym, ap, ap₂, subst, arith}
use Rattle.std.specs.Prelude.{IfOk, IfSome, IsTrue, Option, Some, None, Result, Ok, Err}
use Rattle.std.specs.List.{AllByRecursion, AllZip, Contains, enumerate_from, slice_get}
use Rattle.std.proofs.Math.Seq.{drop-cons}
use Rattle.std.proofs.lemmas.List.{length-map}
use Rattle.au_base.specs.declared.cell.Cell.{Cell}
use Rattle.au_base.specs.declared.numbers.ClientNo.{ClientNo}
use Rattle.au_base.specs.declared.table.TableName.{TableName}
use Rattle.au_base.specs.Sameness.{same_table}
use Rattle.au_entries.specs.declared.table.Table.{Table}
use Rattle.au_expr.specs.declared.placed.Placed.{Placed}
use Rattle.au_expr.specs.Sessions.{Session}
use Rattle.au_query.specs.Combos.{IsSoundLine, Line}
use Rattle.au_query.specs.declared.source.Source.{Source}
use Rattle.au_txn.specs.Desks.{Contents, key_of}
use Rattle.au_world.specs.declared.built_in.TableKind.{TableKind}
use Rattle.au_world.specs.declared.built_in.TableKind.TheVariants.{Dual, Trail, Created}
use Rattle.au_world.specs.declared.from_table.FromTable.{FromTable}
use Rattle.au_world.specs.BuiltInTables.{kind_of, made_rows, numbered, numbered_row}
use Rattle.au_world.specs.declared.world.World.{World}
use Rattle.au_world.specs.Cutting.{AreParts, IsPart, names_of}
use Rattle.au_world.specs.Inside.{IsFoundTable, names_in, told_by, whole_of, wholes}
use Rattle.au_world.specs.Selecting.{Seen, rows_of_seen}
use Rattle.au_world.specs.Sights.{Sight, has_table, is_there_by, rows_by, rows_seen, sight_of, table_named}
use Rattle.au_world.specs.Sound.{IsOpenTable, IsSeenSoundly, IsSoundFor}
use Rattle.au_world.proofs.Cells.{numbered_sound}
use Rattle.au_world.proofs.Halving.{found_in}
use Rattle.au_world.proofs.Members.{any_from, none, split}
use Rattle.au_world.proofs.Seen.{made_seen}

pub if_ok : {A E : Type 0} (P Q : A → Type 0) → ((a : A) → P a → Q a) → (r : Result A E) → IfOk r P → IfOk r Q
if_ok P Q turn (Ok a) is = turn a is
if_ok P Q turn (Err e) is = is

pub if_both : {A E : Type 0} (P Q R : A → Type 0) → ((a : A) → P a → Q a → R a) → (r : Result A E) → IfOk r P → IfOk r Q → IfOk r R
if_both P Q R turn (Ok a) p q = turn a p q
if_both P Q R turn (Err e) p q = p

pub if_some : {A : Type 0} (P Q : A → Type 0) → ((a : A) → P a → Q a) → (o : Option A) → IfSome o P → IfSome o Q
if_some P Q turn None is = is
if_some P Q turn (Some a) is = turn a is

no_name : (name : TableName) → None ≡ Some name → ⊥
no_name name is = cc

abbrev or_this : TableName → Option TableName → TableName
or_this otherwise None = otherwise
or_this otherwise (Some name) = name

-- the name at a place is that of the table there
pub name_at : (tables : List FromTable) (k : ℕ) (table : FromTable) (name : TableName) → table ≡ get_or tables k table → slice_get (names_in tables) k ≡ Some name → table.name ≡ name
name_at [] k table name is at = absurd (no_name name at)
name_at (t ∷ tables) zero table name is at = ap (λ (x : FromTable). x.name) is ∙ ap (or_this name) at
name_at (t ∷ tables) (suc k) table name is at = name_at tables k table name is at

-- what holds of all elements holds of each
pub each_of : {X : Type 0} (P : X → Type 0) (xs : List X) → AllByRecursion P xs → (x : X) → Contains xs x → P x
each_of P [] all x has = absurd (none x has)
each_of P (y ∷ xs) all x has = elim (split y xs x has) [
  | inl same ↦ subst P same all.0
  | inr later ↦ each_of P xs all.1 x later
]

-- the key of a table of the catalogue is that of the open table
pub same_key : ((a b : TableName) → same_table a b ≡ true → a ≡ b) → (desk : Contents) (tables : List Table) (name : TableName) (table : Table)
    → AllByRecursion (IsOpenTable desk) tables → table_named tables name ≡ Some table → key_of name desk.tables ≡ table.key
same_key same desk tables name table opened is =
    let found = found_in tables name table is in
    ap (λ (n : TableName). key_of n desk.tables) (sym (same table.name name found.1)) ∙ (each_of (IsOpenTable desk) tables opened table found.0).key

-- ---- sizes

long_at : (n : ℕ) (rows : List (List Cell)) → length (map numbered_row (enumerate_from n rows)) ≡ length rows
long_at n [] = refl
long_at n (row ∷ rows) = ap suc (long_at (n + 1) rows)

pub made_long : (sight : Sight) (name : TableName) (kind : TableKind) (made : List (List Cell)) → kind ≢ Created → made ≡ made_rows sight.trail kind → length (rows_by sight name kind) ≡ length made
made_long sight name kind made other is = sym (ap length (made_seen sight name kind other)) ∙ long_at 1 (made_rows sight.trail kind) ∙ sym (ap length is)

-- ---- rows of parts

filter_sound_at : (keeps : Line → Bool) (line : Line) (rest : List Line) (b : Bool) → IsSoundLine line → AllByRecursion IsSoundLine rest → AllByRecursion IsSoundLine (cond b (line ∷ rest) rest)
filter_sound_at keeps line rest true one all = (one, all)
filter_sound_at keeps line rest false one all = all

filter_sound : (keeps : Line → Bool) (lines : List Line) → AllByRecursion IsSoundLine lines → AllByRecursion IsSoundLine (filter keeps lines)
filter_sound keeps [] all = tt
filter_sound keeps (line ∷ lines) all = filter_sound_at keeps line (filter keeps lines) (keeps line) all.0 (filter_sound keeps lines all.1)

pub part_sound : (session : Session) (conditions : List Placed) (names : List TableName) (p : ℕ × Seen) (part : Seen) → IsPart session conditions names p part → AllByRecursion IsSoundLine p.1.1 → AllByRecursion IsSoundLine part.1
part_sound session conditions names p part is sound = elim is [
  | inl same ↦ subst (λ (t : Seen). AllByRecursion IsSoundLine t.1) (sym same) sound
  | inr cut ↦ subst (AllByRecursion IsSoundLine) (sym cut.rows) (filter_sound (λ (line : Line). cut.keeps line.0) p.1.1 sound)
]

-- ---- one table after the other

pub at_hand : {X : Type 0} (xs : List X) (i : ℕ) (x : X) → i < length xs → x ≡ get_or xs i x → drop i xs ≡ x ∷ drop (i + 1) xs
at_hand xs i x within is = drop-cons xs i x within ∙ ap₂ (λ y (n : ℕ). y ∷ drop n xs) (sym is) (sym (add-one i))

pub one_more : {A B : Type 0} (R : ℕ × B → B → Type 0) (f : A → B) (xs : List A) (i : ℕ) (x : A) (done : List B) (new : B)
    → i < length xs → x ≡ get_or xs i x → R (i, f x) new
    → ((rest : List B) → AllZip R (enumerate_from i (map f (drop i xs))) rest → AllZip R (enumerate_from 0 (map f xs)) (done ++ rest))
    → (rest : List B) → AllZip R (enumerate_from (i + 1) (map f (drop (i + 1) xs))) rest → AllZip R (enumerate_from 0 (map f xs)) ((done ++ new ∷ []) ++ rest)
one_more R f xs i x done new within is r so_far rest all =
    subst (AllZip R (enumerate_from 0 (map f xs))) (sym (append_assoc done (new ∷ []) rest))
    (so_far (new ∷ rest) (subst (λ ys. AllZip R (enumerate_from i (map f ys)) (new ∷ rest)) (sym (at_hand xs i x within is)) (r, all)))

pub all_push : {X : Type 0} (P : X → Type 0) (xs : List X) (x : X) → AllByRecursion P xs → P x → AllByRecursion P (xs ++ x ∷ [])
all_push P [] x all one = (one, tt)
all_push P (y ∷ xs) x all one = (all.0, all_push P xs x all.1 one)

pub tail_of : {X : Type 0} (P : X → Type 0) (xs : List X) (i : ℕ) (x : X) → i < length xs → x ≡ get_or xs i x → AllByRecursion P (drop i xs) → AllByRecursion P (drop (i + 1) xs)
tail_of P xs i x within is all = (subst (AllByRecursion P) (at_hand xs i x within is) all).1

-- ---- what is seen is sound

-- a table that is there is seen soundly
pub soundly : (desk : Contents) (client : ClientNo) (tables : List Table) (name : TableName) → ((a b : TableName) → same_table a b ≡ true → a ≡ b)
    → AllByRecursion (λ (table : Table). IsSeenSoundly desk client table.name) tables → has_table tables name ≡ true → IsSeenSoundly desk client name
soundly desk client tables name same all is =
    let found = any_from (λ (table : Table). same_table table.name name) tables is in
    subst (IsSeenSoundly desk client) (same found.0.name name found.2) (each_of (λ (table : Table). IsSeenSoundly desk client table.name) tables all found.0 found.1)

sound_at : (world : World) (client : ClientNo) (table : FromTable) → IsSoundFor world client → IsFoundTable world table
    → ((a b : TableName) → same_table a b ≡ true → a ≡ b)
    → (kind : TableKind) → kind_of table.name ≡ kind → AllByRecursion IsSoundLine (rows_by (sight_of world client) table.name kind)
sound_at world client table sound found same Dual is = subst (λ rows. AllByRecursion IsSoundLine (numbered rows)) (found.made.rows ∙ ap (made_rows world.records.now) is) (numbered_sound 1 table.made found.made.sound)
sound_at world client table sound found same Trail is = subst (λ rows. AllByRecursion IsSoundLine (numbered rows)) (found.made.rows ∙ ap (made_rows world.records.now) is) (numbered_sound 1 table.made found.made.sound)
sound_at world client table sound found same Created is =
    (soundly world.desk.now client world.catalog.now.tables table.name same sound.seen (sym (ap (is_there_by world.catalog.now.tables table.name) is) ∙ found.there)).cells

pub whole_sound : (world : World) (client : ClientNo) (table : FromTable) → IsSoundFor world client → IsFoundTable world table → ((a b : TableName) → same_table a b ≡ true → a ≡ b)
    → AllByRecursion IsSoundLine (rows_seen (sight_of world client) table.name)
whole_sound world client table sound found same = sound_at world client table sound found same (kind_of table.name) refl

pub wholes_sound : (world : World) (client : ClientNo) (tables : List FromTable) → IsSoundFor world client → AllByRecursion (IsFoundTable world) tables
    → ((a b : TableName) → same_table a b ≡ true → a ≡ b)
    → AllByRecursion (AllByRecursion IsSoundLine) (rows_of_seen (wholes (sight_of world client) tables))
wholes_sound world client [] sound found same = tt
wholes_sound world client (table ∷ tables) sound found same = (whole_sound world client table sound found.0 same, wholes_sound world client tables sound found.1 same)

-- as many parts as tables
long_parts : {A B : Type 0} (R : ℕ × A → B → Type 0) (n : ℕ) (xs : List A) (ys : List B) → AllZip R (enumerate_from n xs) ys → length ys ≡ length xs
long_parts R n [] [] all = refl
long_parts R n [] (y ∷ ys) all = absurd all
long_parts R n (x ∷ xs) [] all = absurd all
long_parts R n (x ∷ xs) (y ∷ ys) all = ap suc (long_parts R (n + 1) xs ys all.1)

pub parts_long : (session : Session) (conditions : List Placed) (sight : Sight) (tables : List FromTable) (sources : List Source) → AreParts session conditions (wholes sight tables) (map told_by sources)
    → length tables ≡ length sources
parts_long session conditions sight tables sources are =
    sym (length-map tables (whole_of sight)) ∙ sym (long_parts (IsPart session conditions (names_of (wholes sight tables))) 0 (wholes sight tables) (map told_by sources) are) ∙ length-map sources told_by

-- a table of a list of one stands at place 0 alone
pub lone_place : (name : TableName) (other : ℕ) → slice_get (name ∷ []) other ≡ Some name → other ≡ 0
lone_place name zero at = refl
lone_place name (suc other) at = absurd (no_name name at)
