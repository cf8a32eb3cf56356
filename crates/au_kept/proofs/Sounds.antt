-- What is so of open changes stays so: where no client has any, where they are written, end or stay, and where tables come and
-- go.
use Rattle.std.proofs.Common.{◌≡◌, ◌≢◌, ◌∙◌, ◌⊎◌, inl, inr, ℕ, ◌≤◌, Bool, true, false, not, List, [], ◌∷◌, ◌++◌, length, map, refl, sym, ap, subst, arith}
use Rattle.std.specs.Prelude.{◌==◌, ◌||◌, ⊤, IsSome, IsTrue, Option, None, if◌then◌else◌}
use Rattle.std.specs.List.{AllByRecursion, Contains, filter, list_any}
use Rattle.std.proofs.lemmas.Bool.{or_cases, or_left, or_right}
use Rattle.std.proofs.lemmas.Bool.Decides.{nat_tests}
use Rattle.std.proofs.lemmas.List.{length-map}
use Rattle.au_base.specs.Limits.{TABLE_ROW_NUMBERS, TRANSACTION_CHANGES}
use Rattle.au_base.specs.Sameness.{same_table}
use Rattle.au_base.specs.declared.cell.Cell.{Cell}
use Rattle.au_base.specs.declared.numbers.ClientNo.{ClientNo}
use Rattle.au_base.specs.declared.numbers.RowNo.{RowNo}
use Rattle.au_base.specs.declared.table.Column.{Column}
use Rattle.au_base.specs.declared.table.TableName.{TableName}
use Rattle.au_entries.specs.declared.change.Change.{Change}
use Rattle.au_entries.specs.declared.change.Change.TheVariants as change
use Rattle.au_entries.specs.declared.kept.Kept.{Kept}
use Rattle.au_entries.specs.declared.table.Table.{Table}
use Rattle.au_entries.specs.Changing.{KeptRow, by_fields, changed_all, put_in_order, table_fields}
use Rattle.au_entries.specs.Lawful.{IsRowFounded}
use Rattle.au_entries.specs.Replaying.{AllGoOn, Conditions, has_table}
use Rattle.au_kept.specs.OpenChanges.{AreSoundChanges, IsSoundChange}
use Rattle.au_kept.specs.Writing.{KeepsSound}
use Rattle.au_kept.proofs.Among.{any_to}
use Rattle.au_kept.proofs.Chosen.{filtered, still_there}
use Rattle.au_kept.proofs.Lists.{all_joined}
use Rattle.au_kept.proofs.Numbers.{among_of, each_few, number_in, numbers_of}
use Rattle.au_kept.proofs.OpenTables.{same_at}
use Rattle.au_txn.specs.declared.change.RowChange.{RowChange}
use Rattle.au_txn.specs.Desks.{Contents as Desk, open_of}
use Rattle.au_txn.specs.Rows.{Row, is_in, row_at, triple_of}
use Rattle.au_txn.specs.Transactions.{IsNumber, is_of_row, is_of_table, laid_over, names_row, names_table}

-- ---- no changes

pub none_each : (tables : List Table) (changes : List RowChange) → changes ≡ [] → AllByRecursion (IsSoundChange tables) changes
none_each tables changes none = subst (AllByRecursion (IsSoundChange tables)) (sym none) tt

none_short : (changes : List RowChange) → changes ≡ [] → length changes ≤ TRANSACTION_CHANGES
none_short changes none = subst (λ (c : List RowChange). length c ≤ TRANSACTION_CHANGES) (sym none) (omega arith)

none_named : (table : TableName) (number : RowNo) (changes : List RowChange) → changes ≡ [] → IsTrue (names_row table number changes) → ⊥
none_named table number changes none named = let e : false ≡ true = subst (λ (c : List RowChange). IsTrue (names_row table number c)) none named in cc

-- where no client has changes they are sound
pub quiet_sound : (kept : Kept) (desk : Desk) → ((client : ClientNo) → open_of desk client ≡ []) → kept.rows ≡ map triple_of desk.rows → AllByRecursion (IsRowFounded kept) kept.rows
    → AllByRecursion (λ (table : Table). length (filter (λ (row : KeptRow). same_table row.0 table.name) kept.rows) ≤ TABLE_ROW_NUMBERS) kept.tables → AreSoundChanges kept.tables desk
quiet_sound kept desk quiet rows founded few = record {
  each = λ client. none_each kept.tables (open_of desk client) (quiet client);
  short = λ client. none_short (open_of desk client) (quiet client);
  few = λ table. (
    numbers_of table kept.rows,
    (
        let most = each_few kept founded few table in
        let same = length-map (filter (λ (row : KeptRow). same_table row.0 table) kept.rows) (λ (row : KeptRow). row.1) in
        omega (arith, most, same)),
    λ number is. elim is [
      | inl some ↦ subst (λ (rs : List KeptRow). Contains (numbers_of table rs) number) (sym rows) (number_in table number desk.rows some)
      | inr (client, named) ↦ absurd (none_named table number (open_of desk client) (quiet client) named)
    ],
  );
}

-- ---- changes that end or stay

-- Each client has no changes any more, or has those that it had, which are sound among other tables too; and no row has come
-- that no change named.
pub left_sound : (tables others : List Table) (old new : Desk) → AreSoundChanges tables old
    → ((client : ClientNo) → (open_of new client ≡ []) ⊎ ((open_of new client ≡ open_of old client) × AllByRecursion (IsSoundChange others) (open_of old client)))
    → ((table : TableName) (number : RowNo) → IsSome (row_at table number new.rows) → IsNumber old.rows (open_of old) table number)
    → AreSoundChanges others new
left_sound tables others old new h left rows = record {
  each = λ client. elim (left client) [
    | inl none ↦ none_each others (open_of new client) none
    | inr (same, all) ↦ subst (AllByRecursion (IsSoundChange others)) (sym same) all
  ];
  short = λ client. elim (left client) [
    | inl none ↦ none_short (open_of new client) none
    | inr (same, all) ↦ subst (λ (c : List RowChange). length c ≤ TRANSACTION_CHANGES) (sym same) (h.short client)
  ];
  few = λ table. among_of TABLE_ROW_NUMBERS (IsNumber old.rows (open_of old) table) (IsNumber new.rows (open_of new) table)
      (λ number is. elim is [
        | inl some ↦ rows table number some
        | inr (client, named) ↦ elim (left client) [
          | inl none ↦ absurd (none_named table number (open_of new client) none named)
          | inr (same, all) ↦ inr (client, subst (λ (c : List RowChange). IsTrue (names_row table number c)) same named)
        ]
      ])
      (h.few table);
}

-- the tables and the rows are the same
pub same_sound : (tables : List Table) (old new : Desk) → AreSoundChanges tables old → new.rows ≡ old.rows → ((client : ClientNo) → (open_of new client ≡ []) ⊎ (open_of new client ≡ open_of old client)) → AreSoundChanges tables new
same_sound tables old new h rows left =
    left_sound tables tables old new h
    (λ client. elim (left client) [
      | inl none ↦ inl none
      | inr same ↦ inr (same, h.each client)
    ])
    (λ table number some. inl (subst (λ (rs : List Row). IsSome (row_at table number rs)) rows some))

-- ---- changes that are written

client_same : (q client : ClientNo) → (q.0 == client.0) ≡ true → client ≡ q
client_same q client is = let e : client.0 ≡ q.0 = grind (arith, nat_tests) in ap (λ (n : ℕ). let c : ClientNo = record { 0 = n } in c) e

client_other : (q client : ClientNo) → (q.0 == client.0) ≡ false → q.0 ≢ client.0
client_other q client is same = grind (arith, nat_tests)

by_client_at : (P : ClientNo → Type 0) (client q : ClientNo) (b : Bool) → (q.0 == client.0) ≡ b → P client → (q.0 ≢ client.0 → P q) → P q
by_client_at P client q true is own other = subst P (client_same q client is) own
by_client_at P client q false is own other = other (client_other q client is)

-- what holds of one client and of each other one
pub by_client : (P : ClientNo → Type 0) (client q : ClientNo) → P client → (q.0 ≢ client.0 → P q) → P q
by_client P client q own other = by_client_at P client q (q.0 == client.0) refl own other

pub names_joined : (table : TableName) (number : RowNo) (xs ys : List RowChange) → IsTrue (names_row table number (xs ++ ys)) → IsTrue (names_row table number xs) ⊎ IsTrue (names_row table number ys)
names_joined table number [] ys named = inr named
names_joined table number (x ∷ xs) ys named = elim (or_cases (is_of_row table number x) (names_row table number (xs ++ ys)) named) [
  | inl here ↦ inl (or_left (is_of_row table number x) (names_row table number xs) here)
  | inr later ↦ elim (names_joined table number xs ys later) [
    | inl front ↦ inl (or_right (is_of_row table number x) (names_row table number xs) front)
    | inr behind ↦ inr behind
  ]
]

pub written_sound : (tables : List Table) (old new : Desk) (client : ClientNo) (changes : List RowChange) → AreSoundChanges tables old → KeepsSound tables old client changes → new.rows ≡ old.rows
    → open_of new client ≡ open_of old client ++ changes → ((q : ClientNo) → q.0 ≢ client.0 → open_of new q ≡ open_of old q) → AreSoundChanges tables new
written_sound tables old new client changes h w rows own others = record {
  each = λ q. by_client (λ (c : ClientNo). AllByRecursion (IsSoundChange tables) (open_of new c)) client q
      (subst (AllByRecursion (IsSoundChange tables)) (sym own) (all_joined (IsSoundChange tables) (open_of old client) changes (h.each client) w.each))
      (λ other. subst (AllByRecursion (IsSoundChange tables)) (sym (others q other)) (h.each q));
  short = λ q. by_client (λ (c : ClientNo). length (open_of new c) ≤ TRANSACTION_CHANGES) client q
      (subst (λ (c : List RowChange). length c ≤ TRANSACTION_CHANGES) (sym own) w.short)
      (λ other. subst (λ (c : List RowChange). length c ≤ TRANSACTION_CHANGES) (sym (others q other)) (h.short q));
  few = λ table. among_of TABLE_ROW_NUMBERS (λ number. IsNumber old.rows (open_of old) table number ⊎ IsTrue (names_row table number changes)) (IsNumber new.rows (open_of new) table)
      (λ number is. elim is [
        | inl some ↦ inl (inl (subst (λ (rs : List Row). IsSome (row_at table number rs)) rows some))
        | inr (q, named) ↦ by_client (λ (c : ClientNo). IsTrue (names_row table number (open_of new c)) → IsNumber old.rows (open_of old) table number ⊎ IsTrue (names_row table number changes)) client q
            (λ own_named. elim (names_joined table number (open_of old client) changes (subst (λ (c : List RowChange). IsTrue (names_row table number c)) own own_named)) [
              | inl front ↦ inl (inr (client, front))
              | inr behind ↦ inr behind
            ])
            (λ other other_named. inl (inr (q, subst (λ (c : List RowChange). IsTrue (names_row table number c)) (others q other) other_named)))
            named
      ])
      (w.few table);
}

-- ---- tables that come and go

moved : (tables others : List Table) (change : RowChange) → IsSoundChange tables change → ((table : Table) → Contains tables table → table.name ≡ change.table → Contains others table) → IsSoundChange others change
moved tables others change s stays = record {
  numbered = s.numbered;
  fits = (let (table, has, named, fit) = s.fits in (table, stays table has named, named, fit));
  spelled = s.spelled;
}

added_each : (name : TableName) (columns : List Column) (key : List ℕ) (tables : List Table) → list_any (λ (t : Table). same_table t.name name) tables ≡ false → (changes : List RowChange) → AllByRecursion (IsSoundChange tables) changes
    → AllByRecursion (IsSoundChange (put_in_order (λ (other : Table). by_fields (table_fields other.name) (table_fields name)) (record { name = name; columns = columns; key = key }) tables)) changes
added_each name columns key tables new [] all = tt
added_each name columns key tables new (c ∷ changes) all = (
  moved tables _ c all.0 (λ table has named.
      still_there (λ (other : Table). by_fields (table_fields other.name) (table_fields name)) (record { name = name; columns = columns; key = key }) tables table has
      (λ same. let e : true ≡ false = sym (any_to (λ (t : Table). same_table t.name name) tables table has (same_at table.name name same)) ∙ new in cc)),
  added_each name columns key tables new changes all.1,
)

not_named : (a b : Bool) → (a || b) ≡ false → (a ≡ false) × (b ≡ false)
not_named true b is = absurd (let e : true ≡ false = is in cc)
not_named false b is = (refl, is)

dropped_each : (name : TableName) (tables : List Table) (changes : List RowChange) → names_table name changes ≡ false → AllByRecursion (IsSoundChange tables) changes
    → AllByRecursion (IsSoundChange (filter (λ (t : Table). not (same_table t.name name)) tables)) changes
dropped_each name tables [] free all = tt
dropped_each name tables (c ∷ changes) free all =
    let parts = not_named (is_of_table name c) (names_table name changes) free in (
      moved tables _ c all.0 (λ table has named.
          filtered (λ (t : Table). not (same_table t.name name)) tables table has (ap (λ (t : TableName). not (same_table t name)) named ∙ ap not parts.0)),
      dropped_each name tables changes parts.1 all.1,
    )

-- none of the changes is of a row of the table that the change drops
abbrev pub Spares : List RowChange → Change → Type 0
Spares changes (change.TableGone table) = names_table table changes ≡ false
Spares changes _ = ⊤

not_true : (b : Bool) → not b ≡ true → b ≡ false
not_true true is = absurd (let e : false ≡ true = is in cc)
not_true false is = refl

-- changes of rows are sound among the tables that changes leave, where none drops one of theirs
pub each_stays : (conditions : Conditions) (image : Bool) (changes : List Change) (kept : Kept) (own : List RowChange) → AllGoOn conditions image kept changes → AllByRecursion (Spares own) changes
    → AllByRecursion (IsSoundChange kept.tables) own → AllByRecursion (IsSoundChange (changed_all conditions.tree changes kept).tables) own
each_stays conditions image [] kept own goes free all = all
each_stays conditions image (change.Table name columns key ∷ changes) kept own goes free all =
    each_stays conditions image changes _ own goes.1 free.1 (added_each name columns key kept.tables (not_true (has_table kept name) goes.0.0) own all)
each_stays conditions image (change.TableGone name ∷ changes) kept own goes free all = each_stays conditions image changes _ own goes.1 free.1 (dropped_each name kept.tables own free.0 all)
each_stays conditions image (_ ∷ changes) kept own goes free all = each_stays conditions image changes _ own goes.1 free.1 all

-- ---- rows that are laid, and tables that go with their rows

-- what rows answer once changes are laid over them, as the law has it
abbrev pub Untouched : Type 0
Untouched = (rows : List Row) (changes : List RowChange) (table : TableName) (number : RowNo) → names_row table number changes ≡ false → row_at table number (laid_over rows changes) ≡ row_at table number rows

laid_at : Untouched → (rows : List Row) (transactions : ClientNo → List RowChange) (client : ClientNo) (table : TableName) (number : RowNo) (b : Bool) → names_row table number (transactions client) ≡ b
    → IsSome (row_at table number (laid_over rows (transactions client))) → IsNumber rows transactions table number
laid_at law rows transactions client table number true is some = inr (client, is)
laid_at law rows transactions client table number false is some = inl (subst IsSome (law rows (transactions client) table number is) some)

-- a row that is there once a client's changes are laid has a used number
pub laid_used : Untouched → (rows : List Row) (transactions : ClientNo → List RowChange) (client : ClientNo) (table : TableName) (number : RowNo)
    → IsSome (row_at table number (laid_over rows (transactions client))) → IsNumber rows transactions table number
laid_used law rows transactions client table number some = laid_at law rows transactions client table number (names_row table number (transactions client)) refl some

-- what rows answer once a table's are gone, as the law has it
abbrev pub LeftRows : Type 0
LeftRows = (table other : TableName) (number : RowNo) (rows : List Row)
    → row_at other number (filter (λ row. not (is_in table row)) rows) ≡ (if same_table other table then None else row_at other number rows)

left_at : (b : Bool) (o : Option (List Cell)) → IsSome (if b then None else o) → IsSome o
left_at true o some = absurd (let e : false ≡ true = some in cc)
left_at false o some = some

-- a row that is left was there
pub left_some : LeftRows → (gone table : TableName) (number : RowNo) (rows : List Row) → IsSome (row_at table number (filter (λ row. not (is_in gone row)) rows)) → IsSome (row_at table number rows)
left_some law gone table number rows some = left_at (same_table table gone) (row_at table number rows) (subst IsSome (law gone table number rows) some)
