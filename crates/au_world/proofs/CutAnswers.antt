-- A query answers over parts of its tables what it answers over them whole.
use Rattle.std.proofs.Common.{◌≡◌, ◌∙◌, ◌≤◌, ◌<◌, ◌+◌, ◌&&◌, ℕ, zero, suc, Bool, true, false, not, cond, ◌==◌, eqb-true, ◌⊎◌, inl, inr, List, [], ◌∷◌, ◌++◌, map, take, length, filter, nat_lt, refl, sym, ap, ap₂, subst, arith}
use Rattle.std.specs.Prelude.{IsTrue, Option, Some, None}
use Rattle.std.specs.List.{AllByRecursion, AllZip, Contains, enumerate_from, list_any, slice_get}
use Rattle.std.specs.Option.{option_map}
use Rattle.std.proofs.lemmas.List.{take-map}
use Rattle.std.proofs.lemmas.Option.{slice_get-map}
use Rattle.au_base.specs.declared.code.Code.{Code}
use Rattle.au_base.specs.declared.numbers.RowNo.{RowNo}
use Rattle.au_base.specs.declared.table.Column.{Column}
use Rattle.au_base.specs.declared.table.TableName.{TableName}
use Rattle.au_base.specs.Codes.{OVERFLOW, TOO_MANY_COMBINATIONS, TOO_MANY_ROWS}
use Rattle.au_base.specs.Limits.{COMBINATIONS, REPLY_ROWS}
use Rattle.au_base.specs.Sameness.{same_table}
use Rattle.au_expr.specs.declared.placed.Placed.{Placed}
use Rattle.au_expr.specs.Names.{first}
use Rattle.au_expr.specs.Rows.{Range}
use Rattle.au_expr.specs.Sessions.{Session}
use Rattle.au_query.specs.declared.selected.Selected.{Selected}
use Rattle.au_query.specs.Answers.{Comes, IsReply, columns_at, has_number, is_named, stands_in, takes_part, trees_of}
use Rattle.au_query.specs.Combos.{AreSoundRows, Line, combos, passes, product, product_size}
use Rattle.au_query.specs.Fixed.{NeverOverflows}
use Rattle.au_query.specs.Queries.{query_of}
use Rattle.au_query.specs.Refusals.{kind_refusal, name_refusal, overflow_refusal, select_refusal, too_many_combinations, too_many_rows, too_many_tables, where_broken}
use Rattle.sql_ast.specs.declared.query.Select.{Select}
use Rattle.au_world.specs.Cutting.{AreParts, IsCut, IsPart, names_of}
use Rattle.au_world.specs.Selecting.{IsDone, IsSelectedFrom, Seen, is_first, named_at, named_over, places_of, rows_of_seen, touched_at, touched_over}
use Rattle.au_world.proofs.Answered.{comes}
use Rattle.au_world.proofs.Members.{any_from, here, kept, mapped, none, passed, split, there}
use Rattle.au_world.proofs.Products.{IsViewPart, passing_parts, parts_few, row_of_view}
use Rattle.au_world.proofs.Told.{any_mapped, map_cond, picked, picked_at}

differs : true ≡ false → ⊥
differs e = cc

-- ---- the rows of the parts

view_part : (session : Session) (conditions : List Placed) (names : List TableName) (n : ℕ) (whole part : Seen) → IsPart session conditions names (n, whole) part → IsViewPart (passes session conditions) (n, whole.1) part.1
view_part session conditions names n whole part is = elim is [
  | inl same ↦ inl (ap (λ (t : Seen). t.1) same)
  | inr cut ↦ inr (record { keeps = λ (line : Line). cut.keeps line.0; rows = cut.rows; passing = cut.passing })
]

view_parts : (session : Session) (conditions : List Placed) (names : List TableName) (n : ℕ) (seen parts : List Seen) → AllZip (IsPart session conditions names) (enumerate_from n seen) parts
    → AllZip (IsViewPart (passes session conditions)) (enumerate_from n (rows_of_seen seen)) (rows_of_seen parts)
view_parts session conditions names n [] [] all = tt
view_parts session conditions names n [] (part ∷ parts) all = absurd all
view_parts session conditions names n (whole ∷ seen) [] all = absurd all
view_parts session conditions names n (whole ∷ seen) (part ∷ parts) all =
    (view_part session conditions names n whole part all.0, view_parts session conditions names (n + 1) seen parts all.1)

same_combos : (session : Session) (conditions : List Placed) (seen parts : List Seen) → AreParts session conditions seen parts
    → combos session conditions (rows_of_seen parts) ≡ combos session conditions (rows_of_seen seen)
same_combos session conditions seen parts are =
    passing_parts (passes session conditions) (rows_of_seen seen) (rows_of_seen parts) (view_parts session conditions (names_of seen) 0 seen parts are)

-- ---- the refusal

pub not_more : (m n : ℕ) → n ≤ m → nat_lt m n ≡ false
not_more m n few = grind (arith, few)

few_combinations : (views : List (List Line)) → product_size views ≤ COMBINATIONS → too_many_combinations views ≡ None
few_combinations views few = ap (λ b. where_broken b TOO_MANY_COMBINATIONS) (not_more COMBINATIONS (product_size views) few)

same_refusal : (session : Session) (ranges : List Range) (seen parts : List Seen) (select : Select)
    → AreSoundRows (rows_of_seen seen) → AreSoundRows (rows_of_seen parts)
    → NeverOverflows session ((query_of ranges select).conditions ++ (query_of ranges select).items)
    → product_size (rows_of_seen seen) ≤ COMBINATIONS
    → AreParts session (query_of ranges select).conditions seen parts
    → select_refusal session ranges (rows_of_seen parts) select ≡ select_refusal session ranges (rows_of_seen seen) select
same_refusal session ranges seen parts select sound sound_parts never few are =
    let query = query_of ranges select in
    let conditions = query.conditions in
    let fewer = parts_few (passes session conditions) 0 (rows_of_seen seen) (rows_of_seen parts) (view_parts session conditions (names_of seen) 0 seen parts are) in
    let size : product_size (rows_of_seen parts) ≤ COMBINATIONS = omega (arith, fewer, few) in
    let told = λ (size : Option Code) (over : Option Code) (rows : Option Code). first (too_many_tables ranges ∷ name_refusal ranges select ∷ kind_refusal ranges select ∷ size ∷ over ∷ rows ∷ []) in
    let over = λ (b : Bool). where_broken b OVERFLOW in
    ap (λ size. told size (overflow_refusal session query (rows_of_seen parts)) (too_many_rows session query (rows_of_seen parts))) (few_combinations (rows_of_seen parts) size ∙ sym (few_combinations (rows_of_seen seen) few))
    ∙ ap (λ b. told (too_many_combinations (rows_of_seen seen)) (over b) (too_many_rows session query (rows_of_seen parts))) (never (rows_of_seen parts) sound_parts ∙ sym (never (rows_of_seen seen) sound))
    ∙ ap (λ (all : List (List Line)). told (too_many_combinations (rows_of_seen seen)) (overflow_refusal session query (rows_of_seen seen)) (where_broken (nat_lt REPLY_ROWS (length all)) TOO_MANY_ROWS)) (same_combos session conditions seen parts are)

-- ---- the tables' names

table_same : (session : Session) (conditions : List Placed) (names : List TableName) (p : ℕ × Seen) (part : Seen) → IsPart session conditions names p part → part.0 ≡ p.1.0
table_same session conditions names p part is = elim is [
  | inl same ↦ ap (λ (t : Seen). t.0) same
  | inr cut ↦ cut.table
]

names_same : (session : Session) (conditions : List Placed) (names : List TableName) (n : ℕ) (seen parts : List Seen) → AllZip (IsPart session conditions names) (enumerate_from n seen) parts
    → names_of parts ≡ names_of seen
names_same session conditions names n [] [] all = refl
names_same session conditions names n [] (part ∷ parts) all = absurd all
names_same session conditions names n (whole ∷ seen) [] all = absurd all
names_same session conditions names n (whole ∷ seen) (part ∷ parts) all =
    ap₂ (λ (a : TableName) (b : List TableName). a ∷ b) (table_same session conditions names (n, whole) part all.0) (names_same session conditions names (n + 1) seen parts all.1)

abbrev first_by : List TableName → ℕ → TableName → Bool
first_by names place name = not (list_any (λ (earlier : TableName). same_table earlier name) (take place names))

first_names : (seen : List Seen) (p : ℕ × Seen) → is_first seen p ≡ first_by (names_of seen) p.0 p.1.0
first_names seen p =
    sym (ap not (ap (list_any (λ (earlier : TableName). same_table earlier p.1.0)) (take-map (λ (t : Seen). t.0) p.0 seen)
    ∙ any_mapped (λ (t : Seen). t.0) (λ (earlier : TableName). same_table earlier p.1.0) (take p.0 seen)))

first_same : (seen parts : List Seen) (n : ℕ) (whole part : Seen) → names_of parts ≡ names_of seen → part.0 ≡ whole.0 → is_first parts (n, part) ≡ is_first seen (n, whole)
first_same seen parts n whole part names table =
    first_names parts (n, part) ∙ ap₂ (λ (all : List TableName) (name : TableName). first_by all n name) names table ∙ sym (first_names seen (n, whole))

abbrev places_by : TableName → List TableName → List ℕ
places_by table names = map (λ (p : ℕ × TableName). p.0) (filter (λ (p : ℕ × TableName). same_table p.1 table) (enumerate_from 0 names))

places_names : (table : TableName) (seen : List Seen) → places_by table (names_of seen) ≡ places_of table seen
places_names table seen =
    picked (λ (t : Seen). t.0) (λ (p : ℕ × Seen). same_table p.1.0 table) (λ (p : ℕ × TableName). same_table p.1 table)
    (λ (p : ℕ × Seen). p.0) (λ (p : ℕ × TableName). p.0) (λ p. refl) (λ p. refl) 0 seen

places_same : (seen parts : List Seen) (a b : TableName) → names_of parts ≡ names_of seen → a ≡ b → places_of a parts ≡ places_of b seen
places_same seen parts a b names table = sym (places_names a parts) ∙ ap₂ (λ (name : TableName) (all : List TableName). places_by name all) table names ∙ places_names b seen

-- ---- what is told of places, where the parts answer as the whole tables do

picked_pairs : {C : Type 0} (keep keeps : ℕ × Seen → Bool) (make makes : ℕ × Seen → C) (n : ℕ) (seen parts : List Seen)
    → AllZip (λ (p : ℕ × Seen) (part : Seen). (keeps (p.0, part) ≡ keep p) × (makes (p.0, part) ≡ make p)) (enumerate_from n seen) parts
    → map makes (filter keeps (enumerate_from n parts)) ≡ map make (filter keep (enumerate_from n seen))
picked_pairs keep keeps make makes n [] [] all = refl
picked_pairs keep keeps make makes n [] (part ∷ parts) all = absurd all
picked_pairs keep keeps make makes n (whole ∷ seen) [] all = absurd all
picked_pairs keep keeps make makes n (whole ∷ seen) (part ∷ parts) all =
    map_cond makes (keeps (n, part)) (n, part) (filter keeps (enumerate_from (n + 1) parts))
    ∙ picked_at (keep (n, whole)) (keeps (n, part)) (make (n, whole)) (makes (n, part))
    (map make (filter keep (enumerate_from (n + 1) seen))) (map makes (filter keeps (enumerate_from (n + 1) parts)))
    all.0.0 all.0.1 (picked_pairs keep keeps make makes (n + 1) seen parts all.1)
    ∙ sym (map_cond make (keep (n, whole)) (n, whole) (filter keep (enumerate_from (n + 1) seen)))

-- each pair stands at its place
placed_pairs : {A : Type 0} (R Q : ℕ × A → A → Type 0) (all : List A) → ((p : ℕ × A) (part : A) → slice_get all p.0 ≡ Some p.1 → R p part → Q p part)
    → (n : ℕ) (xs ys : List A) → ((k : ℕ) → slice_get all (k + n) ≡ slice_get xs k) → AllZip R (enumerate_from n xs) ys → AllZip Q (enumerate_from n xs) ys
placed_pairs R Q all turn n [] [] at are = tt
placed_pairs R Q all turn n [] (y ∷ ys) at are = are
placed_pairs R Q all turn n (x ∷ xs) [] at are = are
placed_pairs R Q all turn n (x ∷ xs) (y ∷ ys) at are =
    (turn (n, x) y (let e : n ≡ 0 + n = omega arith in ap (slice_get all) e ∙ at zero) are.0, placed_pairs R Q all turn (n + 1) xs ys (λ k. let e : k + (n + 1) ≡ suc k + n = omega arith in ap (slice_get all) e ∙ at (suc k)) are.1)

-- ---- the rows that take part

module _ {X : Type 0} where
  left_at : (test keeps : X → Bool) (x : X) (xs : List X) (b c : Bool) → test x ≡ c → keeps x ≡ b → (test x ≡ true → keeps x ≡ true)
      → filter test (filter keeps xs) ≡ filter test xs → filter test (cond b (x ∷ filter keeps xs) (filter keeps xs)) ≡ cond c (x ∷ filter test xs) (filter test xs)
  left_at test keeps x xs true c is stays among rest = ap (λ (t : Bool). cond t (x ∷ filter test (filter keeps xs)) (filter test (filter keeps xs))) is ∙ ap (λ ys. cond c (x ∷ ys) ys) rest
  left_at test keeps x xs false true is stays among rest = absurd (differs (sym (among is) ∙ stays))
  left_at test keeps x xs false false is stays among rest = rest

  -- a filter whose elements another keeps
  pub left_alone : (test keeps : X → Bool) (xs : List X) → ((x : X) → Contains xs x → test x ≡ true → keeps x ≡ true) → filter test (filter keeps xs) ≡ filter test xs
  left_alone test keeps [] among = refl
  left_alone test keeps (x ∷ xs) among =
      left_at test keeps x xs (keeps x) (test x) refl refl (among x (here x xs)) (left_alone test keeps xs (λ y has. among y (there x xs y has)))

same_as : (number : RowNo) (o : Option Line) → has_number number o ≡ true → (line : Line) × (o ≡ Some line) × (line.0 ≡ number)
same_as number None is = absurd (differs (sym is))
same_as number (Some line) is = (line, refl, let e : line.0.0 ≡ number.0 = eqb-true line.0.0 number.0 is in λ i. record { 0 = e i })

-- a place of a list that is numbered
numbered_at : (n : ℕ) (xs : List Seen) (p : ℕ × Seen) → Contains (enumerate_from n xs) p → (k : ℕ) × (p.0 ≡ k + n) × (slice_get xs k ≡ Some p.1)
numbered_at n [] p has = absurd (none p has)
numbered_at n (x ∷ xs) p has = elim (split (n, x) (enumerate_from (n + 1) xs) p has) [
  | inl same ↦ (zero, (let e : n ≡ 0 + n = omega arith in sym (ap (λ (q : ℕ × Seen). q.0) same) ∙ e), ap (λ (q : ℕ × Seen). Some q.1) same)
  | inr later ↦ (let found = numbered_at (n + 1) xs p later in (suc found.0, found.1 ∙ (let e : found.0 + (n + 1) ≡ suc found.0 + n = omega arith in e), found.2))
]

place_named : (same : (a b : TableName) → same_table a b ≡ true → a ≡ b) (table : TableName) (seen : List Seen) (place : ℕ) → Contains (places_of table seen) place → slice_get (names_of seen) place ≡ Some table
place_named same table seen place has =
    let at = mapped (λ (p : ℕ × Seen). p.0) (filter (λ (p : ℕ × Seen). same_table p.1.0 table) (enumerate_from 0 seen)) place has in
    let there_is = numbered_at 0 seen at.0 (kept (λ (p : ℕ × Seen). same_table p.1.0 table) (enumerate_from 0 seen) at.0 at.1) in
    let name = same at.0.1.0 table (passed (λ (p : ℕ × Seen). same_table p.1.0 table) (enumerate_from 0 seen) at.0 at.1) in
    let plain : there_is.0 + 0 ≡ there_is.0 = omega arith in
    let where_is : there_is.0 ≡ place = sym plain ∙ sym (there_is.1) ∙ at.2 in
    subst (λ k. slice_get (names_of seen) k ≡ Some table) where_is
    (slice_get-map (λ (t : Seen). t.0) seen there_is.0 ∙ ap (option_map (λ (t : Seen). t.0)) there_is.2 ∙ ap Some name)

module _ (same : (a b : TableName) → same_table a b ≡ true → a ≡ b) (session : Session) (conditions : List Placed) (seen parts : List Seen) (are : AreParts session conditions seen parts) where
  abbrev through : List (List Line)
  through = combos session conditions (rows_of_seen seen)

  names : names_of parts ≡ names_of seen
  names = names_same session conditions (names_of seen) 0 seen parts are

  keeps_it : (p : ℕ × Seen) (part : Seen) → slice_get seen p.0 ≡ Some p.1 → (cut : IsCut session conditions (names_of seen) p.0 p.1 part)
      → (line : Line) → takes_part through (places_of p.1.0 seen) line ≡ true → cut.keeps line.0 ≡ true
  keeps_it p part at cut line takes =
      let combo = any_from (stands_in (places_of p.1.0 seen) line.0) through takes in
      let place = any_from (λ place. has_number line.0 (slice_get combo.0 place)) (places_of p.1.0 seen) combo.2 in
      let row = same_as line.0 (slice_get combo.0 place.0) place.2 in
      let here_is : place.0 ≡ p.0 = cut.alone place.0 (place_named same p.1.0 seen place.0 place.1) in
      let stands : slice_get combo.0 p.0 ≡ Some row.0 = ap (slice_get combo.0) (sym here_is) ∙ row.1 in
      let view = slice_get-map (λ (t : Seen). t.1) seen p.0 ∙ ap (option_map (λ (t : Seen). t.1)) at in
      let in_view = row_of_view (rows_of_seen seen) combo.0 p.0 row.0 p.1.1 (kept (passes session conditions) (product (rows_of_seen seen)) combo.0 combo.1) stands view in
      ap cut.keeps (sym row.2) ∙ cut.passing combo.0 row.0 (passed (passes session conditions) (product (rows_of_seen seen)) combo.0 combo.1) stands in_view

  touched_pair : (p : ℕ × Seen) (part : Seen) → slice_get seen p.0 ≡ Some p.1 → IsPart session conditions (names_of seen) p part
      → (is_first parts (p.0, part) ≡ is_first seen p) × (touched_at through parts (p.0, part) ≡ touched_at through seen p)
  touched_pair p part at is =
      let table = table_same session conditions (names_of seen) p part is in
      let places = places_same seen parts part.0 p.1.0 names table in
      let numbers = λ (lines : List Line). map (λ (line : Line). line.0) lines in (
        first_same seen parts p.0 p.1 part names table,
        ap₂ (λ (name : TableName) (rows : List RowNo). (name, rows)) table
            (ap (λ (at : List ℕ). numbers (filter (takes_part through at) part.1)) places
            ∙ ap numbers (elim is [
              | inl whole ↦ ap (λ (t : Seen). filter (takes_part through (places_of p.1.0 seen)) t.1) whole
              | inr cut ↦ (ap (filter (takes_part through (places_of p.1.0 seen))) cut.rows
                  ∙ left_alone (takes_part through (places_of p.1.0 seen)) (λ (line : Line). cut.keeps line.0) p.1.1 (λ line has takes. keeps_it p part at cut line takes))
            ])),
      )

  same_touched : touched_over through parts ≡ touched_over through seen
  same_touched =
      picked_pairs (is_first seen) (is_first parts) (touched_at through seen) (touched_at through parts) 0 seen parts
      (placed_pairs (IsPart session conditions (names_of seen)) (λ p part. (is_first parts (p.0, part) ≡ is_first seen p) × (touched_at through parts (p.0, part) ≡ touched_at through seen p))
      seen touched_pair 0 seen parts (λ k. let e : k + 0 ≡ k = omega arith in ap (slice_get seen) e) are)

  named_pair : (trees : List Placed) (ranges : List Range) (p : ℕ × Seen) (part : Seen) → slice_get seen p.0 ≡ Some p.1 → IsPart session conditions (names_of seen) p part
      → (is_first parts (p.0, part) ≡ is_first seen p) × (named_at trees ranges parts (p.0, part) ≡ named_at trees ranges seen p)
  named_pair trees ranges p part at is =
      let table = table_same session conditions (names_of seen) p part is in (
        first_same seen parts p.0 p.1 part names table,
        ap₂ (λ (name : TableName) (places : List ℕ). (name, map (λ (column : ℕ × Column). column.1.name) (filter (is_named trees places) (enumerate_from 0 (columns_at (slice_get ranges p.0))))))
            table (places_same seen parts part.0 p.1.0 names table),
      )

  same_named : (trees : List Placed) (ranges : List Range) → named_over trees ranges parts ≡ named_over trees ranges seen
  same_named trees ranges =
      picked_pairs (is_first seen) (is_first parts) (named_at trees ranges seen) (named_at trees ranges parts) 0 seen parts
      (placed_pairs (IsPart session conditions (names_of seen)) (λ p part. (is_first parts (p.0, part) ≡ is_first seen p) × (named_at trees ranges parts (p.0, part) ≡ named_at trees ranges seen p))
      seen (named_pair trees ranges) 0 seen parts (λ k. let e : k + 0 ≡ k = omega arith in ap (slice_get seen) e) are)

  same_done : (ranges : List Range) (select : Select) (selected : Selected) → (query_of ranges select).conditions ≡ conditions
      → IsDone session ranges parts select selected → IsDone session ranges seen select selected
  same_done ranges select selected is done =
      let same_rows = ap (λ trees. combos session trees (rows_of_seen parts)) is ∙ same_combos session conditions seen parts are ∙ sym (ap (λ trees. combos session trees (rows_of_seen seen)) is) in
      record {
        code = done.code;
        reply = subst (λ passing. IsReply session ranges passing select selected.reply) same_rows done.reply;
        touched = done.touched ∙ ap (λ passing. touched_over passing parts) (ap (λ trees. combos session trees (rows_of_seen parts)) is ∙ same_combos session conditions seen parts are)
            ∙ same_touched ∙ ap (λ passing. touched_over passing seen) (sym (ap (λ trees. combos session trees (rows_of_seen seen)) is));
        named = done.named ∙ same_named (trees_of (query_of ranges select)) ranges;
      }

-- so the answer over the parts is that over the whole tables
pub answers_alike : ((a b : TableName) → same_table a b ≡ true → a ≡ b)
    → (session : Session) (ranges : List Range) (seen parts : List Seen) (select : Select) (selected : Selected)
    → AreSoundRows (rows_of_seen seen) → AreSoundRows (rows_of_seen parts)
    → NeverOverflows session ((query_of ranges select).conditions ++ (query_of ranges select).items)
    → product_size (rows_of_seen seen) ≤ COMBINATIONS
    → AreParts session (query_of ranges select).conditions seen parts
    → IsSelectedFrom session ranges parts select selected → IsSelectedFrom session ranges seen select selected
unfolding IsSelectedFrom
answers_alike same session ranges seen parts select selected sound sound_parts never few are is =
    subst (λ refusal. Comes refusal (IsDone session ranges seen select) selected) (same_refusal session ranges seen parts select sound sound_parts never few are)
    (comes (select_refusal session ranges (rows_of_seen parts) select) (IsDone session ranges parts select) (IsDone session ranges seen select) selected
    (same_done same session (query_of ranges select).conditions seen parts are ranges select selected refl) is)
