-- The sample: the asks by which one client fills a table that is audited (all of it is this project's own).
use Rattle.std.specs.Prelude.{ℕ, ◌+◌, ◌*◌, ◌%◌, ◌==◌, List, [], ◌∷◌, ◌++◌, if◌then◌else◌, codes, decimal, Option}
use Rattle.std.specs.List.{flat_map, range_with_len, slice_get}
use Rattle.au_base.specs.declared.ask.Ask.{Ask}
use Rattle.au_base.specs.declared.ask.Ask.TheVariants.{Local, Sql}

-- the table that is filled
unfoldable pub table_text : List ℕ
table_text = codes "CREATE TABLE PAY (ID NUMBER PRIMARY KEY, SAL NUMBER)"

-- the audit policy of its inserts
unfoldable pub policy_text : List ℕ
policy_text = codes "CREATE AUDIT POLICY PINS ACTIONS INSERT ON PAY"

unfoldable pub enabling_text : List ℕ
enabling_text = codes "AUDIT POLICY PINS"

-- the fine-grained policy of its high salaries
unfoldable pub high_text : List ℕ
high_text = codes "BEGIN DBMS_FGA.ADD_POLICY(object_name => 'PAY', policy_name => 'HIGH', audit_condition => 'SAL >= 900', audit_column => 'SAL', statement_types => 'SELECT,INSERT'); END;"

-- the question after the high salaries
unfoldable pub count_text : List ℕ
count_text = codes "SELECT COUNT(*) FROM PAY WHERE SAL >= 900"

unfoldable pub commit_text : List ℕ
commit_text = codes "COMMIT"

unfoldable pub rollback_text : List ℕ
rollback_text = codes "ROLLBACK"

-- the salary of the row with this number, which the seed moves
abbrev pub salary : ℕ → ℕ → ℕ
salary seed row = (37 * row + seed) % 1000

-- a row with this number and this salary is put in
unfoldable pub inserting : ℕ → ℕ → List ℕ
inserting row salary = codes "INSERT INTO PAY VALUES (" ++ decimal row ++ codes ", " ++ decimal salary ++ codes ")"

-- the row with this number is put in
abbrev pub insert_text : ℕ → ℕ → List ℕ
insert_text seed row = inserting row (salary seed row)

-- how the hundred rows up to this one end: each tenth hundred is rolled back
abbrev pub ending_text : ℕ → List ℕ
ending_text row = if row % 1000 == 0 then rollback_text else commit_text

-- what is asked for a row: that it is put in, and behind each hundredth row how the hundred ends
abbrev pub row_asks : ℕ → ℕ → List Ask
row_asks seed row = Sql (insert_text seed row) ∷ (if row % 100 == 0 then Sql (ending_text row) ∷ [] else [])

-- what is asked for the rows from 1 on, so many of them
abbrev pub rows_asks : ℕ → ℕ → List Ask
rows_asks seed rows = flat_map (row_asks seed) (range_with_len 1 rows)

-- what is asked before all rows
abbrev pub opening : List Ask
opening = Local ∷ Sql table_text ∷ Sql policy_text ∷ Sql enabling_text ∷ Sql high_text ∷ []

-- what is asked behind all rows
abbrev pub closing : List Ask
closing = Sql commit_text ∷ Sql count_text ∷ []

-- all that is asked, in order
abbrev pub sample : ℕ → ℕ → List Ask
sample seed rows = opening ++ rows_asks seed rows ++ closing

-- the ask at this place, counted from 0, where there is one
abbrev pub ask_of : ℕ → ℕ → ℕ → Option Ask
ask_of seed rows place = slice_get (sample seed rows) place
