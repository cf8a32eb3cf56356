-- By what statements are decided, and which end the transaction of their session first (SQL Language Reference, "SQL
-- Statements" and "COMMIT"; which statements commit first is this project's profile).
use Rattle.std.specs.Prelude.{Bool, true, false}
use Rattle.au_ruling.specs.declared.kind.StatementKind.{StatementKind}
use Rattle.au_ruling.specs.declared.kind.StatementKind.TheVariants.{OnRows, Commit as Committing, Rollback as RollingBack, Definition, Administration}
use Rattle.sql_ast.specs.declared.statement.Statement.{Statement}
use Rattle.sql_ast.specs.declared.statement.Statement.TheVariants.{Select, Count, Insert, Update, Delete, Commit, Rollback, CreateTable, DropTable, CreateUser, AlterUser, DropUser, CreateRole, DropRole, Grant, CreatePolicy, DropPolicy, Audit, Noaudit, Call}

-- by what the statement is decided
abbrev pub kind_of : Statement → StatementKind
kind_of (Select select) = OnRows
kind_of (Count count) = OnRows
kind_of (Insert insert) = OnRows
kind_of (Update update) = OnRows
kind_of (Delete delete) = OnRows
kind_of Commit = Committing
kind_of Rollback = RollingBack
kind_of (CreateTable create) = Definition
kind_of (DropTable table) = Definition
kind_of (CreateUser user password) = Definition
kind_of (AlterUser user password) = Definition
kind_of (DropUser user) = Definition
kind_of (CreateRole role) = Definition
kind_of (DropRole role) = Definition
kind_of (Grant grant) = Definition
kind_of (CreatePolicy create) = Administration
kind_of (DropPolicy policy) = Administration
kind_of (Audit audit) = Administration
kind_of (Noaudit policy users) = Administration
kind_of (Call call) = Administration

-- the kind is that of statements on rows
abbrev pub is_kind_on_rows : StatementKind → Bool
is_kind_on_rows OnRows = true
is_kind_on_rows _ = false

-- the statement is on rows: SELECT, INSERT, UPDATE or DELETE
abbrev pub is_on_rows : Statement → Bool
is_on_rows statement = is_kind_on_rows (kind_of statement)

-- statements of the kind commit their session's transaction before all else
abbrev pub commits_by_kind : StatementKind → Bool
commits_by_kind OnRows = false
commits_by_kind RollingBack = false
commits_by_kind _ = true

-- The statement commits its session's transaction before all else, also where it is refused then: COMMIT does, and so does
-- each statement that is neither on rows nor ROLLBACK.
abbrev pub commits : Statement → Bool
commits statement = commits_by_kind (kind_of statement)
