-- A text without its password is a text that fits where the text did.
use Rattle.std.proofs.Common.{◌≡◌, ◌≢◌, ◌≤◌, ◌+◌, ◌-◌, ℕ, zero, suc, List, [], ◌∷◌, ◌++◌, length, take, drop, refl, arith}
use Rattle.std.proofs.lemmas.List.{length-append, length-drop, length-take-le}
use Rattle.sql_ast.specs.declared.administration.Password.{Password}
use Rattle.sql_ast.specs.declared.statement.Statement.{Statement}
use Rattle.sql_ast.specs.declared.statement.Statement.TheVariants.{CreateUser, AlterUser}
use Rattle.au_audit.specs.Statements.{IsPasswordIn, IsPlaced, recorded_text, without_password}

length_of : (text : List ℕ) (password : Password) → IsPasswordIn text password → length (without_password text password) ≡ password.from + (1 + (length text - password.to))
length_of text password is =
    let from = is.some in
    let within = is.within in
    let joined = length-append (take password.from text) (42 ∷ drop password.to text) in
    let front = length-take-le password.from text (omega arith) in
    let behind = length-drop password.to text in
    omega arith

without_some : (text : List ℕ) (password : Password) → IsPasswordIn text password → 1 ≤ length (without_password text password)
without_some text password is = (let long = length_of text password is in omega arith)

without_fits : (text : List ℕ) (password : Password) → IsPasswordIn text password → length (without_password text password) ≤ length text
without_fits text password is = (let long = length_of text password is in let from = is.some in let within = is.within in omega arith)

not_empty : (text : List ℕ) → text ≢ [] → 1 ≤ length text
not_empty [] some = absurd (some refl)
not_empty (byte ∷ bytes) some = omega arith

pub recorded_some : (text : List ℕ) (statement : Statement) → IsPlaced text statement → text ≢ [] → 1 ≤ length (recorded_text text statement)
recorded_some text (CreateUser user password) placed some = without_some text password placed
recorded_some text (AlterUser user password) placed some = without_some text password placed
recorded_some text _ placed some = not_empty text some

pub recorded_fits : (text : List ℕ) (statement : Statement) → IsPlaced text statement → length (recorded_text text statement) ≤ length text
recorded_fits text (CreateUser user password) placed = without_fits text password placed
recorded_fits text (AlterUser user password) placed = without_fits text password placed
recorded_fits text _ placed = omega arith
