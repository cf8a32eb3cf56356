-- What statements come to, by whether they commit first.
use Rattle.std.proofs.Common.{◌≡◌, true, false, [], ap}
use Rattle.std.specs.Prelude.{None}
use Rattle.au_ruling.specs.declared.kind.StatementKind.{StatementKind}
use Rattle.au_ruling.specs.declared.kind.StatementKind.TheVariants.{OnRows, Commit, Rollback, Definition, Administration}
use Rattle.au_ruling.specs.declared.ruling.Ruling.{Ruling}
use Rattle.au_ruling.specs.Kinds.{commits_by_kind}
use Rattle.au_ruling.specs.Rulings.{ComesAs, Ground}
use Rattle.sql_ast.specs.declared.statement.Statement.{Statement}

-- one that doesn't commit changes nothing of what is kept
pub keeps_all : (kind : StatementKind) (g : Ground) (x : Statement) (r : Ruling) → commits_by_kind kind ≡ false → ComesAs kind g x r → (r.changes ≡ []) × (r.purge ≡ None)
keeps_all OnRows g x r none (plan, of_plan, is) = (ap (λ (some : Ruling). some.changes) is, ap (λ (some : Ruling). some.purge) is)
keeps_all Rollback g x r none is = (ap (λ (some : Ruling). some.changes) is, ap (λ (some : Ruling). some.purge) is)
keeps_all Commit g x r none comes = absurd (let e : true ≡ false = none in cc)
keeps_all Definition g x r none comes = absurd (let e : true ≡ false = none in cc)
keeps_all Administration g x r none comes = absurd (let e : true ≡ false = none in cc)

-- one that does changes no transaction
pub writes_none : (kind : StatementKind) (g : Ground) (x : Statement) (r : Ruling) → commits_by_kind kind ≡ true → ComesAs kind g x r → (r.rows ≡ []) × (r.undoes ≡ false)
writes_none OnRows g x r first comes = absurd (let e : false ≡ true = first in cc)
writes_none Rollback g x r first comes = absurd (let e : false ≡ true = first in cc)
writes_none Commit g x r first is = (ap (λ (some : Ruling). some.rows) is, ap (λ (some : Ruling). some.undoes) is)
writes_none Definition g x r first (decision, decides, is) = (ap (λ (some : Ruling). some.rows) is, ap (λ (some : Ruling). some.undoes) is)
writes_none Administration g x r first (decision, decides, is) = (ap (λ (some : Ruling). some.rows) is, ap (λ (some : Ruling). some.undoes) is)
