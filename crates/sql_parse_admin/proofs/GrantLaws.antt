-- GRANT and REVOKE are read exactly by their rules.
use Rattle.std.proofs.Common.{◌≡◌, ℕ, Bool, true, false, List, ◌∷◌, Some, refl, sym, ap, subst, ◌∙◌, inl, inr}
use Rattle.std.specs.Prelude.{codes}
use Rattle.std.specs.Str.{bytes_eq}
use Rattle.au_base.specs.declared.grant.GrantStatement.{GrantStatement}
use Rattle.au_base.specs.declared.grant.GrantStatement.TheVariants as statement
use Rattle.au_base.specs.declared.grant.ObjectRight.{ObjectRight}
use Rattle.au_base.specs.declared.grant.Right.{Right}
use Rattle.au_base.specs.declared.table.TableReference.{TableReference}
use Rattle.sql_lex.specs.declared.token.Kind.{Kind}
use Rattle.sql_lex.specs.declared.token.Kind.TheVariants.{Word}
use Rattle.sql_parse.specs.Symbols.{sees, comma}
use Rattle.sql_parse.specs.Rules.{after, none, more, Parted, parted}
use Rattle.sql_parse.specs.Tables.{Table}
use Rattle.sql_parse.specs.descent.Reading.{◌>>=◌, under, behind, expect}
use Rattle.sql_parse.specs.descent.ReadTables as tables
use Rattle.sql_parse.proofs.Exact.{bind_some, under_some, some_is, chosen, sees_is, expect_is}
use Rattle.sql_parse.proofs.Follow.{OneOf, unseen, LAST}
use Rattle.sql_parse.proofs.TableLaws.{names_exact, NoComma, table_exact}
use Rattle.sql_parse.specs.Grants as g
use Rattle.sql_parse.specs.Privileges.{IsObjectRight, IsRight}
use Rattle.sql_parse_admin.specs.descent.ReadGrants as grants
use Rattle.sql_parse_admin.specs.descent.ReadPrivileges.{is_object_right}
use Rattle.sql_parse_admin.proofs.PrivilegeLaws.{rights_exact, object_rights_exact, object_first, right_first, ON}

-- ---- WITH ADMIN OPTION

abbrev WITH : Kind
WITH = Word (codes "WITH")

option_sound : (i : List Kind) (y : Bool × List Kind) → grants.admin_option i ≡ Some y → g.AdminOption i y.0 y.1
unfolding grants.admin_option
option_sound i y h =
    elim (chosen (sees WITH i) (expect (Word (codes "ADMIN")) (behind i) >>= λ j. expect (Word (codes "OPTION")) j >>= λ o. Some (true, o)) (Some (false, i)) (Some y) h) [
      | inl t ↦
          let a = bind_some (expect (Word (codes "ADMIN")) (behind i)) (λ j. expect (Word (codes "OPTION")) j >>= λ o. Some (true, o)) y t.1 in
          let b = bind_some (expect (Word (codes "OPTION")) a.0) (λ o. Some (true, o)) y a.2 in
          let here : i ≡ WITH ∷ Word (codes "ADMIN") ∷ Word (codes "OPTION") ∷ b.0 =
          sees_is WITH i t.0 ∙ ap (λ (j : List Kind). WITH ∷ j) (expect_is (Word (codes "ADMIN")) (behind i) a.0 a.1)
          ∙ ap (λ (j : List Kind). WITH ∷ Word (codes "ADMIN") ∷ j) (expect_is (Word (codes "OPTION")) a.0 b.0 b.1) in
          subst (λ (z : Bool × List Kind). g.AdminOption i z.0 z.1) (some_is (true, b.0) y b.2) (subst (λ (j : List Kind). g.AdminOption j true b.0) (sym here) g.with_option)
      | inr t ↦ subst (λ (z : Bool × List Kind). g.AdminOption i z.0 z.1) (some_is (false, i) y t.1) g.AdminOption.without
    ]

option_complete : (i o : List Kind) (b : Bool) → g.AdminOption i b o → OneOf LAST o → grants.admin_option i ≡ Some (b, o)
unfolding grants.admin_option
option_complete i o b g.AdminOption.without f = rw (unseen WITH LAST o refl f) refl
option_complete i o b g.with_option f = refl

option_first : (i o : List Kind) (b : Bool) → g.AdminOption i b o → OneOf LAST o → NoComma i
option_first i o b g.AdminOption.without f = unseen comma LAST o refl f
option_first i o b g.with_option f = refl

-- ---- rights, and who gets or loses them

abbrev Grants : Type 0
Grants = List Right × List (List ℕ)

abbrev ObjectGrants : Type 0
ObjectGrants = (List ObjectRight × TableReference) × List (List ℕ)

-- what the readers give
record RightsOf (w : List ℕ) (i : List Kind) (y : Grants × List Kind) : Type 0 where
  rest : List Kind
  rights : Parted comma IsRight i y.0.0 (Word w ∷ rest)
  grantees : g.Names rest y.0.1 y.1

record ObjectRightsOf (w : List ℕ) (i : List Kind) (y : ObjectGrants × List Kind) : Type 0 where
  rest : List Kind
  last : List Kind
  rights : Parted comma IsObjectRight i y.0.0.0 (ON ∷ rest)
  table : Table rest y.0.0.1 (Word w ∷ last)
  grantees : g.Names last y.0.1 y.1

module _ (w : List ℕ) (itself : bytes_eq w w ≡ true) where
  rights_of_sound : (i : List Kind) (y : Grants × List Kind) → grants.rights_of w i ≡ Some y → RightsOf w i y
  unfolding grants.rights_of
  rights_of_sound i y h =
      let a = bind_some (grants.rights i) (λ rs. expect (Word w) rs.1 >>= λ j. under (λ ns. (rs.0, ns)) (tables.names j)) y h in
      let b = bind_some (expect (Word w) a.0.1) (λ j. under (λ ns. (a.0.0, ns)) (tables.names j)) y a.2 in
      let u = under_some (λ (ns : List (List ℕ)). (a.0.0, ns)) (tables.names b.0) y b.2 in
      let rights : Parted comma IsRight i a.0.0 (Word w ∷ b.0) = subst (λ (o : List Kind). Parted comma IsRight i a.0.0 o) (expect_is (Word w) a.0.1 b.0 b.1) (rights_exact.sound i a.0 a.1) in
      subst (λ (z : Grants × List Kind). RightsOf w i z) u.2 (record { rest = b.0; rights = rights; grantees = names_exact.sound b.0 u.0 u.1 })

  rights_of_complete : (i j o : List Kind) (rs : List Right) (ns : List (List ℕ)) → Parted comma IsRight i rs (Word w ∷ j) → g.Names j ns o → NoComma o → grants.rights_of w i ≡ Some ((rs, ns), o)
  unfolding grants.rights_of
  rights_of_complete i j o rs ns d e f = rw (rights_exact.complete i (Word w ∷ j) rs d refl, itself, names_exact.complete j o ns e f) refl

  object_rights_of_sound : (i : List Kind) (y : ObjectGrants × List Kind) → grants.object_rights_of w i ≡ Some y → ObjectRightsOf w i y
  unfolding grants.object_rights_of
  object_rights_of_sound i y h =
      let a = bind_some (grants.object_rights i) _ y h in
      let b = bind_some (expect ON a.0.1) _ y a.2 in
      let d = bind_some (tables.table b.0) (λ t. expect (Word w) t.1 >>= λ m. under (λ ns. ((a.0.0, t.0), ns)) (tables.names m)) y b.2 in
      let e = bind_some (expect (Word w) d.0.1) (λ m. under (λ ns. ((a.0.0, d.0.0), ns)) (tables.names m)) y d.2 in
      let u = under_some (λ (ns : List (List ℕ)). ((a.0.0, d.0.0), ns)) (tables.names e.0) y e.2 in
      let rights : Parted comma IsObjectRight i a.0.0 (ON ∷ b.0) = subst (λ (o : List Kind). Parted comma IsObjectRight i a.0.0 o) (expect_is ON a.0.1 b.0 b.1) (object_rights_exact.sound i a.0 a.1) in
      let table : Table b.0 d.0.0 (Word w ∷ e.0) = subst (λ (o : List Kind). Table b.0 d.0.0 o) (expect_is (Word w) d.0.1 e.0 e.1) (table_exact.sound b.0 d.0 d.1) in
      subst (λ (z : ObjectGrants × List Kind). ObjectRightsOf w i z) u.2 (record { rest = b.0; last = e.0; rights = rights; table = table; grantees = names_exact.sound e.0 u.0 u.1 })

  object_rights_of_complete : (i j m o : List Kind) (rs : List ObjectRight) (t : TableReference) (ns : List (List ℕ))
      → Parted comma IsObjectRight i rs (ON ∷ j) → Table j t (Word w ∷ m) → g.Names m ns o → NoComma o → grants.object_rights_of w i ≡ Some (((rs, t), ns), o)
  unfolding grants.object_rights_of
  object_rights_of_complete i j m o rs t ns d e c f =
      rw (object_rights_exact.complete i (ON ∷ j) rs d refl, table_exact.complete j (Word w ∷ m) t e refl, itself, names_exact.complete m o ns c f) refl

-- the first right tells which of both
rights_first : (i o : List Kind) (rs : List Right) → Parted comma IsRight i rs o → is_object_right i ≡ false
rights_first i o rs (parted {m = m} {x = x} d ds) = right_first i m x d

object_rights_first : (i o : List Kind) (rs : List ObjectRight) → Parted comma IsObjectRight i rs (ON ∷ o) → is_object_right i ≡ true
object_rights_first i o rs (parted {m = m} {x = x} d none) = object_first i m x d refl
object_rights_first i o rs (parted {m = m} {x = x} d (more (after e) ds)) = object_first i m x d refl

-- ---- the statements

pub grant_sound : (i : List Kind) (y : GrantStatement × List Kind) → grants.grant i ≡ Some y → g.IsGrant (Word (codes "GRANT") ∷ i) y.0 y.1
unfolding grants.grant
grant_sound i y h =
    let TO : List ℕ = codes "TO" in
    elim (chosen (is_object_right i) (under grants.on_table (grants.object_rights_of TO i)) _ (Some y) h) [
      | inl t ↦
          let u = under_some grants.on_table (grants.object_rights_of TO i) y t.1 in
          let s = object_rights_of_sound TO refl i u.0 u.1 in
          subst (λ (z : GrantStatement × List Kind). g.IsGrant (Word (codes "GRANT") ∷ i) z.0 z.1) u.2 (g.grant_object s.rights s.table s.grantees)
      | inr t ↦
          let a = bind_some (grants.rights_of TO i) (λ x. under (λ b. statement.Grant x.0.0 x.0.1 b) (grants.admin_option x.1)) y t.1 in
          let u = under_some (λ (b : Bool). statement.Grant a.0.0.0 a.0.0.1 b) (grants.admin_option a.0.1) y a.2 in
          let s = rights_of_sound TO refl i a.0 a.1 in
          subst (λ (z : GrantStatement × List Kind). g.IsGrant (Word (codes "GRANT") ∷ i) z.0 z.1) u.2 (g.grant s.rights s.grantees (option_sound a.0.1 u.0 u.1))
    ]

pub revoke_sound : (i : List Kind) (y : GrantStatement × List Kind) → grants.revoke i ≡ Some y → g.IsGrant (Word (codes "REVOKE") ∷ i) y.0 y.1
unfolding grants.revoke
revoke_sound i y h =
    let FROM : List ℕ = codes "FROM" in
    elim (chosen (is_object_right i) (under grants.off_table (grants.object_rights_of FROM i)) (under grants.revoked (grants.rights_of FROM i)) (Some y) h) [
      | inl t ↦
          let u = under_some grants.off_table (grants.object_rights_of FROM i) y t.1 in
          let s = object_rights_of_sound FROM refl i u.0 u.1 in
          subst (λ (z : GrantStatement × List Kind). g.IsGrant (Word (codes "REVOKE") ∷ i) z.0 z.1) u.2 (g.revoke_object s.rights s.table s.grantees)
      | inr t ↦
          let u = under_some grants.revoked (grants.rights_of FROM i) y t.1 in
          let s = rights_of_sound FROM refl i u.0 u.1 in
          subst (λ (z : GrantStatement × List Kind). g.IsGrant (Word (codes "REVOKE") ∷ i) z.0 z.1) u.2 (g.revoke s.rights s.grantees)
    ]

pub grant_complete : (i o : List Kind) (rs : List Right) (ns : List (List ℕ)) (b : Bool) (j m : List Kind)
    → Parted comma IsRight i rs (Word (codes "TO") ∷ j) → g.Names j ns m → g.AdminOption m b o → OneOf LAST o → grants.grant i ≡ Some (statement.Grant rs ns b, o)
unfolding grants.grant
grant_complete i o rs ns b j m d e a f =
    rw (
      rights_first i (Word (codes "TO") ∷ j) rs d,
      rights_of_complete (codes "TO") refl i j m rs ns d e (option_first m o b a f),
      option_complete m o b a f,
    ) refl

pub grant_object_complete : (i o : List Kind) (rs : List ObjectRight) (t : TableReference) (ns : List (List ℕ)) (j m : List Kind)
    → Parted comma IsObjectRight i rs (ON ∷ j) → Table j t (Word (codes "TO") ∷ m) → g.Names m ns o → OneOf LAST o → grants.grant i ≡ Some (statement.GrantObject rs t ns, o)
unfolding grants.grant
grant_object_complete i o rs t ns j m d e c f =
    rw (object_rights_first i j rs d, object_rights_of_complete (codes "TO") refl i j m o rs t ns d e c (unseen comma LAST o refl f)) refl

pub revoke_complete : (i o : List Kind) (rs : List Right) (ns : List (List ℕ)) (j : List Kind)
    → Parted comma IsRight i rs (Word (codes "FROM") ∷ j) → g.Names j ns o → OneOf LAST o → grants.revoke i ≡ Some (statement.Revoke rs ns, o)
unfolding grants.revoke
revoke_complete i o rs ns j d e f =
    rw (rights_first i (Word (codes "FROM") ∷ j) rs d, rights_of_complete (codes "FROM") refl i j o rs ns d e (unseen comma LAST o refl f)) refl

pub revoke_object_complete : (i o : List Kind) (rs : List ObjectRight) (t : TableReference) (ns : List (List ℕ)) (j m : List Kind)
    → Parted comma IsObjectRight i rs (ON ∷ j) → Table j t (Word (codes "FROM") ∷ m) → g.Names m ns o → OneOf LAST o → grants.revoke i ≡ Some (statement.RevokeObject rs t ns, o)
unfolding grants.revoke
revoke_object_complete i o rs t ns j m d e c f =
    rw (object_rights_first i j rs d, object_rights_of_complete (codes "FROM") refl i j m o rs t ns d e c (unseen comma LAST o refl f)) refl
