-- What comes by the first rule that is broken.
use Rattle.std.proofs.Common.{◌≡◌, ◌≢◌, ◌∙◌, ℕ, inl, inr, List, sym, ap, subst}
use Rattle.std.specs.Prelude.{Option, Some, None}
use Rattle.au_base.specs.declared.cell.Cell.{Cell}
use Rattle.au_base.specs.declared.code.Code.{Code}
use Rattle.au_base.specs.declared.numbers.ClientNo.{ClientNo}
use Rattle.au_base.specs.declared.table.TableName.{TableName}
use Rattle.au_base.specs.Codes.{DONE, KEY_PRESENT, LOCKED}
use Rattle.au_expr.specs.Names.{or_code}
use Rattle.au_expr.specs.Sessions.{Session}
use Rattle.au_insert.specs.Inserting.{IsInsertion, IsPlacing, inserted, listed_refusal, new_row, room_refusal, value_refusal}
use Rattle.au_modify.specs.declared.modification.Modification.{Modification}
use Rattle.au_modify.specs.Keys.{IsLockedKey, IsPresentKey}
use Rattle.au_modify.specs.Modifying.{Comes, Unless, refused}
use Rattle.au_world.specs.Plans.{ShowTheSame}
use Rattle.au_world.specs.Sights.{Sight, columns_of}
use Rattle.sql_ast.specs.declared.rows.Insert.{Insert}
use Rattle.au_insert.proofs.Numbers.{numbers_once}

-- ---- one thing comes

comes_once : (code : Option Code) (Behind : Modification → Type 0) (one other : Modification) → (Behind one → Behind other → one ≡ other)
    → Comes code Behind one → Comes code Behind other → one ≡ other
comes_once None Behind one other once a b = once a b
comes_once (Some code) Behind one other once a b = a ∙ sym b

unless_once : (Broken : Type 0) (code : Code) (Behind : Modification → Type 0) (one other : Modification) → (Behind one → Behind other → one ≡ other)
    → Unless Broken code Behind one → Unless Broken code Behind other → one ≡ other
unless_once Broken code Behind one other once (inl a) (inl b) = a.1 ∙ sym b.1
unless_once Broken code Behind one other once (inl a) (inr b) = absurd (b.0 a.0)
unless_once Broken code Behind one other once (inr a) (inl b) = absurd (a.0 b.0)
unless_once Broken code Behind one other once (inr a) (inr b) = once a.1 b.1

-- ---- what is refused has its code alone

refusal_is : (code : Code) (modification : Modification) → modification ≡ refused code → modification ≡ refused modification.code
refusal_is code modification is = is ∙ sym (ap (λ (m : Modification). refused m.code) is)

comes_refused : (code : Option Code) (Behind : Modification → Type 0) (modification : Modification) → (Behind modification → modification ≡ refused modification.code)
    → Comes code Behind modification → modification ≡ refused modification.code
comes_refused None Behind modification later a = later a
comes_refused (Some code) Behind modification later a = refusal_is code modification a

unless_refused : (Broken : Type 0) (code : Code) (Behind : Modification → Type 0) (modification : Modification) → (Behind modification → modification ≡ refused modification.code)
    → Unless Broken code Behind modification → modification ≡ refused modification.code
unless_refused Broken code Behind modification later (inl a) = refusal_is code modification a.1
unless_refused Broken code Behind modification later (inr a) = later a.1

-- ---- INSERT

module _ (sight : Sight) (client : ClientNo) (session : Session) (table : TableName) (insert : Insert) where
  abbrev cells : List Cell
  cells = new_row session (columns_of sight.catalog.tables table) insert

  abbrev Done : ℕ → Modification → Type 0
  Done last done = done ≡ inserted session (columns_of sight.catalog.tables table) table last insert

  abbrev Keyed : ℕ → Modification → Type 0
  Keyed last = Unless (IsPresentKey sight table cells) KEY_PRESENT (Done last)

  abbrev Free : ℕ → Modification → Type 0
  Free last = Unless (IsLockedKey sight client table cells) LOCKED (Keyed last)

  abbrev Placed : ℕ → ℕ → Modification → Type 0
  Placed count last = Comes (room_refusal sight.own count last) (Free last)

  both_done : (last : ℕ) (one other : Modification) → Done last one → Done last other → one ≡ other
  both_done last one other a b = a ∙ sym b

  placed_once : (one other : Modification) → IsPlacing sight client session table insert one → IsPlacing sight client session table insert other → one ≡ other
  placed_once one other a b =
      let same = numbers_once sight.rows sight.transactions table b.count b.last a.count a.last b.numbers a.numbers in
      let there : Placed a.count b.last other = subst (λ (count : ℕ). Placed count b.last other) same.0 b.comes in
      let there_too : Placed a.count a.last other = subst (λ (last : ℕ). Placed a.count last other) same.1 there in
      comes_once (room_refusal sight.own a.count a.last) (Free a.last) one other
      (unless_once (IsLockedKey sight client table cells) LOCKED (Keyed a.last) one other
      (unless_once (IsPresentKey sight table cells) KEY_PRESENT (Done a.last) one other (both_done a.last one other)))
      a.comes there_too

  pub inserted_once : (one other : Modification) → IsInsertion sight client session table insert one → IsInsertion sight client session table insert other → one ≡ other
  inserted_once one other a b =
      comes_once (or_code (listed_refusal (columns_of sight.catalog.tables table) insert) (value_refusal session (columns_of sight.catalog.tables table) insert))
      (IsPlacing sight client session table insert) one other (placed_once one other) a b

  done_code : (last : ℕ) (modification : Modification) → modification.code ≢ DONE → modification ≡ inserted session (columns_of sight.catalog.tables table) table last insert
      → modification ≡ refused modification.code
  done_code last modification not_done is = absurd (not_done (ap (λ (m : Modification). m.code) is))

  placed_refused : (modification : Modification) → modification.code ≢ DONE → IsPlacing sight client session table insert modification → modification ≡ refused modification.code
  placed_refused modification not_done a =
      comes_refused (room_refusal sight.own a.count a.last) (Free a.last) modification
      (unless_refused (IsLockedKey sight client table cells) LOCKED (Keyed a.last) modification
      (unless_refused (IsPresentKey sight table cells) KEY_PRESENT (Done a.last) modification (done_code a.last modification not_done)))
      a.comes

  pub inserted_refused : (modification : Modification) → modification.code ≢ DONE → IsInsertion sight client session table insert modification → modification ≡ refused modification.code
  inserted_refused modification not_done a =
      comes_refused (or_code (listed_refusal (columns_of sight.catalog.tables table) insert) (value_refusal session (columns_of sight.catalog.tables table) insert))
      (IsPlacing sight client session table insert) modification (placed_refused modification not_done) a

same_sight : (a b : Sight) → ShowTheSame a b → a ≡ b
same_sight a b same = λ i. record {
  catalog = same.catalog i;
  grants = same.grants i;
  rows = same.rows i;
  own = same.own i;
  transactions = λ client. same.transactions client i;
  trail = same.trail i;
}

pub inserted_alike : (a b : Sight) (client : ClientNo) (session : Session) (table : TableName) (insert : Insert) (modification : Modification) → ShowTheSame a b
    → IsInsertion a client session table insert modification → IsInsertion b client session table insert modification
inserted_alike a b client session table insert modification same is =
    subst (λ (sight : Sight). IsInsertion sight client session table insert modification) (same_sight a b same) is

-- ---- by the tests of the code

same_code : (code refusal : Code) → Some code ≡ Some refusal → code ≡ refusal
same_code code refusal is = cc

pub by_code : (code : Option Code) (refusal : Code) (Behind : Modification → Type 0) (modification : Modification) → code ≡ Some refusal → modification ≡ refused refusal → Comes code Behind modification
by_code None refusal Behind modification is done = absurd (cc)
by_code (Some code) refusal Behind modification is done = done ∙ ap refused (sym (same_code code refusal is))

pub past_code : (code : Option Code) (Behind : Modification → Type 0) (modification : Modification) → code ≡ None → Behind modification → Comes code Behind modification
past_code None Behind modification is done = done
past_code (Some code) Behind modification is done = absurd (cc)
