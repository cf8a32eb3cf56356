-- Tests of one fact, and codes of one refusal, are the same.
use Rattle.std.proofs.Common.{◌≡◌, ◌∙◌, Bool, true, false, List, ℕ, inl, inr, refl, sym}
use Rattle.au_base.specs.declared.code.Code.{Code}
use Rattle.au_base.specs.declared.table.TableName.{TableName}
use Rattle.au_define.specs.Rules.{Tells}
use Rattle.au_grants.specs.Rights.{Grants}
use Rattle.au_priv.specs.Allowing.{IsRefusal}

-- two tests of one fact are the same
pub same_test : (P : Type 0) (a b : Bool) → Tells a P → Tells b P → a ≡ b
same_test P true true one other = refl
same_test P false false one other = refl
same_test P true false one other = absurd (let e : false ≡ true = other.1 (one.0 refl) in cc)
same_test P false true one other = absurd (let e : false ≡ true = one.1 (other.0 refl) in cc)

-- the code for a missing right is one
pub same_refusal : (grants : Grants) (user : List ℕ) (table : TableName) (a b : Code) → IsRefusal grants user table a → IsRefusal grants user table b → a ≡ b
same_refusal grants user table a b (inl (has, is)) (inl (had, are)) = is ∙ sym are
same_refusal grants user table a b (inl (has, is)) (inr (hasnt, are)) = absurd (hasnt has)
same_refusal grants user table a b (inr (hasnt, is)) (inl (has, are)) = absurd (hasnt has)
same_refusal grants user table a b (inr (hasnt, is)) (inr (hadnt, are)) = is ∙ sym are
