-- Before any frame nothing is kept, which is lawful, whole and can be written.
use Rattle.std.proofs.Common.{ℕ, ◌<◌, ◌^◌, List, [], ◌∷◌, ◌++◌, refl, arith}
use Rattle.std.specs.List.{Contains}
use Rattle.std.specs.Int.{byte_len, w32}
use Rattle.au_entries.specs.Imaging.{nothing}
use Rattle.au_entries.specs.Lawful.{IsLawful, IsWhole}
use Rattle.au_entries.specs.Replaying.{Conditions}
use Rattle.au_grants.specs.Rights.{HasNoCircle, IsChain}
use Rattle.au_image.specs.Image.{IsSpelled}
use Rattle.au_kept.specs.Sound.{IsKept}

none : {X : Type 0} (x : X) → Contains {X = X} [] x → ⊥
none x (k, within, is) = omega arith

no_chain : (from to : List ℕ) (path : List (List ℕ)) → IsChain [] from (path ++ to ∷ []) → ⊥
no_chain from to [] chain = none (from, to, chain.0.0) chain.0.1
no_chain from to (role ∷ path) chain = none (from, role, chain.0.0) chain.0.1

no_circle : HasNoCircle []
no_circle name holds = no_chain name name holds.0 holds.1

lawful : (conditions : Conditions) → IsLawful conditions nothing
lawful conditions = record {
  ordered = record {
    users = refl;
    roles = refl;
    grants = (refl, refl, refl);
    tables = refl;
    rows = refl;
    policies = refl;
    enabled = refl;
    fga = refl;
    on = tt;
    unreserved = tt;
  };
  founded = record {
    system = tt;
    role = tt;
    no_circle = no_circle;
    object = tt;
    tables = tt;
    rows = tt;
    enabled = tt;
    fga = tt;
  };
  truths = record { audit = tt; fga = tt };
  last = omega arith;
  archive = tt;
  instance = omega arith;
}

whole : IsWhole nothing
whole = record {
  fits = λ row table has kept. absurd (none row has);
  keys = λ a b table has other kept same keyed key. absurd (none a has);
  few = record {
    users = omega arith;
    roles = omega arith;
    tables = omega arith;
    policies = omega arith;
    fga = omega arith;
    grants = omega arith;
    columns = tt;
    rows = tt;
  };
}

small : 0 < 256 ^ byte_len w32
small = omega arith

spelled : IsSpelled nothing
spelled = record { entries = (small, tt); records = tt }

pub nothing_kept : (conditions : Conditions) → IsKept conditions nothing
nothing_kept conditions = record { lawful = lawful conditions; whole = whole; spelled = spelled }
