-- Buckets: for each key a list of places.
use Rattle.std.specs.Prelude.{ℕ, Bool, List, [], ◌==◌, Option, Some, None, Vec}
use Rattle.std.specs.Global.{Global}
use Rattle.std.specs.BTreeMap.{BTreeMap, get}
use Rattle.std.specs.List.{list_any}
use Rattle.std.specs.declared.cmp.Ordering.{Ordering}

-- the places of a bucket: none where there is no bucket
abbrev pub places_of : Option (Vec ℕ Global) → List ℕ
places_of None = []
places_of (Some bucket) = bucket.items

-- the place stands in the bucket of the key, by the order of keys
abbrev pub is_in_bucket : {K : Type 0} → (K → K → Ordering) → BTreeMap K (Vec ℕ Global) → K → ℕ → Bool
is_in_bucket {K} cmp buckets key place = list_any (λ other. other == place) (places_of (get cmp buckets key))
