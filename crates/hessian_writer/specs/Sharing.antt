-- Equal names of a table share one number.
use Rattle.std.specs.Prelude.{◌≡◌, ℕ, ◌<◌, List, [], length, get_or, map, Option, Some, All}
use Rattle.std.specs.Ordering.{nat_cmp}
use Rattle.std.specs.Cmp.Lexicographic.{slice_cmp}
use Rattle.std.specs.BTreeMap.{get_by}
use Rattle.hessian_writer.specs.declared.keys.Keys.{Keys}
use Rattle.hessian_writer.specs.Numbered.{Numbered}

-- the first place of a key, where the map has it
abbrev pub find_key : Keys → List ℕ → Option ℕ
find_key k key = get_by (λ x. slice_cmp nat_cmp key x.items) k.places

-- a key that is found has stood at this place first
pub record IsFirst (keys : List (List ℕ)) (firsts : List ℕ) (key : List ℕ) (i : ℕ) : Type 0 where
  pub within : i < length keys
  pub is : get_or keys i [] ≡ key
  pub first : get_or firsts i 0 ≡ i

-- the map finds the first place of each of these keys, and the list tells it for each of them
pub record KeysFit (keys : List (List ℕ)) (k : Keys) : Type 0 where
  pub long : length k.firsts.items ≡ length keys
  pub finds : (i : ℕ) → i < length keys → find_key k (get_or keys i []) ≡ Some (get_or k.firsts.items i 0)
  pub shows : (key : List ℕ) (i : ℕ) → find_key k key ≡ Some i → IsFirst keys k.firsts.items key i

-- for each name of a table the place of the first name that is equal to it
pub record AreFirsts {N : Type 0} (none : N) (old : List N) (firsts : List ℕ) : Type 0 where
  pub long : length firsts ≡ length old
  pub within : (i : ℕ) → i < length old → get_or firsts i 0 < length old
  pub same : (i : ℕ) → i < length old → get_or old (get_or firsts i 0) none ≡ get_or old i none
  pub one : (i j : ℕ) → i < length old → j < length old → get_or old i none ≡ get_or old j none → get_or firsts i 0 ≡ get_or firsts j 0
  pub steady : (i : ℕ) → i < length old → get_or firsts (get_or firsts i 0) 0 ≡ get_or firsts i 0

-- this is the place of a name that is equal to none before it
pub record IsOwnFirst (count : ℕ) (firsts : List ℕ) (i : ℕ) : Type 0 where
  pub within : i < count
  pub first : get_or firsts i 0 ≡ i

-- names of this table, each once, have numbers
pub record NamesFit {N : Type 0} (none : N) (old : List N) (firsts : List ℕ) (used : Numbered) : Type 0 where
  pub firsts_are : AreFirsts none old firsts
  pub total_is : used.total ≡ length old
  pub are_first : All (IsOwnFirst (length old) firsts) used.order

-- the names at these places
abbrev pub listed : {N : Type 0} → N → List N → List ℕ → List N
listed none old order = map (λ i. get_or old i none) order
