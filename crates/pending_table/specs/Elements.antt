-- A fact about each element of a list and its index.
use Rattle.std.specs.Prelude.{◌≡◌, ℕ, Some, List, slice_get}

-- each element, with its index, has the property
abbrev pub EachAt : {A : Type 0} → (ℕ → A → Type 0) → List A → Type 0
EachAt {A} P xs = (i : ℕ) (x : A) → slice_get xs i ≡ Some x → P i x
