-- What an outcome says of the tests before it.
use Rattle.std.proofs.Common.{◌≡◌, ℕ, ◌<◌, Bool, true, false, length, refl, ◌⊎◌, inl, inr}
use Rattle.std.specs.Prelude.{◌&&◌, nat_lt, if◌then◌else◌, Ok, Err, ℤ, pos, negsuc}
use Rattle.std.proofs.lemmas.Bool.{ltb-true}
use Rattle.hessian_reader.specs.declared.stop.Objection.{Objection}
use Rattle.hessian_reader.specs.declared.stop.Objection.TheVariants.{TooMany}
use Rattle.hessian_reader.specs.Leaves.{node_limit}
use Rattle.hessian_reader.specs.States.{State, Place, AtValue, AtDefined, AtReference, AtType, AtLength, AtClass, AtName, AtCount, AtField, lacks_none, is_at_value, is_done}
use Rattle.hessian_reader.specs.Steps.{Outcome, if_room, at_value, may_end, below, natural}
use Rattle.hessian_reader.proofs.Sound.{PlaceFits, Sound}
use Rattle.hessian_reader.proofs.Ahead.{TakesValue}

pub ok_is : (s t : State) → ◌≡◌ {A = Outcome} (Ok s) (Ok t) → s ≡ t
ok_is s t e = cc

chosen : (b : Bool) (x y : Outcome) (t : State) → (if b then x else y) ≡ Ok t → ((b ≡ true) × (x ≡ Ok t)) ⊎ ((b ≡ false) × (y ≡ Ok t))
chosen true x y t e = inl (refl, e)
chosen false x y t e = inr (refl, e)

pub took_value : (p : Place) (outcome : Outcome) (u : State) → at_value p outcome ≡ Ok u → TakesValue p × (outcome ≡ Ok u)
took_value AtValue outcome u e = (inl refl, e)
took_value AtDefined outcome u e = (inr refl, e)
took_value AtReference outcome u e = cc
took_value (AtType form) outcome u e = cc
took_value (AtLength k) outcome u e = cc
took_value AtClass outcome u e = cc
took_value AtName outcome u e = cc
took_value (AtCount name) outcome u e = cc
took_value (AtField class k) outcome u e = cc

pub ended_there : (p : Place) (outcome : Outcome) (u : State) → may_end p outcome ≡ Ok u → (p ≡ AtValue) × (outcome ≡ Ok u)
ended_there AtValue outcome u e = (refl, e)
ended_there AtDefined outcome u e = cc
ended_there AtReference outcome u e = cc
ended_there (AtType form) outcome u e = cc
ended_there (AtLength k) outcome u e = cc
ended_there AtClass outcome u e = cc
ended_there AtName outcome u e = cc
ended_there (AtCount name) outcome u e = cc
ended_there (AtField class k) outcome u e = cc

pub had_room : (s : State) (outcome : Outcome) (u : State) → if_room s outcome ≡ Ok u → (length s.built.nodes < node_limit) × (outcome ≡ Ok u)
had_room s outcome u e = elim (chosen (nat_lt (length s.built.nodes) node_limit) outcome (Err TooMany) u e) [
  | inl h ↦ (ltb-true (length s.built.nodes) node_limit h.0, h.1)
  | inr h ↦ cc
]

pub was_below : (z : ℤ) (count : ℕ) (f : ℕ → State) (o : Objection) (u : State) → below z count f o ≡ Ok u → (k : ℕ) × (z ≡ pos k) × (k < count) × (f k ≡ u)
was_below (pos k) count f o u e = elim (chosen (nat_lt k count) (Ok (f k)) (Err o) u e) [
  | inl h ↦ (k, refl, ltb-true k count h.0, ok_is (f k) u h.1)
  | inr h ↦ cc
]
was_below (negsuc k) count f o u e = cc

pub was_natural : (z : ℤ) (f : ℕ → State) (o : Objection) (u : State) → natural z f o ≡ Ok u → (k : ℕ) × (z ≡ pos k) × (f k ≡ u)
was_natural (pos k) f o u e = (k, refl, ok_is (f k) u e)
was_natural (negsuc k) f o u e = cc

-- something is lacking where a reading is not done

some_at : (s : State) (p : Place) → PlaceFits s p → (is_at_value p && lacks_none s.built.open_nodes s.built.wanted) ≡ false → lacks_none s.built.open_nodes s.built.wanted ≡ false
some_at s AtValue fits d = d
some_at s AtDefined fits d = fits
some_at s AtReference fits d = fits
some_at s (AtType form) fits d = fits.0
some_at s (AtLength k) fits d = fits.0
some_at s AtClass fits d = fits.0
some_at s AtName fits d = fits
some_at s (AtCount name) fits d = fits
some_at s (AtField class k) fits d = fits.0

pub some_lacking : (s : State) → Sound s → is_done s ≡ false → lacks_none s.built.open_nodes s.built.wanted ≡ false
some_lacking s sound d = some_at s s.place sound.place d
