-- The reader's vectors.
use Rattle.std.proofs.Common.{◌≡◌, ℕ, zero, suc, List, [], ◌∷◌, ◌++◌, set, refl, ap, map, reverse}
use Rattle.std.specs.Prelude.{Ok}
use Rattle.std.proofs.lemmas.List.{reverse-append}
use Rattle.graph_notation.specs.declared.frame.Frame.{Frame}
use Rattle.graph_notation.specs.declared.frame.Place.{Place}
use Rattle.graph_notation.specs.declared.frame.Place.TheVariants as places
use Rattle.graph_notation.specs.Machine.{shown, closed}
use Rattle.graph_notation.proofs.Stages.{at}

pub map_set : {X Y : Type 0} (f : X → Y) (xs : List X) (i : ℕ) (x : X) → map f (set xs i x) ≡ set (map f xs) i (f x)
map_set f [] i x = refl
map_set f (y ∷ ys) zero x = refl
map_set f (y ∷ ys) (suc i) x = ap (λ zs. f y ∷ zs) (map_set f ys i x)

pub closed_now : (nodes : List Frame) (f outer : Frame) (under rest : List Frame) (place : Place) → under ≡ rest ++ outer ∷ [] → closed (reverse under) (at (map shown nodes) f (reverse under) place) ≡ Ok (at (map shown (set nodes f.number f)) outer (reverse rest) places.After)
closed_now nodes f outer under rest place e = rw (e, reverse-append rest (outer ∷ []), map_set shown nodes f.number f) refl
