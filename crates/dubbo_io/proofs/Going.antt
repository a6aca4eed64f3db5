-- One read of a source behind another.
use Rattle.std.proofs.Common.{◌≡◌, ℕ, List, [], ◌++◌, Option, None, Some, refl, sym, ap, ◌∙◌, append_assoc, arith, length-append}
use Rattle.std.proofs.lemmas.Grind.{common_steps}
use Rattle.std.specs.Io.KnownBytes.{append_known, prepend_known}
use Rattle.dubbo_io.specs.Source.{SourceState, GoesOn}

pub append_known-none : (known : Option (List ℕ)) → known ≡ append_known known []
append_known-none None = refl
append_known-none (Some xs) = ap Some (grind (arith, common_steps))

pub append_known-join : (known : Option (List ℕ)) (x y : List ℕ) → append_known (append_known known x) y ≡ append_known known (x ++ y)
append_known-join None x y = refl
append_known-join (Some xs) x y = ap Some (append_assoc xs x y)

prepend_known-none : (known : Option (List ℕ)) → known ≡ prepend_known [] known
prepend_known-none None = refl
prepend_known-none (Some xs) = refl

prepend_known-join : (known : Option (List ℕ)) (x y : List ℕ) → prepend_known x (prepend_known y known) ≡ prepend_known (x ++ y) known
prepend_known-join None x y = refl
prepend_known-join (Some xs) x y = ap Some (sym (append_assoc x y xs))

-- a source that gave nothing stands where it stood
pub GoesOn-none : {Badge : Type 0} (state : SourceState Badge) → GoesOn state state []
GoesOn-none state = record {
  given = append_known-none state.given;
  left = prepend_known-none state.left;
  count = omega arith;
  ended = λ e. (e, refl);
  faults = omega arith;
  badge = refl;
}

both_empty : (x y : List ℕ) → x ≡ [] → y ≡ [] → x ++ y ≡ []
both_empty x y p q = rw p q

-- what came first, and then what came behind it
pub GoesOn-join : {Badge : Type 0} (a b c : SourceState Badge) (x y : List ℕ) → GoesOn a b x → GoesOn b c y → GoesOn a c (x ++ y)
GoesOn-join a b c x y first then = record {
  given = then.given ∙ ap (λ z. append_known z y) first.given ∙ append_known-join a.given x y;
  left = first.left ∙ ap (λ z. prepend_known x z) then.left ∙ prepend_known-join c.left x y;
  count = omega (arith, first.count, then.count, length-append x y);
  ended = λ e. let at_end = first.ended e in let after = then.ended at_end.0 in (after.0, both_empty x y at_end.1 after.1);
  faults = omega (arith, first.faults, then.faults);
  badge = then.badge ∙ first.badge;
}
