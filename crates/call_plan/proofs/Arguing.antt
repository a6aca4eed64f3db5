-- The arguments of a call, by the last field of its line.
use Rattle.std.proofs.Common.{◌≡◌, ◌≢◌, ℕ, ◌<◌, ◌≤◌, ◌^◌, List, [], ◌∷◌, ◌++◌, length, sym, ap, subst, ◌∙◌, arith, length-append, codes, Option, Some, None}
use Rattle.std.specs.Prelude.{IfSome}
use Rattle.std.specs.List.{join_with_byte}
use denote.Ref.{Bor}
use Rattle.hessian_graph.specs.declared.parts.Parts.{Parts}
use Rattle.hessian_graph.specs.Shape.{Text, Shape, shape_of}
use Rattle.dubbo_bodies.specs.Descriptor.{HasArgs}
use Rattle.graph_notation.specs.declared.fault.NotationFault.{NotationFault}
use Rattle.graph_notation.specs.Notation.{IsNotation}
use Rattle.graph_notation.specs.Refusal.{Refusal}
use Rattle.call_plan.specs.LineForms.{AreArguments, HasField}
use Rattle.call_plan.specs.Pieces.{pieces, fields_in}
use Rattle.call_plan.proofs.Lower.{one_notation_graph, notation_not_refused}
use Rattle.call_plan.proofs.Piecing.{joined_pieces}
use Rattle.call_plan.proofs.Saying.{notation_once}
use Rattle.call_plan.proofs.Sizing.{nodes_counted}

-- a notation with another number of roots than there are parameters is that of no arguments
pub other_roots : (desc : Text) (count : ℕ) (notation : List ℕ) (g : Parts) (fields : List (List ℕ)) → ((n : ℕ) → HasArgs desc n → n ≡ count) → IsNotation notation (shape_of g) → HasField count notation fields
    → length g.roots ≢ count → (n : ℕ) (other : List ℕ) (p : Parts) → AreArguments desc n other p → ¬ HasField n other fields
other_roots desc count notation g fields known is has wrong n other p are there =
    let same : other ≡ notation = notation_once n count other notation fields there has in
    let shapes : shape_of p ≡ shape_of g = one_notation_graph notation (shape_of p) (shape_of g) (subst (λ s. IsNotation s (shape_of p)) same are.written) is in
    wrong (sym (ap (λ (s : Shape). length s.roots) shapes) ∙ are.each ∙ known n are.counted)

-- a text that is no notation is that of no arguments
pub no_notation : (desc : Text) (count : ℕ) (notation : List ℕ) (fault : NotationFault) (fields : List (List ℕ)) → Refusal 1000000 notation fault → HasField count notation fields
    → (n : ℕ) (other : List ℕ) (p : Parts) → AreArguments desc n other p → ¬ HasField n other fields
no_notation desc count notation fault fields refusal has n other p are there =
    let same : other ≡ notation = notation_once n count other notation fields there has in
    notation_not_refused 1000000 notation (shape_of p) fault (subst (λ s. IsNotation s (shape_of p)) same are.written) (omega (arith, are.few, nodes_counted p)) refusal

-- the last of joined fields is no longer than they are
last_long : (fs : List (List ℕ)) (x : List ℕ) → length x ≤ length (join_with_byte 32 (fs ++ x ∷ []))
last_long [] x = omega arith
last_long (f ∷ []) x = omega (arith, length-append f (32 ∷ x))
last_long (f ∷ g ∷ fs) x = omega (arith, last_long (g ∷ fs) x, length-append f (32 ∷ join_with_byte 32 (g ∷ (fs ++ x ∷ []))))

pub argument_short : (text o t r f p v m d : List ℕ) (field : Option (Bor (List ℕ))) → pieces 9 text ≡ codes "call" ∷ o ∷ t ∷ r ∷ f ∷ p ∷ v ∷ m ∷ d ∷ fields_in field
    → length text < 2 ^ 31 → IfSome field (λ notation. length notation.now < 2 ^ 31)
argument_short text o t r f p v m d None here few = tt
argument_short text o t r f p v m d (Some a) here few =
    let whole : text ≡ join_with_byte 32 ((codes "call" ∷ o ∷ t ∷ r ∷ f ∷ p ∷ v ∷ m ∷ d ∷ []) ++ a.now ∷ []) = sym (joined_pieces 9 text) ∙ ap (join_with_byte 32) here in
    let low : length a.now ≤ length (join_with_byte 32 ((codes "call" ∷ o ∷ t ∷ r ∷ f ∷ p ∷ v ∷ m ∷ d ∷ []) ++ a.now ∷ [])) = last_long (codes "call" ∷ o ∷ t ∷ r ∷ f ∷ p ∷ v ∷ m ∷ d ∷ []) a.now in
    let long : length text ≡ length (join_with_byte 32 ((codes "call" ∷ o ∷ t ∷ r ∷ f ∷ p ∷ v ∷ m ∷ d ∷ []) ++ a.now ∷ [])) = ap length whole in
    short (length a.now) (length text) _ low long few
  where
    short : (a b c : ℕ) → a ≤ c → b ≡ c → b < 2 ^ 31 → a < 2 ^ 31
    short a b c low long few = omega arith
