-- What single writers print.
use Rattle.std.proofs.Common.{ℕ, zero, suc, ◌<◌, List, [], ◌∷◌, ◌++◌, get_or, ap, sym, ◌∙◌, arith, append_assoc}
use Rattle.std.specs.Prelude.{All}
use Rattle.std.specs.List.{flat_map}
use Rattle.std.proofs.lemmas.Grind.{flat_map-append}
use Rattle.std.proofs.lemmas.List.Elements.{All-append}
use Rattle.graph_notation.specs.declared.element.Element.{Element}
use Rattle.graph_notation.specs.declared.element.Element.TheVariants.{Plain, Words, Reference, Sign}
use Rattle.graph_notation.specs.Elements.{printed}
use Rattle.graph_notation.specs.Notation.{IsSoundElement}
use Rattle.graph_notation.specs.Pressing.{Prints}
use Rattle.graph_notation.proofs.Nexts.{IsForm, AllForms}

pub small_bytes : (xs : List ℕ) → ((i : ℕ) → get_or xs i 0 < 256) → All (λ b. b < 256) xs
small_bytes [] h k d l = absurd (omega arith)
small_bytes (x ∷ xs) h zero d l = h 0
small_bytes (x ∷ xs) h (suc k) d l = small_bytes xs (λ i. h (suc i)) k d (omega arith)

-- some elements, and then others
pub prints_both : {old mid new : List ℕ} {es fs : List Element} → Prints old es mid → Prints mid fs new → Prints old (es ++ fs) new
prints_both {old} {mid} {new} {es} {fs} a b = record {
  sound = All-append IsSoundElement es fs a.sound b.sound;
  written = b.written ∙ ap (λ z. z ++ flat_map printed fs) a.written ∙ append_assoc old (flat_map printed es) (flat_map printed fs) ∙ ap (λ z. old ++ z) (sym (flat_map-append printed es fs));
}

form_of : (e : Element) → IsSoundElement e → IsForm e
form_of (Plain v) h = h.0
form_of (Words text) h = tt
form_of (Reference k) h = tt
form_of (Sign mark) h = tt

pub forms_of : (es : List Element) → All IsSoundElement es → AllForms es
forms_of [] a = tt
forms_of (e ∷ es) a = (form_of e (a 0 e (omega arith)), forms_of es (λ k d l. a (suc k) d (omega arith)))
