-- Bytes that end before the last root does are cut short.
use Rattle.std.proofs.Common.{◌≡◌, ◌≢◌, ℕ, false, List, [], ◌∷◌, ◌++◌, length, refl, sym, subst, inl, inr}
use Rattle.std.specs.Prelude.{pos, Result, Ok, Err, IfErr}
use Rattle.hessian_graph.specs.Spells.{Denotes}
use Rattle.hessian_graph.specs.Refusal.{Short, CutShort}
use Rattle.hessian_scalars.specs.declared.scalar.Scalar.TheVariants as scalars
use Rattle.hessian_scalars.specs.ScalarSpelling.ScalarSpelling.{null as spelled_null}
use Rattle.hessian_text.specs.Spelling.{AreBytes}
use Rattle.hessian_reader.specs.declared.element.Want.{Want}
use Rattle.hessian_reader.specs.declared.element.Want.TheVariants as wants
use Rattle.hessian_reader.specs.declared.element.Element.TheVariants as elements
use Rattle.hessian_reader.specs.declared.fault.HessianFault.{HessianFault}
use Rattle.hessian_reader.specs.declared.fault.HessianFault.TheVariants as told
use Rattle.hessian_reader.specs.declared.course.Course.{Course}
use Rattle.hessian_reader.specs.Codes.{scalar_element}
use Rattle.hessian_reader.specs.Leaves.{hessian, node_limit}
use Rattle.hessian_reader.proofs.Elements.{BeginsElement}
use Rattle.hessian_reader.specs.Elements.TakesInt.{int as t_int, type as t_int_type}
use Rattle.hessian_reader.specs.Elements.TakesText.{text as t_text}
use Rattle.hessian_reader.specs.Elements.IsElement.{number as e_number, words as e_words}
use Rattle.hessian_reader.specs.Course.{Follows}
use Rattle.hessian_reader.specs.Refusing.{IsStoppedBy, IsRefusedBy}
use Rattle.hessian_reader.specs.States.{want_at, is_done}
use Rattle.hessian_reader.specs.Views.{state_of}
use Rattle.hessian_reader.proofs.Elements.{scalar_is, holds_begins}
use Rattle.hessian_reader.proofs.Live.{zero_spelled, nothing_spelled}
use Rattle.hessian_reader.proofs.CutOff.{cut_off}
use Rattle.hessian_reader.proofs.Feeding.{all_are, came_bytes, not_ended}
use Rattle.hessian_reader.proofs.Whole.{ends_whole}

-- each place takes some element
nothing_begins : (w : Want) → BeginsElement w []
nothing_begins wants.AnyValue = record { element = scalar_element wants.AnyValue scalars.Null; more = 0x4e ∷ []; lacks = λ e. cc; is = scalar_is wants.AnyValue scalars.Null (0x4e ∷ []) tt spelled_null }
nothing_begins wants.AnInt = record { element = elements.Number (pos 0); more = 0x90 ∷ []; lacks = λ e. cc; is = e_number wants.AnInt (pos 0) (0x90 ∷ []) t_int zero_spelled }
nothing_begins wants.AType = record { element = elements.Number (pos 0); more = 0x90 ∷ []; lacks = λ e. cc; is = e_number wants.AType (pos 0) (0x90 ∷ []) t_int_type zero_spelled }
nothing_begins wants.AText = record { element = elements.Words []; more = 0 ∷ []; lacks = λ e. cc; is = e_words wants.AText [] (0 ∷ []) t_text nothing_spelled }

begins_at : (w : Want) (came : List ℕ) → (came ≢ [] → BeginsElement w came) → BeginsElement w came
begins_at w [] h = nothing_begins w
begins_at w (c ∷ cs) h = h (λ e. cc)

-- the bytes end in an element or before one, and the last root hasn't ended
pub short_refused : (r : Course) (roots : ℕ) (fed : List ℕ) → Follows r roots fed → AreBytes fed → is_done (state_of r.work) ≡ false → IsRefusedBy roots fed (told.Short (length fed))
short_refused r roots fed f small d =
    let joined : fed ≡ f.before ++ f.came = all_are r roots fed f d in
    let begins = begins_at (want_at r.work.place) f.came (λ some. subst (λ w. BeginsElement w f.came) f.wants (holds_begins r.lexer.want r.lexer.inside f.came (came_bytes r roots fed f small) f.holds some)) in
    let cut = cut_off roots f.before f.came (state_of r.work) f.leads d begins (λ g denoted e. not_ended r roots fed f small d (length fed) (ends_whole roots fed g (subst (λ x. Denotes hessian node_limit x g) (sym joined) denoted) e)) in
    (Short (length fed), refl, inr (subst (CutShort hessian node_limit roots) (sym joined) cut, refl))

-- what stops is refused
pub stopped_refused : (roots : ℕ) (bytes : List ℕ) (fault : HessianFault) → IsStoppedBy roots bytes fault → IsRefusedBy roots bytes fault
stopped_refused roots bytes fault q = (q.0, q.1, inl q.2)

-- where only memory was wanted, nothing else is said
pub memory_only : {A : Type 0} (result : Result A HessianFault) (P : HessianFault → Type 0) → IfErr result (λ fault. fault ≡ told.OutOfMemory) → IfErr result (λ fault. fault ≢ told.OutOfMemory → P fault)
memory_only (Ok v) P h = tt
memory_only (Err e) P h = λ some. absurd (some h)
