-- What a reader makes of the next element, and why one is refused.
use Rattle.std.proofs.Common.{◌≡◌, ◌≢◌, ℕ, zero, suc, ◌<◌, List, [], ◌∷◌, ◌++◌, take, refl, sym, subst, arith, append-nil}
use Rattle.std.specs.Prelude.{Result, Ok, Err, IfErr, IsErrAnd}
use Rattle.hessian_text.specs.Spelling.{AreBytes}
use Rattle.hessian_reader.specs.declared.element.Element.{Element}
use Rattle.hessian_reader.specs.declared.element.Want.{Want}
use Rattle.hessian_reader.specs.declared.fault.HessianFault.{HessianFault}
use Rattle.hessian_reader.specs.declared.lexer.Inside.{Inside}
use Rattle.hessian_reader.specs.declared.lexer.Inside.TheVariants as insides
use Rattle.hessian_reader.specs.declared.fault.HessianFault.TheVariants.{OutOfMemory}
use Rattle.hessian_reader.specs.declared.stop.Stop.{Stop}
use Rattle.hessian_reader.specs.declared.stop.Stop.TheVariants.{NoMemory, Objects}
use Rattle.hessian_reader.specs.declared.stop.Objection.{Objection}
use Rattle.hessian_reader.specs.Elements.{IsElement}
use Rattle.hessian_reader.specs.Faults.{cause_of}
use Rattle.hessian_reader.specs.Lexing.{Holds}
use Rattle.hessian_reader.specs.Refusing.{fault_of}
use Rattle.hessian_reader.specs.States.{State}
use Rattle.hessian_reader.specs.Steps.{Outcome}
use Rattle.hessian_reader.specs.Views.{Does}
use Rattle.hessian_reader.proofs.Elements.{element_some, one_element, holds_begins}

-- what is refused, and not for want of memory, is objected to
pub objected : (stop : Stop) (fault : HessianFault) (new : State) (outcome : Outcome) → Does (Err stop) new outcome → (stop ≡ NoMemory → fault ≡ OutOfMemory) → fault ≢ OutOfMemory → (o : Objection) × (outcome ≡ Err o)
objected NoMemory fault new outcome done memory other = absurd (other (memory refl))
objected (Objects o) fault new outcome done memory other = (o, done)

-- and the objection says at what place, and why
pub objected_as : (stop : Stop) (fault : HessianFault) (new : State) (outcome : Outcome) (at : ℕ) → Does (Err stop) new outcome → (stop ≡ NoMemory → fault ≡ OutOfMemory) → ((o : Objection) → stop ≡ Objects o → fault ≡ fault_of (cause_of o at)) → fault ≢ OutOfMemory → (o : Objection) × (outcome ≡ Err o) × (fault ≡ fault_of (cause_of o at))
objected_as NoMemory fault new outcome at done memory is other = absurd (other (memory refl))
objected_as (Objects o) fault new outcome at done memory is other = (o, done, is o refl)

-- what is passed on is the same refusal
pub passed_on : {A : Type 0} (result : Result A HessianFault) (fault : HessianFault) → IsErrAnd result (λ e. e ≡ fault) → (P : HessianFault → Type 0) → P fault → IfErr result P
passed_on (Ok v) fault same P p = tt
passed_on (Err e) fault same P p = subst P (sym same) p

no_end_here : (w : Want) (inside : Inside) (came : List ℕ) (x : Element) → AreBytes came → Holds w inside came → IsElement w came x → ⊥
no_end_here w inside [] x small holds ends = element_some w [] x ends refl
no_end_here w inside (c ∷ cs) x small holds ends =
    let begins = holds_begins w inside (c ∷ cs) small holds (λ e. absurd (cc)) in
    begins.lacks (one_element w (c ∷ cs) begins.more x begins.element small ends begins.is).0

-- an element of which not all bytes came ends behind one more at least
pub ends_later : (w : Want) (inside : Inside) (came piece : List ℕ) (used : ℕ) (x : Element) → AreBytes came → Holds w inside came → IsElement w (came ++ take used piece) x → 0 < used
ends_later w inside came piece zero x small holds ends = absurd (no_end_here w inside came x small holds (subst (λ bytes. IsElement w bytes x) (append-nil came) ends))
ends_later w inside came piece (suc n) x small holds ends = omega arith

-- where nothing of an element came, its bytes are those of the piece
pub begun_anew : (w : Want) (inside : Inside) (came bytes : List ℕ) (x : Element) → inside ≡ insides.Nothing → Holds w inside came → IsElement w bytes x → IsElement w (came ++ bytes) x
begun_anew w inside came bytes x nothing holds is =
    let none : came ≡ [] = subst (λ (i : Inside). Holds w i came) nothing holds in
    subst (λ bs. IsElement w (bs ++ bytes) x) (sym none) is
