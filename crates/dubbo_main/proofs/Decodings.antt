-- What `decode` answers, and that it answers one status.
use Rattle.std.proofs.Common.{◌≡◌, ◌≢◌, ℕ, List, [], ◌∷◌, ◌++◌, length, Result, Ok, Err, refl, sym, subst}
use Rattle.std.specs.Prelude.{IfOk}
use Rattle.hessian_graph.specs.Shape.{Shape}
use Rattle.hessian_reader.specs.Leaves.{IsDenoted}
use Rattle.hessian_reader.specs.Refusing.{IsRefusedBy}
use Rattle.hessian_reader.specs.declared.fault.HessianFault.{HessianFault}
use Rattle.hessian_reader.specs.declared.fault.HessianFault.TheVariants.{OutOfMemory}
use Rattle.graph_notation.specs.Notation.{PrintsForm}
use Rattle.dubbo_bodies.specs.FaultTexts.{hessian_words}
use Rattle.dubbo_main.specs.Decoding.{DecodeAnswers}
use Rattle.dubbo_main.specs.Decoding.DecodeAnswers.{decoded, damaged}
use Rattle.dubbo_main.specs.FaultTexts.{damage_line}
use Rattle.dubbo_main.specs.PlainCommands.{status_of, text_of}
use Rattle.dubbo_main.specs.declared.commands.answer.Answer.{Answer}

pub decode_once : (roots : ℕ) (input : List ℕ) (status status' : ℕ) (text text' : List ℕ) → DecodeAnswers roots input status text → DecodeAnswers roots input status' text' → status ≡ status'
decode_once roots input _ _ _ _ (decoded notation is) (decoded notation' is') = refl
decode_once roots input _ _ _ _ (decoded notation is) (damaged fault none) = absurd (none.none is.graph is.denoted is.roots_are)
decode_once roots input _ _ _ _ (damaged fault none) (decoded notation is) = absurd (none.none is.graph is.denoted is.roots_are)
decode_once roots input _ _ _ _ (damaged fault none) (damaged fault' none') = refl

-- the answer with the notation of a graph
pub answers_notation : {E : Type 0} (roots : ℕ) (input : List ℕ) (g : Shape) (answer : Result Answer E) → IsDenoted input g → length g.roots ≡ roots
    → IfOk answer (λ a. status_of a ≡ 0) → IfOk answer (λ a. (notation : List ℕ) × PrintsForm g notation × (text_of a ≡ notation ++ 10 ∷ []))
    → IfOk answer (λ a. DecodeAnswers roots input (status_of a) (text_of a))
answers_notation roots input g (Ok a) denoted many zero printed =
    subst (λ status. DecodeAnswers roots input status (text_of a)) (sym zero)
    (subst (λ text. DecodeAnswers roots input 0 text) (sym printed.2)
    (decoded printed.0 (record { graph = g; denoted = denoted; roots_are = many; printed = printed.1 })))
answers_notation roots input g (Err e) denoted many zero printed = tt

-- the answer with the fault of the bytes
pub answers_fault : {E : Type 0} (roots : ℕ) (input : List ℕ) (fault : HessianFault) (answer : Result Answer E)
    → (fault ≢ OutOfMemory → (g : Shape) → IsDenoted input g → length g.roots ≡ roots → ⊥) → (fault ≢ OutOfMemory → IsRefusedBy roots input fault)
    → IfOk answer (λ a. fault ≢ OutOfMemory) → IfOk answer (λ a. status_of a ≡ 8) → IfOk answer (λ a. text_of a ≡ damage_line (hessian_words fault))
    → IfOk answer (λ a. DecodeAnswers roots input (status_of a) (text_of a))
answers_fault roots input fault (Ok a) none why cause eight line =
    subst (λ status. DecodeAnswers roots input status (text_of a)) (sym eight)
    (subst (λ all. DecodeAnswers roots input 8 all) (sym line) (damaged fault (record { none = none cause; refused = why cause })))
answers_fault roots input fault (Err e) none why cause eight line = tt
