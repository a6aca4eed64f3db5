-- What `encode` answers, and that it answers one status.
use Rattle.std.proofs.Common.{◌≡◌, ◌≢◌, ℕ, ◌≤◌, List, length, Result, Ok, Err, refl, sym, subst, ◌∙◌, inl, inr}
use Rattle.std.specs.Prelude.{IfOk}
use Rattle.std.proofs.lemmas.List.{same_from_push}
use Rattle.hessian_graph.specs.Shape.{Shape}
use Rattle.hessian_graph.specs.Forms.{Written}
use Rattle.hessian_writer.specs.Leaves.{hessian, hessian_forms}
use Rattle.graph_notation.specs.Limit.{node_limit}
use Rattle.graph_notation.specs.Notation.{IsNotation}
use Rattle.graph_notation.specs.Refusal.{Refusal}
use Rattle.graph_notation.proofs.Verdict.{read_or_refused}
use Rattle.graph_notation.specs.declared.fault.NotationFault.{NotationFault}
use Rattle.graph_notation.specs.declared.fault.NotationFault.TheVariants.{OutOfMemory}
use Rattle.dubbo_main.specs.Encoding.{EncodeAnswers, IsEncoded, IsNoNotation, IsTextOf}
use Rattle.dubbo_main.specs.Encoding.EncodeAnswers.{encoded, damaged}
use Rattle.dubbo_main.specs.FaultTexts.{damage_line, notation_text}
use Rattle.dubbo_main.specs.PlainCommands.{status_of, text_of}
use Rattle.dubbo_main.specs.declared.commands.answer.Answer.{Answer}

-- an input has one text
text_once : (input one other : List ℕ) → IsTextOf input one → IsTextOf input other → one ≡ other
text_once input one other a b = elim a [
  | inl ended ↦ elim b [
    | inl too ↦ (same_from_push one other 10 10 (sym ended ∙ too)).0
    | inr whole ↦ absurd (whole.1 one ended)
  ]
  | inr whole ↦ elim b [
    | inl ended ↦ absurd (whole.1 other ended)
    | inr too ↦ sym whole.0 ∙ too.0
  ]
]

-- an input isn't both encoded and damaged
encoded_or_damaged : (input bytes : List ℕ) (fault : NotationFault) → IsEncoded input bytes → ¬ IsNoNotation input fault
encoded_or_damaged input bytes fault is none =
    let same : none.text ≡ is.text = text_once input none.text is.text none.is_text is.is_text in
    read_or_refused node_limit is.text is.graph fault is.notation is.few (subst (λ text. Refusal node_limit text fault) same none.refused)

pub encode_once : (input : List ℕ) (status status' : ℕ) (text text' : List ℕ) → EncodeAnswers input status text → EncodeAnswers input status' text' → status ≡ status'
encode_once input _ _ _ _ (encoded bytes is) (encoded bytes' is') = refl
encode_once input _ _ _ _ (encoded bytes is) (damaged fault none) = absurd (encoded_or_damaged input bytes fault is none)
encode_once input _ _ _ _ (damaged fault none) (encoded bytes is) = absurd (encoded_or_damaged input bytes fault is none)
encode_once input _ _ _ _ (damaged fault none) (damaged fault' none') = refl

-- the answer with the bytes of a graph
pub answers_bytes : {E : Type 0} (input text : List ℕ) (g : Shape) (answer : Result Answer E) → IsTextOf input text → IsNotation text g → length g.nodes ≤ node_limit
    → IfOk answer (λ a. status_of a ≡ 0) → IfOk answer (λ a. Written hessian hessian_forms g (text_of a))
    → IfOk answer (λ a. EncodeAnswers input (status_of a) (text_of a))
answers_bytes input text g (Ok a) is notation few zero written =
    subst (λ status. EncodeAnswers input status (text_of a)) (sym zero)
    (encoded (text_of a) (record { text = text; graph = g; is_text = is; notation = notation; few = few; written = written }))
answers_bytes input text g (Err e) is notation few zero written = tt

-- the answer with the cause of a refusal
pub answers_damage : {E : Type 0} (input text : List ℕ) (fault : NotationFault) (answer : Result Answer E) → IsTextOf input text
    → (fault ≢ OutOfMemory → Refusal node_limit text fault)
    → IfOk answer (λ a. fault ≢ OutOfMemory) → IfOk answer (λ a. status_of a ≡ 8) → IfOk answer (λ a. text_of a ≡ damage_line (notation_text fault))
    → IfOk answer (λ a. EncodeAnswers input (status_of a) (text_of a))
answers_damage input text fault (Ok a) is refused cause eight line =
    subst (λ status. EncodeAnswers input status (text_of a)) (sym eight)
    (subst (λ all. EncodeAnswers input 8 all) (sym line) (damaged fault (record { text = text; is_text = is; refused = refused cause })))
answers_damage input text fault (Err e) is refused cause eight line = tt
