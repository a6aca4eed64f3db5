-- A line that names a call, by its fields.
use Rattle.std.proofs.Common.{◌≡◌, ℕ, List, ◌∷◌, refl, sym, ap, subst, ◌∙◌, codes}
use Rattle.std.specs.List.{join_with_byte}
use Rattle.hessian_graph.specs.declared.parts.Parts.{Parts}
use Rattle.hessian_graph.specs.Shape.{Text}
use Rattle.call_plan.specs.declared.calls.Call.{Call}
use Rattle.call_plan.specs.declared.calls.Mode.{Mode}
use Rattle.call_plan.specs.Words.{field_of, mode_word, SaysNumber, IsOptionalWord}
use Rattle.call_plan.specs.LineForms.{IsTarget, SayNumbers, AreArguments, HasField, IsCallLine, attachments_of}
use Rattle.call_plan.specs.Pieces.{pieces}
use Rattle.call_plan.proofs.Piecing.{joined_pieces}
use Rattle.call_plan.proofs.Saying.{SameCall}
use Rattle.call_plan.proofs.Wording.{field_once}

module _ {number : ℕ} {text o t r f p v m d : List ℕ} {fields : List (List ℕ)} {c : Call} {is : IsCallLine number text c} (s : SameCall number text o t r f p v m d fields c is) where
  -- the numbers are those of the fields
  pub numbers_there : SayNumbers t r f c.timeout c.retries c.forks
  numbers_there = record {
    says_timeout = subst (λ x. SaysNumber 1 2147483647 1000 x c.timeout) (sym s.timeouts) is.numbers.says_timeout;
    says_retries = subst (λ x. SaysNumber 0 15 2 x c.retries) (sym s.again) is.numbers.says_retries;
    says_forks = subst (λ x. SaysNumber 1 8 2 x c.forks) (sym s.links) is.numbers.says_forks;
  }

  -- the last field is there
  pub field_there : HasField is.count is.notation fields
  field_there = subst (HasField is.count is.notation) (sym s.rest) is.field

  -- the arguments are those of the descriptor
  pub arguments_there : (desc : Text) → IsOptionalWord desc → d ≡ field_of desc → AreArguments desc is.count is.notation c.request.args
  arguments_there desc word same =
      let descs : c.request.desc ≡ desc = field_once c.request.desc desc is.target.is_desc word (sym s.descs ∙ same) in
      subst (λ x. AreArguments x is.count is.notation c.request.args) descs is.arguments

-- the fields of a call's line make the line
pub call_made : (number : ℕ) (text o t r f p v m d : List ℕ) (fields : List (List ℕ)) (mode : Mode) (millis again links : ℕ) (path version method desc : Text) (count : ℕ) (notation : List ℕ) (args : Parts)
    → pieces 9 text ≡ codes "call" ∷ o ∷ t ∷ r ∷ f ∷ p ∷ v ∷ m ∷ d ∷ fields
    → o ≡ mode_word mode → SayNumbers t r f millis again links → IsTarget path version method desc → p ≡ path → v ≡ field_of version → m ≡ method → d ≡ field_of desc
    → AreArguments desc count notation args → HasField count notation fields
    → IsCallLine number text (record {
      line = number;
      request = record { dubbo = codes "2.0.2"; path = path; version = version; method = method; desc = desc; args = args; attachments = attachments_of path version millis };
      mode = mode;
      timeout = millis;
      retries = again;
      forks = links;
    })
call_made number text o t r f p v m d fields mode millis again links path version method desc count notation args here modes numbers target paths versions methods descs arguments has = record {
  line = refl;
  timeout = t;
  retries = r;
  forks = f;
  numbers = numbers;
  target = target;
  count = count;
  notation = notation;
  arguments = arguments;
  last = fields;
  field = has;
  dubbo = refl;
  attachments = refl;
  written =
      let all : codes "call" ∷ o ∷ t ∷ r ∷ f ∷ p ∷ v ∷ m ∷ d ∷ fields ≡ codes "call" ∷ mode_word mode ∷ t ∷ r ∷ f ∷ path ∷ field_of version ∷ method ∷ field_of desc ∷ fields = cc in
      sym (joined_pieces 9 text) ∙ ap (join_with_byte 32) (here ∙ all);
}
