-- Why a header and a body are no request, or no reply: the first cause in the order of the bytes.
use Rattle.std.specs.Prelude.{◌≡◌, ◌≢◌, ℕ, suc, ◌+◌, ◌<◌, ℤ, List, [], ◌∷◌, ◌++◌, length, Err}
use Rattle.hessian_graph.specs.declared.value.Value.{Value}
use Rattle.hessian_graph.specs.Shape.{Text, Shape}
use Rattle.hessian_graph.specs.Reading.{Leaves, IntSpelling}
use Rattle.hessian_graph.specs.Spells.{Denotes}
use Rattle.hessian_graph.specs.Refusal.{Cause, LeafFaults, BeginsNoInt, Refusal}
use Rattle.hessian_graph.specs.Refusal.Cause.{Short, Double, BadCode, BadText, BadRef, BadType, BadClass, BadLength, TooManyNodes, Trailing}
use Rattle.dubbo_header.specs.declared.header.Header.{Header}
use Rattle.dubbo_bodies.specs.declared.fault.DescFault.{DescFault}
use Rattle.dubbo_bodies.specs.Descriptor.{HasArgs, Tells}
use Rattle.dubbo_bodies.specs.Attachments.{NoAttachments}
use Rattle.dubbo_bodies.specs.Fields.{HESSIAN, FIELDS, DESCRIPTOR, OptionalText, FieldSpelling, BeginsWith}
use Rattle.dubbo_bodies.specs.ReplyBody.{OK_STATUS, HasRoots, HasBeside, BeginsWithKind}

-- Why a body isn't read. A place counts from 0 in the body; in a descriptor's fault, in the descriptor.
pub data BodyCause : Type 0 where
  BadSerial : (number : ℕ) → BodyCause
  Hessian : Cause → BodyCause
  NotText : (field : ℕ) → BodyCause
  Descriptor : DescFault → BodyCause
  BadKind : (number : ℤ) → BodyCause
  BadAttachments : BodyCause

-- a cause whose place was counted behind so many bytes
abbrev pub behind : ℕ → Cause → Cause
behind n (Short at) = Short (n + at)
behind n (Double at code) = Double (n + at) code
behind n (BadCode at code) = BadCode (n + at) code
behind n (BadText at) = BadText (n + at)
behind n (BadRef at number) = BadRef (n + at) number
behind n (BadType at number) = BadType (n + at) number
behind n (BadClass at number) = BadClass (n + at) number
behind n (BadLength at number) = BadLength (n + at) number
behind n (TooManyNodes at) = TooManyNodes (n + at)
behind n (Trailing at) = Trailing (n + at)

-- a text that begins these bytes is refused inside: behind a chunk that isn't the last, or in a character
pub data TextRefused (f : LeafFaults) : List ℕ → Cause → Type 0 where
  bad_code : (element rest : List ℕ) (p code : ℕ) → 0 < p → f.text_code element p code → TextRefused f (element ++ rest) (BadCode p code)
  bad_character : (element rest : List ℕ) (p : ℕ) → f.text_character element p → TextRefused f (element ++ rest) (BadText p)

-- the bytes end before something that has these spellings does
pub record EndsInside (Is : List ℕ → Type 0) (bytes : List ℕ) : Type 0 where
  pub more : List ℕ
  pub lacks : more ≢ []
  pub whole : Is (bytes ++ more)

-- some text at this place, some optional text, or some int has these bytes
abbrev pub IsField : Leaves → ℕ → List ℕ → Type 0
IsField l place bytes = (text : Text) × FieldSpelling l place text bytes

abbrev pub IsOptionalText : Leaves → List ℕ → Type 0
IsOptionalText l bytes = (text : Text) × OptionalText l text bytes

abbrev pub IsInt : Leaves → List ℕ → Type 0
IsInt l bytes = (z : ℤ) × IntSpelling l z bytes

-- nothing that has these spellings begins with the code
abbrev pub NoneBegins : (List ℕ → Type 0) → ℕ → Type 0
NoneBegins Is code = (more : List ℕ) → Is (code ∷ more) → ⊥

-- behind so many values one more stands, the last, and it is no attachments
pub record LacksAttachments (g : Shape) (count : ℕ) : Type 0 where
  pub args : List Value
  pub last : Value
  pub roots : g.roots ≡ args ++ last ∷ []
  pub each : length args ≡ count
  pub none : NoAttachments g last

-- why the header and the body are no request
pub data RequestRefusal (l : Leaves) (f : LeafFaults) (bound : ℕ) (header : Header) (body : List ℕ) : BodyCause → Type 0 where
  serial : header.serial ≢ HESSIAN → RequestRefusal l f bound header body (BadSerial header.serial)
  -- the five texts
  not_text : (texts : List Text) (at code : ℕ) (rest : List ℕ) → BeginsWith l header body texts at (code ∷ rest) → length texts < FIELDS → NoneBegins (IsField l (length texts)) code → RequestRefusal l f bound header body (NotText (length texts))
  in_text : (texts : List Text) (at : ℕ) (rest : List ℕ) (cause : Cause) → BeginsWith l header body texts at rest → length texts < FIELDS → TextRefused f rest cause → RequestRefusal l f bound header body (Hessian (behind at cause))
  short : (texts : List Text) (at : ℕ) (rest : List ℕ) → BeginsWith l header body texts at rest → length texts < FIELDS → EndsInside (IsField l (length texts)) rest → RequestRefusal l f bound header body (Hessian (Short (length body)))
  -- the descriptor, once it is whole
  descriptor : (texts : List Text) (desc : Text) (at : ℕ) (rest : List ℕ) (fault : DescFault) → BeginsWith l header body (texts ++ desc ∷ []) at rest → length texts ≡ DESCRIPTOR → Tells desc (Err fault) → RequestRefusal l f bound header body (Descriptor fault)
  -- the values, and then what the last of them is
  values : (texts : List Text) (desc : Text) (at count : ℕ) (rest : List ℕ) (cause : Cause) → BeginsWith l header body (texts ++ desc ∷ []) at rest → length texts ≡ DESCRIPTOR → HasArgs desc count → Refusal l f bound (suc count) rest cause → RequestRefusal l f bound header body (Hessian (behind at cause))
  attachments : (texts : List Text) (desc : Text) (at count : ℕ) (rest : List ℕ) (g : Shape) → BeginsWith l header body (texts ++ desc ∷ []) at rest → length texts ≡ DESCRIPTOR → HasArgs desc count → Denotes l bound rest g → LacksAttachments g count → RequestRefusal l f bound header body BadAttachments

-- why the header and the body are no reply
pub data ReplyRefusal (l : Leaves) (f : LeafFaults) (bound : ℕ) (header : Header) (body : List ℕ) : BodyCause → Type 0 where
  serial : header.serial ≢ HESSIAN → ReplyRefusal l f bound header body (BadSerial header.serial)
  -- the kind
  no_int : (code : ℕ) (rest : List ℕ) → header.serial ≡ HESSIAN → header.status ≡ OK_STATUS → body ≡ code ∷ rest → BeginsNoInt l code → ReplyRefusal l f bound header body (Hessian (BadCode 0 code))
  short_kind : header.serial ≡ HESSIAN → header.status ≡ OK_STATUS → EndsInside (IsInt l) body → ReplyRefusal l f bound header body (Hessian (Short (length body)))
  kind : (z : ℤ) (at : ℕ) (rest : List ℕ) → BeginsWithKind l header body z at rest → ((roots : ℕ) → HasRoots z roots → ⊥) → ReplyRefusal l f bound header body (BadKind z)
  -- the values, and then what the last of them is
  values : (z : ℤ) (at roots : ℕ) (rest : List ℕ) (cause : Cause) → BeginsWithKind l header body z at rest → HasRoots z roots → Refusal l f bound roots rest cause → ReplyRefusal l f bound header body (Hessian (behind at cause))
  attachments : (z : ℤ) (at before : ℕ) (rest : List ℕ) (g : Shape) → BeginsWithKind l header body z at rest → HasBeside z before → Denotes l bound rest g → LacksAttachments g before → ReplyRefusal l f bound header body BadAttachments
  -- the text of another status
  no_text : (code : ℕ) (rest : List ℕ) → header.serial ≡ HESSIAN → header.status ≢ OK_STATUS → body ≡ code ∷ rest → NoneBegins (IsOptionalText l) code → ReplyRefusal l f bound header body (Hessian (BadCode 0 code))
  in_text : (cause : Cause) → header.serial ≡ HESSIAN → header.status ≢ OK_STATUS → TextRefused f body cause → ReplyRefusal l f bound header body (Hessian cause)
  short_text : header.serial ≡ HESSIAN → header.status ≢ OK_STATUS → EndsInside (IsOptionalText l) body → ReplyRefusal l f bound header body (Hessian (Short (length body)))
  trailing : (front rest : List ℕ) (code : ℕ) → header.serial ≡ HESSIAN → header.status ≢ OK_STATUS → IsOptionalText l front → body ≡ front ++ code ∷ rest → ReplyRefusal l f bound header body (Hessian (Trailing (length front)))
