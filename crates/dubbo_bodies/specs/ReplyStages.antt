-- Where the reading of a reply stands behind the bytes of its body that were fed.
use Rattle.std.specs.Prelude.{◌≡◌, ◌≢◌, ℕ, List, [], ◌∷◌, ◌++◌, length, Option, Some, None}
use Rattle.hessian_scalars.specs.Read.{BeginsInt, IsProperPrefix}
use Rattle.hessian_text.specs.declared.stage.Kind.TheVariants.{Text as Letters}
use Rattle.hessian_text.specs.declared.stage.Stage.TheVariants.{Code}
use Rattle.hessian_text.specs.Reader.{Reading as Characters, Advances}
use Rattle.hessian_text.specs.Spelling.{AreBytes}
use Rattle.hessian_reader.specs.Leaves.{hessian}
use Rattle.hessian_reader.specs.Reading.{EndsAt, HasRead, refusal_of}
use Rattle.dubbo_header.specs.declared.header.Header.{Header}
use Rattle.dubbo_bodies.specs.declared.reply_fault.ReplyFault.{ReplyFault}
use Rattle.dubbo_bodies.specs.declared.reply_fault.ReplyFault.TheVariants.{OutOfMemory}
use Rattle.dubbo_bodies.specs.declared.reply_reader.kind.Kind.{Kind}
use Rattle.dubbo_bodies.specs.declared.reply_reader.values.Values.{Values as ValuePart}
use Rattle.dubbo_bodies.specs.declared.reply_reader.stage.Stage.{Stage}
use Rattle.dubbo_bodies.specs.declared.reply_reader.stage.Stage.TheVariants as stages
use Rattle.dubbo_bodies.specs.declared.reply_reader.reading.Reading.{Reading}
use Rattle.dubbo_bodies.specs.FedBody.{FedBody}
use Rattle.dubbo_bodies.specs.Fields.{HESSIAN, NULL}
use Rattle.dubbo_bodies.specs.ReplyBody.{OK_STATUS, HasRoots, BeginsWithKind}
use Rattle.dubbo_bodies.specs.ReplyKinds.{number_of}
use Rattle.dubbo_bodies.specs.RefusedReply.{IsOfReply, IsRefusedReply}

-- a header in Hessian 2, with the status of a value or an exception, or with another
pub record IsOutcome (header : Header) : Type 0 where
  pub serial : header.serial ≡ HESSIAN
  pub status : header.status ≡ OK_STATUS

pub record IsStatus (header : Header) : Type 0 where
  pub serial : header.serial ≡ HESSIAN
  pub status : header.status ≢ OK_STATUS

-- these bytes of the number of the kind came
pub record AtKind (header : Header) (bytes came : List ℕ) : Type 0 where
  pub outcome : IsOutcome header
  pub all : came ≡ bytes
  pub begun : (code : ℕ) (rest : List ℕ) → came ≡ code ∷ rest → BeginsInt code
  pub part : IsProperPrefix came

-- the reading of the values behind a kind, before their first byte
pub record BeginsValues (kind : Kind) (from : ℕ) (values : ValuePart) : Type 0 where
  pub kind_is : values.kind ≡ kind
  pub from_is : values.from ≡ from
  pub roots : ℕ
  pub has_roots : HasRoots (number_of kind) roots
  pub read : HasRead values.reader roots []
  pub serves : refusal_of values.reader ≡ None

-- behind the number of the kind these bytes of its values came, and none behind the last
pub record AtValues (header : Header) (bytes : List ℕ) (values : ValuePart) : Type 0 where
  pub rest : List ℕ
  pub begins : BeginsWithKind hessian header bytes (number_of values.kind) values.from rest
  pub roots : ℕ
  pub has_roots : HasRoots (number_of values.kind) roots
  pub read : HasRead values.reader roots rest
  pub serves : refusal_of values.reader ≡ None
  pub whole : (n : ℕ) → EndsAt roots rest n → n ≡ length rest

-- the bytes led the reading of a text from its begin to this one
pub record AtText (header : Header) (bytes : List ℕ) (text : Characters) : Type 0 where
  pub status : IsStatus header
  pub small : AreBytes bytes
  pub advances : Advances (record { kind = Letters; done = []; stage = Code }) bytes text

-- the bytes are null alone
pub record AtNull (header : Header) (bytes : List ℕ) : Type 0 where
  pub status : IsStatus header
  pub null : bytes ≡ NULL ∷ []

-- the bytes are refused, whatever follows
abbrev pub StaysRefused : Header → List ℕ → ReplyFault → Type 0
StaysRefused header bytes fault = fault ≢ OutOfMemory → (more : List ℕ) → IsRefusedReply header (bytes ++ more) fault

-- the bytes that were fed led here
abbrev pub Stands : Header → List ℕ → Stage → Type 0
Stands header bytes stages.Nothing = IsOfReply header → ⊥
Stands header bytes (stages.Kind came) = AtKind header bytes came
Stands header bytes (stages.Values values) = AtValues header bytes values
Stands header bytes (stages.Text text) = AtText header bytes text
Stands header bytes stages.NoText = AtNull header bytes
Stands header bytes (stages.Refused fault) = StaysRefused header bytes fault

-- the reading of a body with this header, to which these bytes were fed
pub record Reads (header : Header) (bytes : List ℕ) (reading : Reading) : Type 0 where
  pub header_is : reading.came.header ≡ header
  pub bytes_are : reading.came.fed.bytes ≡ bytes
  pub small : AreBytes bytes
  pub stands : Stands header bytes reading.stage

-- what contracts see of a reader that has a reading, or was not started
abbrev pub fed_body : Option Reading → FedBody
fed_body None = record { started = None; fed = [] }
fed_body (Some reading) = record { started = Some reading.came.header; fed = reading.came.fed.bytes }

-- the reading of a reader that was started
abbrev pub HasStage : Option Reading → Type 0
HasStage None = Unit {0}
HasStage (Some reading) = Reads reading.came.header reading.came.fed.bytes reading
