-- Where the reading of a request's body stands behind the bytes that were fed.
use Rattle.std.specs.Prelude.{◌≡◌, ◌≢◌, ℕ, suc, ◌+◌, ◌<◌, ◌≤◌, List, [], ◌∷◌, ◌++◌, length, None}
use Rattle.hessian_graph.specs.Shape.{Text}
use Rattle.hessian_text.specs.declared.stage.Kind.TheVariants as kinds
use Rattle.hessian_text.specs.declared.stage.Stage.TheVariants as stages
use Rattle.hessian_text.specs.Reader.{Advances}
use Rattle.hessian_text.specs.Spelling.{AreBytes}
use Rattle.hessian_reader.specs.Leaves.{hessian}
use Rattle.hessian_reader.specs.Reading.{EndsAt, HasRead, fed_in_all, refusal_of}
use Rattle.dubbo_header.specs.declared.header.Header.{Header}
use Rattle.dubbo_bodies.specs.declared.fault.RequestFault.{RequestFault}
use Rattle.dubbo_bodies.specs.declared.fault.RequestFault.TheVariants.{OutOfMemory}
use Rattle.dubbo_bodies.specs.declared.request_reader.fields.FieldPart.{FieldPart}
use Rattle.dubbo_bodies.specs.declared.request_reader.progress.Progress.{Progress}
use Rattle.dubbo_bodies.specs.declared.request_reader.progress.Progress.TheVariants.{Fields, Values, Refused}
use Rattle.dubbo_bodies.specs.declared.request_reader.values.ValuePart.{ValuePart}
use Rattle.dubbo_bodies.specs.Descriptor.{HasArgs}
use Rattle.dubbo_bodies.specs.Fields.{FIELDS, DESCRIPTOR, BeginsWith}
use Rattle.dubbo_bodies.specs.RequestReading.{IsRefusedRequest}

-- a text is being read, and not all texts came; so many bytes were fed
pub record IsFieldPart (p : FieldPart) (at : ℕ) : Type 0 where
  pub few : length p.texts.items < FIELDS
  pub kind : p.text.kind ≡ kinds.Text
  pub going : p.text.stage ≢ stages.Ended
  pub from : p.from ≤ at

-- all texts came, and values are being read; so many bytes were fed
pub record IsValuePart (p : ValuePart) (at : ℕ) : Type 0 where
  pub all : length p.texts.items ≡ FIELDS
  pub counted : p.from + fed_in_all p.values ≡ at

-- what holds of a reading to which so many bytes were fed, whatever they are
abbrev pub IsSound : Progress → ℕ → Type 0
IsSound (Fields p) at = IsFieldPart p at
IsSound (Values p) at = IsValuePart p at
IsSound (Refused fault) at = Unit {0}

-- behind whole texts the bytes that came last begin one more
pub record InFields (p : FieldPart) (header : Header) (fed : List ℕ) : Type 0 where
  pub came : List ℕ
  pub bytes : AreBytes came
  pub begins : BeginsWith hessian header fed p.texts.items p.from came
  pub advances : Advances (record { kind = kinds.Text; done = []; stage = stages.Code }) came p.text

-- behind all texts the bytes that came last were fed to a reading of the values, and none came behind their end
pub record InValues (p : ValuePart) (header : Header) (fed : List ℕ) : Type 0 where
  pub texts : List Text
  pub desc : Text
  pub came : List ℕ
  pub count : ℕ
  pub texts_are : p.texts.items ≡ texts ++ desc ∷ []
  pub place : length texts ≡ DESCRIPTOR
  pub begins : BeginsWith hessian header fed p.texts.items p.from came
  pub counted : HasArgs desc count
  pub read : HasRead p.values (suc count) came
  pub serves : refusal_of p.values ≡ None
  pub whole : (n : ℕ) → EndsAt (suc count) came n → n ≡ length came

-- the bytes that were fed are refused, whatever follows
abbrev pub StaysRefused : RequestFault → Header → List ℕ → Type 0
StaysRefused fault header fed = fault ≢ OutOfMemory → (more : List ℕ) → IsRefusedRequest header (fed ++ more) fault

-- the bytes that were fed led here
abbrev pub Stands : Progress → Header → List ℕ → Type 0
Stands (Fields p) header fed = InFields p header fed
Stands (Values p) header fed = InValues p header fed
Stands (Refused fault) header fed = StaysRefused fault header fed
