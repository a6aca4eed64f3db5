-- What stands before the values of a request's body: five texts. (Dubbo protocol, body of a request)
use Rattle.std.specs.Prelude.{◌≡◌, ℕ, suc, List, [], ◌∷◌, ◌++◌, length}
use Rattle.hessian_graph.specs.Shape.{Text}
use Rattle.hessian_graph.specs.Reading.{Leaves}
use Rattle.dubbo_bodies.specs.declared.message.Request.{Request}
use Rattle.dubbo_header.specs.declared.header.Header.{Header}

-- Hessian 2's number among the serializations of a header
abbrev pub HESSIAN : ℕ
HESSIAN = 2

-- how many texts there are, the place of the service's version among them, and that of the descriptor, the last
abbrev pub FIELDS : ℕ
FIELDS = 5

abbrev pub VERSION : ℕ
VERSION = 2

abbrev pub DESCRIPTOR : ℕ
DESCRIPTOR = 4

-- the code of null
abbrev pub NULL : ℕ
NULL = 0x4e

-- a text, or null for the empty text
pub data OptionalText (l : Leaves) : Text → List ℕ → Type 0 where
  text : (text : Text) (bytes : List ℕ) → l.text text bytes → OptionalText l text bytes
  null : OptionalText l [] (NULL ∷ [])

-- the text at a place: only the service's version may be null
pub data FieldSpelling (l : Leaves) : ℕ → Text → List ℕ → Type 0 where
  text : (place : ℕ) (text : Text) (bytes : List ℕ) → l.text text bytes → FieldSpelling l place text bytes
  version : (text : Text) (bytes : List ℕ) → OptionalText l text bytes → FieldSpelling l VERSION text bytes

-- texts one after another, the first of them at this place
pub data FieldsSpelling (l : Leaves) : ℕ → List Text → List ℕ → Type 0 where
  none : (place : ℕ) → FieldsSpelling l place [] []
  one : (place : ℕ) (text : Text) (texts : List Text) (front rest : List ℕ) → FieldSpelling l place text front → FieldsSpelling l (suc place) texts rest → FieldsSpelling l place (text ∷ texts) (front ++ rest)

-- the texts of a request, in the order of its body
abbrev pub fields_of : Request → List Text
fields_of r = r.dubbo ∷ r.path ∷ r.version ∷ r.method ∷ r.desc ∷ []

-- a body in Hessian 2 begins with these texts, in so many bytes, and the rest comes behind them
pub record BeginsWith (l : Leaves) (header : Header) (body : List ℕ) (texts : List Text) (at : ℕ) (rest : List ℕ) : Type 0 where
  pub serial : header.serial ≡ HESSIAN
  pub front : List ℕ
  pub fields : FieldsSpelling l 0 texts front
  pub place : at ≡ length front
  pub joined : body ≡ front ++ rest
