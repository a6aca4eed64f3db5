-- What a chunk contains: whole characters in one of their forms, or bytes.
use Rattle.std.specs.Prelude.{◌≡◌, ℕ, ◌<◌, ◌+◌, List, [], ◌∷◌, ◌++◌, length, ◌⊎◌, encode_utf8}
use Rattle.std.specs.Char.{IsScalar}
use Rattle.std.specs.Char.Escape.{encode_utf16}
use Rattle.std.specs.List.{flat_map}
use Rattle.hessian_text.specs.declared.stage.Kind.{Kind}
use Rattle.hessian_text.specs.declared.stage.Kind.TheVariants.{Text, Binary}

-- a form of a character: its bytes of UTF-8, or those of its one or two units, each by itself;
-- the value is its bytes of UTF-8, and the units are counted in UTF-16
pub record IsCharacter (value : List ℕ) (units : ℕ) (form : List ℕ) : Type 0 where
  pub char : ℕ
  pub scalar : IsScalar char
  pub value_is : value ≡ encode_utf8 char
  pub units_are : units ≡ length (encode_utf16 char)
  pub form_is : (form ≡ encode_utf8 char) ⊎ (form ≡ flat_map encode_utf8 (encode_utf16 char))

-- a byte of a binary: it is its own form, and one unit
pub record IsByte (value : List ℕ) (units : ℕ) (form : List ℕ) : Type 0 where
  pub byte : ℕ
  pub small : byte < 256
  pub value_is : value ≡ byte ∷ []
  pub units_are : units ≡ 1
  pub form_is : form ≡ byte ∷ []

abbrev pub IsItem : Kind → List ℕ → ℕ → List ℕ → Type 0
IsItem Text value units form = IsCharacter value units form
IsItem Binary value units form = IsByte value units form

-- whole items, how many units they have, and their forms
pub data Contents (kind : Kind) : List ℕ → ℕ → List ℕ → Type 0 where
  none : Contents kind [] 0 []
  item : (value form values forms : List ℕ) (units more : ℕ) → IsItem kind value units form → Contents kind values more forms → Contents kind (value ++ values) (units + more) (form ++ forms)
