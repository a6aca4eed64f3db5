-- What holds of a stage that bytes lead to: the character that has begun can become whole.
use Rattle.std.specs.Prelude.{◌≡◌, ℕ, ◌<◌, ◌≤◌}
use Rattle.hessian_text.specs.declared.stage.Kind.{Kind}
use Rattle.hessian_text.specs.declared.stage.Kind.TheVariants.{Text, Binary}
use Rattle.hessian_text.specs.declared.stage.Begun.{Begun}
use Rattle.hessian_text.specs.declared.stage.Begun.TheVariants.{Nothing, One, Two, Three, Four, Five}
use Rattle.hessian_text.specs.declared.stage.Stage.{Stage}
use Rattle.hessian_text.specs.declared.stage.Stage.TheVariants.{Code, High, Low, Inside, Ended}
use Rattle.hessian_text.specs.ChunkHead.{IsCode}

-- a first byte that is not the only one
pub record IsLead (left a : ℕ) : Type 0 where
  pub range : IsCode 0xc2 0xf4 a
  pub fits : 0xf0 ≤ a → 2 ≤ left

-- the first two of at least three
pub record IsLeadTwo (left a b : ℕ) : Type 0 where
  pub range : IsCode 0xe0 0xf4 a
  pub second : IsCode 0x80 0xbf b
  pub fits : 0xf0 ≤ a → 2 ≤ left
  pub least : a ≡ 0xe0 → 0xa0 ≤ b
  pub most : a ≡ 0xed → b ≤ 0xaf
  pub pair : a ≡ 0xed → 0xa0 ≤ b → 2 ≤ left
  pub least_four : a ≡ 0xf0 → 0x90 ≤ b
  pub most_four : a ≡ 0xf4 → b ≤ 0x8f

-- the first three of four or six
pub record IsLeadThree (left a b c : ℕ) : Type 0 where
  pub two : IsLeadTwo left a b
  pub third : IsCode 0x80 0xbf c
  pub longer : a < 0xf0 → a ≡ 0xed
  pub high : a < 0xf0 → 0xa0 ≤ b

-- the first four of six
pub record IsLeadFour (left a b c d : ℕ) : Type 0 where
  pub three : IsLeadThree left a b c
  pub first : a ≡ 0xed
  pub fourth : d ≡ 0xed

-- the first five of six
pub record IsLeadFive (left a b c d e : ℕ) : Type 0 where
  pub four : IsLeadFour left a b c d
  pub fifth : IsCode 0xb0 0xbf e

abbrev pub SoundBegun : Kind → ℕ → Begun → Type 0
SoundBegun kind left Nothing = Unit {0}
SoundBegun Text left (One a) = IsLead left a
SoundBegun Text left (Two a b) = IsLeadTwo left a b
SoundBegun Text left (Three a b c) = IsLeadThree left a b c
SoundBegun Text left (Four a b c d) = IsLeadFour left a b c d
SoundBegun Text left (Five a b c d e) = IsLeadFive left a b c d e
SoundBegun Binary left (One a) = ⊥
SoundBegun Binary left (Two a b) = ⊥
SoundBegun Binary left (Three a b c) = ⊥
SoundBegun Binary left (Four a b c d) = ⊥
SoundBegun Binary left (Five a b c d e) = ⊥

abbrev pub SoundStage : Kind → Stage → Type 0
SoundStage kind Code = Unit {0}
SoundStage kind (High part) = Unit {0}
SoundStage kind (Low part high) = high < 256
SoundStage kind (Inside part left begun) = (0 < left) × (left < 65536) × SoundBegun kind left begun
SoundStage kind Ended = Unit {0}
