-- The heads of chunks: one rule for each row of the table of codes, with the number of units that
-- it states. (Hessian 2.0 Serialization Protocol, binary data and strings, and the bytecode map)
use Rattle.std.specs.Prelude.{◌≡◌, ℕ, ◌<◌, ◌≤◌, ◌+◌, ◌*◌, ◌-◌, List, [], ◌∷◌}
use Rattle.hessian_text.specs.declared.stage.Kind.{Kind}
use Rattle.hessian_text.specs.declared.stage.Kind.TheVariants.{Text, Binary}
use Rattle.hessian_text.specs.declared.stage.Part.{Part}
use Rattle.hessian_text.specs.declared.stage.Part.TheVariants.{Inner, Final}

-- a code of its row
pub record IsCode (first last code : ℕ) : Type 0 where
  pub low : first ≤ code
  pub high : code ≤ last

-- a code and the bytes of its length begin a chunk of n units
pub data ChunkHead : Kind → Part → ℕ → List ℕ → Type 0 where
  text_short : (code n : ℕ) → IsCode 0x00 0x1f code → n ≡ code → ChunkHead Text Final n (code ∷ [])
  text_middle : (code b0 n : ℕ) → IsCode 0x30 0x33 code → b0 < 256 → n ≡ (code - 0x30) * 256 + b0 → ChunkHead Text Final n (code ∷ b0 ∷ [])
  text_inner : (b1 b0 n : ℕ) → b1 < 256 → b0 < 256 → n ≡ b1 * 256 + b0 → ChunkHead Text Inner n (0x52 ∷ b1 ∷ b0 ∷ [])
  text_final : (b1 b0 n : ℕ) → b1 < 256 → b0 < 256 → n ≡ b1 * 256 + b0 → ChunkHead Text Final n (0x53 ∷ b1 ∷ b0 ∷ [])
  binary_short : (code n : ℕ) → IsCode 0x20 0x2f code → n ≡ code - 0x20 → ChunkHead Binary Final n (code ∷ [])
  binary_middle : (code b0 n : ℕ) → IsCode 0x34 0x37 code → b0 < 256 → n ≡ (code - 0x34) * 256 + b0 → ChunkHead Binary Final n (code ∷ b0 ∷ [])
  binary_inner : (b1 b0 n : ℕ) → b1 < 256 → b0 < 256 → n ≡ b1 * 256 + b0 → ChunkHead Binary Inner n (0x41 ∷ b1 ∷ b0 ∷ [])
  binary_final : (b1 b0 n : ℕ) → b1 < 256 → b0 < 256 → n ≡ b1 * 256 + b0 → ChunkHead Binary Final n (0x42 ∷ b1 ∷ b0 ∷ [])
