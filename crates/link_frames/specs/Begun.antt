-- A frame that has begun, and the bytes of its body that came.
use Rattle.std.specs.Prelude.{◌≡◌, ℕ, ◌+◌, List, length, IfSome, None}
use Rattle.dubbo_header.specs.declared.header.Header.{Header}
use Rattle.link_frames.specs.declared.begun.Begun.{Begun}
use Rattle.link_frames.specs.declared.next.Next.{Next}
use Rattle.link_frames.specs.declared.next.Next.TheVariants.{Frame, NoMemory, End, Lost, Broken, CutShort}

abbrev pub header_of : Begun → Header
header_of begun = begun.header

-- how many bytes of the body are still to come
abbrev pub left_of : Begun → ℕ
left_of begun = begun.left

-- these are the bytes of the body that came
pub record Took (begun : Begun) (body : List ℕ) : Type 0 where
  pub count : length body + begun.left ≡ begun.header.length
  pub kept : IfSome begun.kept (λ bytes. bytes.items ≡ body)

-- nothing of the body is kept
abbrev pub KeepsNone : Begun → Type 0
KeepsNone begun = begun.kept ≡ None

-- the frame with this body, or that there was no memory for it
abbrev pub Finishes : Header → List ℕ → Next → Type 0
Finishes header body (Frame head bytes) = (head ≡ header) × (bytes ≡ body)
Finishes header body (NoMemory head) = head ≡ header
Finishes header body End = ⊥
Finishes header body (Lost faults) = ⊥
Finishes header body (Broken at head) = ⊥
Finishes header body (CutShort at) = ⊥
