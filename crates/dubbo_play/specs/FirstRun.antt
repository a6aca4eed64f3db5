-- What a run of a script leaves in the bytes of its link, and what a reader of frames finds there.
use Rattle.std.specs.Prelude.{◌≡◌, ℕ, ◌+◌, ◌≤◌, ◌<◌, ◌^◌, ℤ, List, ◌++◌, length, drop, Option, Some}
use Rattle.dubbo_header.specs.declared.header.Header.{Header}
use Rattle.hessian_text.specs.Written.{WrittenText}
use Rattle.dubbo_play.specs.FirstFrames.{IsRequest, IsReply, WrittenTexts, request_header}
use Rattle.dubbo_play.specs.declared.first_frames.Found.{Found}

-- new is old and more bytes behind it
abbrev pub Grows : List ℕ → List ℕ → Type 0
Grows old new = (more : List ℕ) × (new ≡ old ++ more)

-- new is old and, behind it, bytes of which this holds
pub record Adds (Holds : List ℕ → Type 0) (old new : List ℕ) : Type 0 where
  pub added : List ℕ
  pub holds : Holds added
  pub joined : new ≡ old ++ added

-- from this place to its end stands the request with this id and argument
pub record RequestAt (bytes : List ℕ) (at id : ℕ) (argument : ℤ) (end : ℕ) : Type 0 where
  pub path : List ℕ
  pub method : List ℕ
  pub frame : List ℕ
  pub rest : List ℕ
  pub fits : id < 2 ^ 64
  pub short_path : length path ≤ 255
  pub short_method : length method ≤ 255
  pub request : IsRequest id path method argument frame
  pub stands : drop at bytes ≡ frame ++ rest
  pub ends : end ≡ at + length frame

-- from this place to its end stands the reply with this id and value
pub record ReplyAt (bytes : List ℕ) (at id : ℕ) (value : ℤ) (end : ℕ) : Type 0 where
  pub frame : List ℕ
  pub rest : List ℕ
  pub fits : id < 2 ^ 64
  pub reply : IsReply id value frame
  pub stands : drop at bytes ≡ frame ++ rest
  pub ends : end ≡ at + length frame

-- the header is that of a request with this id, whose body reaches from behind it to this end
pub record IsRequestFrom (bytes : List ℕ) (at : ℕ) (header : Header) (id end : ℕ) : Type 0 where
  pub body : ℕ
  pub header_is : header ≡ request_header id body
  pub within : at + 16 + body ≤ length bytes
  pub ends : end ≡ at + 16 + body

-- the one frame that stands at a place is found as it was written
abbrev pub FindsFrame : (ℕ → ℤ → ℕ → Type 0) → Option Found → Type 0
FindsFrame Stands found =
    (id : ℕ) (value : ℤ) (end : ℕ) → Stands id value end
    → found ≡ Some (record { id = id; value = value; end = end })

-- what is found ends behind its first byte, and within the bytes
pub record EndsIn (bytes : List ℕ) (at : ℕ) (found : Found) : Type 0 where
  pub forward : at < found.end
  pub within : found.end ≤ length bytes

-- a text that stands at a place in the writer's spelling ends where this says
abbrev pub SkipsText : List ℕ → ℕ → Option ℕ → Type 0
SkipsText bytes at found =
    (text written rest : List ℕ) → WrittenText text written → drop at bytes ≡ written ++ rest
    → found ≡ Some (at + length written)

-- so many texts that stand there one behind the other end where this says
abbrev pub SkipsTexts : ℕ → List ℕ → ℕ → Option ℕ → Type 0
SkipsTexts count bytes at found =
    (texts : List (List ℕ)) (written rest : List ℕ) → length texts ≡ count → WrittenTexts texts written
    → drop at bytes ≡ written ++ rest → found ≡ Some (at + length written)
