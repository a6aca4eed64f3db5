-- The two frames of a call of the first form, and the frames of all calls joined in order.
use Rattle.std.specs.Prelude.{◌≡◌, ℕ, suc, ◌*◌, ℤ, true, false, List, [], ◌∷◌, ◌++◌, length, codes}
use Rattle.dubbo_header.specs.Header.{header_bytes}
use Rattle.dubbo_header.specs.declared.header.Header.{Header}
use Rattle.hessian_scalars.specs.Written.{IsShortest}
use Rattle.hessian_scalars.specs.declared.scalar.Scalar.TheVariants as scalars
use Rattle.hessian_text.specs.Written.{WrittenText}
use Rattle.dubbo_play.specs.FirstForm.{Call}

-- texts one behind the other, each in the writer's spelling
pub data WrittenTexts : List (List ℕ) → List ℕ → Type 0 where
  none : WrittenTexts [] []
  more : (text : List ℕ) (texts : List (List ℕ)) (written rest : List ℕ)
      → WrittenText text written → WrittenTexts texts rest → WrittenTexts (text ∷ texts) (written ++ rest)

-- what a request names before its argument: Dubbo's version, the path, the service's version, which is
-- empty, the method and the types of the parameters
abbrev pub names : List ℕ → List ℕ → List (List ℕ)
names path method = codes "2.0.2" ∷ path ∷ [] ∷ method ∷ codes "Ljava/lang/Object;" ∷ []

-- what it attaches behind its argument: keys and values by turns
abbrev pub attachments : List ℕ → List (List ℕ)
attachments path =
    codes "path" ∷ path ∷ codes "interface" ∷ path ∷ codes "version" ∷ [] ∷ codes "timeout" ∷ codes "1000" ∷ []

-- an untyped map of texts, between its code and its end
pub record IsTextMap (texts : List (List ℕ)) (bytes : List ℕ) : Type 0 where
  pub entries : List ℕ
  pub written : WrittenTexts texts entries
  pub bytes_are : bytes ≡ 0x48 ∷ entries ++ 0x5a ∷ []

-- the body asks for a call of this method with this argument, which is in the writer's spelling
pub record IsRequestBody (path method : List ℕ) (argument : ℤ) (body : List ℕ) : Type 0 where
  pub front : List ℕ
  pub spelling : List ℕ
  pub back : List ℕ
  pub named : WrittenTexts (names path method) front
  pub shortest : IsShortest (scalars.Int argument) spelling
  pub attached : IsTextMap (attachments path) back
  pub bytes : body ≡ front ++ (spelling ++ back)

-- the body answers with this value, in the writer's spelling: before it the int 1 says that a value follows
pub record IsReplyBody (value : ℤ) (body : List ℕ) : Type 0 where
  pub spelling : List ℕ
  pub shortest : IsShortest (scalars.Int value) spelling
  pub bytes : body ≡ 0x91 ∷ spelling

-- the header of a request in Hessian 2 that wants a reply, with a body of so many bytes
abbrev pub request_header : ℕ → ℕ → Header
request_header id body =
    record { request = true; two_way = true; event = false; serial = 2; status = 0; id = id; length = body }

-- the header of a reply in Hessian 2 to a call that went well
abbrev pub reply_header : ℕ → ℕ → Header
reply_header id body =
    record { request = false; two_way = false; event = false; serial = 2; status = 20; id = id; length = body }

-- the frame of a request with this id: a header with its body's length, and the body
pub record IsRequest (id : ℕ) (path method : List ℕ) (argument : ℤ) (frame : List ℕ) : Type 0 where
  pub body : List ℕ
  pub says : IsRequestBody path method argument body
  pub bytes : frame ≡ header_bytes (request_header id (length body)) ++ body

-- the frame of a reply with this id
pub record IsReply (id : ℕ) (value : ℤ) (frame : List ℕ) : Type 0 where
  pub body : List ℕ
  pub says : IsReplyBody value body
  pub bytes : frame ≡ header_bytes (reply_header id (length body)) ++ body

-- the frame that asks for call k: its first attempt has the id 16 * k
abbrev pub IsRequestFrame : ℕ → Call → List ℕ → Type 0
IsRequestFrame k call frame = IsRequest (16 * k) call.path call.method call.argument frame

-- the frame that answers call k with the argument of that call
abbrev pub IsReplyFrame : ℕ → Call → List ℕ → Type 0
IsReplyFrame k call frame = IsReply (16 * k) call.argument frame

-- one frame after the other for these calls in order, the first of which is call k
pub data Joined (IsFrame : ℕ → Call → List ℕ → Type 0) : ℕ → List Call → List ℕ → Type 0 where
  none : (k : ℕ) → Joined IsFrame k [] []
  next : (k : ℕ) (call : Call) (calls : List Call) (frame rest : List ℕ) →
      IsFrame k call frame → Joined IsFrame (suc k) calls rest →
      Joined IsFrame k (call ∷ calls) (frame ++ rest)

-- the request frames of all calls in order, and the reply frames
abbrev pub AreRequests : List Call → List ℕ → Type 0
AreRequests calls bytes = Joined IsRequestFrame 0 calls bytes

abbrev pub AreReplies : List Call → List ℕ → Type 0
AreReplies calls bytes = Joined IsReplyFrame 0 calls bytes
