-- What is shown of a frame's body.
use Rattle.std.proofs.Common.{◌≡◌, ◌≢◌, ℕ, List, ◌++◌, Result, Ok, Err, ap, ◌∙◌, append_assoc, codes}
use Rattle.std.specs.Prelude.{OnOk}
use Rattle.hessian_reader.specs.Leaves.{hessian, node_limit}
use Rattle.dubbo_header.specs.declared.header.Header.{Header}
use Rattle.dubbo_bodies.specs.FaultTexts.{reply_words, request_words}
use Rattle.dubbo_bodies.specs.RefusedReply.{IsOfReply, IsRefusedReply}
use Rattle.dubbo_bodies.specs.ReplyBody.{ReplyOf}
use Rattle.dubbo_bodies.specs.RequestBody.{RequestOf}
use Rattle.dubbo_bodies.specs.RequestReading.{IsRefusedRequest}
use Rattle.dubbo_bodies.specs.declared.fault.RequestFault.{RequestFault}
use Rattle.dubbo_bodies.specs.declared.fault.RequestFault.TheVariants as requests
use Rattle.dubbo_bodies.specs.declared.reply_fault.ReplyFault.{ReplyFault}
use Rattle.dubbo_bodies.specs.declared.reply_fault.ReplyFault.TheVariants as replies
use Rattle.dubbo_bodies.specs.declared.message.Reply.{Reply}
use Rattle.dubbo_bodies.specs.declared.message.Request.{Request}
use Rattle.dubbo_main.specs.FrameLines.{IsRequest, Shows, ShowsReply, ShowsRequest}
use Rattle.dubbo_main.specs.FrameLines.Shows.{no_reply as unread_reply, no_request as unread_request, reply as read_reply, request as read_request}

-- the words of a request, written one after another
pub joined_words : (before path version method desc args one two three four : List ℕ)
    → one ≡ before ++ codes " " ++ path ++ codes " " ++ version ++ codes " " ++ method ++ codes " " ++ desc
    → two ≡ one ++ codes " (" → three ≡ two ++ args → four ≡ three ++ codes ")"
    → four ≡ before ++ (codes " " ++ (path ++ codes " " ++ version ++ codes " " ++ method ++ codes " " ++ desc ++ codes " (" ++ args ++ codes ")"))
joined_words before path version method desc args one two three four fields open_mark graph close_mark =
    close_mark ∙ ap (λ t. t ++ codes ")") (graph ∙ ap (λ t. t ++ args) (open_mark ∙ ap (λ t. t ++ codes " (") fields)) ∙ simp append_assoc

pub request_shown : {A E : Type 0} (r : Result A E) (header : Header) (body : List ℕ) (asked : Request) (before after : List ℕ)
    → IsRequest header → RequestOf hessian node_limit header body asked
    → OnOk r ((shown : List ℕ) × ShowsRequest asked shown × (after ≡ before ++ (codes " " ++ shown)))
    → OnOk r ((shown : List ℕ) × Shows header body shown × (after ≡ before ++ shown))
request_shown (Ok x) header body asked before after is of came = (codes " " ++ came.0, read_request asked came.0 is of came.1, came.2)
request_shown (Err e) header body asked before after is of came = tt

pub no_request_shown : {A E : Type 0} (r : Result A E) (header : Header) (body : List ℕ) (fault : RequestFault) (before after : List ℕ)
    → IsRequest header → (fault ≢ requests.OutOfMemory → (asked : Request) → RequestOf hessian node_limit header body asked → ⊥)
    → (fault ≢ requests.OutOfMemory → IsRefusedRequest header body fault)
    → OnOk r (fault ≢ requests.OutOfMemory) → OnOk r (after ≡ before ++ (codes " unread " ++ request_words fault))
    → OnOk r ((shown : List ℕ) × Shows header body shown × (after ≡ before ++ shown))
no_request_shown (Ok x) header body fault before after is none why told written =
    (codes " unread " ++ request_words fault, unread_request fault is (record { none = none told; refused = why told }), written)
no_request_shown (Err e) header body fault before after is none why told written = tt

pub reply_shown : {A E : Type 0} (r : Result A E) (header : Header) (body : List ℕ) (answer : Reply) (before after : List ℕ)
    → IsOfReply header → ReplyOf hessian node_limit header body answer
    → OnOk r ((shown : List ℕ) × ShowsReply answer shown × (after ≡ before ++ (codes " " ++ shown)))
    → OnOk r ((shown : List ℕ) × Shows header body shown × (after ≡ before ++ shown))
reply_shown (Ok x) header body answer before after is of came = (codes " " ++ came.0, read_reply answer came.0 is of came.1, came.2)
reply_shown (Err e) header body answer before after is of came = tt

pub no_reply_shown : {A E : Type 0} (r : Result A E) (header : Header) (body : List ℕ) (fault : ReplyFault) (before after : List ℕ)
    → IsOfReply header → (fault ≢ replies.OutOfMemory → (answer : Reply) → ReplyOf hessian node_limit header body answer → ⊥)
    → (fault ≢ replies.OutOfMemory → IsRefusedReply header body fault)
    → OnOk r (fault ≢ replies.OutOfMemory) → OnOk r (after ≡ before ++ (codes " unread " ++ reply_words fault))
    → OnOk r ((shown : List ℕ) × Shows header body shown × (after ≡ before ++ shown))
no_reply_shown (Ok x) header body fault before after is none why told written =
    (codes " unread " ++ reply_words fault, unread_reply fault is (record { none = none told; refused = why told }), written)
no_reply_shown (Err e) header body fault before after is none why told written = tt
