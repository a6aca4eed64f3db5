-- Requests that say the same are equal where their tables stand in the order of first use.
use Rattle.std.proofs.Common.{◌≡◌, List, refl}
use Rattle.hessian_graph.specs.declared.parts.Parts.{Parts}
use Rattle.hessian_graph.specs.Faults.{IsSound}
use Rattle.hessian_graph.specs.InUse.{InOrderOfUse}
use Rattle.hessian_graph.specs.Shape.{Text}
use Rattle.hessian_graph.proofs.Rebuilding.{there_of}
use Rattle.hessian_graph.proofs.SameTables.{same_in_order}
use Rattle.dubbo_bodies.specs.declared.attachment.Attachment.{Attachment}
use Rattle.dubbo_bodies.specs.declared.message.Request.{Request}
use Rattle.dubbo_bodies.specs.Fields.{fields_of}
use Rattle.dubbo_bodies.specs.RequestReading.{SaysTheSame}

-- the request of these texts, arguments and attachments
request_of : Text → Text → Text → Text → Text → Parts → List Attachment → Request
request_of dubbo path version method desc args attachments =
    record { dubbo = dubbo; path = path; version = version; method = method; desc = desc; args = args; attachments = attachments }

-- a request is its texts, its arguments and its attachments
equal_parts : (r s : Request) → fields_of r ≡ fields_of s → r.args ≡ s.args → r.attachments ≡ s.attachments → r ≡ s
unfolding request_of
equal_parts r s texts args attachments =
    let one : request_of r.dubbo r.path r.version r.method r.desc r.args r.attachments ≡ r = refl in
    let other : request_of s.dubbo s.path s.version s.method s.desc s.args s.attachments ≡ s = refl in
    cc

pub equal_requests : (r s : Request) → IsSound r.args → IsSound s.args → InOrderOfUse r.args → InOrderOfUse s.args → SaysTheSame r s → r ≡ s
equal_requests r s sound others_sound tables others_tables same =
    equal_parts r s same.texts (same_in_order r.args s.args tables others_tables (there_of r.args sound) (there_of s.args others_sound) same.args) same.attachments
