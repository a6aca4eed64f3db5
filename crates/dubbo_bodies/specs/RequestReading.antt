-- What reading a request answers.
use Rattle.std.specs.Prelude.{◌≡◌, ◌≢◌, ℕ, List}
use Rattle.hessian_graph.specs.Shape.{shape_of}
use Rattle.hessian_reader.specs.declared.fault.HessianFault.{HessianFault}
use Rattle.hessian_reader.specs.declared.fault.HessianFault.TheVariants as wanting
use Rattle.hessian_reader.specs.Faults.{faults}
use Rattle.hessian_reader.specs.Leaves.{hessian, node_limit}
use Rattle.hessian_reader.specs.Refusing.{fault_of}
use Rattle.dubbo_header.specs.declared.header.Header.{Header}
use Rattle.dubbo_bodies.specs.declared.fault.RequestFault.{RequestFault}
use Rattle.dubbo_bodies.specs.declared.fault.RequestFault.TheVariants as told
use Rattle.dubbo_bodies.specs.declared.message.Request.{Request}
use Rattle.dubbo_bodies.specs.Fields.{fields_of}
use Rattle.dubbo_bodies.specs.Refusals.{BodyCause, BadSerial, Hessian, NotText, Descriptor, BadKind, BadAttachments, RequestRefusal}

-- the two differ in how the types and classes of their arguments stand in their tables at most
pub record SaysTheSame (r s : Request) : Type 0 where
  pub texts : fields_of r ≡ fields_of s
  pub args : shape_of r.args ≡ shape_of s.args
  pub attachments : r.attachments ≡ s.attachments

-- the fault of a request whose values have this fault: want of memory has a name of its own
abbrev pub FaultOfValues : HessianFault → RequestFault → Type 0
FaultOfValues values fault =
    (values ≡ wanting.OutOfMemory → fault ≡ told.OutOfMemory) × (values ≢ wanting.OutOfMemory → fault ≡ told.Hessian values)

-- the fault of a request that tells the cause; a request's body has no kind
abbrev pub TellsRequest : BodyCause → RequestFault → Type 0
TellsRequest (BadSerial number) fault = fault ≡ told.BadSerial number
TellsRequest (Hessian cause) fault = fault ≡ told.Hessian (fault_of cause)
TellsRequest (NotText field) fault = fault ≡ told.NotText field
TellsRequest (Descriptor why) fault = fault ≡ told.Descriptor why
TellsRequest (BadKind number) fault = ⊥
TellsRequest BadAttachments fault = fault ≡ told.BadAttachments

-- the fault tells why the header and the body are no request
abbrev pub IsRefusedRequest : Header → List ℕ → RequestFault → Type 0
IsRefusedRequest header body fault = (cause : BodyCause) × TellsRequest cause fault × RequestRefusal hessian faults node_limit header body cause
