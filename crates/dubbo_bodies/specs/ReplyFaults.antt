-- The fault of a reply whose values are refused.
use Rattle.std.specs.Prelude.{◌≡◌}
use Rattle.hessian_reader.specs.declared.fault.HessianFault.{HessianFault}
use Rattle.hessian_reader.specs.declared.fault.HessianFault.TheVariants as values
use Rattle.dubbo_bodies.specs.declared.reply_fault.ReplyFault.{ReplyFault}
use Rattle.dubbo_bodies.specs.declared.reply_fault.ReplyFault.TheVariants as told

-- want of memory has a name of its own
abbrev pub ReplyFaultOf : HessianFault → ReplyFault → Type 0
ReplyFaultOf values.OutOfMemory fault = fault ≡ told.OutOfMemory
ReplyFaultOf (values.Short at) fault = fault ≡ told.Hessian (values.Short at)
ReplyFaultOf (values.Double at code) fault = fault ≡ told.Hessian (values.Double at code)
ReplyFaultOf (values.BadCode at code) fault = fault ≡ told.Hessian (values.BadCode at code)
ReplyFaultOf (values.BadText at) fault = fault ≡ told.Hessian (values.BadText at)
ReplyFaultOf (values.BadRef at number) fault = fault ≡ told.Hessian (values.BadRef at number)
ReplyFaultOf (values.BadType at number) fault = fault ≡ told.Hessian (values.BadType at number)
ReplyFaultOf (values.BadClass at number) fault = fault ≡ told.Hessian (values.BadClass at number)
ReplyFaultOf (values.BadLength at number) fault = fault ≡ told.Hessian (values.BadLength at number)
ReplyFaultOf (values.TooManyNodes at) fault = fault ≡ told.Hessian (values.TooManyNodes at)
ReplyFaultOf (values.Trailing at) fault = fault ≡ told.Hessian (values.Trailing at)
