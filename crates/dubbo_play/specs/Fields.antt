-- What the fields of a line say.
use Rattle.dubbo_play.specs.FirstForm.{Line}
use Rattle.dubbo_play.specs.FirstForm.Line.{nothing, service, call}
use Rattle.dubbo_play.specs.declared.first_script.fields.Fields.{Fields}
use Rattle.dubbo_play.specs.declared.first_script.fields.Fields.TheVariants.{Nothing, Service, Call}

-- the same without the borrow of the bytes
abbrev pub said : Fields → Line
said Nothing = nothing
said (Service path method) = service path.now method.now
said (Call path method argument) = call (record { path = path.now; method = method.now; argument = argument })
