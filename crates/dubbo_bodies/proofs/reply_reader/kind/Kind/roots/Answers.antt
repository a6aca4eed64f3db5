use Rattle.std.proofs.Common.{sym, subst}
use Rattle.dubbo_bodies.specs.ReplyBody.{HasRoots}
use Rattle.dubbo_bodies.specs.ReplyBody.HasRoots.{exception as has_exception, exception_beside as has_exception_beside, null as has_null, null_beside as has_null_beside, value as has_value, value_beside as has_value_beside}
use Rattle.dubbo_bodies.specs.ReplyKinds.{number_of}
use Rattle.dubbo_bodies.proofs.reply_reader.kind.Kind.roots.Goals as goal

pub returns-in-Threw : goal.returns-in-Threw
returns-in-Threw c = subst (λ k. HasRoots (number_of k) 1) (sym c.in-Threw.is) has_exception

pub returns-in-Value : goal.returns-in-Value
returns-in-Value c = subst (λ k. HasRoots (number_of k) 1) (sym c.in-Value.is) has_value

pub returns-in-Null : goal.returns-in-Null
returns-in-Null c = subst (λ k. HasRoots (number_of k) 0) (sym c.in-Null.is) has_null

pub returns-in-ThrewBeside : goal.returns-in-ThrewBeside
returns-in-ThrewBeside c = subst (λ k. HasRoots (number_of k) 2) (sym c.in-ThrewBeside.is) has_exception_beside

pub returns-in-ValueBeside : goal.returns-in-ValueBeside
returns-in-ValueBeside c = subst (λ k. HasRoots (number_of k) 2) (sym c.in-ValueBeside.is) has_value_beside

pub returns-in-NullBeside : goal.returns-in-NullBeside
returns-in-NullBeside c = subst (λ k. HasRoots (number_of k) 1) (sym c.in-NullBeside.is) has_null_beside
