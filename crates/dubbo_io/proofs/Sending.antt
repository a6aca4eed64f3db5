-- One write to a sink behind another.
use Rattle.std.proofs.Common.{ℕ, List, [], ◌++◌, ap, ◌∙◌, subst, append_assoc, arith, refl}
use Rattle.std.specs.Io.KnownBytes.{append_known}
use Rattle.dubbo_io.specs.Sink.{SinkState, Sends}
use Rattle.dubbo_io.proofs.Going.{append_known-none, append_known-join}

-- a sink that took nothing stands where it stood
pub Sends-none : {Badge : Type 0} (state : SinkState Badge) → Sends state state []
Sends-none state = record {
  gone = append_known-none state.gone;
  rest = λ more may. may;
  open_to_all = λ open_now. open_now;
  faults = omega arith;
  badge = refl;
}

-- what went first, and then what went behind it
pub Sends-join : {Badge : Type 0} (a b c : SinkState Badge) (x y : List ℕ) → Sends a b x → Sends b c y → Sends a c (x ++ y)
Sends-join a b c x y first then = record {
  gone = then.gone ∙ ap (λ z. append_known z y) first.gone ∙ append_known-join a.gone x y;
  rest = λ more may. then.rest more (first.rest (y ++ more) (subst a.admits (append_assoc x y more) may));
  open_to_all = λ open_now. then.open_to_all (first.open_to_all open_now);
  faults = omega (arith, first.faults, then.faults);
  badge = then.badge ∙ first.badge;
}
