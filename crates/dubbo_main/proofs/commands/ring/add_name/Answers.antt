use Rattle.std.proofs.Common.{refl}
use Rattle.dubbo_main.specs.RingLines.Ask.{add}
use Rattle.dubbo_main.proofs.commands.ring.add_name.Goals as goal

pub returns-in-Ok : goal.returns-in-Ok
returns-in-Ok c = λ line says. record {
  ask = add c.args.name.now;
  says = says;
  does = (c.in-Ok.ensures.room, c.in-Ok.ensures.added, refl);
}
