-- What a line of the command `ring` asks for, without the borrow of its bytes.
use Rattle.dubbo_main.specs.RingLines.{Ask}
use Rattle.dubbo_main.specs.RingLines.Ask.{nothing, add, remove, choose}
use Rattle.dubbo_main.specs.declared.commands.ring.asks.RingAsk.{RingAsk}
use Rattle.dubbo_main.specs.declared.commands.ring.asks.RingAsk.TheVariants.{Nothing, Add, Remove, Choose}

abbrev pub asked : RingAsk → Ask
asked Nothing = nothing
asked (Add name) = add name.now
asked (Remove name) = remove name.now
asked (Choose key) = choose key.now
