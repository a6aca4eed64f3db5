-- What a frame asks of a provider, by the marks of its header. (Dubbo protocol, the header's third byte)
use Rattle.std.specs.Prelude.{Bool, true, false}
use Rattle.dubbo_header.specs.declared.header.Header.{Header}
use Rattle.provider_pool.specs.declared.asked.Asked.{Asked}
use Rattle.provider_pool.specs.declared.asked.Asked.TheVariants.{Sign, Reply, Call, Nothing}

-- events ask for a sign of life or for nothing, requests for a call, replies for nothing
abbrev pub asked_with : (event request two_way : Bool) → Asked
asked_with true true true = Sign
asked_with true true false = Nothing
asked_with true false two_way = Nothing
asked_with false true true = Reply
asked_with false true false = Call
asked_with false false two_way = Nothing

abbrev pub asked_by : Header → Asked
asked_by header = asked_with header.event header.request header.two_way
