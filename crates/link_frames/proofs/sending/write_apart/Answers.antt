use Rattle.std.proofs.Common.{◌≡◌, length, arith, rules}
use Rattle.dubbo_io.proofs.Sending.{Sends-join}
use Rattle.link_frames.proofs.SendingLemmas.{stops_first, stops_second, stopped_front, all_front}
use Rattle.link_frames.proofs.sending.write_apart.Goals as goal

pub write_all-requires : goal.write_all-requires
write_all-requires g c = (g.met.K.Sink.sound c.args.sink.now).front c.args.front.now c.args.body.now c.requires.admitted

pub returns-in_err-write_all-clause-fault : goal.returns-in_err-write_all-clause-fault
returns-in_err-write_all-clause-fault g c =
    let whole = stops_first _ _ c.args.front.now c.args.body.now _ c.in_err-write_all.ensures.fault in
    search (rules, whole)

pub returns-in_err-write_all-clause-sends : goal.returns-in_err-write_all-clause-sends
returns-in_err-write_all-clause-sends g c =
    stopped_front _ _ _ _ (stops_first _ _ c.args.front.now c.args.body.now _ c.in_err-write_all.ensures.fault)

pub write_all-requires-2 : goal.write_all-requires-2
write_all-requires-2 g c = c.in_ok-write_all.ensures.ok.rest c.args.body.now c.requires.admitted

pub returns-in-Ok-clause-ok : goal.returns-in-Ok-clause-ok
returns-in-Ok-clause-ok g c = Sends-join _ _ _ c.args.front.now c.args.body.now c.in_ok-write_all.ensures.ok c.in-Ok.ensures.ok

pub returns-in-Ok-clause-sends : goal.returns-in-Ok-clause-sends
returns-in-Ok-clause-sends g c =
    all_front _ _ _ (Sends-join _ _ _ c.args.front.now c.args.body.now c.in_ok-write_all.ensures.ok c.in-Ok.ensures.ok)

pub behind_header-requires : goal.behind_header-requires
behind_header-requires g c = omega (arith, c.in-Err.ensures.fault.within)

pub returns-in-Err-clause-fault : goal.returns-in-Err-clause-fault
returns-in-Err-clause-fault g c =
    let sixteen : length c.args.front.now ≡ 16 = omega arith in
    stops_second _ _ _ c.args.front.now c.args.body.now c.in-Err.fault c.behind_header.result (rw sixteen c.behind_header.ensures.gone) c.behind_header.ensures.faults c.in_ok-write_all.ensures.ok c.in-Err.ensures.fault

pub returns-in-Err-clause-sends : goal.returns-in-Err-clause-sends
returns-in-Err-clause-sends g c =
    let sixteen : length c.args.front.now ≡ 16 = omega arith in
    stopped_front _ _ _ _ (stops_second _ _ _ c.args.front.now c.args.body.now c.in-Err.fault c.behind_header.result (rw sixteen c.behind_header.ensures.gone) c.behind_header.ensures.faults c.in_ok-write_all.ensures.ok c.in-Err.ensures.fault)
