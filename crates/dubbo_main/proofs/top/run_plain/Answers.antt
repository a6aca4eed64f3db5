use Rattle.std.proofs.Common.{refl, sym, subst, arith, map}
use Rattle.std.specs.Prelude.{string_bytes}
use Rattle.dubbo_main.specs.Words.{Names}
use Rattle.dubbo_main.specs.FaultLines.{words_line}
use Rattle.dubbo_main.specs.Input.{IsWhole}
use Rattle.dubbo_main.specs.PlainStatuses.PlainCallsFor.{no_reading}
use Rattle.dubbo_main.specs.Unread.{unread_status, unread_line}
use Rattle.dubbo_main.specs.declared.words.PlainCommand.TheVariants.{Decode, Direct, Encode, Frames, Ring}
use Rattle.dubbo_main.proofs.OnePlainStatus.{IsOneStatus-plain, WritesAnswer-Comes, WritesGenerated-Comes}
use Rattle.dubbo_main.proofs.PlainRows.{Comes-answer, Comes-generated, PlainCallsFor-unread}
use Rattle.dubbo_main.proofs.Statuses.{IsExact-Comes}
use Rattle.dubbo_main.proofs.top.run_plain.Goals as goal

pub returns-in_default-clause-status : goal.returns-in_default-clause-status
returns-in_default-clause-status g c = (1, words_line, no_reading c.in_default.ensures refl, rw c.as_bytes.ensures.value at c.finish.ensures)

pub returns-in-Ok-clause-status : goal.returns-in-Ok-clause-status
returns-in-Ok-clause-status g c =
    let whole : IsWhole (g.I.Source.state c.args.input.now) (g.I.Source.state c.read_all.new.source) c.in-Ok.bytes.items = record {
      goes_on = c.in-Ok.ensures.bytes;
      ended = c.in-Ok.ensures.end;
      within = omega (arith, c.in-Ok.ensures.within, c.in-Ok.bytes.ok.0);
    } in
    Comes-answer _ c.in-Some.command _ _ _ _ c.deref.result.now c.answer_whole.result c.tell_answer.result c.in-Some.ensures c.in_default-made_by.ensures
    (subst (λ bytes. IsWhole (g.I.Source.state c.args.input.now) (g.I.Source.state c.read_all.new.source) bytes) (sym c.deref.ensures.value) whole)
    c.answer_whole.ensures c.tell_answer.ensures

pub returns-in-Err-clause-status : goal.returns-in-Err-clause-status
returns-in-Err-clause-status g c =
    let fault = c.in-Err.fault in
    (unread_status fault, unread_line fault, PlainCallsFor-unread _ c.in-Some.command _ _ fault c.in-Some.ensures c.in_default-made_by.ensures c.in-Err.ensures.refused, c.tell_unread.ensures)

pub returns-in-Some-made_by-clause-status : goal.returns-in-Some-made_by-clause-status
returns-in-Some-made_by-clause-status g c =
    Comes-generated _ c.in-Some-made_by.calls c.in-Some-made_by.show _ _ _ c.generated.result c.tell_generated.result
    (subst (λ command. Names (map string_bytes c.args.words.now.items) command) c.in-Some-made_by.ensures c.in-Some.ensures) c.generated.ensures c.tell_generated.ensures

pub returns-in-Some-made_by-clause-exact : goal.returns-in-Some-made_by-clause-exact
returns-in-Some-made_by-clause-exact g c = λ told. IsExact-Comes _ _ _ _ (IsOneStatus-plain _ _ _ told) (returns-in-Some-made_by-clause-status g c)

pub returns-in-Some-made_by-clause-no_reading : goal.returns-in-Some-made_by-clause-no_reading
returns-in-Some-made_by-clause-no_reading g c = λ none. absurd (none c.in-Some.command c.in-Some.ensures)

pub returns-in-Some-made_by-clause-made : goal.returns-in-Some-made_by-clause-made
returns-in-Some-made_by-clause-made g c = λ calls show named. WritesGenerated-Comes _ calls show _ _ _ _ _ named (returns-in-Some-made_by-clause-status g c)

pub returns-in_default-clause-exact : goal.returns-in_default-clause-exact
returns-in_default-clause-exact g c = λ told. IsExact-Comes _ _ _ _ (IsOneStatus-plain _ _ _ told) (returns-in_default-clause-status g c)

pub returns-in-Ok-clause-exact : goal.returns-in-Ok-clause-exact
returns-in-Ok-clause-exact g c = λ told. IsExact-Comes _ _ _ _ (IsOneStatus-plain _ _ _ told) (returns-in-Ok-clause-status g c)

pub returns-in-Err-clause-exact : goal.returns-in-Err-clause-exact
returns-in-Err-clause-exact g c = λ told. IsExact-Comes _ _ _ _ (IsOneStatus-plain _ _ _ told) (returns-in-Err-clause-status g c)

pub returns-in-Ok-clause-no_reading : goal.returns-in-Ok-clause-no_reading
returns-in-Ok-clause-no_reading g c = λ none. absurd (none c.in-Some.command c.in-Some.ensures)

pub returns-in-Err-clause-no_reading : goal.returns-in-Err-clause-no_reading
returns-in-Err-clause-no_reading g c = λ none. absurd (none c.in-Some.command c.in-Some.ensures)

pub returns-in_default-clause-ring : goal.returns-in_default-clause-ring
returns-in_default-clause-ring g c = λ named. WritesAnswer-Comes _ Ring _ _ _ _ _ tt named (returns-in_default-clause-status g c)

pub returns-in-Ok-clause-ring : goal.returns-in-Ok-clause-ring
returns-in-Ok-clause-ring g c = λ named. WritesAnswer-Comes _ Ring _ _ _ _ _ tt named (returns-in-Ok-clause-status g c)

pub returns-in-Err-clause-ring : goal.returns-in-Err-clause-ring
returns-in-Err-clause-ring g c = λ named. WritesAnswer-Comes _ Ring _ _ _ _ _ tt named (returns-in-Err-clause-status g c)

pub returns-in_default-clause-encode : goal.returns-in_default-clause-encode
returns-in_default-clause-encode g c = λ named. WritesAnswer-Comes _ Encode _ _ _ _ _ tt named (returns-in_default-clause-status g c)

pub returns-in-Ok-clause-encode : goal.returns-in-Ok-clause-encode
returns-in-Ok-clause-encode g c = λ named. WritesAnswer-Comes _ Encode _ _ _ _ _ tt named (returns-in-Ok-clause-status g c)

pub returns-in-Err-clause-encode : goal.returns-in-Err-clause-encode
returns-in-Err-clause-encode g c = λ named. WritesAnswer-Comes _ Encode _ _ _ _ _ tt named (returns-in-Err-clause-status g c)

pub returns-in_default-clause-decode : goal.returns-in_default-clause-decode
returns-in_default-clause-decode g c = λ roots named. WritesAnswer-Comes _ (Decode roots) _ _ _ _ _ tt named (returns-in_default-clause-status g c)

pub returns-in-Ok-clause-decode : goal.returns-in-Ok-clause-decode
returns-in-Ok-clause-decode g c = λ roots named. WritesAnswer-Comes _ (Decode roots) _ _ _ _ _ tt named (returns-in-Ok-clause-status g c)

pub returns-in-Err-clause-decode : goal.returns-in-Err-clause-decode
returns-in-Err-clause-decode g c = λ roots named. WritesAnswer-Comes _ (Decode roots) _ _ _ _ _ tt named (returns-in-Err-clause-status g c)

pub returns-in_default-clause-frames : goal.returns-in_default-clause-frames
returns-in_default-clause-frames g c = λ named. WritesAnswer-Comes _ Frames _ _ _ _ _ tt named (returns-in_default-clause-status g c)

pub returns-in-Ok-clause-frames : goal.returns-in-Ok-clause-frames
returns-in-Ok-clause-frames g c = λ named. WritesAnswer-Comes _ Frames _ _ _ _ _ tt named (returns-in-Ok-clause-status g c)

pub returns-in-Err-clause-frames : goal.returns-in-Err-clause-frames
returns-in-Err-clause-frames g c = λ named. WritesAnswer-Comes _ Frames _ _ _ _ _ tt named (returns-in-Err-clause-status g c)

pub returns-in_default-clause-direct : goal.returns-in_default-clause-direct
returns-in_default-clause-direct g c = λ named. WritesAnswer-Comes _ Direct _ _ _ _ _ tt named (returns-in_default-clause-status g c)

pub returns-in_default-clause-made : goal.returns-in_default-clause-made
returns-in_default-clause-made g c = λ calls show named. WritesGenerated-Comes _ calls show _ _ _ _ _ named (returns-in_default-clause-status g c)

pub returns-in-Ok-clause-direct : goal.returns-in-Ok-clause-direct
returns-in-Ok-clause-direct g c = λ named. WritesAnswer-Comes _ Direct _ _ _ _ _ tt named (returns-in-Ok-clause-status g c)

pub returns-in-Ok-clause-made : goal.returns-in-Ok-clause-made
returns-in-Ok-clause-made g c = λ calls show named. WritesGenerated-Comes _ calls show _ _ _ _ _ named (returns-in-Ok-clause-status g c)

pub returns-in-Err-clause-direct : goal.returns-in-Err-clause-direct
returns-in-Err-clause-direct g c = λ named. WritesAnswer-Comes _ Direct _ _ _ _ _ tt named (returns-in-Err-clause-status g c)

pub returns-in-Err-clause-made : goal.returns-in-Err-clause-made
returns-in-Err-clause-made g c = λ calls show named. WritesGenerated-Comes _ calls show _ _ _ _ _ named (returns-in-Err-clause-status g c)
