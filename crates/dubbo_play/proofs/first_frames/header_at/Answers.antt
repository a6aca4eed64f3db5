use Rattle.std.proofs.Common.{take, Ok, ap, ◌≡◌, ◌∙◌}
use Rattle.std.proofs.lemmas.List.{take_rest}
use Rattle.std.specs.Result.{result_ok}
use Rattle.dubbo_play.proofs.Frames.{header_first, header_long}
use Rattle.dubbo_play.proofs.first_frames.header_at.Goals as goal

pub returns-clause-header : goal.returns-clause-header
returns-clause-header c = λ h rest p e.
    let same : c.in_ok-first_chunk.field-0.now ≡ take 16 _ = c.in_ok-first_chunk.ensures.cases.same in
    let k : c.read_header.result ≡ Ok h = (c.read_header.ensures.ok h).1 (same ∙ ap (take 16) (take_rest c.args.bytes.now c.args.at ∙ e) ∙ header_first h rest, p) in
    c.ok.ensures.value ∙ ap result_ok k

pub returns-in_err-first_chunk-clause-header : goal.returns-in_err-first_chunk-clause-header
returns-in_err-first_chunk-clause-header c = λ h rest p e.
    absurd (header_long h rest _ (take_rest c.args.bytes.now c.args.at ∙ e) (c.in_err-first_chunk.ensures {u = tt}).cases)
