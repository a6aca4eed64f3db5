use Rattle.std.proofs.Common.{◌≡◌, ◌+◌, ◌-◌, ◌/◌, ◌%◌, ◌∷◌, ◌++◌, ◌∙◌, ap, arith, drop, length, subst, take}
use Rattle.std.specs.Prelude.{OnOk}
use Rattle.std.proofs.lemmas.List.{length-drop}
use Rattle.std.proofs.lemmas.Result.{on_ok_weaker}
use Rattle.hessian_text.specs.Units.{utf16, IsFirstChunk}
use Rattle.hessian_text.specs.Written.{by_units, text_head}
use Rattle.hessian_text.proofs.FirstChunk.{chunk_some}
use Rattle.hessian_text.proofs.Writings.{begins_on, on_err_any, text_begins_with, text_chunk, text_end, text_start}
use Rattle.hessian_text.proofs.writing.append_chunks.Goals as goal

pub loop-chunk-init : goal.loop-chunk-init
loop-chunk-init c = record { so_far = text_start c.args.out.now.items c.args.text.now c.utf8.text; chunk = c.first_chunk-chunk.ensures }

pub returns-in_err-append_inner_text-clause-err : goal.returns-in_err-append_inner_text-clause-err
returns-in_err-append_inner_text-clause-err c = on_err_any c.from_residual.result (begins_on c.args.out.now.items c.loop-chunk.out.items c.append_inner_text.new.out.items (text_begins_with c.args.out.now.items c.args.text.now c.loop-chunk.at c.loop-chunk.out.items c.loop-chunk.invariant.so_far) c.in_err-append_inner_text.ensures.err)

pub loop-chunk-preserved : goal.loop-chunk-preserved
loop-chunk-preserved c =
    let text = c.args.text.now in
    let at = c.loop-chunk.at in
    let len = c.loop-chunk.chunk.len in
    let units = c.loop-chunk.chunk.units in
    let out = c.loop-chunk.out.items in
    let new = c.append_inner_text.new.out.items in
    let rest : length (drop at text) ≡ length text - at = length-drop at text in
    let size : at + len - at ≡ len = omega arith in
    let is : c.range.result.now ≡ take len (drop at text) = c.range.ensures.value ∙ ap (λ k. take k (drop at text)) size in
    let put : new ≡ out ++ (0x52 ∷ units / 256 ∷ units % 256 ∷ by_units (utf16 (take len (drop at text)))) = subst (λ x. new ≡ out ++ (0x52 ∷ units / 256 ∷ units % 256 ∷ by_units (utf16 x))) is c.in_ok-append_inner_text.ensures.ok in
    let after = c.first_chunk-chunk-in-loop-chunk.result in
    record {
      so_far = text_chunk c.args.out.now.items text at len units out new c.utf8.text c.loop-chunk.invariant.so_far c.loop-chunk.invariant.chunk (omega (arith, rest, c.loop-chunk-test.true)) put;
      chunk = subst (λ x. IsFirstChunk x after.len after.units) c.range_from.ensures.value c.first_chunk-chunk-in-loop-chunk.ensures;
    }

pub loop-chunk-smaller : goal.loop-chunk-smaller
loop-chunk-smaller c =
    let rest : length (drop c.loop-chunk.at c.args.text.now) ≡ length c.args.text.now - c.loop-chunk.at = length-drop c.loop-chunk.at c.args.text.now in
    let some = chunk_some (drop c.loop-chunk.at c.args.text.now) c.loop-chunk.chunk.len c.loop-chunk.chunk.units c.loop-chunk.invariant.chunk (omega (arith, rest, c.loop-chunk-test.true)) in
    omega (arith, some, c.loop-chunk-test.true)

pub returns-clause-ok : goal.returns-clause-ok
returns-clause-ok c =
    let text = c.args.text.now in
    let at = c.loop-chunk.at in
    let units = c.loop-chunk.chunk.units in
    let out = c.loop-chunk.out.items in
    let new = c.append_last_text.new.out.items in
    let rest : length (drop at text) ≡ length text - at = length-drop at text in
    on_ok_weaker c.append_last_text.result (text_end c.args.out.now.items text at c.loop-chunk.chunk.len units out new c.utf8.text c.loop-chunk.invariant.so_far c.loop-chunk.invariant.chunk (omega (arith, rest, c.loop-chunk-test.false))) (subst (λ x. OnOk c.append_last_text.result (new ≡ out ++ (text_head units ++ by_units (utf16 x)))) c.range_from-2.ensures.value c.append_last_text.ensures.ok)
