use Rattle.std.proofs.Common.{take, drop, ◌-◌, subst, sym, to_z, of_z}
use Rattle.std.specs.Int.{w32}
use Rattle.std.proofs.lemmas.Int.{to_z-of_z}
use Rattle.hessian_graph.specs.declared.value.Value.TheVariants as values
use Rattle.graph_notation.specs.Limit.{node_limit}
use Rattle.graph_notation.specs.declared.element.Element.TheVariants.{Plain}
use Rattle.graph_notation.specs.Elements.{Reads}
use Rattle.graph_notation.specs.Elements.Reads.{int}
use Rattle.graph_notation.specs.View.{state_of}
use Rattle.graph_notation.proofs.Advance.{slice_at, token_read, token_refused}
use Rattle.graph_notation.proofs.reading.read_number.Goals as goal

pub returns-in-Ok-clause-read : goal.returns-in-Ok-clause-read
returns-in-Ok-clause-read c =
    let text = c.args.text.now in
    let at = c.args.at in
    let end = c.args.short.end in
    let n = c.args.short.number in
    let token = take (end - at) (drop at text) in
    let x = slice_at text at end c.requires.at c.requires.end in
    let z = to_z w32 (of_z w32 n) in
    let r : Reads token (Plain (values.Int z)) = subst (λ k. Reads token (Plain (values.Int k))) (sym (to_z-of_z w32 n c.requires.fits)) (int n token c.requires.fits c.requires.number) in
    token_read node_limit text token at end (state_of c.args.reader.now) (state_of c.take_value.new.self) (Plain (values.Int z)) x c.requires.within r (c.in-Ok.ensures {u = tt}).state

pub returns-in-Err-clause-read : goal.returns-in-Err-clause-read
returns-in-Err-clause-read c =
    let text = c.args.text.now in
    let at = c.args.at in
    let end = c.args.short.end in
    let n = c.args.short.number in
    let token = take (end - at) (drop at text) in
    let x = slice_at text at end c.requires.at c.requires.end in
    let z = to_z w32 (of_z w32 n) in
    let r : Reads token (Plain (values.Int z)) = subst (λ k. Reads token (Plain (values.Int k))) (sym (to_z-of_z w32 n c.requires.fits)) (int n token c.requires.fits c.requires.number) in
    rw c.fault.ensures (token_refused node_limit text token at end (state_of c.args.reader.now) (state_of c.take_value.new.self) (Plain (values.Int z)) c.in-Err.stop x r (c.in-Err.ensures {u = tt}).state)
