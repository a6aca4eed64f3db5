use Rattle.std.proofs.Common.{ap, subst, take, pos}
use Rattle.hessian_text.proofs.Advancing.{rest_is}
use Rattle.hessian_reader.specs.declared.element.Element.TheVariants.{Number}
use Rattle.hessian_reader.specs.declared.element.Want.TheVariants.{AnInt}
use Rattle.hessian_reader.specs.Codes.{head_of}
use Rattle.hessian_reader.specs.Elements.{IsElement}
use Rattle.hessian_reader.proofs.Runs.{one_reference}
use Rattle.hessian_reader.proofs.values.reference_at_once.Goals as goal

pub returns-in-Some-clause-is : goal.returns-in-Some-clause-is
returns-in-Some-clause-is c =
    let piece = c.args.piece.now in
    let node = c.in-Some.node in
    let used = c.in-Some.used in
    let is = subst (λ r. IsElement AnInt (take used r) (Number (pos node))) (rest_is 1 piece) c.in-Some.ensures.is in
    one_reference c.args.nodes node used piece c.requires.some (ap head_of c.requires.code) is c.if-node-nodes.true
