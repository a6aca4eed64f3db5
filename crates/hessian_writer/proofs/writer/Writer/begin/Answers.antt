use Rattle.std.proofs.Common.{◌<◌, length, subst, refl}
use Rattle.hessian_writer.specs.declared.writer.Writer.{Writer}
use Rattle.hessian_writer.specs.Numbered.{Numbered}
use Rattle.hessian_writer.proofs.Writers.{short_here, indexed, begins}
use Rattle.hessian_writer.proofs.writer.Writer.begin.Goals as goal

pub head-requires-clause-short : goal.head-requires-clause-short
head-requires-clause-short c =
    short_here c.args.parts.now c.args.node c.index-as_slice-node.result c.requires.ready c.requires.within
    (indexed c.as_slice.result.now c.args.parts.now.nodes c.args.node c.index-as_slice-node.result c.index-as_slice-node.is c.as_slice.ensures c.requires.within)

pub returns-clause-goes_on : goal.returns-clause-goes_on
returns-clause-goes_on c =
    let new : Writer = record { nodes = c.give.new.self; types = c.head.new.self.types; classes = c.head.new.self.classes; stack = c.push.new.self; out = c.head.new.self.out } in
    (begins c.args.parts.now c.args.self.now c.head.new.self new c.args.node c.index-as_slice-node.result c.requires.ready c.requires.fine c.requires.within c.requires.new
    (subst (λ (x : Numbered). length x.order < x.total) c.in_ok-head.ensures.head.nodes c.in_ok-give.ensures.room)
    (indexed c.as_slice.result.now c.args.parts.now.nodes c.args.node c.index-as_slice-node.result c.index-as_slice-node.is c.as_slice.ensures c.requires.within)
    c.in_ok-head.ensures.head c.in_ok-give.ensures.given refl refl refl c.in_ok-push.ensures.items).goes_on

pub returns-clause-work : goal.returns-clause-work
returns-clause-work c =
    let new : Writer = record { nodes = c.give.new.self; types = c.head.new.self.types; classes = c.head.new.self.classes; stack = c.push.new.self; out = c.head.new.self.out } in
    (begins c.args.parts.now c.args.self.now c.head.new.self new c.args.node c.index-as_slice-node.result c.requires.ready c.requires.fine c.requires.within c.requires.new
    (subst (λ (x : Numbered). length x.order < x.total) c.in_ok-head.ensures.head.nodes c.in_ok-give.ensures.room)
    (indexed c.as_slice.result.now c.args.parts.now.nodes c.args.node c.index-as_slice-node.result c.index-as_slice-node.is c.as_slice.ensures c.requires.within)
    c.in_ok-head.ensures.head c.in_ok-give.ensures.given refl refl refl c.in_ok-push.ensures.items).work_left
