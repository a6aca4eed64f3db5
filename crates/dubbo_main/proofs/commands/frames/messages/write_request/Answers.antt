use Rattle.std.proofs.Common.{refl}
use Rattle.graph_notation.specs.Elements.{quoted}
use Rattle.dubbo_main.proofs.Showing.{joined_words}
use Rattle.dubbo_main.proofs.commands.frames.messages.write_request.Goals as goal

pub returns : goal.returns
returns c =
    let request = c.args.request.now in
    let args = c.in_ok-write_graph.ensures in (
      _,
      (args.0, args.1, refl),
      joined_words c.args.text.now.items (quoted request.path) (quoted request.version) (quoted request.method) (quoted request.desc)
          args.0 _ _ _ _ c.in_ok-write_fields.ensures c.in_ok-extend_from_slice.ensures.items args.2 c.in_ok-extend_from_slice-2.ensures.items,
    )
