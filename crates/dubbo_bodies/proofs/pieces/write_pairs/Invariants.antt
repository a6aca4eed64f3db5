use Rattle.std.proofs.Common.{take}
use Rattle.hessian_writer.specs.Appending.{AppendsTexts}
use Rattle.dubbo_bodies.specs.Attachments.{texts_of}
use Rattle.dubbo_bodies.proofs.pieces.write_pairs.Given as goal

-- the attachments so far are written
abbrev pub invariant-loop-attachment : goal.invariant-loop-attachment
invariant-loop-attachment l = AppendsTexts (texts_of (take l.attachment-index l.attachments)) l.fn.out.items l.out.items
