use Rattle.std.proofs.Common.{take}
use Rattle.hessian_writer.specs.Appending.{AppendsTexts}
use Rattle.hessian_writer.proofs.leaf.write_texts.Given as goal

-- the texts so far are written
abbrev pub invariant-loop-text : goal.invariant-loop-text
invariant-loop-text l = AppendsTexts (take l.text-index l.texts) l.fn.out.items l.out.items
