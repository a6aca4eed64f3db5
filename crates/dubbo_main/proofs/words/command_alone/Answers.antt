use Rattle.std.proofs.Common.{codes, sym, refl, inl}
use Rattle.std.proofs.lemmas.Slice.Eq.{bytes_eq-Decides}
use Rattle.dubbo_main.proofs.words.command_alone.Goals as goal

pub returns-then-eq : goal.returns-then-eq
returns-then-eq c = ((bytes_eq-Decides c.args.word.now (codes "decode")).0 (sym c.if-eq.ensures), inl (refl, refl))
