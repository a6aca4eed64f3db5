use Rattle.std.proofs.Common.{arith, [], ◌∷◌, sym, subst}
use Rattle.std.proofs.lemmas.List.{append-nil}
use Rattle.hessian_text.specs.Reader.{Reading, Advances}
use Rattle.hessian_text.specs.Steps.{letter_bytes}
use Rattle.hessian_text.proofs.Advancing.{advances_one, sound_next}
use Rattle.hessian_text.proofs.reader.ChunkReader.take_byte.Goals as goal

pub invariant_of-self : goal.invariant_of-self
invariant_of-self c = sound_next c.self.inside.kind c.self.inside.stage c.in-To.next c.args.byte c.self.inside.done.items c.self.inside.done.items [] c.self.invariant (omega arith) c.in-To.ensures (sym (append-nil c.self.inside.done.items))

pub invariant_of-self-in-Gains : goal.invariant_of-self-in-Gains
invariant_of-self-in-Gains c = sound_next c.self.inside.kind c.self.inside.stage c.in-Gains.next c.args.byte c.self.inside.done.items c.append_letter.new.done.items (letter_bytes c.in-Gains.letter) c.self.invariant (omega arith) c.in-Gains.ensures c.in_ok-append_letter-in-Gains.ensures.ok

pub returns-in-To : goal.returns-in-To
returns-in-To c =
    let after : Reading = record { kind = c.self.inside.kind; done = c.self.inside.done.items; stage = c.in-To.next } in
    subst (λ r. Advances r (c.args.byte ∷ []) after) c.self.view_is (advances_one c.self.inside.kind c.self.inside.stage c.in-To.next c.args.byte c.self.inside.done.items c.self.inside.done.items [] c.in-To.ensures (sym (append-nil c.self.inside.done.items)))

pub returns-in_ok-append_letter-in-Gains : goal.returns-in_ok-append_letter-in-Gains
returns-in_ok-append_letter-in-Gains c =
    let after : Reading = record { kind = c.self.inside.kind; done = c.append_letter.new.done.items; stage = c.in-Gains.next } in
    subst (λ r. Advances r (c.args.byte ∷ []) after) c.self.view_is (advances_one c.self.inside.kind c.self.inside.stage c.in-Gains.next c.args.byte c.self.inside.done.items c.append_letter.new.done.items (letter_bytes c.in-Gains.letter) c.in-Gains.ensures c.in_ok-append_letter-in-Gains.ensures.ok)
