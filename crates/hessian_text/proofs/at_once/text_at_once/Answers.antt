use Rattle.std.proofs.Common.{◌≡◌, ◌+◌, ◌-◌, ◌∙◌, ap, arith, drop, subst, sym, take}
use Rattle.std.specs.Prelude.{string_bytes}
use Rattle.std.specs.Str.{IsAscii}
use Rattle.std.proofs.lemmas.Str.{IsUtf8-from_ascii}
use Rattle.hessian_text.proofs.AtOnce.{chunk_spells}
use Rattle.hessian_text.proofs.at_once.text_at_once.Goals as goal

pub from_utf8_unchecked-text-requires : goal.from_utf8_unchecked-text-requires
from_utf8_unchecked-text-requires c = IsUtf8-from_ascii c.in_ok-bytes.bytes.items (subst IsAscii (sym c.in_ok-bytes.ensures.items) c.if-not-is_ascii.ensures.cases)

pub returns-clause-spells : goal.returns-clause-spells
returns-clause-spells c =
    let len = c.in-Some.head.len in
    let units = c.in-Some.head.units in
    let text = string_bytes c.from_utf8_unchecked-text.result in
    let bytes : string_bytes c.from_utf8_unchecked-text.result ≡ take (len + units - len) (drop len c.args.piece.now) = ap (λ v. v.items) c.from_utf8_unchecked-text.ensures.value ∙ c.in_ok-bytes.ensures.items in
    chunk_spells c.args.piece.now text len units (len + units - len) c.in-Some.ensures.head (omega arith) (omega arith) bytes (subst IsAscii (sym bytes) c.if-not-is_ascii.ensures.cases)
