-- The replies that are statuses can be sent.
use Rattle.std.proofs.Common.{◌∷◌, refl, arith}
use Rattle.hessian_text.specs.Written.{WrittenText}
use Rattle.hessian_text.specs.Written.WrittenUnits.{last}
use Rattle.dubbo_bodies.specs.declared.message.Reply.TheVariants.{Status}
use Rattle.dubbo_bodies.specs.WrittenBody.WrittenReply.{status}
use Rattle.service_table.specs.Direct.{IsSendable, NOT_FOUND, not_found, BAD_RESPONSE, too_long}
use Rattle.service_table.proofs.Outcomes.{is_short}

not_found_bytes : WrittenText not_found (17 ∷ not_found)
unfolding lib.Utf8.encode
not_found_bytes = record { chars = not_found; scalar = refl; are_chars = refl; written = last not_found (omega arith) }

too_long_bytes : WrittenText too_long (14 ∷ too_long)
unfolding lib.Utf8.encode
too_long_bytes = record { chars = too_long; scalar = refl; are_chars = refl; written = last too_long (omega arith) }

pub not_found_sendable : IsSendable (Status NOT_FOUND not_found)
not_found_sendable = record {
  writable = tt;
  short = is_short (Status NOT_FOUND not_found) (17 ∷ not_found) (status NOT_FOUND not_found (17 ∷ not_found) not_found_bytes) (omega arith);
  goes = (refl, λ e. absurd (omega (arith, e)));
}

pub too_long_sendable : IsSendable (Status BAD_RESPONSE too_long)
too_long_sendable = record {
  writable = tt;
  short = is_short (Status BAD_RESPONSE too_long) (14 ∷ too_long) (status BAD_RESPONSE too_long (14 ∷ too_long) too_long_bytes) (omega arith);
  goes = (refl, λ e. absurd (omega (arith, e)));
}
