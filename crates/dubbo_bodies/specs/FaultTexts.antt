-- The texts of the faults of bodies and descriptors: a word, and behind it places, numbers and codes.
use Rattle.std.specs.Prelude.{ℕ, ℤ, ◌+◌, ◌/◌, ◌%◌, nat_lt, if◌then◌else◌, List, [], ◌∷◌, ◌++◌, codes, decimal}
use Rattle.std.specs.Fmt.{signed_decimal}
use Rattle.hessian_reader.specs.declared.fault.HessianFault.{HessianFault}
use Rattle.hessian_reader.specs.declared.fault.HessianFault.TheVariants as bytes
use Rattle.dubbo_bodies.specs.declared.fault.DescFault.{DescFault}
use Rattle.dubbo_bodies.specs.declared.fault.DescFault.TheVariants.{BadDescriptor, TooManyArgs}
use Rattle.dubbo_bodies.specs.declared.fault.RequestFault.{RequestFault}
use Rattle.dubbo_bodies.specs.declared.fault.RequestFault.TheVariants as requests
use Rattle.dubbo_bodies.specs.declared.reply_fault.ReplyFault.{ReplyFault}
use Rattle.dubbo_bodies.specs.declared.reply_fault.ReplyFault.TheVariants as replies

-- a hexadecimal digit in lower case, and a byte as two of them
abbrev pub hex_digit : ℕ → ℕ
hex_digit d = if nat_lt d 10 then 0x30 + d else 0x57 + d

abbrev pub hex_byte : ℕ → List ℕ
hex_byte b = hex_digit (b / 16) ∷ hex_digit (b % 16) ∷ []

-- a word and a number; and behind them a code, or a signed number
abbrev pub placed : List ℕ → ℕ → List ℕ
placed word at = word ++ codes " " ++ decimal at

abbrev pub coded : List ℕ → ℕ → ℕ → List ℕ
coded word at code = placed word at ++ codes " " ++ hex_byte code

abbrev pub numbered : List ℕ → ℕ → ℤ → List ℕ
numbered word at number = placed word at ++ codes " " ++ signed_decimal number

-- of bytes that are no values; want of memory has no text
abbrev pub hessian_words : HessianFault → List ℕ
hessian_words (bytes.Short at) = placed (codes "short") at
hessian_words (bytes.Double at code) = coded (codes "double") at code
hessian_words (bytes.BadCode at code) = coded (codes "code") at code
hessian_words (bytes.BadText at) = placed (codes "text") at
hessian_words (bytes.BadRef at number) = numbered (codes "ref") at number
hessian_words (bytes.BadType at number) = numbered (codes "type") at number
hessian_words (bytes.BadClass at number) = numbered (codes "class") at number
hessian_words (bytes.BadLength at number) = numbered (codes "length") at number
hessian_words (bytes.TooManyNodes at) = placed (codes "nodes") at
hessian_words (bytes.Trailing at) = placed (codes "trailing") at
hessian_words bytes.OutOfMemory = []

abbrev pub descriptor_words : DescFault → List ℕ
descriptor_words (BadDescriptor at) = placed (codes "descriptor") at
descriptor_words (TooManyArgs at) = placed (codes "arguments") at

abbrev pub reply_words : ReplyFault → List ℕ
reply_words (replies.BadSerial number) = placed (codes "serial") number
reply_words (replies.Hessian fault) = hessian_words fault
reply_words (replies.BadKind number) = codes "kind " ++ signed_decimal number
reply_words replies.BadAttachments = codes "attachments"
reply_words replies.OutOfMemory = []

abbrev pub request_words : RequestFault → List ℕ
request_words (requests.BadSerial number) = placed (codes "serial") number
request_words (requests.Hessian fault) = hessian_words fault
request_words (requests.NotText field) = placed (codes "field") field
request_words (requests.Descriptor fault) = descriptor_words fault
request_words requests.BadAttachments = codes "attachments"
request_words requests.OutOfMemory = []
