-- The text of a status, piece by piece.
use Rattle.std.proofs.Common.{◌≡◌, ◌≢◌, ℕ, zero, suc, ◌+◌, ◌-◌, ◌<◌, ◌≤◌, List, [], ◌∷◌, ◌++◌, length, take, drop, refl, ap, sym, ◌∙◌, subst, arith, append_assoc, inl, inr}
use Rattle.std.specs.Prelude.{Bool, true, false, slice_index, ◌⊎◌}
use Rattle.std.proofs.lemmas.Bool.{cases_lt}
use Rattle.std.proofs.lemmas.List.{append-nil, length-append, take-append-drop, take_all, get_or-append-add, length-take-le}
use Rattle.hessian_graph.specs.Shape.{Text}
use Rattle.hessian_graph.specs.Refusal.{BadCode, BadText, Short, Trailing}
use Rattle.hessian_text.specs.declared.stage.Kind.TheVariants.{Text as Letters}
use Rattle.hessian_text.specs.declared.stage.Stage.TheVariants.{Code, Ended}
use Rattle.hessian_text.specs.Reader.{Reading, Advances, RefusesCode, RefusesItem}
use Rattle.hessian_text.specs.Spelling.{AreBytes, Spelling}
use Rattle.hessian_text.specs.Refusal.{IsBadCode, IsBadText, BeginsNothing}
use Rattle.hessian_text.specs.Residual.{Completes}
use Rattle.hessian_text.proofs.Running.{cut_short}
use Rattle.hessian_text.proofs.Advancing.{advances_none}
use Rattle.hessian_text.proofs.Answering.{code_at, item_at, goes_on}
use Rattle.hessian_reader.specs.declared.fault.HessianFault.TheVariants as told
use Rattle.hessian_reader.specs.Leaves.{hessian, node_limit}
use Rattle.hessian_reader.proofs.LexChunks.{joined, small_more}
use Rattle.hessian_reader.proofs.OneWay.{bytes_front}
use Rattle.dubbo_header.specs.declared.header.Header.{Header}
use Rattle.dubbo_bodies.specs.declared.message.Reply.TheVariants.{Status}
use Rattle.dubbo_bodies.specs.declared.reply_fault.ReplyFault.TheVariants as answers
use Rattle.dubbo_bodies.specs.Fields.{NULL, OptionalText}
use Rattle.dubbo_bodies.specs.Fields.OptionalText.{text as a_text, null as a_null}
use Rattle.dubbo_bodies.specs.Refusals.{Hessian, IsOptionalText, NoneBegins}
use Rattle.dubbo_bodies.specs.Refusals.TextRefused.{bad_code, bad_character}
use Rattle.dubbo_bodies.specs.Refusals.ReplyRefusal.{in_text as refusal_in_text, no_text as refusal_no_text, short_text as refusal_short_text, trailing as refusal_trailing}
use Rattle.dubbo_bodies.specs.RefusedReply.{IsRefusedReply}
use Rattle.dubbo_bodies.specs.ReplyBody.{ReplyOf}
use Rattle.dubbo_bodies.specs.ReplyBody.ReplyOf.{status as reply_status}
use Rattle.dubbo_bodies.specs.ReplyStages.{IsStatus, AtText, AtNull, StaysRefused}
use Rattle.dubbo_bodies.proofs.ReplyKind.{first_of}

abbrev fresh : Reading
fresh = record { kind = Letters; done = []; stage = Code }

pub true_false : (b : Bool) → b ≡ true → b ≡ false → ⊥
true_false b e f = cc

-- ---- null

pub null_trailing : (header : Header) (all : List ℕ) (code : ℕ) (rest : List ℕ) → IsStatus header → all ≡ NULL ∷ code ∷ rest → StaysRefused header all (answers.Hessian (told.Trailing 1))
null_trailing header all code rest status is = λ other more. (Hessian (Trailing 1), refl, refusal_trailing (NULL ∷ []) (rest ++ more) code status.serial status.status ([], a_null) (ap (λ b. b ++ more) is))

second_of : (piece : List ℕ) → 1 < length piece → (code : ℕ) × (rest : List ℕ) × (piece ≡ slice_index piece 0 ∷ code ∷ rest)
second_of [] h = absurd (omega (arith, h))
second_of (c ∷ []) h = absurd (omega (arith, h))
second_of (c ∷ d ∷ rest) h = (d, rest, refl)

nothing_yet : (bytes : List ℕ) → length bytes ≡ 0 → bytes ≡ []
nothing_yet [] e = refl
nothing_yet (b ∷ bs) e = absurd (omega (arith, e))

pub null_and_more : (header : Header) (bytes piece : List ℕ) → IsStatus header → length bytes ≡ 0 → slice_index piece 0 ≡ NULL → 1 < length piece → StaysRefused header (bytes ++ piece) (answers.Hessian (told.Trailing 1))
null_and_more header bytes piece status none first more =
    let (code, rest, is) = second_of piece more in
    null_trailing header (bytes ++ piece) code rest status (ap (λ b. b ++ piece) (nothing_yet bytes none) ∙ is ∙ ap (λ c. c ∷ code ∷ rest) first)

pub behind_null_more : (header : Header) (bytes piece : List ℕ) → AtNull header bytes → 0 < length piece → StaysRefused header (bytes ++ piece) (answers.Hessian (told.Trailing 1))
behind_null_more header bytes [] a some = absurd (omega (arith, some))
behind_null_more header bytes (c ∷ rest) a some = null_trailing header (bytes ++ c ∷ rest) c rest a.status (ap (λ b. b ++ c ∷ rest) a.null)

-- ---- the characters of a text

pub text_begin : (header : Header) (reading : Reading) → IsStatus header → Advances fresh [] reading → AtText header [] reading
text_begin header reading status a = record { status = status; small = record { small = λ i l. absurd (omega (arith, l)) }; advances = a }

pub text_new : (header : Header) (reading : Reading) → IsStatus header → reading ≡ fresh → AtText header [] reading
text_new header reading status e = text_begin header reading status (subst (λ r. Advances fresh [] r) (sym e) (advances_none fresh))

pub text_more : (header : Header) (bytes piece : List ℕ) (old new : Reading) → AtText header bytes old → AreBytes piece → Advances old piece new → AtText header (bytes ++ piece) new
text_more header bytes piece old new a small next = record { status = a.status; small = small_more bytes piece a.small small; advances = joined Letters old new bytes piece a.advances next }

pub text_full : (header : Header) (bytes piece : List ℕ) (old new : Reading) (used : ℕ) → AtText header bytes old → AreBytes piece → used ≡ length piece → Advances old (take used piece) new → AtText header (bytes ++ piece) new
text_full header bytes piece old new used a small full next = text_more header bytes piece old new a small (subst (λ p. Advances old p new) (take_all used piece (omega (arith, full))) next)

spelled : (after : Reading) (bytes : List ℕ) → AreBytes bytes → Advances fresh bytes after → after.stage ≡ Ended → Spelling Letters after.done bytes
spelled after bytes small a ended = subst (Spelling Letters after.done) (append-nil bytes) ((goes_on Letters after bytes after.done [] small a).1 (record {
  more = [];
  value_is = sym (append-nil after.done);
  completes = subst (λ s. Completes after.kind s [] []) (sym ended) (refl, refl);
}))

-- the bytes before a place in the piece, and how they lead
front_small : (bytes piece : List ℕ) (used : ℕ) → AreBytes bytes → AreBytes piece → AreBytes (bytes ++ take used piece)
front_small bytes piece used small low = bytes_front (bytes ++ take used piece) (drop used piece) (subst AreBytes (sym (cut bytes piece used)) (small_more bytes piece small low))
  where
    cut : (bytes piece : List ℕ) (used : ℕ) → (bytes ++ take used piece) ++ drop used piece ≡ bytes ++ piece
    cut bytes piece used = append_assoc bytes (take used piece) (drop used piece) ∙ ap (λ p. bytes ++ p) (take-append-drop used piece)

drop_some : (piece : List ℕ) (used : ℕ) → used < length piece → (code : ℕ) × (rest : List ℕ) × (drop used piece ≡ code ∷ rest)
drop_some [] used h = absurd (omega (arith, h))
drop_some (c ∷ rest) zero h = (c, rest, refl)
drop_some (c ∷ rest) (suc used) h = drop_some rest used (omega (arith, h))

pub text_trailing : (header : Header) (bytes piece : List ℕ) (old new : Reading) (count used : ℕ) → AtText header bytes old → AreBytes piece → count ≡ length bytes → used < length piece → Advances old (take used piece) new → new.stage ≡ Ended → StaysRefused header (bytes ++ piece) (answers.Hessian (told.Trailing (count + used)))
text_trailing header bytes piece old new count used a small counted within next ended = λ other more.
    let front : List ℕ = bytes ++ take used piece in
    let (code, rest, is) = drop_some piece used within in
    let text : Spelling Letters new.done front = spelled new front (front_small bytes piece used a.small small) (joined Letters old new bytes (take used piece) a.advances next) ended in
    let long : length front ≡ count + used = length-append bytes (take used piece) ∙ ap (λ n. length bytes + n) (length-take-le used piece (omega (arith, within))) ∙ ap (λ n. n + used) (sym counted) in
    let all : (bytes ++ piece) ++ more ≡ front ++ code ∷ (rest ++ more) =
    ap (λ p. (bytes ++ p) ++ more) (sym (take-append-drop used piece) ∙ ap (λ p. take used piece ++ p) is) ∙ ap (λ b. b ++ more) (sym (append_assoc bytes (take used piece) (code ∷ rest))) ∙ append_assoc front (code ∷ rest) more in
    (Hessian (Trailing (length front)), ap (λ n. answers.Hessian (told.Trailing n)) (sym long), refusal_trailing front (rest ++ more) code a.status.serial a.status.status (new.done, a_text new.done front text) all)

-- ---- a byte that is refused

-- a place in the piece, and the byte there, counted in all bytes
place_front : (bytes piece : List ℕ) (used : ℕ) → used ≤ length piece → take (length bytes + used) (bytes ++ piece) ≡ bytes ++ take used piece
place_front [] piece used h = ap (λ n. take n piece) (omega arith)
place_front (b ∷ bytes) piece used h = ap (λ n. take n (b ∷ (bytes ++ piece))) (let e : suc (length bytes) + used ≡ suc (length bytes + used) = omega arith in e) ∙ ap (λ xs. b ∷ xs) (place_front bytes piece used h)

led : (bytes piece : List ℕ) (old new : Reading) (used : ℕ) → used ≤ length piece → Advances fresh bytes old → Advances old (take used piece) new → Advances fresh (take (length bytes + used) (bytes ++ piece)) new
led bytes piece old new used low a next = subst (λ b. Advances fresh b new) (sym (place_front bytes piece used low)) (joined Letters old new bytes (take used piece) a next)

byte_at : (bytes piece : List ℕ) (used : ℕ) → slice_index (bytes ++ piece) (length bytes + used) ≡ slice_index piece used
byte_at bytes piece used = get_or-append-add bytes piece used 0

bad_code_at : (header : Header) (bytes piece : List ℕ) (old new : Reading) (used : ℕ) → AtText header bytes old → AreBytes piece → used < length piece → Advances old (take used piece) new → RefusesCode old.kind new.stage (slice_index piece used) → IsBadCode Letters (bytes ++ piece) 0 (length bytes + used) (slice_index piece used)
bad_code_at header bytes piece old new used a small within next r =
    let all : List ℕ = bytes ++ piece in
    let n : ℕ = length bytes + used in
    let kind : old.kind ≡ Letters = (a.advances).kind in
    let refuses : RefusesCode Letters new.stage (slice_index all n) = subst (RefusesCode Letters new.stage) (sym (byte_at bytes piece used)) (subst (λ k. RefusesCode k new.stage (slice_index piece used)) kind r) in
    let q = code_at Letters all 0 n new (omega arith) (small_more bytes piece a.small small) (omega (arith, length-append bytes piece, within)) (led bytes piece old new used (omega (arith, within)) a.advances next) refuses in
    let none : 0 + n ≡ n = omega arith in
    subst (λ c. IsBadCode Letters all 0 n c) (byte_at bytes piece used) (subst (λ k. IsBadCode Letters all 0 k (slice_index all k)) none q)

no_text_begins : (code : ℕ) → code ≢ NULL → BeginsNothing Letters code → NoneBegins (IsOptionalText hessian) code
no_text_begins code other none more (text, o) = by_form text (code ∷ more) refl o
  where
    by_form : (text : Text) (bytes : List ℕ) → bytes ≡ code ∷ more → OptionalText hessian text bytes → ⊥
    by_form text bytes e (a_text t b s) = none text more (subst (Spelling Letters text) e s)
    by_form text bytes e a_null = other (sym (let h : NULL ≡ code = cc in h))

pub text_bad_code : (header : Header) (bytes piece : List ℕ) (old new : Reading) (count used : ℕ) → AtText header bytes old → AreBytes piece → count ≡ length bytes → used < length piece → (count ≡ 0 → slice_index piece 0 ≢ NULL) → Advances old (take used piece) new → RefusesCode old.kind new.stage (slice_index piece used) → StaysRefused header (bytes ++ piece) (answers.Hessian (told.BadCode (count + used) (slice_index piece used)))
text_bad_code header bytes piece old new count used a small counted within first next r = λ other more. by_place more (cases_lt 0 (length bytes + used))
  where
    bad : IsBadCode Letters (bytes ++ piece) 0 (length bytes + used) (slice_index piece used)
    bad = bad_code_at header bytes piece old new used a small within next r

    place : length bytes + used ≡ count + used
    place = ap (λ n. n + used) (sym counted)

    by_place : (more : List ℕ) → (0 < length bytes + used) ⊎ (length bytes + used ≤ 0) → IsRefusedReply header ((bytes ++ piece) ++ more) (answers.Hessian (told.BadCode (count + used) (slice_index piece used)))
    by_place more (inl some) = (Hessian (BadCode (length bytes + used) (slice_index piece used)), ap (λ n. answers.Hessian (told.BadCode n (slice_index piece used))) (sym place), refusal_in_text (BadCode (length bytes + used) (slice_index piece used)) a.status.serial a.status.status (bad_code (bytes ++ piece) more (length bytes + used) (slice_index piece used) some bad))
    by_place more (inr low) =
        let none : bytes ≡ [] = nothing_yet bytes (omega (arith, low)) in
        let zero : used ≡ 0 = omega (arith, low) in
        let (rest, is) = first_of piece (omega (arith, within)) in
        let code : ℕ = slice_index piece used in
        let same : slice_index piece 0 ≡ code = ap (slice_index piece) (sym zero) in
        let all : (bytes ++ piece) ++ more ≡ code ∷ (rest ++ more) = ap (λ b. (b ++ piece) ++ more) none ∙ ap (λ p. p ++ more) (is ∙ ap (λ c. c ∷ rest) same) in
        (Hessian (BadCode 0 code), ap (λ n. answers.Hessian (told.BadCode n code)) (omega (arith, low, counted)), refusal_no_text code (rest ++ more) a.status.serial a.status.status all (no_text_begins code (λ e. first (omega (arith, low, counted)) (same ∙ e)) bad.begins))

pub text_bad_item : (header : Header) (bytes piece : List ℕ) (old new : Reading) (count used begun at : ℕ) → AtText header bytes old → AreBytes piece → count ≡ length bytes → used < length piece → at ≡ count + used - begun → Advances old (take used piece) new → RefusesItem old.kind new.stage (slice_index piece used) begun → StaysRefused header (bytes ++ piece) (answers.Hessian (told.BadText at))
text_bad_item header bytes piece old new count used begun at a small counted within is next r = λ other more.
    let all : List ℕ = bytes ++ piece in
    let n : ℕ = length bytes + used in
    let kind : old.kind ≡ Letters = (a.advances).kind in
    let refuses : RefusesItem Letters new.stage (slice_index all n) begun = subst (λ c. RefusesItem Letters new.stage c begun) (sym (byte_at bytes piece used)) (subst (λ k. RefusesItem k new.stage (slice_index piece used) begun) kind r) in
    let q = item_at Letters all 0 n begun new (omega arith) (small_more bytes piece a.small small) (omega (arith, length-append bytes piece, within)) (led bytes piece old new used (omega (arith, within)) a.advances next) refuses in
    let place : 0 + n - begun ≡ at = omega (arith, is, counted) in
    (Hessian (BadText at), refl, refusal_in_text (BadText at) a.status.serial a.status.status (bad_character all more at (subst (λ k. IsBadText all 0 k) place q.1)))

-- ---- the whole text

pub text_whole : (header : Header) (bytes : List ℕ) (reading : Reading) → AtText header bytes reading → reading.stage ≡ Ended → ReplyOf hessian node_limit header bytes (Status header.status reading.done)
text_whole header bytes reading a ended = reply_status reading.done a.status.serial a.status.status (a_text reading.done bytes (spelled reading bytes a.small a.advances ended))

pub null_whole : (header : Header) (bytes : List ℕ) → AtNull header bytes → ReplyOf hessian node_limit header bytes (Status header.status [])
null_whole header bytes a = reply_status [] a.status.serial a.status.status (subst (OptionalText hessian []) (sym a.null) a_null)

pub text_short : (header : Header) (bytes : List ℕ) (reading : Reading) (count : ℕ) → AtText header bytes reading → count ≡ length bytes → reading.stage ≢ Ended → IsRefusedReply header bytes (answers.Hessian (told.Short count))
text_short header bytes reading count a counted inside =
    let cut = cut_short Letters reading.stage bytes (a.advances).gained a.small (a.advances).runs inside in
    (Hessian (Short (length bytes)), ap (λ n. answers.Hessian (told.Short n)) counted, refusal_short_text a.status.serial a.status.status (record { more = cut.more; lacks = cut.lacks; whole = (cut.value, a_text cut.value (bytes ++ cut.more) cut.spells) }))
