-- The values behind the number of a kind, piece by piece.
use Rattle.std.proofs.Common.{◌≡◌, ◌≢◌, ℕ, ◌+◌, ◌-◌, ◌<◌, ◌≤◌, List, ◌++◌, length, take, ap, sym, ◌∙◌, subst, arith, append_assoc, inl, inr}
use Rattle.std.specs.Prelude.{ℤ, ◌⊎◌, None, Result, Ok, Err, IfOk, IfErr}
use Rattle.std.proofs.lemmas.Bool.{cases_lt}
use Rattle.std.proofs.lemmas.List.{length-append, take-append-le, take_all}
use Rattle.hessian_graph.specs.declared.parts.Parts.{Parts}
use Rattle.hessian_graph.specs.Shape.{Shape, shape_of}
use Rattle.hessian_graph.specs.Refusal.{Cause, Short, Double, BadCode, BadText, BadRef, BadType, BadClass, BadLength, TooManyNodes, Trailing}
use Rattle.hessian_text.specs.Spelling.{AreBytes}
use Rattle.hessian_reader.specs.declared.fault.HessianFault.{HessianFault}
use Rattle.hessian_reader.specs.declared.fault.HessianFault.TheVariants as told
use Rattle.hessian_reader.specs.declared.reader.Fed.TheVariants as fed
use Rattle.hessian_reader.specs.Leaves.{hessian, node_limit, IsDenoted}
use Rattle.hessian_reader.specs.Refusing.{fault_of, IsStoppedBy, IsRefusedBy}
use Rattle.hessian_reader.specs.Reading.{EndsAt, HasRead, Tells, refusal_of}
use Rattle.hessian_reader.proofs.Whole.{ends_once}
use Rattle.hessian_reader.proofs.Behind.{trailing_refused}
use Rattle.hessian_reader.proofs.Refusals.{stopped_stays}
use Rattle.dubbo_header.specs.declared.header.Header.{Header}
use Rattle.dubbo_bodies.specs.declared.message.Reply.{Reply}
use Rattle.dubbo_bodies.specs.declared.reply_fault.ReplyFault.{ReplyFault}
use Rattle.dubbo_bodies.specs.declared.reply_fault.ReplyFault.TheVariants as answers
use Rattle.dubbo_bodies.specs.declared.reply_reader.values.Values.{Values}
use Rattle.dubbo_bodies.specs.FaultsBehind.{place_of}
use Rattle.dubbo_bodies.specs.Refusals.{Hessian, BadAttachments, behind}
use Rattle.dubbo_bodies.specs.Refusals.ReplyRefusal.{attachments as refusal_attachments, values as refusal_values}
use Rattle.dubbo_bodies.specs.RefusedReply.{IsRefusedReply}
use Rattle.dubbo_bodies.specs.ReplyFaults.{ReplyFaultOf}
use Rattle.dubbo_bodies.specs.ReplyBody.{HasRoots, Outcome, BeginsWithKind, ReplyOf}
use Rattle.dubbo_bodies.specs.ReplyBody.ReplyOf.{outcome}
use Rattle.dubbo_bodies.specs.ReplyKinds.{LacksBeside, number_of}
use Rattle.dubbo_bodies.specs.ReplyStages.{AtValues, StaysRefused}
use Rattle.dubbo_bodies.proofs.ReplyPlaces.{refusal_place}

-- ---- more bytes behind a kind

pub kind_behind : (header : Header) (bytes more : List ℕ) (z : ℤ) (at : ℕ) (rest : List ℕ) → BeginsWithKind hessian header bytes z at rest → BeginsWithKind hessian header (bytes ++ more) z at (rest ++ more)
kind_behind header bytes more z at rest b = record {
  serial = b.serial;
  status = b.status;
  front = b.front;
  is_kind = b.is_kind;
  place = b.place;
  joined = ap (λ xs. xs ++ more) b.joined ∙ append_assoc b.front rest more;
}

-- so many bytes in all
pub kind_count : (header : Header) (bytes : List ℕ) (z : ℤ) (at : ℕ) (rest : List ℕ) → BeginsWithKind hessian header bytes z at rest → length bytes ≡ at + length rest
kind_count header bytes z at rest b = ap length b.joined ∙ length-append b.front rest ∙ ap (λ n. n + length rest) (sym b.place)

-- ---- a fault of the values, told from the begin of the body

-- the fault is the same, from so many bytes further ahead
abbrev pub IsMoved : ℕ → ℕ → HessianFault → HessianFault → Type 0
IsMoved at most fault moved = (cause : Cause) → fault ≡ fault_of cause → at + place_of cause ≤ most → moved ≡ fault_of (behind at cause)

pub trailing_moved : (at most n m : ℕ) → m ≡ at + n → IsMoved at most (told.Trailing n) (told.Trailing m)
trailing_moved at most n m e (Trailing k) f l = let same : n ≡ k = cc in ap told.Trailing (e ∙ ap (λ x. at + x) same)
trailing_moved at most n m e (Short k) f l = absurd cc
trailing_moved at most n m e (Double k c) f l = absurd cc
trailing_moved at most n m e (BadCode k c) f l = absurd cc
trailing_moved at most n m e (BadText k) f l = absurd cc
trailing_moved at most n m e (BadRef k z) f l = absurd cc
trailing_moved at most n m e (BadType k z) f l = absurd cc
trailing_moved at most n m e (BadClass k z) f l = absurd cc
trailing_moved at most n m e (BadLength k z) f l = absurd cc
trailing_moved at most n m e (TooManyNodes k) f l = absurd cc

pub values_stopped : (header : Header) (bytes : List ℕ) (z : ℤ) (at roots most : ℕ) (rest : List ℕ) (fault moved : HessianFault) → BeginsWithKind hessian header bytes z at rest → HasRoots z roots → length bytes ≤ most → IsMoved at most fault moved → IsStoppedBy roots rest fault → StaysRefused header bytes (answers.Hessian moved)
values_stopped header bytes z at roots most rest fault moved b has low moves (cause, is, q) = λ some more.
    let p = refusal_place roots rest cause (inl q) in
    let n = kind_count header bytes z at rest b in
    (Hessian (behind at cause), ap answers.Hessian (moves cause is (omega (arith, p, n, low))), refusal_values z at roots (rest ++ more) cause (kind_behind header bytes more z at rest b) has (inl (stopped_stays roots rest more cause q)))

told_reply : (moved : HessianFault) (fault : ReplyFault) (cause : Cause) → moved ≡ fault_of cause → ReplyFaultOf moved fault → fault ≡ answers.Hessian (fault_of cause)
told_reply moved fault (Short at) e h = subst (λ m. ReplyFaultOf m fault) e h
told_reply moved fault (Double at code) e h = subst (λ m. ReplyFaultOf m fault) e h
told_reply moved fault (BadCode at code) e h = subst (λ m. ReplyFaultOf m fault) e h
told_reply moved fault (BadText at) e h = subst (λ m. ReplyFaultOf m fault) e h
told_reply moved fault (BadRef at number) e h = subst (λ m. ReplyFaultOf m fault) e h
told_reply moved fault (BadType at number) e h = subst (λ m. ReplyFaultOf m fault) e h
told_reply moved fault (BadClass at number) e h = subst (λ m. ReplyFaultOf m fault) e h
told_reply moved fault (BadLength at number) e h = subst (λ m. ReplyFaultOf m fault) e h
told_reply moved fault (TooManyNodes at) e h = subst (λ m. ReplyFaultOf m fault) e h
told_reply moved fault (Trailing at) e h = subst (λ m. ReplyFaultOf m fault) e h

-- a refusal for another cause than want of memory is that of the values
some_fault : (fault moved : HessianFault) (result : ReplyFault) → ReplyFaultOf moved result → (fault ≡ told.OutOfMemory → moved ≡ told.OutOfMemory) → result ≢ answers.OutOfMemory → fault ≢ told.OutOfMemory
some_fault fault moved result h memory some e = some (subst (λ m. ReplyFaultOf m result) (memory e) h)

pub refused_as : (header : Header) (bytes : List ℕ) (z : ℤ) (at roots most : ℕ) (rest : List ℕ) (fault moved : HessianFault) (result : ReplyFault) → BeginsWithKind hessian header bytes z at rest → HasRoots z roots → length bytes ≤ most → IsMoved at most fault moved → (fault ≡ told.OutOfMemory → moved ≡ told.OutOfMemory) → ReplyFaultOf moved result → (fault ≢ told.OutOfMemory → IsRefusedBy roots rest fault) → result ≢ answers.OutOfMemory → IsRefusedReply header bytes result
refused_as header bytes z at roots most rest fault moved result b has low moves memory h why some =
    let (cause, is, r) = why (some_fault fault moved result h memory some) in
    let p = refusal_place roots rest cause r in
    let n = kind_count header bytes z at rest b in
    (Hessian (behind at cause), told_reply moved result (behind at cause) (moves cause is (omega (arith, p, n, low))) h, refusal_values z at roots rest cause b has r)

pub stopped_as : (header : Header) (bytes : List ℕ) (z : ℤ) (at roots most : ℕ) (rest : List ℕ) (fault moved : HessianFault) (result : ReplyFault) → BeginsWithKind hessian header bytes z at rest → HasRoots z roots → length bytes ≤ most → IsMoved at most fault moved → (fault ≡ told.OutOfMemory → moved ≡ told.OutOfMemory) → ReplyFaultOf moved result → (fault ≢ told.OutOfMemory → IsStoppedBy roots rest fault) → StaysRefused header bytes result
stopped_as header bytes z at roots most rest fault moved result b has low moves memory h why = λ some more.
    let (cause, is, q) = why (some_fault fault moved result h memory some) in
    let p = refusal_place roots rest cause (inl q) in
    let n = kind_count header bytes z at rest b in
    (Hessian (behind at cause), told_reply moved result (behind at cause) (moves cause is (omega (arith, p, n, low))) h, refusal_values z at roots (rest ++ more) cause (kind_behind header bytes more z at rest b) has (inl (stopped_stays roots rest more cause q)))

-- ---- one more piece

end_before : (roots n : ℕ) (rest piece : List ℕ) → n ≤ length rest → EndsAt roots (rest ++ piece) n → EndsAt roots rest n
end_before roots n rest piece low e = record { graph = e.graph; within = low; denoted = subst (λ bs. IsDenoted bs e.graph) (take-append-le n rest piece low) e.denoted; roots_are = e.roots_are }

-- the last root ends in the piece, or just before it
end_in : (header : Header) (bytes piece : List ℕ) (v : Values) (a : AtValues header bytes v) (n used : ℕ) → EndsAt a.roots (a.rest ++ piece) n → used ≡ n - length a.rest → n ≡ length a.rest + used
end_in header bytes piece v a n used ends is = by_place (cases_lt (length a.rest) n)
  where
    by_place : (length a.rest < n) ⊎ (n ≤ length a.rest) → n ≡ length a.rest + used
    by_place (inl high) = omega (arith, high, is)
    by_place (inr low) = let e = a.whole n (end_before a.roots n a.rest piece low ends) in omega (arith, e, is)

pub values_trailing : (header : Header) (bytes piece : List ℕ) (v : Values) (count used : ℕ) (a : AtValues header bytes v) → Tells a.roots a.rest piece (fed.Done used) → count ≡ length bytes → used < length piece → StaysRefused header (bytes ++ piece) (answers.Hessian (told.Trailing (count + used)))
values_trailing header bytes piece v count used a (n, ends, is, low) counted more =
    let at : n ≡ length a.rest + used = end_in header bytes piece v a n used ends is in
    let all = length-append a.rest piece in
    let whole = length-append bytes piece in
    let parts = kind_count header bytes (number_of v.kind) v.from a.rest a.begins in
    values_stopped header (bytes ++ piece) (number_of v.kind) v.from a.roots (length (bytes ++ piece)) (a.rest ++ piece) (told.Trailing n) (told.Trailing (count + used))
    (kind_behind header bytes piece (number_of v.kind) v.from a.rest a.begins) a.has_roots (omega arith)
    (trailing_moved v.from (length (bytes ++ piece)) n (count + used) (omega (arith, at, counted, parts)))
    (trailing_refused a.roots n (a.rest ++ piece) ends (omega (arith, at, all, more)))

pub values_later : (header : Header) (bytes piece : List ℕ) (v w : Values) (a : AtValues header bytes v) → w.kind ≡ v.kind → w.from ≡ v.from → HasRead w.reader a.roots (a.rest ++ piece) → refusal_of w.reader ≡ None → ((n : ℕ) → EndsAt a.roots (a.rest ++ piece) n → n ≡ length (a.rest ++ piece)) → AtValues header (bytes ++ piece) w
values_later header bytes piece v w a kind from read serves whole = record {
  rest = a.rest ++ piece;
  begins = subst (λ k. BeginsWithKind hessian header (bytes ++ piece) (number_of k) w.from (a.rest ++ piece)) (sym kind) (subst (λ n. BeginsWithKind hessian header (bytes ++ piece) (number_of v.kind) n (a.rest ++ piece)) (sym from) (kind_behind header bytes piece (number_of v.kind) v.from a.rest a.begins));
  roots = a.roots;
  has_roots = subst (λ k. HasRoots (number_of k) a.roots) (sym kind) a.has_roots;
  read = read;
  serves = serves;
  whole = whole;
}

-- nothing comes behind the last root
pub ends_more : (header : Header) (bytes piece : List ℕ) (v : Values) (a : AtValues header bytes v) → Tells a.roots a.rest piece fed.More → (n : ℕ) → EndsAt a.roots (a.rest ++ piece) n → n ≡ length (a.rest ++ piece)
ends_more header bytes piece v a none n ends = absurd (none n ends)

pub ends_full : (header : Header) (bytes piece : List ℕ) (v : Values) (a : AtValues header bytes v) (used : ℕ) → AreBytes (a.rest ++ piece) → length piece ≤ used → Tells a.roots a.rest piece (fed.Done used) → (n : ℕ) → EndsAt a.roots (a.rest ++ piece) n → n ≡ length (a.rest ++ piece)
ends_full header bytes piece v a used small full (m, ends', is, low) n ends =
    let at : m ≡ length a.rest + used = end_in header bytes piece v a m used ends' is in
    let same = ends_once a.roots (a.rest ++ piece) n m small ends ends' in
    let long = length-append a.rest piece in
    omega (arith, at, same, long, full, low)

-- ---- all values came

pub values_denoted : (header : Header) (bytes : List ℕ) (v : Values) (a : AtValues header bytes v) (g : Parts) → ((n : ℕ) × (n ≤ length a.rest) × IsDenoted (take n a.rest) (shape_of g) × (length g.roots ≡ a.roots)) → IsDenoted a.rest (shape_of g)
values_denoted header bytes v a g (n, low, d, many) =
    let e = a.whole n (record { graph = shape_of g; within = low; denoted = d; roots_are = many }) in
    subst (λ bs. IsDenoted bs (shape_of g)) (take_all n a.rest (omega (arith, e))) d

pub values_answered : (header : Header) (bytes : List ℕ) (v : Values) (a : AtValues header bytes v) (g : Shape) (result : Result Reply ReplyFault) → IsDenoted a.rest g → IfOk result (Outcome g (number_of v.kind)) → IfOk result (ReplyOf hessian node_limit header bytes)
values_answered header bytes v a g (Ok reply) d o = outcome (number_of v.kind) v.from a.rest g reply a.begins d o
values_answered header bytes v a g (Err fault) d o = tt

pub values_lack : (header : Header) (bytes : List ℕ) (v : Values) (a : AtValues header bytes v) (g : Shape) (result : Result Reply ReplyFault) → IsDenoted a.rest g → IfErr result (λ fault. fault ≢ answers.OutOfMemory → (fault ≡ answers.BadAttachments) × LacksBeside g (number_of v.kind)) → IfErr result (λ fault. fault ≢ answers.OutOfMemory → IsRefusedReply header bytes fault)
values_lack header bytes v a g (Ok reply) d w = tt
values_lack header bytes v a g (Err fault) d w = λ some. let (is, l) = w some in (BadAttachments, is, refusal_attachments (number_of v.kind) v.from l.before a.rest g a.begins l.beside d l.lacks)
