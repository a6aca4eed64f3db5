-- A frame that stands at a place, taken apart.
use Rattle.std.proofs.Common.{◌≡◌, ℕ, zero, suc, ◌+◌, ◌*◌, ◌<◌, ◌≤◌, ℤ, pos, List, [], ◌∷◌, ◌++◌, length, take, drop, Option, Some, refl, ap, subst, ◌∙◌, append_assoc, length-append, lit<, arith}
use Rattle.std.proofs.Math.Seq.{take-append_seam}
use Rattle.std.specs.List.{All}
use Rattle.dubbo_header.specs.declared.header.Header.{Header}
use Rattle.dubbo_header.specs.Header.{IsHeader, header_bytes}
use Rattle.dubbo_header.proofs.HeaderLemmas.{length-header_bytes}
use Rattle.hessian_scalars.specs.declared.scalar.Scalar.TheVariants as scalars
use Rattle.hessian_scalars.specs.Read.{IsSpelledAt}
use Rattle.hessian_scalars.specs.ScalarSpelling.ScalarSpelling.{int_in_code}
use Rattle.dubbo_play.specs.FirstFrames.{WrittenTexts, IsTextMap, names, attachments, IsRequestBody, IsReplyBody, request_header, reply_header}
use Rattle.dubbo_play.specs.FirstFrames.WrittenTexts.{none, more}
use Rattle.dubbo_play.specs.FirstRun.{RequestAt, ReplyAt}
use Rattle.dubbo_play.specs.declared.first_frames.Found.{Found}
use Rattle.dubbo_play.proofs.Texts.{text_short_written}
use Rattle.dubbo_play.proofs.Places.{behind, reaches, spelled_at, spelling_short}

pub some_is : {A : Type 0} (x y : A) → Some x ≡ Some y → x ≡ y
some_is x y e = cc

pub first_is : (p q : ℤ × ℕ) → Some p ≡ Some q → p.0 ≡ q.0
first_is p q e = ap (λ (x : ℤ × ℕ). x.0) (some_is p q e)

pub second_is : (p q : ℤ × ℕ) → Some p ≡ Some q → p.1 ≡ q.1
second_is p q e = ap (λ (x : ℤ × ℕ). x.1) (some_is p q e)

pub found_same : (a b : ℕ) (v w : ℤ) (m n : ℕ) → a ≡ b → v ≡ w → m ≡ n →
    ◌≡◌ {A = Option Found} (Some (record { id = a; value = v; end = m })) (Some (record { id = b; value = w; end = n }))
found_same a b v w m n p q r = cc

-- ---- how long a body is

texts_short : (texts : List (List ℕ)) (written : List ℕ) → All (λ text. length text ≤ 255) texts → WrittenTexts texts written → length written ≤ 1022 * length texts
texts_short texts written fit none = omega arith
texts_short texts written fit (more text others first later w ws) =
    omega (arith, text_short_written text first (fit 0 text (omega arith)) w, texts_short others later (λ k d l. fit (suc k) d (omega arith)) ws, length-append first later)

names_fit : (path method : List ℕ) → length path ≤ 255 → length method ≤ 255 → All (λ text. length text ≤ 255) (names path method)
names_fit path method p m zero d l = omega arith
names_fit path method p m (suc zero) d l = p
names_fit path method p m (suc (suc zero)) d l = omega arith
names_fit path method p m (suc (suc (suc zero))) d l = m
names_fit path method p m (suc (suc (suc (suc zero)))) d l = omega arith
names_fit path method p m (suc (suc (suc (suc (suc k))))) d l = absurd (omega arith)

attachments_fit : (path : List ℕ) → length path ≤ 255 → All (λ text. length text ≤ 255) (attachments path)
attachments_fit path p zero d l = omega arith
attachments_fit path p (suc zero) d l = p
attachments_fit path p (suc (suc zero)) d l = omega arith
attachments_fit path p (suc (suc (suc zero))) d l = p
attachments_fit path p (suc (suc (suc (suc zero)))) d l = omega arith
attachments_fit path p (suc (suc (suc (suc (suc zero))))) d l = omega arith
attachments_fit path p (suc (suc (suc (suc (suc (suc zero)))))) d l = omega arith
attachments_fit path p (suc (suc (suc (suc (suc (suc (suc zero))))))) d l = omega arith
attachments_fit path p (suc (suc (suc (suc (suc (suc (suc (suc k)))))))) d l = absurd (omega arith)

map_short : (texts : List (List ℕ)) (bytes : List ℕ) → All (λ text. length text ≤ 255) texts → IsTextMap texts bytes → length bytes ≤ 1022 * length texts + 2
map_short texts bytes fit m = omega (arith, ap length m.bytes_are, length-append m.entries (0x5a ∷ []), texts_short texts m.entries fit m.written)

sum_short : (body a b c : List ℕ) → body ≡ a ++ (b ++ c) → length a ≤ 5110 → length b ≤ 9 → length c ≤ 8178 → length body ≤ 20000
sum_short body a b c e x y z = omega (arith, ap length e, length-append a (b ++ c), length-append b c)

pub request_body_short : (path method : List ℕ) (argument : ℤ) (body : List ℕ) → length path ≤ 255 → length method ≤ 255 →
    IsRequestBody path method argument body → length body ≤ 20000
request_body_short path method argument body p m b =
    sum_short body b.front b.spelling b.back b.bytes (texts_short (names path method) b.front (names_fit path method p m) b.named)
    (spelling_short (scalars.Int argument) b.spelling b.shortest.spells) (map_short (attachments path) b.back (attachments_fit path p) b.attached)

pub reply_body_short : (value : ℤ) (body : List ℕ) → IsReplyBody value body → length body ≤ 10
reply_body_short value body b =
    let s : length b.spelling ≤ 9 = spelling_short (scalars.Int value) b.spelling b.shortest.spells in
    omega (arith, ap length b.bytes)

-- ---- a header and its body

pub header_first : (h : Header) (rest : List ℕ) → take 16 (header_bytes h ++ rest) ≡ header_bytes h
header_first h rest = subst (λ (n : ℕ). take n (header_bytes h ++ rest) ≡ header_bytes h) (length-header_bytes h) (take-append_seam (header_bytes h) rest)

pub header_long : (h : Header) (rest xs : List ℕ) → xs ≡ header_bytes h ++ rest → length xs < 16 → ⊥
header_long h rest xs e l = omega (arith, ap length e, length-append (header_bytes h) rest, length-header_bytes h)

pub record Apart (bytes : List ℕ) (at end : ℕ) (header : Header) (body rest : List ℕ) : Type 0 where
  pub header_ahead : drop at bytes ≡ header_bytes header ++ (body ++ rest)
  pub body_ahead : drop (at + 16) bytes ≡ body ++ rest
  pub begins : at + 16 ≤ length bytes
  pub within : at + 16 + length body ≤ length bytes
  pub ends : end ≡ at + 16 + length body

apart : (bytes frame body rest : List ℕ) (at end : ℕ) (header : Header) → at ≤ length bytes → frame ≡ header_bytes header ++ body →
    drop at bytes ≡ frame ++ rest → end ≡ at + length frame → Apart bytes at end header body rest
apart bytes frame body rest at end header l f d e =
    let ahead : drop at bytes ≡ header_bytes header ++ (body ++ rest) = d ∙ ap (λ (x : List ℕ). x ++ rest) f ∙ append_assoc (header_bytes header) body rest in
    let long : length frame ≡ 16 + length body = ap length f ∙ length-append (header_bytes header) body ∙ ap (λ (n : ℕ). n + length body) (length-header_bytes header) in
    let whole : at + length frame ≤ length bytes = reaches bytes frame rest at l d in
    record {
      header_ahead = ahead;
      body_ahead = subst (λ (n : ℕ). drop (at + n) bytes ≡ body ++ rest) (length-header_bytes header) (behind bytes (header_bytes header) (body ++ rest) at ahead);
      begins = omega arith;
      within = omega arith;
      ends = omega arith;
    }

-- ---- a request

pub record RequestParts (bytes : List ℕ) (at id : ℕ) (argument : ℤ) (end : ℕ) : Type 0 where
  pub body : List ℕ
  pub rest : List ℕ
  pub path : List ℕ
  pub method : List ℕ
  pub front : List ℕ
  pub after : List ℕ
  pub int_end : ℕ
  pub header : IsHeader (request_header id (length body))
  pub apart : Apart bytes at end (request_header id (length body)) body rest
  pub named : WrittenTexts (names path method) front
  pub names_ahead : drop (at + 16) bytes ≡ front ++ after
  pub argument_at : IsSpelledAt bytes (at + 16 + length front) (scalars.Int argument) int_end

argument_in : (bytes a b c body rest : List ℕ) (at : ℕ) → drop at bytes ≡ body ++ rest → body ≡ a ++ (b ++ c) → drop at bytes ≡ a ++ ((b ++ c) ++ rest)
argument_in bytes a b c body rest at d e = d ∙ ap (λ (x : List ℕ). x ++ rest) e ∙ append_assoc a (b ++ c) rest

pub request_parts : (bytes : List ℕ) (at id : ℕ) (argument : ℤ) (end : ℕ) → at ≤ length bytes → RequestAt bytes at id argument end →
    RequestParts bytes at id argument end
request_parts bytes at id argument end l s =
    let r = s.request in
    let b = r.says in
    let head : Header = request_header id (length r.body) in
    let all : Apart bytes at end head r.body s.rest = apart bytes s.frame r.body s.rest at end head l r.bytes s.stands s.ends in
    let ahead : drop (at + 16) bytes ≡ b.front ++ ((b.spelling ++ b.back) ++ s.rest) = argument_in bytes b.front b.spelling b.back r.body s.rest (at + 16) all.body_ahead b.bytes in
    let place : at + 16 + length b.front ≤ length bytes = reaches bytes b.front ((b.spelling ++ b.back) ++ s.rest) (at + 16) all.begins ahead in
    let int_ahead : drop (at + 16 + length b.front) bytes ≡ b.spelling ++ (b.back ++ s.rest) =
    behind bytes b.front ((b.spelling ++ b.back) ++ s.rest) (at + 16) ahead ∙ append_assoc b.spelling b.back s.rest in
    let short : length r.body ≤ 20000 = request_body_short s.path s.method argument r.body s.short_path s.short_method b in
    record {
      body = r.body;
      rest = s.rest;
      path = s.path;
      method = s.method;
      front = b.front;
      after = (b.spelling ++ b.back) ++ s.rest;
      int_end = at + 16 + length b.front + length b.spelling;
      header = record { serial = lit< tt; status = lit< tt; id = s.fits; length = omega arith };
      apart = all;
      named = b.named;
      names_ahead = ahead;
      argument_at = spelled_at bytes b.spelling (b.back ++ s.rest) (at + 16 + length b.front) (scalars.Int argument) place int_ahead b.shortest.spells;
    }

-- ---- a reply

pub record ReplyParts (bytes : List ℕ) (at id : ℕ) (value : ℤ) (end : ℕ) : Type 0 where
  pub body : List ℕ
  pub rest : List ℕ
  pub int_end : ℕ
  pub header : IsHeader (reply_header id (length body))
  pub apart : Apart bytes at end (reply_header id (length body)) body rest
  pub kind_at : IsSpelledAt bytes (at + 16) (scalars.Int (pos 1)) (at + 16 + 1)
  pub value_at : IsSpelledAt bytes (at + 16 + 1) (scalars.Int value) int_end

pub reply_parts : (bytes : List ℕ) (at id : ℕ) (value : ℤ) (end : ℕ) → at ≤ length bytes → ReplyAt bytes at id value end →
    ReplyParts bytes at id value end
reply_parts bytes at id value end l s =
    let r = s.reply in
    let b = r.says in
    let head : Header = reply_header id (length r.body) in
    let all : Apart bytes at end head r.body s.rest = apart bytes s.frame r.body s.rest at end head l r.bytes s.stands s.ends in
    let ahead : drop (at + 16) bytes ≡ (0x91 ∷ []) ++ (b.spelling ++ s.rest) = all.body_ahead ∙ ap (λ (x : List ℕ). x ++ s.rest) b.bytes in
    let place : at + 16 + 1 ≤ length bytes = reaches bytes (0x91 ∷ []) (b.spelling ++ s.rest) (at + 16) all.begins ahead in
    let value_ahead : drop (at + 16 + 1) bytes ≡ b.spelling ++ s.rest = behind bytes (0x91 ∷ []) (b.spelling ++ s.rest) (at + 16) ahead in
    let short : length r.body ≤ 10 = reply_body_short value r.body b in
    record {
      body = r.body;
      rest = s.rest;
      int_end = at + 16 + 1 + length b.spelling;
      header = record { serial = lit< tt; status = lit< tt; id = s.fits; length = omega arith };
      apart = all;
      kind_at = spelled_at bytes (0x91 ∷ []) (b.spelling ++ s.rest) (at + 16) (scalars.Int (pos 1)) all.begins ahead
          (int_in_code 0x91 (pos 1) (record { above = omega arith; below = omega arith }) refl);
      value_at = spelled_at bytes b.spelling s.rest (at + 16 + 1) (scalars.Int value) place value_ahead b.shortest.spells;
    }
