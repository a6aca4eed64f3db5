-- From token to token.
use Rattle.std.proofs.Common.{◌≡◌, ℕ, zero, suc, ◌+◌, ◌-◌, ◌<◌, ◌≤◌, List, [], ◌∷◌, ◌++◌, length, get_or, take, drop, refl, ap, sym, ◌∙◌, subst, arith, drop-cons}
use Rattle.std.specs.Prelude.{Ok, Err, nat_eq, if◌then◌else◌, false}
use Rattle.graph_notation.specs.declared.element.Element.{Element}
use Rattle.graph_notation.specs.declared.element.Element.TheVariants.{Sign}
use Rattle.graph_notation.specs.declared.element.Mark.{Mark}
use Rattle.graph_notation.specs.declared.element.Mark.TheVariants as marks
use Rattle.graph_notation.specs.declared.frame.Cause.TheVariants.{Bad, Unknown, TooMany}
use Rattle.graph_notation.specs.declared.stop.Stop.{Stop}
use Rattle.graph_notation.specs.declared.stop.Stop.TheVariants.{Refused, NoMemory}
use Rattle.graph_notation.specs.declared.fault.NotationFault.TheVariants.{BadNotation, OutOfMemory}
use Rattle.graph_notation.specs.Tokens.{Token, IsToken, Cut, is_word_byte}
use Rattle.graph_notation.specs.Tokens.Cut.{none, one}
use Rattle.graph_notation.specs.Lexing.{token_length, word_run, closing}
use Rattle.graph_notation.specs.Elements.{Reads, mark_byte}
use Rattle.graph_notation.specs.Elements.Reads.{sign}
use Rattle.graph_notation.specs.Notation.{ReadAs}
use Rattle.graph_notation.specs.Machine.{State, start, step, run, and_then}
use Rattle.graph_notation.specs.Progress.{SoFar, TokenAt, Taken, fault_of, ReadsOn}
use Rattle.graph_notation.specs.Progress.Untaken.{unread, bad, unknown, too_many, no_memory}
use Rattle.graph_notation.specs.View.{Steps}
use Rattle.graph_notation.proofs.Nexts.{stepped}
use Rattle.graph_notation.proofs.Cutting.{first_byte}
use Rattle.graph_notation.proofs.Tokens.{first_token, length_is, some_token}

-- a token more
pub cut_more : {text rest : List ℕ} {tokens : List Token} (token after : List ℕ) → Cut text tokens rest → rest ≡ token ++ after → IsToken token after → Cut text (tokens ++ token ∷ []) after
cut_more token after (none text) e x = subst (λ t. Cut t (token ∷ []) after) (sym e) (one token after after [] x (none after))
cut_more token after (one token' middle rest tokens x' c) e x = one token' middle after (tokens ++ token ∷ []) x' (cut_more token after c e x)

zip_more : (tokens : List Token) (es : List Element) (token : Token) (e : Element) → ReadAs tokens es → Reads token e → ReadAs (tokens ++ token ∷ []) (es ++ e ∷ [])
zip_more [] [] token e a r = (r, tt)
zip_more [] (x ∷ xs) token e a r = absurd a
zip_more (t ∷ ts) [] token e a r = absurd a
zip_more (t ∷ ts) (x ∷ xs) token e a r = (a.0, zip_more ts xs token e a.1 r)

pub run_more : (bound : ℕ) (es : List Element) (e : Element) (s t u : State) → run bound s es ≡ Ok t → step bound t e ≡ Ok u → run bound s (es ++ e ∷ []) ≡ Ok u
run_more bound [] e s t u h k = let same : s ≡ t = cc in ap (λ r. and_then r (λ x. run bound x [])) (ap (λ (x : State). step bound x e) same ∙ k)
run_more bound (x ∷ xs) e s t u h k =
    let y = stepped bound (step bound s x) xs t h in
    ap (λ r. and_then r (λ z. run bound z (xs ++ e ∷ []))) y.is ∙ run_more bound xs e y.u t u y.rest k

pub further : (bound : ℕ) (text rest after : List ℕ) (s t : State) → SoFar bound text rest s → Taken bound rest after s t → SoFar bound text after t
further bound text rest after s t x y = record {
  tokens = x.tokens ++ (y.front).token ∷ [];
  elements = x.elements ++ y.element ∷ [];
  cut = cut_more ((y.front).token) after x.cut ((y.front).whole) ((y.front).next);
  read = zip_more x.tokens x.elements ((y.front).token) y.element x.read y.reads;
  is = run_more bound x.elements y.element start s t x.is y.is;
}

pub at_start : (bound : ℕ) (text : List ℕ) → SoFar bound text text start
at_start bound text = record { tokens = []; elements = []; cut = none text; read = tt; is = refl }

drop_nil : (n : ℕ) → drop {A = ℕ} n [] ≡ []
drop_nil zero = refl
drop_nil (suc n) = refl

drop_drop : (n m : ℕ) (xs : List ℕ) → drop (n + m) xs ≡ drop m (drop n xs)
drop_drop zero m xs = let e : 0 + m ≡ m = omega arith in ap (λ k. drop k xs) e
drop_drop (suc n) m [] = drop_nil (suc n + m) ∙ sym (drop_nil m)
drop_drop (suc n) m (x ∷ xs) = let e : suc n + m ≡ suc (n + m) = omega arith in ap (λ k. drop k (x ∷ xs)) e ∙ drop_drop n m xs

-- the token at a place
take_front : (xs ys : List ℕ) → take (length xs) (xs ++ ys) ≡ xs
take_front [] ys = refl
take_front (x ∷ xs) ys = ap (λ z. x ∷ z) (take_front xs ys)

drop_front : (xs ys : List ℕ) → drop (length xs) (xs ++ ys) ≡ ys
drop_front [] ys = refl
drop_front (x ∷ xs) ys = drop_front xs ys

pub record Slice (text : List ℕ) (at end : ℕ) (piece : List ℕ) : Type 0 where
  pub front : TokenAt (drop at text) (drop end text)
  pub is : front.token ≡ piece
  pub after : at < end

pub slice_at : (text : List ℕ) (at end : ℕ) → at < length text → end ≡ at + token_length (drop at text) → Slice text at end (take (end - at) (drop at text))
slice_at text at end h e =
    let x = first_token (get_or text at 0) (drop (suc at) text) in
    let cons : drop at text ≡ get_or text at 0 ∷ drop (suc at) text = drop-cons text at 0 h in
    let whole : drop at text ≡ x.token ++ x.rest = cons ∙ x.is in
    let long : token_length (drop at text) ≡ length x.token = ap token_length whole ∙ length_is x.next in
    let some : 0 < length x.token = some_token x.next in
    let size : end - at ≡ length x.token = omega (arith, e, long) in
    let behind : drop end text ≡ x.rest =
    ap (λ n. drop n text) (e ∙ ap (λ n. at + n) long) ∙ drop_drop at (length x.token) text ∙ ap (drop (length x.token)) whole ∙ drop_front x.token x.rest in
    record {
      front = record { token = x.token; whole = whole ∙ ap (λ y. x.token ++ y) (sym behind); next = subst (IsToken x.token) (sym behind) x.next };
      is = sym (ap (λ n. take n (drop at text)) size ∙ ap (take (length x.token)) whole ∙ take_front x.token x.rest);
      after = omega (arith, e, long, some);
    }

reads_front : {text : List ℕ} {at end : ℕ} {piece : List ℕ} (x : Slice text at end piece) (e : Element) → Reads piece e → Reads ((x.front).token) e
reads_front x e r = subst (λ t. Reads t e) (sym x.is) r

pub token_read : (bound : ℕ) (text piece : List ℕ) (at end : ℕ) (s t : State) (e : Element) → Slice text at end piece → end ≤ length text → Reads piece e → step bound s e ≡ Ok t → ReadsOn bound text at s t (Ok end)
token_read bound text piece at end s t e x within r h = (x.after, within, record { front = x.front; element = e; reads = reads_front x e r; is = h })

pub token_refused : (bound : ℕ) (text piece : List ℕ) (at end : ℕ) (s t : State) (e : Element) (stop : Stop) → Slice text at end piece → Reads piece e → Steps (Err stop) t (step bound s e) → ReadsOn bound text at s t (Err (fault_of stop at))
token_refused bound text piece at end s t e (Refused Bad) x r h = (end, bad x.front e (reads_front x e r) h)
token_refused bound text piece at end s t e (Refused (Unknown k)) x r h = (end, unknown x.front e k (reads_front x e r) h)
token_refused bound text piece at end s t e (Refused TooMany) x r h = (end, too_many x.front e (reads_front x e r) h)
token_refused bound text piece at end s t e NoMemory x r h = (end, no_memory)

pub token_unread : (bound : ℕ) (text piece : List ℕ) (at end : ℕ) (s t : State) → Slice text at end piece → ((e : Element) → Reads piece e → ⊥) → ReadsOn bound text at s t (Err (BadNotation at))
token_unread bound text piece at end s t x h = (end, unread x.front (λ e r. h e (subst (λ y. Reads y e) x.is r)))

pub no_room : (bound : ℕ) (text : List ℕ) (at end : ℕ) (s t : State) → ReadsOn bound text at s t (Err OutOfMemory)
no_room bound text at end s t = (end, no_memory)

-- a mark is a token by itself
mark_alone : (m : Mark) (x y : ℕ) → (if is_word_byte (mark_byte m) then x else (if nat_eq (mark_byte m) 0x22 then y else 1)) ≡ 1
mark_alone marks.BeginList x y = refl
mark_alone marks.EndList x y = refl
mark_alone marks.BeginMap x y = refl
mark_alone marks.EndMap x y = refl
mark_alone marks.BeginFields x y = refl
mark_alone marks.EndFields x y = refl
mark_alone marks.Comma x y = refl
mark_alone marks.Colon x y = refl
mark_alone marks.Named x y = refl

mark_length : (text : List ℕ) (at : ℕ) (m : Mark) → at < length text → get_or text at 0 ≡ mark_byte m → token_length (drop at text) ≡ 1
mark_length text at m h e =
    first_byte text at h
    ∙ ap (λ b. if is_word_byte b then suc (word_run (drop (at + 1) text)) else (if nat_eq b 0x22 then suc (closing false (drop (at + 1) text)) else 1)) e
    ∙ mark_alone m (suc (word_run (drop (at + 1) text))) (suc (closing false (drop (at + 1) text)))

mark_slice : (text : List ℕ) (at : ℕ) (m : Mark) → at < length text → get_or text at 0 ≡ mark_byte m → Slice text at (at + 1) (take (at + 1 - at) (drop at text))
mark_slice text at m h e = slice_at text at (at + 1) h (ap (λ n. at + n) (sym (mark_length text at m h e)))

mark_reads : (text : List ℕ) (at : ℕ) (m : Mark) → at < length text → get_or text at 0 ≡ mark_byte m → Reads (take (at + 1 - at) (drop at text)) (Sign m)
mark_reads text at m h e =
    let n : at + 1 - at ≡ 1 = omega arith in
    let piece : take (at + 1 - at) (drop at text) ≡ mark_byte m ∷ [] = ap (λ k. take k (drop at text)) n ∙ ap (take 1) (drop-cons text at 0 h) ∙ ap (λ b. b ∷ []) e in
    subst (λ t. Reads t (Sign m)) (sym piece) (sign m)

pub mark_read : (bound : ℕ) (text : List ℕ) (at : ℕ) (m : Mark) (s t : State) → at < length text → get_or text at 0 ≡ mark_byte m → step bound s (Sign m) ≡ Ok t → ReadsOn bound text at s t (Ok (at + 1))
mark_read bound text at m s t h e k = token_read bound text (take (at + 1 - at) (drop at text)) at (at + 1) s t (Sign m) (mark_slice text at m h e) (omega (arith, h)) (mark_reads text at m h e) k

pub mark_refused : (bound : ℕ) (text : List ℕ) (at : ℕ) (m : Mark) (s t : State) (stop : Stop) → at < length text → get_or text at 0 ≡ mark_byte m → Steps (Err stop) t (step bound s (Sign m)) → ReadsOn bound text at s t (Err (fault_of stop at))
mark_refused bound text at m s t stop h e k = token_refused bound text (take (at + 1 - at) (drop at text)) at (at + 1) s t (Sign m) stop (mark_slice text at m h e) (mark_reads text at m h e) k
