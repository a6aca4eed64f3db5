-- A stream has its frames in one way, and goes on with them.
use Rattle.std.proofs.Common.{◌≡◌, ℕ, ◌+◌, List, [], ◌∷◌, ◌++◌, length, ◌<◌, refl, sym, ap, ◌∙◌, append_assoc, length-append, arith}
use Rattle.std.proofs.lemmas.List.{append-nil}
use Rattle.std.specs.List.{AllByRecursion}
use Rattle.dubbo_header.specs.declared.header.Header.{Header}
use Rattle.dubbo_header.specs.Header.{header_bytes}
use Rattle.dubbo_header.proofs.HeaderLemmas.{length-header_bytes, same_header}
use Rattle.link_frames.specs.Frames.{Frame, IsFrame, HasFrames, Placed, FramesOf, BeginsNoFrame, frame_bytes, joined, placed}

-- fronts of one length and what stands behind them
pub append_same : (x y a b : List ℕ) → length x ≡ length y → x ++ a ≡ y ++ b → (x ≡ y) × (a ≡ b)
append_same [] [] a b l e = (refl, e)
append_same [] (y ∷ ys) a b l e = absurd (omega arith)
append_same (x ∷ xs) [] a b l e = absurd (omega arith)
append_same (x ∷ xs) (y ∷ ys) a b l e =
    let rest = append_same xs ys a b (omega arith) cc in
    let front : xs ≡ ys = rest.0 in
    let head : x ≡ y = cc in
    (cc, rest.1)

frame_same : (f g : Frame) → f.header ≡ g.header → f.body ≡ g.body → f ≡ g
frame_same f g h b = ap (λ (x : Header). record { header = x; body = f.body }) h ∙ ap (λ (x : List ℕ). record { header = g.header; body = x }) b

-- bytes begin with one frame at most
pub first_frame : (f g : Frame) (a b : List ℕ) → IsFrame f → IsFrame g → frame_bytes f ++ a ≡ frame_bytes g ++ b → (f ≡ g) × (a ≡ b)
first_frame f g a b p q e =
    let apart : header_bytes f.header ++ (f.body ++ a) ≡ header_bytes g.header ++ (g.body ++ b) = sym (append_assoc (header_bytes f.header) f.body a) ∙ e ∙ append_assoc (header_bytes g.header) g.body b in
    let header = same_header f.header g.header (f.body ++ a) (g.body ++ b) p.header q.header apart in
    let behind = append_same (header_bytes f.header) (header_bytes g.header) (f.body ++ a) (g.body ++ b) (length-header_bytes f.header ∙ sym (length-header_bytes g.header)) apart in
    let bodies = append_same f.body g.body a b (p.length ∙ ap (λ h. h.length) header ∙ sym q.length) behind.1 in
    (frame_same f g header bodies.0, bodies.1)

-- the frames that stand behind the first ones
pub record GoesOnWith (frames all : List Frame) (rest end : List ℕ) : Type 0 where
  pub later : List Frame
  pub whole : AllByRecursion IsFrame later
  pub split : all ≡ frames ++ later
  pub behind : rest ≡ joined later ++ end

pub leads_on : (frames all : List Frame) (rest end : List ℕ) → AllByRecursion IsFrame frames → AllByRecursion IsFrame all → BeginsNoFrame end → joined frames ++ rest ≡ joined all ++ end → GoesOnWith frames all rest end
leads_on [] all rest end p q n e = record { later = all; whole = q; split = refl; behind = e }
leads_on (f ∷ fs) [] rest end p q n e =
    absurd (n f (joined fs ++ rest) p.0 (sym e ∙ append_assoc (frame_bytes f) (joined fs) rest))
leads_on (f ∷ fs) (g ∷ gs) rest end p q n e =
    let first = first_frame f g (joined fs ++ rest) (joined gs ++ end) p.0 q.0 (sym (append_assoc (frame_bytes f) (joined fs) rest) ∙ e ∙ append_assoc (frame_bytes g) (joined gs) end) in
    let behind = leads_on fs gs rest end p.1 q.1 n first.1 in
    let head : f ≡ g = first.0 in
    let tail : gs ≡ fs ++ behind.later = behind.split in
    record { later = behind.later; whole = behind.whole; split = cc; behind = behind.behind }

none_later : (frames others later : List Frame) (rest more : List ℕ) → BeginsNoFrame rest → AllByRecursion IsFrame later → others ≡ frames ++ later → rest ≡ joined later ++ more → (frames ≡ others) × (rest ≡ more)
none_later frames others [] rest more n w e r = (sym (e ∙ append-nil frames), r)
none_later frames others (f ∷ later) rest more n w e r = absurd (n f (joined later ++ more) w.0 (r ∙ append_assoc (frame_bytes f) (joined later) more))

pub frames_same : (bytes : List ℕ) (frames others : List Frame) (rest more : List ℕ) → HasFrames bytes frames rest → HasFrames bytes others more → (frames ≡ others) × (rest ≡ more)
frames_same bytes frames others rest more h k =
    let on = leads_on frames others rest more h.whole k.whole k.none (sym h.split ∙ k.split) in
    none_later frames others on.later rest more h.none on.whole on.split on.behind

pub placed_same : (bytes : List ℕ) (found other : List Placed) (rest more : List ℕ) → FramesOf bytes found rest → FramesOf bytes other more → (found ≡ other) × (rest ≡ more)
placed_same bytes found other rest more h k =
    let same = frames_same bytes h.0 k.0 rest more h.1 k.1 in
    (h.2 ∙ ap (placed 0) same.0 ∙ sym k.2, same.1)

-- the first frames keep their places
placed-append : (at : ℕ) (frames later : List Frame) → (behind : List Placed) × (placed at (frames ++ later) ≡ placed at frames ++ behind)
placed-append at [] later = (placed at later, refl)
placed-append at (f ∷ fs) later =
    let behind = placed-append (at + length (frame_bytes f)) fs later in
    (behind.0, ap (λ (l : List Placed). record { at = at; frame = f } ∷ l) behind.1)

pub prefix_first : (bytes more : List ℕ) (found all : List Placed) (rest end : List ℕ) → FramesOf bytes found rest → FramesOf (bytes ++ more) all end → (later : List Placed) × (all ≡ found ++ later)
prefix_first bytes more found all rest end h k =
    let on = leads_on h.0 k.0 (rest ++ more) end h.1.whole k.1.whole k.1.none (sym (append_assoc (joined h.0) rest more) ∙ ap (λ (l : List ℕ). l ++ more) (sym h.1.split) ∙ k.1.split) in
    let behind = placed-append 0 h.0 on.later in
    (behind.0, k.2 ∙ ap (placed 0) on.split ∙ behind.1 ∙ ap (λ (l : List Placed). l ++ behind.0) (sym h.2))

pub length-frame_bytes : (frame : Frame) → length (frame_bytes frame) ≡ 16 + length frame.body
length-frame_bytes frame = length-append (header_bytes frame.header) frame.body ∙ ap (λ n. n + length frame.body) (length-header_bytes frame.header)

-- fewer than sixteen bytes begin no frame
pub short_none : (bytes : List ℕ) → length bytes < 16 → BeginsNoFrame bytes
short_none bytes short frame more whole e =
    omega (arith, ap length e, length-append (frame_bytes frame) more, length-frame_bytes frame)

pub joined_whole : (frames : List Frame) → AllByRecursion IsFrame frames → FramesOf (joined frames) (placed 0 frames) []
joined_whole frames whole =
    (frames, record { whole = whole; split = sym (append-nil (joined frames)); none = short_none [] (omega arith) }, refl)
