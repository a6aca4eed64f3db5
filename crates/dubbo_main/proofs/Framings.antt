-- What `frames` answers, frame by frame, and that it answers one status.
use Rattle.std.proofs.Common.{◌≡◌, ◌≢◌, ℕ, ◌+◌, ◌<◌, ◌≤◌, List, [], ◌∷◌, ◌++◌, length, refl, sym, ap, subst, ◌∙◌, arith, append_assoc, append-nil, length-append}
use Rattle.dubbo_header.specs.declared.header.Header.{Header}
use Rattle.link_frames.specs.Frames.{Frame, HasFrames, BeginsNoFrame, frame_bytes, placed}
use Rattle.link_frames.proofs.FramesLemmas.{length-frame_bytes, placed_same}
use Rattle.link_frames.proofs.ReadyLemmas.{first_of}
use Rattle.dubbo_main.specs.Finding.{IsFirst, frame_of}
use Rattle.dubbo_main.specs.FaultTexts.{damage_line}
use Rattle.dubbo_main.specs.FrameLines.{AreLinesOf, IsLineOf}
use Rattle.dubbo_main.specs.FrameLines.AreLinesOf.{none, more}
use Rattle.dubbo_main.specs.Framing.{FramesAnswers, IsDamagedBy, rest_text}
use Rattle.dubbo_main.specs.Framing.FramesAnswers.{whole, damaged}
use Rattle.dubbo_main.specs.declared.commands.frames.rest.RestFault.{RestFault}

pub frames_once : (input : List ℕ) (status status' : ℕ) (text text' : List ℕ) → FramesAnswers input status text → FramesAnswers input status' text' → status ≡ status'
frames_once input _ _ _ _ (whole fs ls is are) (whole fs' ls' is' are') = refl
frames_once input _ _ _ _ (whole fs ls is are) (damaged fs' rest' ls' at' fault' is' some' place' are' why') = absurd (some' (sym (placed_same input fs fs' [] rest' is is').1))
frames_once input _ _ _ _ (damaged fs rest ls at fault is some place are why) (whole fs' ls' is' are') = absurd (some (placed_same input fs fs' rest [] is is').1)
frames_once input _ _ _ _ (damaged fs rest ls at fault is some place are why) (damaged fs' rest' ls' at' fault' is' some' place' are' why') = refl

-- the frames of a stream, and what is printed of them
pub record HasLines (at : ℕ) (bytes rest text : List ℕ) : Type 0 where
  pub frames : List Frame
  pub has : HasFrames bytes frames rest
  pub lines : AreLinesOf (placed at frames) text

-- so far frames stand in the input and these lines are theirs: what is printed of the bytes left goes behind them
pub record IsShownTo (input left text : List ℕ) : Type 0 where
  pub fits : length left ≤ length input
  pub goes_on : (at : ℕ) (rest lines : List ℕ) → at + length left ≡ length input → HasLines at left rest lines → HasLines 0 input rest (text ++ lines)

first_length : (left behind : List ℕ) (header : Header) (body : List ℕ) → IsFirst left header body behind → length left ≡ length (frame_bytes (frame_of header body)) + length behind
first_length left behind header body first = ap length first.split ∙ length-append (frame_bytes (frame_of header body)) behind

pub behind_shorter : (left behind : List ℕ) (header : Header) (body : List ℕ) → IsFirst left header body behind → length behind < length left
behind_shorter left behind header body first = omega (arith, first_length left behind header body first, length-frame_bytes (frame_of header body))

-- the frame at the front, and its line
pub shown_more : (input left behind text line all : List ℕ) (at : ℕ) (header : Header) (body : List ℕ)
    → at + length left ≡ length input → IsFirst left header body behind → IsLineOf (record { at = at; frame = frame_of header body }) line → all ≡ text ++ line
    → IsShownTo input left text → IsShownTo input behind all
shown_more input left behind text line all at header body here first is written so =
    let frame : Frame = frame_of header body in
    let lengths : length left ≡ length (frame_bytes frame) + length behind = first_length left behind header body first in
    record {
      fits = omega (arith, so.fits, lengths);
      goes_on = λ next rest lines there has.
          let place : next ≡ at + length (frame_bytes frame) = omega (arith, lengths, here, there) in
          let longer : HasLines at left rest (line ++ lines) = record {
            frames = frame ∷ has.frames;
            has = first_of left behind frame has.frames rest first.whole first.split has.has;
            lines = more (record { at = at; frame = frame }) (placed (at + length (frame_bytes frame)) has.frames) line lines is (subst (λ n. AreLinesOf (placed n has.frames) lines) place has.lines);
          } in
          subst (λ t. HasLines 0 input rest t) (sym (append_assoc text line lines) ∙ ap (λ t. t ++ lines) (sym written)) (so.goes_on at rest (line ++ lines) here longer);
    }

-- what is left begins no frame, so the lines are those of all frames
pub shown_all : (input left text : List ℕ) (at : ℕ) → at + length left ≡ length input → BeginsNoFrame left → IsShownTo input left text → HasLines 0 input left text
shown_all input left text at here none_first so =
    subst (λ t. HasLines 0 input left t) (append-nil text)
    (so.goes_on at left [] here (record { frames = []; has = record { whole = tt; split = refl; none = none_first }; lines = none }))

-- the answer where nothing is left, and where something is
pub answers_whole : (input left text : List ℕ) → length left ≡ 0 → HasLines 0 input left text → FramesAnswers input 0 text
answers_whole input [] text empty has = whole (placed 0 has.frames) text (has.frames, has.has, refl) has.lines
answers_whole input (byte ∷ left) text empty has = absurd (omega arith)

pub answers_damaged : (input left text all : List ℕ) (at : ℕ) (fault : RestFault) → left ≢ [] → at + length left ≡ length input → IsDamagedBy left fault
    → all ≡ text ++ damage_line (rest_text at fault) → HasLines 0 input left text → FramesAnswers input 8 all
answers_damaged input left text all at fault some here why written has =
    subst (λ t. FramesAnswers input 8 t) (sym written)
    (damaged (placed 0 has.frames) left text at fault (has.frames, has.has, refl) some here has.lines why)
