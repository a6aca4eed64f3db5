-- What the steps of a reading keep, one byte and many in a run.
use Rattle.std.proofs.Common.{◌≡◌, ℕ, ◌+◌, ◌*◌, ◌-◌, ◌<◌, ◌≤◌, List, [], ◌∷◌, ◌++◌, length, take, drop, refl, sym, ap, ◌∙◌, subst, arith, append_assoc}
use Rattle.std.specs.Prelude.{Some, IsUtf8}
use Rattle.std.proofs.lemmas.List.{append-nil, length-drop, take_all}
use Rattle.std.proofs.Math.Seq.{take-add}
use Rattle.std.proofs.lemmas.Str.{IsUtf8-nil, IsUtf8-append, IsUtf8-encode}
use Rattle.hessian_text.specs.declared.stage.Kind.{Kind}
use Rattle.hessian_text.specs.declared.stage.Kind.TheVariants.{Text, Binary}
use Rattle.hessian_text.specs.declared.stage.Part.{Part}
use Rattle.hessian_text.specs.declared.stage.Begun.{Begun}
use Rattle.hessian_text.specs.declared.stage.Begun.TheVariants.{Nothing}
use Rattle.hessian_text.specs.declared.stage.Stage.{Stage}
use Rattle.hessian_text.specs.declared.stage.Stage.TheVariants.{Code, High, Low, Inside, Ended}
use Rattle.hessian_text.specs.declared.step.Item.{Item}
use Rattle.hessian_text.specs.declared.step.Item.TheVariants.{Grows, Whole, Wrong}
use Rattle.hessian_text.specs.Items.{IsCharacter, Contents}
use Rattle.hessian_text.specs.Items.Contents.{none, item}
use Rattle.hessian_text.specs.Residual.{begun_bytes}
use Rattle.hessian_text.specs.Sound.{SoundBegun, SoundStage}
use Rattle.hessian_text.specs.Steps.{letter_bytes, letter_units, entered, after_code, item_step, taken, step, Runs}
use Rattle.hessian_text.specs.Steps.Runs.{stay, go}
use Rattle.hessian_text.specs.Reader.{Reading, SoundReading, Advances, RefusesItem}
use Rattle.hessian_text.proofs.Characters.{item_ended}
use Rattle.hessian_text.proofs.Stages.{moved_is, arrived_is, entered_some}
use Rattle.hessian_text.proofs.Keeping.{entered_sound, stage_sound}
use Rattle.hessian_text.proofs.Running.{runs_more, runs_one}
use Rattle.hessian_text.proofs.ItemRuns.{contents_runs}

-- ---- what a text gains is UTF-8

utf8_at : (g h : List ℕ) → g ≡ h → IsUtf8 h → IsUtf8 g
utf8_at g h e u = rw e u

letter_text : (value : List ℕ) (units : ℕ) (form : List ℕ) → IsCharacter value units form → IsUtf8 value
letter_text value units form i = rw i.value_is (IsUtf8-encode i.char i.scalar)

taken_text : (part : Part) (left : ℕ) (begun : Begun) (b : ℕ) (t : Stage) (g : List ℕ) (out : Item) → 0 < left → b < 256 → SoundBegun Text left begun → item_step Text left begun b ≡ out → taken part left out ≡ Some (t, g) → IsUtf8 g
taken_text part left begun b t g (Grows p) some small s is e = utf8_at g [] (sym (moved_is (Inside part left p) t [] g e).1) IsUtf8-nil
taken_text part left begun b t g (Whole w) some small s is e = utf8_at g (letter_bytes w) (sym (moved_is (entered part (left - letter_units w)) t (letter_bytes w) g e).1) (letter_text (letter_bytes w) (letter_units w) (begun_bytes begun ++ b ∷ []) (item_ended Text left begun b w some small s is).item)
taken_text part left begun b t g Wrong some small s is e = absurd (cc)

gained_text : (s t : Stage) (b : ℕ) (g : List ℕ) → SoundStage Text s → b < 256 → step Text s b ≡ Some (t, g) → IsUtf8 g
gained_text Code t b g s small e = utf8_at g [] (arrived_is (after_code Text b) t g e).1 IsUtf8-nil
gained_text (High part) t b g s small e = utf8_at g [] (sym (moved_is (Low part b) t [] g e).1) IsUtf8-nil
gained_text (Low part high) t b g s small e = utf8_at g [] (sym (moved_is (entered part (high * 256 + b)) t [] g e).1) IsUtf8-nil
gained_text (Inside part left begun) t b g s small e = taken_text part left begun b t g (item_step Text left begun b) s.0 small s.2 refl e
gained_text Ended t b g s small e = absurd (cc)

-- ---- one byte

pub sound_next : (kind : Kind) (s t : Stage) (b : ℕ) (done more g : List ℕ) → SoundReading (record { kind = kind; done = done; stage = s }) → b < 256 → step kind s b ≡ Some (t, g) → more ≡ done ++ g → SoundReading (record { kind = kind; done = more; stage = t })
sound_next kind s t b done more g h small e is = record {
  stage = stage_sound kind s t b g h.stage small e;
  text = λ k. utf8_at more (done ++ g) is (IsUtf8-append done g (h.text k) (text_gain kind s t b g k h.stage small e));
}
  where
    text_gain : (kind : Kind) (s t : Stage) (b : ℕ) (g : List ℕ) → kind ≡ Text → SoundStage kind s → b < 256 → step kind s b ≡ Some (t, g) → IsUtf8 g
    text_gain Text s t b g k h small e = gained_text s t b g h small e
    text_gain Binary s t b g k h small e = absurd (cc)

pub advances_one : (kind : Kind) (s t : Stage) (b : ℕ) (done more g : List ℕ) → step kind s b ≡ Some (t, g) → more ≡ done ++ g → Advances (record { kind = kind; done = done; stage = s }) (b ∷ []) (record { kind = kind; done = more; stage = t })
advances_one kind s t b done more g e is = record { gained = g; kind = refl; runs = runs_one kind s t b g e; done = is }

pub advances_none : (r : Reading) → Advances r [] r
advances_none r = record { gained = []; kind = refl; runs = stay r.stage; done = sym (append-nil r.done) }

pub advances_more : (a b c : Reading) (xs ys : List ℕ) → Advances a xs b → Advances b ys c → Advances a (xs ++ ys) c
advances_more a b c xs ys p q = record {
  gained = p.gained ++ q.gained;
  kind = q.kind ∙ p.kind;
  runs = runs_more a.kind a.stage b.stage c.stage xs ys p.gained q.gained p.runs (subst (λ k. Runs k b.stage ys c.stage q.gained) p.kind q.runs);
  done = q.done ∙ ap (λ x. x ++ q.gained) p.done ∙ append_assoc a.done p.gained q.gained;
}

pub advances_on : (a b c : Reading) (n m : ℕ) (piece : List ℕ) → Advances a (take n piece) b → Advances b (take m (drop n piece)) c → Advances a (take (n + m) piece) c
advances_on a b c n m piece p q = rw (take-add n m piece) (advances_more a b c (take n piece) (take m (drop n piece)) p q)

-- ---- whole items

pub advances_items : (kind : Kind) (part : Part) (left units : ℕ) (s t : Stage) (done value more forms : List ℕ) → s ≡ Inside part left Nothing → 0 < left → t ≡ entered part (left - units) → units ≤ left → Contents kind value units forms → more ≡ done ++ value → Advances (record { kind = kind; done = done; stage = s }) forms (record { kind = kind; done = more; stage = t })
advances_items kind part left units s t done value more forms is some to fit c e =
    let r = contents_runs kind part left units value forms c fit in
    let m : entered part left ≡ s = entered_some part left some ∙ sym is in
    record { gained = value; kind = refl; runs = subst (λ x. Runs kind s forms x value) (sym to) (subst (λ x. Runs kind x forms (entered part (left - units)) value) m r); done = e }

contents_text : (value forms : List ℕ) (units : ℕ) → Contents Text value units forms → IsUtf8 value
contents_text value forms units none = IsUtf8-nil
contents_text value forms units (item v form vs fs n more i c) = IsUtf8-append v vs (letter_text v n form i) (contents_text vs fs more c)

pub sound_items : (kind : Kind) (part : Part) (left units : ℕ) (s t : Stage) (done value more forms : List ℕ) → SoundReading (record { kind = kind; done = done; stage = s }) → left < 65536 → t ≡ entered part (left - units) → Contents kind value units forms → more ≡ done ++ value → SoundReading (record { kind = kind; done = more; stage = t })
sound_items kind part left units s t done value more forms h small to c e = record {
  stage = subst (λ x. SoundStage kind x) (sym to) (entered_sound kind part (left - units) (omega arith));
  text = λ k. utf8_at more (done ++ value) e (IsUtf8-append done value (h.text k) (contents_text value forms units (subst (λ x. Contents x value units forms) k c)));
}

pub inside_some : (kind : Kind) (s : Stage) (part : Part) (left : ℕ) (begun : Begun) → s ≡ Inside part left begun → SoundStage kind s → (0 < left) × (left < 65536)
inside_some kind s part left begun e h = parts (subst (λ x. SoundStage kind x) e h)
  where
    parts : SoundStage kind (Inside part left begun) → (0 < left) × (left < 65536)
    parts k = (k.0, k.1)

same_reading : (a b : Reading) (g : List ℕ) → b.kind ≡ a.kind → b.done ≡ a.done ++ g → g ≡ [] → b.stage ≡ a.stage → b ≡ a
same_reading a b g k d e s = reading_is b.kind a.kind b.done a.done b.stage a.stage k (d ∙ ap (λ x. a.done ++ x) e ∙ append-nil a.done) s
  where
    reading_is : (k k' : Kind) (d d' : List ℕ) (s s' : Stage) → k ≡ k' → d ≡ d' → s ≡ s' → ◌≡◌ {A = Reading} (record { kind = k; done = d; stage = s }) (record { kind = k'; done = d'; stage = s' })
    reading_is k k' d d' s s' p q r = rw (p, q, r) refl

nowhere : (kind : Kind) (s t : Stage) (xs g : List ℕ) → Runs kind s xs t g → xs ≡ [] → (t ≡ s) × (g ≡ [])
nowhere kind s t xs g (stay u) e = (refl, refl)
nowhere kind s t xs g (go s' u t' b bs a more k r) e = absurd (cc)

pub advances_nothing : (a b : Reading) (piece : List ℕ) (n : ℕ) → n ≡ 0 → Advances a (take n piece) b → b ≡ a
advances_nothing a b piece n z p = let k = nowhere a.kind a.stage b.stage (take n piece) p.gained p.runs (ap (λ x. take x piece) z) in same_reading a b p.gained p.kind p.done k.1 k.0

pub item_told : (a m new : Reading) (b k : ℕ) → m ≡ a → RefusesItem m.kind m.stage b k × (new ≡ m) → RefusesItem a.kind a.stage b k × (new ≡ a)
item_told a m new b k e h = subst (λ r. RefusesItem r.kind r.stage b k × (new ≡ r)) e h

pub rest_is : (at : ℕ) (xs : List ℕ) → take (length xs - at) (drop at xs) ≡ drop at xs
rest_is at xs = take_all (length xs - at) (drop at xs) (let len : length (drop at xs) ≡ length xs - at = length-drop at xs in omega (arith, len))
