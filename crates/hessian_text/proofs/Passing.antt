-- Items, contents, heads and chunks, as runs of the machine.
use Rattle.std.proofs.Common.{◌≡◌, ℕ, ◌+◌, ◌*◌, ◌-◌, ◌<◌, ◌≤◌, List, [], ◌∷◌, ◌++◌, refl, sym, ap, ◌∙◌, subst, arith, append_assoc}
use Rattle.std.specs.Prelude.{Some}
use Rattle.std.proofs.lemmas.List.{append-nil}
use Rattle.hessian_text.specs.declared.stage.Kind.{Kind}
use Rattle.hessian_text.specs.declared.stage.Kind.TheVariants.{Text, Binary}
use Rattle.hessian_text.specs.declared.stage.Part.{Part}
use Rattle.hessian_text.specs.declared.stage.Part.TheVariants.{Inner, Final}
use Rattle.hessian_text.specs.declared.stage.Begun.{Begun}
use Rattle.hessian_text.specs.declared.stage.Begun.TheVariants.{Nothing}
use Rattle.hessian_text.specs.declared.stage.Letter.{Letter}
use Rattle.hessian_text.specs.declared.stage.Stage.{Stage}
use Rattle.hessian_text.specs.declared.stage.Stage.TheVariants.{Code, High, Low, Inside}
use Rattle.hessian_text.specs.declared.step.Item.{Item}
use Rattle.hessian_text.specs.declared.step.Item.TheVariants.{Grows, Whole, Wrong}
use Rattle.hessian_text.specs.ChunkHead.{ChunkHead}
use Rattle.hessian_text.specs.ChunkHead.ChunkHead.{text_short, text_middle, text_inner, text_final, binary_short, binary_middle, binary_inner, binary_final}
use Rattle.hessian_text.specs.Items.{IsItem, Contents}
use Rattle.hessian_text.specs.Items.Contents.{none, item}
use Rattle.hessian_text.specs.Spelling.{AreBytes}
use Rattle.hessian_text.specs.Refusal.{InnerChunks, IsBeforeItem, BeginsNoItem}
use Rattle.hessian_text.specs.Refusal.InnerChunks.{none as no_chunks, chunk as one_chunk}
use Rattle.hessian_text.specs.Residual.{begun_bytes}
use Rattle.hessian_text.specs.Sound.{SoundBegun}
use Rattle.hessian_text.specs.Steps.{letter_bytes, letter_units, entered, after_code, arrived, taken, item_step, Runs}
use Rattle.hessian_text.specs.Steps.Runs.{stay, go}
use Rattle.hessian_text.proofs.Characters.{Goes, item_forward, item_ended, item_grown, item_live, item_some}
use Rattle.hessian_text.proofs.Characters.Goes.{grown, ended}
use Rattle.hessian_text.proofs.Stages.{entered_some, text_short_code, text_middle_code, binary_short_code, binary_middle_code}
use Rattle.hessian_text.proofs.Running.{first_small, later_small, runs_more, runs_one, no_more}

-- ---- an item

ended_run : (kind : Kind) (part : Part) (left n : ℕ) (begun : Begun) (b : ℕ) (v bs : List ℕ) (w : Letter) → item_step kind left begun b ≡ Whole w → letter_bytes w ≡ v → letter_units w ≡ n → [] ≡ bs → Runs kind (Inside part left begun) (b ∷ bs) (entered part (left - n)) v
ended_run kind part left n begun b v bs w e p q r =
    let one = runs_one kind (Inside part left begun) (entered part (left - letter_units w)) b (letter_bytes w) (ap (taken part left) e) in
    subst (λ x. Runs kind (Inside part left begun) (b ∷ x) (entered part (left - n)) v) r (subst (λ m. Runs kind (Inside part left begun) (b ∷ []) (entered part (left - m)) v) q (subst (λ x. Runs kind (Inside part left begun) (b ∷ []) (entered part (left - letter_units w)) x) p one))

-- the bytes of an item that are left lead behind it
item_run : (ms : List ℕ) (kind : Kind) (part : Part) (left n : ℕ) (begun : Begun) (v form : List ℕ) → IsItem kind v n form → n ≤ left → SoundBegun kind left begun → form ≡ begun_bytes begun ++ ms → Runs kind (Inside part left begun) ms (entered part (left - n)) v
item_run [] kind part left n begun v form i fits s e = absurd (no_more kind left begun n v form [] s i fits (append-nil form ∙ e ∙ append-nil (begun_bytes begun)))
item_run (b ∷ bs) kind part left n begun v form i fits s e = by_goes (item_forward kind left begun b n v form [] bs i s fits (append-nil form ∙ e)) (λ p k q. item_run bs kind part left n p v form i fits k q)
  where
    by_goes : Goes (item_step kind left begun b) begun b bs v n [] → ((p : Begun) → SoundBegun kind left p → form ≡ begun_bytes p ++ bs → Runs kind (Inside part left p) bs (entered part (left - n)) v) → Runs kind (Inside part left begun) (b ∷ bs) (entered part (left - n)) v
    by_goes (grown p is same) rec =
        let q : form ≡ begun_bytes p ++ bs = e ∙ sym (append_assoc (begun_bytes begun) (b ∷ []) bs) ∙ ap (λ x. x ++ bs) (sym same) in
        go (Inside part left begun) (Inside part left p) (entered part (left - n)) b bs [] v (ap (taken part left) is) (rec p (item_grown kind left begun b p s is).sound q)
    by_goes (ended w is x y z) rec = ended_run kind part left n begun b v bs w is x y z

-- ---- contents

left_at : (kind : Kind) (s : Stage) (part : Part) (m n : ℕ) (xs v : List ℕ) → m ≡ n → Runs kind s xs (entered part m) v → Runs kind s xs (entered part n) v
left_at kind s part m n xs v e r = subst (λ k. Runs kind s xs (entered part k) v) e r

pub contents_run : (kind : Kind) (part : Part) (left n : ℕ) (value forms : List ℕ) → Contents kind value n forms → n ≤ left → Runs kind (entered part left) forms (entered part (left - n)) value
contents_run kind part left n value forms none fits = left_at kind (entered part left) part left (left - 0) [] [] (omega arith) (stay (entered part left))
contents_run kind part left n value forms (item v form vs fs units more i c) fits =
    let some = item_some kind v units form i in
    let one : Runs kind (Inside part left Nothing) form (entered part (left - units)) v = item_run form kind part left units Nothing v form i (omega arith) tt refl in
    let rest = contents_run kind part (left - units) more vs fs c (omega arith) in
    let all = runs_more kind (Inside part left Nothing) (entered part (left - units)) (entered part (left - units - more)) form fs v vs one rest in
    subst (λ s. Runs kind s (form ++ fs) (entered part (left - (units + more))) (v ++ vs)) (sym (entered_some part left (omega (arith, some)))) (left_at kind (Inside part left Nothing) part (left - units - more) (left - (units + more)) (form ++ fs) (v ++ vs) (omega arith) all)

-- ---- heads

run_middle : (kind : Kind) (part : Part) (c high b0 n : ℕ) → after_code kind c ≡ Some (Low part high) → n ≡ high * 256 + b0 → Runs kind Code (c ∷ b0 ∷ []) (entered part n) []
run_middle kind part c high b0 n e k = left_at kind Code part (high * 256 + b0) n (c ∷ b0 ∷ []) [] (sym k) (go Code (Low part high) (entered part (high * 256 + b0)) c (b0 ∷ []) [] [] (ap arrived e) (runs_one kind (Low part high) (entered part (high * 256 + b0)) b0 [] refl))

run_long : (kind : Kind) (part : Part) (c b1 b0 n : ℕ) → after_code kind c ≡ Some (High part) → n ≡ b1 * 256 + b0 → Runs kind Code (c ∷ b1 ∷ b0 ∷ []) (entered part n) []
run_long kind part c b1 b0 n e k = left_at kind Code part (b1 * 256 + b0) n (c ∷ b1 ∷ b0 ∷ []) [] (sym k) (go Code (High part) (entered part (b1 * 256 + b0)) c (b1 ∷ b0 ∷ []) [] [] (ap arrived e) (go (High part) (Low part b1) (entered part (b1 * 256 + b0)) b1 (b0 ∷ []) [] [] refl (runs_one kind (Low part b1) (entered part (b1 * 256 + b0)) b0 [] refl)))

pub head_run : (kind : Kind) (part : Part) (n : ℕ) (head : List ℕ) → ChunkHead kind part n head → Runs kind Code head (entered part n) []
head_run kind part n head (text_short c m h e) = left_at Text Code Final c m (c ∷ []) [] (sym e) (runs_one Text Code (entered Final c) c [] (ap arrived (text_short_code c h)))
head_run kind part n head (text_middle c b0 m h s e) = run_middle Text Final c (c - 0x30) b0 m (text_middle_code c h) e
head_run kind part n head (text_inner b1 b0 m s1 s0 e) = run_long Text Inner 0x52 b1 b0 m refl e
head_run kind part n head (text_final b1 b0 m s1 s0 e) = run_long Text Final 0x53 b1 b0 m refl e
head_run kind part n head (binary_short c m h e) = left_at Binary Code Final (c - 0x20) m (c ∷ []) [] (sym e) (runs_one Binary Code (entered Final (c - 0x20)) c [] (ap arrived (binary_short_code c h)))
head_run kind part n head (binary_middle c b0 m h s e) = run_middle Binary Final c (c - 0x34) b0 m (binary_middle_code c h) e
head_run kind part n head (binary_inner b1 b0 m s1 s0 e) = run_long Binary Inner 0x41 b1 b0 m refl e
head_run kind part n head (binary_final b1 b0 m s1 s0 e) = run_long Binary Final 0x42 b1 b0 m refl e

-- ---- chunks

-- bytes lead from a code to a stage
pub record LeadsTo (kind : Kind) (s : Stage) (bytes : List ℕ) (t : Stage) : Type 0 where
  pub gained : List ℕ
  pub runs : Runs kind s bytes t gained

pub leads_on : (kind : Kind) (s t u : Stage) (xs ys : List ℕ) → LeadsTo kind s xs t → LeadsTo kind t ys u → LeadsTo kind s (xs ++ ys) u
leads_on kind s t u xs ys p q = record { gained = p.gained ++ q.gained; runs = runs_more kind s t u xs ys p.gained q.gained p.runs q.runs }

chunk_leads : (kind : Kind) (part : Part) (n m left : ℕ) (head value forms : List ℕ) → ChunkHead kind part n head → Contents kind value m forms → m + left ≡ n → LeadsTo kind Code (head ++ forms) (entered part left)
chunk_leads kind part n m left head value forms h c e =
    let r = contents_run kind part n m value forms c (omega arith) in
    leads_on kind Code (entered part n) (entered part left) head forms (record { gained = []; runs = head_run kind part n head h }) (record { gained = value; runs = left_at kind (entered part n) part (n - m) left forms value (omega arith) r })

pub chunks_lead : (kind : Kind) (chunks : List ℕ) → InnerChunks kind chunks → LeadsTo kind Code chunks Code
chunks_lead kind chunks no_chunks = record { gained = []; runs = stay Code }
chunks_lead kind chunks (one_chunk value head forms rest units h c more) =
    let one : LeadsTo kind Code (head ++ forms) Code = chunk_leads kind Inner units units 0 head value forms h c (omega arith) in
    subst (λ x. LeadsTo kind Code x Code) (append_assoc head forms rest) (leads_on kind Code Code Code (head ++ forms) rest one (chunks_lead kind rest more))

pub before_leads : (kind : Kind) (part : Part) (left : ℕ) (bytes : List ℕ) → IsBeforeItem kind part left bytes → LeadsTo kind Code bytes (Inside part left Nothing)
before_leads kind part left bytes b =
    let two = leads_on kind Code Code (entered part left) b.chunks (b.head ++ b.forms) (chunks_lead kind b.chunks b.earlier) (chunk_leads kind part b.stated b.units left b.head b.value b.forms b.begins b.contents b.are_left) in
    subst (λ s. LeadsTo kind Code bytes s) (entered_some part left b.some_left) (subst (λ x. LeadsTo kind Code x (entered part left)) (sym b.bytes_are) two)

-- ---- bytes that begin no item are refused inside it

pub record IsStuck (kind : Kind) (part : Part) (left : ℕ) (begun : Begun) (tail : List ℕ) : Type 0 where
  pub last : Begun
  pub inside : List ℕ
  pub b : ℕ
  pub rest : List ℕ
  pub parts : tail ≡ inside ++ b ∷ rest
  pub leads : LeadsTo kind (Inside part left begun) inside (Inside part left last)
  pub came : begun_bytes last ≡ begun_bytes begun ++ inside
  pub wrong : item_step kind left last b ≡ Wrong

pub gets_stuck : (tail : List ℕ) (kind : Kind) (part : Part) (left : ℕ) (begun : Begun) → 0 < left → AreBytes tail → SoundBegun kind left begun → BeginsNoItem kind left (begun_bytes begun ++ tail) → IsStuck kind part left begun tail
gets_stuck [] kind part left begun some small s never = absurd (let l = item_live kind left begun some s in never l.value (begun_bytes begun ++ l.first ∷ l.more) (l.first ∷ l.more) [] l.units l.item l.fits (ap (λ x. x ++ l.first ∷ l.more) (append-nil (begun_bytes begun)) ∙ sym (append-nil (begun_bytes begun ++ l.first ∷ l.more))))
gets_stuck (b ∷ bs) kind part left begun some small s never = by_item (item_step kind left begun b) refl (λ p k q. gets_stuck bs kind part left p some (later_small b bs small) k q)
  where
    by_item : (out : Item) → item_step kind left begun b ≡ out → ((p : Begun) → SoundBegun kind left p → BeginsNoItem kind left (begun_bytes p ++ bs) → IsStuck kind part left p bs) → IsStuck kind part left begun (b ∷ bs)
    by_item (Grows p) e rec =
        let g = item_grown kind left begun b p s e in
        let same : begun_bytes p ++ bs ≡ begun_bytes begun ++ b ∷ bs = ap (λ x. x ++ bs) g.grown ∙ append_assoc (begun_bytes begun) (b ∷ []) bs in
        let r = rec p g.sound (subst (λ x. BeginsNoItem kind left x) (sym same) never) in
        record {
          last = r.last;
          inside = b ∷ r.inside;
          b = r.b;
          rest = r.rest;
          parts = ap (λ x. b ∷ x) r.parts;
          leads = record { gained = r.leads.gained; runs = go (Inside part left begun) (Inside part left p) (Inside part left r.last) b r.inside [] r.leads.gained (ap (taken part left) e) r.leads.runs };
          came = r.came ∙ ap (λ x. x ++ r.inside) g.grown ∙ append_assoc (begun_bytes begun) (b ∷ []) r.inside;
          wrong = r.wrong;
        }
    by_item (Whole w) e rec = absurd (let i = item_ended kind left begun b w some (first_small b bs small) s e in never (letter_bytes w) (begun_bytes begun ++ b ∷ []) [] bs (letter_units w) i.item i.fits (append-nil (begun_bytes begun ++ b ∷ bs) ∙ sym (append_assoc (begun_bytes begun) (b ∷ []) bs)))
    by_item Wrong e rec = record { last = begun; inside = []; b = b; rest = bs; parts = refl; leads = record { gained = []; runs = stay (Inside part left begun) }; came = sym (append-nil (begun_bytes begun)); wrong = e }
