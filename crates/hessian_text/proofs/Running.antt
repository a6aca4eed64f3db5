-- Runs of bytes: what they keep, and the laws of spellings.
use Rattle.std.proofs.Common.{◌≡◌, ◌≢◌, ℕ, zero, suc, ◌+◌, ◌*◌, ◌-◌, ◌<◌, ◌≤◌, List, [], ◌∷◌, ◌++◌, refl, sym, ap, ◌∙◌, subst, arith, append_assoc}
use Rattle.std.specs.Prelude.{Some}
use Rattle.std.proofs.lemmas.List.{append-nil}
use Rattle.hessian_text.specs.declared.stage.Kind.{Kind}
use Rattle.hessian_text.specs.declared.stage.Kind.TheVariants.{Text, Binary}
use Rattle.hessian_text.specs.declared.stage.Part.{Part}
use Rattle.hessian_text.specs.declared.stage.Part.TheVariants.{Inner, Final}
use Rattle.hessian_text.specs.declared.stage.Begun.{Begun}
use Rattle.hessian_text.specs.declared.stage.Begun.TheVariants.{Nothing}
use Rattle.hessian_text.specs.declared.stage.Stage.{Stage}
use Rattle.hessian_text.specs.declared.stage.Stage.TheVariants.{Code, High, Low, Inside, Ended}
use Rattle.hessian_text.specs.declared.step.Item.TheVariants.{Grows, Wrong}
use Rattle.hessian_text.specs.ChunkHead.{ChunkHead}
use Rattle.hessian_text.specs.ChunkHead.ChunkHead.{text_short, binary_short, text_middle, text_inner, text_final, binary_middle, binary_inner, binary_final}
use Rattle.hessian_text.specs.Items.{IsItem, Contents}
use Rattle.hessian_text.specs.Items.Contents.{none, item}
use Rattle.hessian_text.specs.Spelling.{AreBytes, Spelling, IsCutShort}
use Rattle.hessian_text.specs.Residual.{begun_bytes, Follows, IsRest, Completes}
use Rattle.hessian_text.specs.Sound.{SoundBegun, SoundStage}
use Rattle.hessian_text.specs.Steps.{item_step, step, Runs}
use Rattle.hessian_text.specs.Steps.Runs.{stay, go}
use Rattle.hessian_text.proofs.Characters.{Goes, IsLive, item_forward, item_live, item_some, wrong_ff}
use Rattle.hessian_text.proofs.Characters.Goes.{grown, ended}
use Rattle.hessian_text.proofs.Stages.{to_headed, headed, stage_forward, stage_back, moved_is}
use Rattle.hessian_text.proofs.Keeping.{stage_sound}

pub first_small : (b : ℕ) (bs : List ℕ) → AreBytes (b ∷ bs) → b < 256
first_small b bs h = h.small 0 (omega arith)

pub later_small : (b : ℕ) (bs : List ℕ) → AreBytes (b ∷ bs) → AreBytes bs
later_small b bs h = record { small = λ i k. h.small (suc i) (omega arith) }

pub runs_back : (kind : Kind) (s t : Stage) (xs ys gained value : List ℕ) → Runs kind s xs t gained → SoundStage kind s → AreBytes xs → Completes kind t value ys → Completes kind s (gained ++ value) (xs ++ ys)
runs_back kind s t xs ys gained value (stay u) sound small c = c
runs_back kind s t xs ys gained value (go s' u t' b bs g h e more) sound small c =
    let low = first_small b bs small in
    let k = runs_back kind u t bs ys h value more (stage_sound kind s u b g sound low e) (later_small b bs small) c in
    subst (λ v. Completes kind s v (b ∷ (bs ++ ys))) (sym (append_assoc g h value)) (stage_back kind s u b g (h ++ value) (bs ++ ys) sound low e k)

pub runs_sound : (kind : Kind) (s t : Stage) (xs gained : List ℕ) → Runs kind s xs t gained → SoundStage kind s → AreBytes xs → SoundStage kind t
runs_sound kind s t xs gained (stay u) sound small = sound
runs_sound kind s t xs gained (go s' u t' b bs g h e more) sound small = runs_sound kind u t bs h more (stage_sound kind s u b g sound (first_small b bs small) e) (later_small b bs small)

-- what is still to come behind a run
pub record Later (kind : Kind) (t : Stage) (gained value bytes : List ℕ) : Type 0 where
  pub more : List ℕ
  pub value_is : value ≡ gained ++ more
  pub completes : Completes kind t more bytes

pub runs_forward : (kind : Kind) (s t : Stage) (xs ys gained value : List ℕ) → Runs kind s xs t gained → SoundStage kind s → AreBytes xs → Completes kind s value (xs ++ ys) → Later kind t gained value ys
runs_forward kind s t xs ys gained value (stay u) sound small c = record { more = value; value_is = refl; completes = c }
runs_forward kind s t xs ys gained value (go s' u t' b bs g h e more) sound small c =
    let a = stage_forward kind s b value (bs ++ ys) sound c in
    let m = moved_is u a.next g a.gained (sym e ∙ a.is) in
    let k : Completes kind u a.more (bs ++ ys) = subst (λ x. Completes kind x a.more (bs ++ ys)) (sym m.0) a.completes in
    let r = runs_forward kind u t bs ys h a.more more (stage_sound kind s u b g sound (first_small b bs small) e) (later_small b bs small) k in
    record { more = r.more; value_is = a.value_is ∙ ap (λ x. x ++ a.more) (sym m.1) ∙ ap (λ x. g ++ x) r.value_is ∙ sym (append_assoc g h r.more); completes = r.completes }

pub runs_more : (kind : Kind) (s t u : Stage) (xs ys g h : List ℕ) → Runs kind s xs t g → Runs kind t ys u h → Runs kind s (xs ++ ys) u (g ++ h)
runs_more kind s t u xs ys g h (stay v) r = r
runs_more kind s t u xs ys g h (go s' v t' b bs a c e more) r = subst (λ x. Runs kind s (b ∷ (bs ++ ys)) u x) (sym (append_assoc a c h)) (go s v u b (bs ++ ys) a (c ++ h) e (runs_more kind v t u bs ys c h more r))

pub runs_one : (kind : Kind) (s t : Stage) (b : ℕ) (g : List ℕ) → step kind s b ≡ Some (t, g) → Runs kind s (b ∷ []) t g
runs_one kind s t b g e = subst (λ x. Runs kind s (b ∷ []) t x) (append-nil g) (go s t t b [] g [] e (stay t))

-- ---- nothing to come only at the end

form_cons : (x : ℕ) (xs : List ℕ) → x ∷ xs ≡ [] → ⊥
form_cons x xs e = cc

append_cons : (xs ys : List ℕ) (y : ℕ) → xs ++ y ∷ ys ≡ [] → ⊥
append_cons [] ys y e = cc
append_cons (x ∷ xs) ys y e = cc

pub no_more : (kind : Kind) (left : ℕ) (begun : Begun) (units : ℕ) (value form rest : List ℕ) → SoundBegun kind left begun → IsItem kind value units form → units ≤ left → form ++ rest ≡ begun_bytes begun → ⊥
no_more kind left begun units value form rest s i fit e = by_goes kind left begun units value rest s (item_forward kind left begun 0xff units value form (rest ++ 0xff ∷ []) [] i s fit (sym (append_assoc form rest (0xff ∷ [])) ∙ ap (λ x. x ++ 0xff ∷ []) e))
  where
    by_goes : (kind : Kind) (left : ℕ) (begun : Begun) (units : ℕ) (value rest : List ℕ) → SoundBegun kind left begun → Goes (item_step kind left begun 0xff) begun 0xff [] value units (rest ++ 0xff ∷ []) → ⊥
    by_goes Text left begun units value rest s (grown p is same) = let k : Grows p ≡ Wrong = sym is ∙ wrong_ff left begun in cc
    by_goes Binary left begun units value rest s (grown p is same) = cc
    by_goes kind left begun units value rest s (ended w is a b r) = append_cons rest [] 0xff r

inside_more : (kind : Kind) (left n : ℕ) (begun : Begun) (inside forms after : List ℕ) → 0 < left → SoundBegun kind left begun → Contents kind inside n forms → n ≡ left → begun_bytes begun ++ [] ≡ forms ++ after → ⊥
inside_more kind left n begun inside forms after some s none e k = omega arith
inside_more kind left n begun inside forms after some s (item v form vs fs units more i c) e k = no_more kind left begun units v form (fs ++ after) s i (omega arith) (sym (append_assoc form fs after) ∙ sym k ∙ append-nil (begun_bytes begun))

head_some : (kind : Kind) (part : Part) (n : ℕ) (head rest : List ℕ) → ChunkHead kind part n head → head ++ rest ≡ [] → ⊥
head_some kind part n head rest (text_short c m h e) k = cc
head_some kind part n head rest (text_middle c b0 m h s e) k = cc
head_some kind part n head rest (text_inner b1 b0 m s1 s0 e) k = cc
head_some kind part n head rest (text_final b1 b0 m s1 s0 e) k = cc
head_some kind part n head rest (binary_short c m h e) k = cc
head_some kind part n head rest (binary_middle c b0 m h s e) k = cc
head_some kind part n head rest (binary_inner b1 b0 m s1 s0 e) k = cc
head_some kind part n head rest (binary_final b1 b0 m s1 s0 e) k = cc

pub at_end : (kind : Kind) (s : Stage) (value : List ℕ) → SoundStage kind s → Completes kind s value [] → (s ≡ Ended) × (value ≡ [])
at_end kind Code value sound c = absurd (let h = to_headed kind value [] c in head_some kind h.part h.units h.head h.rest h.begins (sym h.bytes_are))
at_end kind (High part) value sound c = absurd (form_cons c.b1 c.rest (sym c.bytes_are))
at_end kind (Low part high) value sound c = absurd (form_cons c.b0 c.rest (sym c.bytes_are))
at_end kind (Inside part left begun) value sound c = absurd (inside_more kind left left begun c.inside c.forms c.after sound.0 sound.2 c.contents refl c.bytes_are)
at_end kind Ended value sound c = (refl, c.0)

-- what completes a stage leads from it to the end
pub runs_to_end : (kind : Kind) (s : Stage) (bytes value : List ℕ) → SoundStage kind s → AreBytes bytes → Completes kind s value bytes → Runs kind s bytes Ended value
runs_to_end kind s [] value sound small c = let e = at_end kind s value sound c in ended_by s value e.0 e.1
  where
    ended_by : (s : Stage) (value : List ℕ) → s ≡ Ended → value ≡ [] → Runs kind s [] Ended value
    ended_by s value p q = rw (p, q) (stay Ended)
runs_to_end kind s (b ∷ bs) value sound small c =
    let a = stage_forward kind s b value bs sound c in
    let r = runs_to_end kind a.next bs a.more (stage_sound kind s a.next b a.gained sound (first_small b bs small) a.is) (later_small b bs small) a.completes in
    subst (λ v. Runs kind s (b ∷ bs) Ended v) (sym a.value_is) (go s a.next Ended b bs a.gained a.more a.is r)

-- ---- the laws of spellings

-- bytes that spell a value spell no other, and none of them with more behind them
pub spelled_once : (kind : Kind) (v w xs more : List ℕ) → AreBytes xs → Spelling kind v xs → Spelling kind w (xs ++ more) → (more ≡ []) × (w ≡ v)
spelled_once kind v w xs more small s t =
    let l = runs_forward kind Code Ended xs more v w (runs_to_end kind Code xs v tt small s) tt small t in
    (l.completes.1, l.value_is ∙ ap (λ x. v ++ x) l.completes.0 ∙ append-nil v)

-- ---- every sound stage can be completed

pub record IsOpen (kind : Kind) (s : Stage) : Type 0 where
  pub value : List ℕ
  pub first : ℕ
  pub more : List ℕ
  pub completes : Completes kind s value (first ∷ more)

pub record CanFollow (kind : Kind) (part : Part) : Type 0 where
  pub value : List ℕ
  pub bytes : List ℕ
  pub follows : Follows kind part value bytes

pub record CanFill (kind : Kind) (part : Part) (n : ℕ) : Type 0 where
  pub value : List ℕ
  pub bytes : List ℕ
  pub rest : IsRest kind part n value bytes

zero_item : (kind : Kind) → (value : List ℕ) × (form : List ℕ) × IsItem kind value 1 form
zero_item Text = one_unit (item_live Text 1 Nothing (omega arith) tt)
  where
    open_at : (units : ℕ) → 0 < units → units ≤ 1 → units ≡ 1
    open_at units h k = omega arith

    one_unit : IsLive Text 1 Nothing → (value : List ℕ) × (form : List ℕ) × IsItem Text value 1 form
    one_unit l = (l.value, l.first ∷ l.more, subst (λ u. IsItem Text l.value u (l.first ∷ l.more)) (open_at l.units (item_some Text l.value l.units (l.first ∷ l.more) l.item) l.fits) l.item)
zero_item Binary = (0 ∷ [], 0 ∷ [], record { byte = 0; small = omega arith; value_is = refl; units_are = refl; form_is = refl })

fill : (kind : Kind) (n : ℕ) → (value : List ℕ) × (forms : List ℕ) × Contents kind value n forms
fill kind zero = ([], [], none)
fill kind (suc n) =
    let z = zero_item kind in
    let f = fill kind n in
    (z.0 ++ f.0, z.1 ++ f.1, subst (λ m. Contents kind (z.0 ++ f.0) m (z.1 ++ f.1)) (let e : 1 + n ≡ suc n = omega arith in e) (item z.0 z.1 f.0 f.1 1 n z.2 f.2))

empty_spelling : (kind : Kind) → (b : ℕ) × Spelling kind [] (b ∷ [])
empty_spelling Text = (0, headed Text Final 0 (0 ∷ []) [] [] (text_short 0 0 (record { low = omega arith; high = omega arith }) refl) (record { inside = []; values = []; forms = []; after = []; contents = none; follows = (refl, refl); value_is = refl; bytes_are = refl }))
empty_spelling Binary = (0x20, headed Binary Final 0 (0x20 ∷ []) [] [] (binary_short 0x20 0 (record { low = omega arith; high = omega arith }) refl) (record { inside = []; values = []; forms = []; after = []; contents = none; follows = (refl, refl); value_is = refl; bytes_are = refl }))

can_follow : (kind : Kind) (part : Part) → CanFollow kind part
can_follow kind Final = record { value = []; bytes = []; follows = (refl, refl) }
can_follow kind Inner = let e = empty_spelling kind in record { value = []; bytes = e.0 ∷ []; follows = e.1 }

can_fill : (kind : Kind) (part : Part) (n : ℕ) → CanFill kind part n
can_fill kind part n =
    let f = fill kind n in
    let g = can_follow kind part in
    record { value = f.0 ++ g.value; bytes = f.1 ++ g.bytes; rest = record { inside = f.0; values = g.value; forms = f.1; after = g.bytes; contents = f.2; follows = g.follows; value_is = refl; bytes_are = refl } }

inside_open : (kind : Kind) (part : Part) (left : ℕ) (begun : Begun) (value : List ℕ) (units first : ℕ) (more : List ℕ) → IsItem kind value units (begun_bytes begun ++ first ∷ more) → units ≤ left → CanFill kind part (left - units) → IsOpen kind (Inside part left begun)
inside_open kind part left begun value units first more i fits f = record {
  value = value ++ f.value;
  first = first;
  more = more ++ f.bytes;
  completes = record {
    inside = value ++ f.rest.inside;
    values = f.rest.values;
    forms = (begun_bytes begun ++ first ∷ more) ++ f.rest.forms;
    after = f.rest.after;
    contents = subst (λ n. Contents kind (value ++ f.rest.inside) n ((begun_bytes begun ++ first ∷ more) ++ f.rest.forms)) (let k : units + (left - units) ≡ left = omega arith in k) (item value (begun_bytes begun ++ first ∷ more) f.rest.inside f.rest.forms units (left - units) i f.rest.contents);
    follows = f.rest.follows;
    value_is = ap (λ x. value ++ x) f.rest.value_is ∙ sym (append_assoc value f.rest.inside f.rest.values);
    bytes_are = sym (append_assoc (begun_bytes begun) (first ∷ more) f.bytes) ∙ ap (λ x. (begun_bytes begun ++ first ∷ more) ++ x) f.rest.bytes_are ∙ sym (append_assoc (begun_bytes begun ++ first ∷ more) f.rest.forms f.rest.after);
  };
}

low_open : (kind : Kind) (part : Part) (high : ℕ) → CanFill kind part (high * 256 + 0) → IsOpen kind (Low part high)
low_open kind part high f = record { value = f.value; first = 0; more = f.bytes; completes = record { b0 = 0; rest = f.bytes; small = omega arith; bytes_are = refl; goes_on = f.rest } }

pub stage_open : (kind : Kind) (s : Stage) → SoundStage kind s → s ≢ Ended → IsOpen kind s
stage_open kind Code sound n = let e = empty_spelling kind in record { value = []; first = e.0; more = []; completes = e.1 }
stage_open kind (High part) sound n = let l = low_open kind part 0 (can_fill kind part (0 * 256 + 0)) in record { value = l.value; first = 0; more = l.first ∷ l.more; completes = record { b1 = 0; rest = l.first ∷ l.more; small = omega arith; bytes_are = refl; goes_on = l.completes } }
stage_open kind (Low part high) sound n = low_open kind part high (can_fill kind part (high * 256 + 0))
stage_open kind (Inside part left begun) sound n = let l = item_live kind left begun sound.0 sound.2 in inside_open kind part left begun l.value l.units l.first l.more l.item l.fits (can_fill kind part (left - l.units))
stage_open kind Ended sound n = absurd (n refl)

-- the bytes end inside a spelling
pub cut_short : (kind : Kind) (t : Stage) (bytes gained : List ℕ) → AreBytes bytes → Runs kind Code bytes t gained → t ≢ Ended → IsCutShort kind bytes
cut_short kind t bytes gained small r n =
    let o = stage_open kind t (runs_sound kind Code t bytes gained r tt small) n in
    record { value = gained ++ o.value; more = o.first ∷ o.more; lacks = form_cons o.first o.more; spells = runs_back kind Code t bytes (o.first ∷ o.more) gained o.value r tt small o.completes }
