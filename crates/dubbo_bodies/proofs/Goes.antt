-- The steps of a count: what holds behind a front of the descriptor.
use Rattle.std.proofs.Common.{◌≡◌, ◌≢◌, ℕ, suc, ◌<◌, ◌≤◌, List, [], ◌∷◌, length, take, get_or, refl, sym, ◌∙◌, ap, subst, arith, inl, inr}
use Rattle.std.specs.Prelude.{Option, Some, None}
use Rattle.std.proofs.Math.Seq.{take-suc}
use Rattle.std.proofs.lemmas.Bool.{cases_lt}
use Rattle.std.proofs.lemmas.List.{take_all}
use Rattle.std.proofs.lemmas.List.Elements.{All-take}
use Rattle.dubbo_bodies.specs.declared.stage.Stage.{Stage}
use Rattle.dubbo_bodies.specs.declared.stage.Stage.TheVariants.{Between, Element, Class, Name}
use Rattle.dubbo_bodies.specs.Descriptor.{MOST, HasArgs, ExceedsAt, StopsAt}
use Rattle.dubbo_bodies.specs.Stages.{stage_after, ended, IsFull}
use Rattle.dubbo_bodies.proofs.Running.{AreBytes, along, run}
use Rattle.dubbo_bodies.proofs.Counting.{begins_where_run, runs_where_begun, are_where_run, run_whole, run_join}

-- so many parameters may have ended at a stage, where none too many has begun
abbrev pub HasRoom : Stage → ℕ → Type 0
HasRoom Between count = count ≤ MOST
HasRoom Element count = count < MOST
HasRoom Class count = count < MOST
HasRoom Name count = count < MOST

-- a front leads to a stage and a count, and no parameter too many begins in it
pub record GoesTo (desc : List ℕ) (at : ℕ) (stage : Stage) (count : ℕ) : Type 0 where
  pub runs : run Between 0 (take at desc) ≡ Some (stage, count)
  pub room : HasRoom stage count
  pub few : (earlier : ℕ) → earlier < at → ExceedsAt desc earlier → ⊥

pub goes_at_first : (desc : List ℕ) → GoesTo desc 0 Between 0
goes_at_first desc = record { runs = refl; room = omega arith; few = λ earlier h x. absurd (omega (arith, h)) }

-- one byte on
run_on : (desc : List ℕ) (at : ℕ) (stage : Stage) (count : ℕ) → at < length desc → run Between 0 (take at desc) ≡ Some (stage, count) → run Between 0 (take (suc at) desc) ≡ along (stage_after stage (get_or desc at 0)) (λ t. Some (t, ended t count))
run_on desc at stage count h e = ap (λ x. run Between 0 x) (take-suc desc at 0 h) ∙ run_join (take at desc) (get_or desc at 0 ∷ []) Between stage 0 count e

-- a byte with which none goes on
pub stops_here : (desc : List ℕ) (at : ℕ) (stage : Stage) (count : ℕ) → AreBytes desc → at < length desc → GoesTo desc at stage count → stage_after stage (get_or desc at 0) ≡ None → StopsAt desc at
stops_here desc at stage count small h goes none = record {
  bad = record {
    within = omega (arith, h);
    begins = begins_where_run (take at desc) stage count (All-take (λ b. b < 256) at desc small) goes.runs;
    stops = λ l b.
        let w = runs_where_begun (take (suc at) desc) b in
        let e : Some (w.0, w.1) ≡ along None (λ t. Some (t, ended t count)) = sym w.2 ∙ run_on desc at stage count h goes.runs ∙ ap (λ o. along o (λ t. Some (t, ended t count))) none in
        cc;
    ends = λ e count are. absurd (omega (arith, e, h));
  };
  few = goes.few;
}

-- the bytes end inside a parameter
pub stops_at_end : (desc : List ℕ) (stage : Stage) (count : ℕ) → AreBytes desc → GoesTo desc (length desc) stage count → stage ≢ Between → StopsAt desc (length desc)
stops_at_end desc stage count small goes inside = record {
  bad = record {
    within = omega arith;
    begins = begins_where_run (take (length desc) desc) stage count (All-take (λ b. b < 256) (length desc) desc small) goes.runs;
    stops = λ l b. absurd (omega (arith, l));
    ends = λ e n are.
        let whole : run Between 0 desc ≡ Some (stage, count) = ap (λ x. run Between 0 x) (sym (take_all (length desc) desc (omega arith))) ∙ goes.runs in
        let p : ◌≡◌ {A = Option (Stage × ℕ)} (Some (stage, count)) (Some (Between, n)) = sym whole ∙ run_whole n desc are in
        let q : ◌≡◌ {A = Stage × ℕ} (stage, count) (Between, n) = cc in
        inside (ap (λ x. x.0) q);
  };
  few = goes.few;
}

-- the bytes end behind a parameter
pub has_at_end : (desc : List ℕ) (count : ℕ) → AreBytes desc → GoesTo desc (length desc) Between count → HasArgs desc count
has_at_end desc count small goes =
    let whole : run Between 0 desc ≡ Some (Between, count) = ap (λ x. run Between 0 x) (sym (take_all (length desc) desc (omega arith))) ∙ goes.runs in
    record { are = are_where_run desc count small whole; few = goes.room }

begins_on : (desc : List ℕ) (at : ℕ) (stage next : Stage) (count : ℕ) → at < length desc → GoesTo desc at stage count → stage_after stage (get_or desc at 0) ≡ Some next → run Between 0 (take (suc at) desc) ≡ Some (next, ended next count)
begins_on desc at stage next count h goes e = run_on desc at stage count h goes.runs ∙ ap (λ o. along o (λ t. Some (t, ended t count))) e

-- one parameter too many begins
exceeds_here : (desc : List ℕ) (at : ℕ) (next : Stage) → AreBytes desc → at < length desc → GoesTo desc at Between MOST → stage_after Between (get_or desc at 0) ≡ Some next → ExceedsAt desc at
exceeds_here desc at next small h goes e = record {
  within = h;
  full = are_where_run (take at desc) MOST (All-take (λ b. b < 256) at desc small) goes.runs;
  begins = begins_where_run (take (suc at) desc) next (ended next MOST) (All-take (λ b. b < 256) (suc at) desc small) (begins_on desc at Between next MOST h goes e);
}

pub exceeds_full : (desc : List ℕ) (at : ℕ) (stage next : Stage) (count : ℕ) → AreBytes desc → at < length desc → IsFull stage count → GoesTo desc at stage count → stage_after stage (get_or desc at 0) ≡ Some next → ExceedsAt desc at
exceeds_full desc at stage next count small h full goes e =
    exceeds_here desc at next small h (subst (GoesTo desc at Between) full.1 (subst (λ s. GoesTo desc at s count) full.0 goes)) (subst (λ s. stage_after s (get_or desc at 0) ≡ Some next) full.0 e)

-- the byte is taken
not_here : (desc : List ℕ) (at : ℕ) (stage : Stage) (count : ℕ) → GoesTo desc at stage count → (IsFull stage count → ⊥) → ExceedsAt desc at → ⊥
not_here desc at stage count goes other over =
    let p : ◌≡◌ {A = Option (Stage × ℕ)} (Some (stage, count)) (Some (Between, MOST)) = sym goes.runs ∙ run_whole MOST (take at desc) over.full in
    let q : ◌≡◌ {A = Stage × ℕ} (stage, count) (Between, MOST) = cc in
    other (ap (λ x. x.0) q, ap (λ x. x.1) q)

pub room_before : (stage : Stage) (count : ℕ) → HasRoom stage count → (IsFull stage count → ⊥) → count < MOST
room_before Between count room other = elim (cases_lt count MOST) [ inl h ↦ h | inr h ↦ absurd (other (refl, omega (arith, h, room))) ]
room_before Element count room other = room
room_before Class count room other = room
room_before Name count room other = room

room_on : (next : Stage) (count : ℕ) → count < MOST → HasRoom next (ended next count)
room_on Between count h = omega (arith, h)
room_on Element count h = h
room_on Class count h = h
room_on Name count h = h

pub goes_on : (desc : List ℕ) (at : ℕ) (stage next : Stage) (count : ℕ) → at < length desc → GoesTo desc at stage count → (IsFull stage count → ⊥) → stage_after stage (get_or desc at 0) ≡ Some next → GoesTo desc (suc at) next (ended next count)
goes_on desc at stage next count h goes other e = record {
  runs = begins_on desc at stage next count h goes e;
  room = room_on next count (room_before stage count goes.room other);
  few = λ earlier l over. elim (cases_lt earlier at) [ inl k ↦ goes.few earlier k over | inr k ↦ let same : earlier ≡ at = omega (arith, k, l) in not_here desc at stage count goes other (subst (ExceedsAt desc) same over) ];
}
