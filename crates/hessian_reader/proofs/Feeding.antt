-- A course that takes a piece, element by element.
use Rattle.std.proofs.Common.{◌≡◌, ◌≢◌, ℕ, zero, suc, ◌+◌, ◌-◌, ◌<◌, ◌≤◌, Bool, true, false, List, [], ◌++◌, length, take, drop, refl, ap, sym, ◌∙◌, subst, append_assoc, arith, length-append}
use Rattle.std.proofs.Math.Seq.{take-add}
use Rattle.std.proofs.lemmas.List.{append-nil, take-append-drop, take_at, take_all, length-take-le, length-drop, drop-drop}
use Rattle.std.specs.Prelude.{Option, Some, None, Result}
use Rattle.hessian_text.specs.Spelling.{AreBytes}
use Rattle.hessian_text.proofs.Advancing.{rest_is}
use Rattle.hessian_reader.specs.declared.fault.HessianFault.{HessianFault}
use Rattle.hessian_reader.specs.declared.reader.Fed.TheVariants as told
use Rattle.hessian_reader.specs.declared.course.Course.{Course}
use Rattle.hessian_reader.specs.declared.work.Work.{Work}
use Rattle.hessian_reader.proofs.Elements.{BeginsElement}
use Rattle.hessian_reader.specs.Lexing.{Holds}
use Rattle.hessian_reader.specs.States.{State, start, want_at, is_done, graph_of}
use Rattle.hessian_reader.specs.Steps.{Leads}
use Rattle.hessian_reader.specs.Views.{state_of}
use Rattle.hessian_reader.specs.Course.{EndsAt, NeverEnds, Tells, Follows, IsStuck, StopsIn, TakesOne, TakesSome, GoesOn, Passes, HasRead}
use Rattle.hessian_reader.specs.Refusing.{IsStoppedBy}
use Rattle.hessian_reader.proofs.Elements.{holds_begins}
use Rattle.hessian_reader.proofs.OneWay.{bytes_front, bytes_rest, bytes_both, leads_more, never_ends, begun_blocked, stuck_never_ends}
use Rattle.hessian_reader.proofs.Running.{denotes}
use Rattle.hessian_reader.proofs.Runs.{leads_join}

-- the course has taken this front of a piece; what is behind an element's end has just begun
pub record Stands (r : Course) (roots : ℕ) (fed front : List ℕ) : Type 0 where
  pub follows : Follows r roots (fed ++ front)
  pub fresh : front ≢ [] → (follows.came ≡ []) × (follows.unread ≡ [])

-- the bytes of the element that has begun

module _ (r : Course) (roots : ℕ) (all : List ℕ) (f : Follows r roots all) where
  pub came_bytes : AreBytes all → AreBytes f.came
  came_bytes small = bytes_front f.came f.unread (bytes_rest f.before (f.came ++ f.unread) (subst AreBytes f.joined small))

  -- all of the bytes, where the last root hasn't ended
  pub all_are : is_done (state_of r.work) ≡ false → all ≡ f.before ++ f.came
  all_are d = f.joined ∙ ap (λ x. f.before ++ x) (rw (f.going d) (append-nil f.came))

  pub not_ended : AreBytes all → is_done (state_of r.work) ≡ false → (n : ℕ) → EndsAt roots all n → ⊥
  not_ended small d n ends =
      let begins : f.came ≢ [] → BeginsElement (want_at r.work.place) f.came = λ some. subst (λ w. BeginsElement w f.came) f.wants (holds_begins r.lexer.want r.lexer.inside f.came (came_bytes small) f.holds some) in
      never_ends roots f.before f.came all (state_of r.work) n small (all_are d) f.leads d (begun_blocked (state_of r.work) f.came (came_bytes small) begins) ends

-- the front of a piece, and the rest of it

split : (fed piece : List ℕ) (n : ℕ) → fed ++ piece ≡ (fed ++ take n piece) ++ drop n piece
split fed piece n = ap (λ x. fed ++ x) (sym (take-append-drop n piece)) ∙ sym (append_assoc fed (take n piece) (drop n piece))

-- an element goes on behind the piece

pub goes_behind : (old new : Course) (roots : ℕ) (fed piece : List ℕ) (n : ℕ) (st : Stands old roots fed (take n piece)) → is_done (state_of old.work) ≡ false → GoesOn old new st.follows.came (drop n piece) → Follows new roots (fed ++ piece)
goes_behind old new roots fed piece n st d g =
    let f = st.follows in
    let more : List ℕ = f.came ++ drop n piece in
    let state : state_of new.work ≡ state_of old.work = ap state_of g.work in
    record {
      before = f.before;
      came = more;
      unread = [];
      joined = split fed piece n ∙ ap (λ x. x ++ drop n piece) (all_are old roots (fed ++ take n piece) f d) ∙ append_assoc f.before f.came (drop n piece) ∙ ap (λ x. f.before ++ x) (sym (append-nil more));
      leads = subst (Leads (start roots) f.before) (sym state) f.leads;
      wants = g.wants ∙ f.wants ∙ ap (λ (w : Work). want_at w.place) (sym g.work);
      holds = g.holds;
      from = g.from ∙ f.from;
      over = λ e. let bad : true ≡ false = sym e ∙ ap is_done state ∙ d in absurd cc;
      going = λ e. refl;
    }

-- an element ends in the piece

not_nil : (n : ℕ) (xs : List ℕ) → 0 < n → n ≤ length xs → take n xs ≢ []
not_nil n xs some within e = let h = length-take-le n xs within in let z : length (take n xs) ≡ 0 = ap length e in omega (arith, h, z, some)

pub takes_behind : (old new : Course) (roots : ℕ) (fed piece : List ℕ) (n used at : ℕ) (st : Stands old roots fed (take n piece)) → n ≤ length piece → at ≡ length fed + n → is_done (state_of old.work) ≡ false → TakesOne old new at st.follows.came (drop n piece) used → Stands new roots fed (take (n + used) piece)
takes_behind old new roots fed piece n used at st low place d g =
    let f = st.follows in
    let el : List ℕ = f.came ++ take used (drop n piece) in
    let all : fed ++ take n piece ≡ f.before ++ f.came = all_are old roots (fed ++ take n piece) f d in
    let joined : fed ++ take (n + used) piece ≡ f.before ++ el =
    ap (λ x. fed ++ x) (take-add n used piece) ∙ sym (append_assoc fed (take n piece) (take used (drop n piece))) ∙ ap (λ x. x ++ take used (drop n piece)) all ∙ append_assoc f.before f.came (take used (drop n piece)) in
    let len1 : length (take n piece) ≡ n = length-take-le n piece low in
    let len2 : length (take used (drop n piece)) ≡ used = length-take-le used (drop n piece) g.within in
    let len3 : length fed + length (take n piece) ≡ length f.before + length f.came = sym (length-append fed (take n piece)) ∙ ap length all ∙ length-append f.before f.came in
    let len4 = length-append f.came (take used (drop n piece)) in
    let len5 = length-append f.before el in
    let from = g.from in
    record {
      follows = record {
        before = f.before ++ el;
        came = [];
        unread = [];
        joined = joined ∙ sym (append-nil (f.before ++ el));
        leads = leads_more g.element el f.leads d g.is_element g.taken;
        wants = g.wants;
        holds = g.nothing;
        from = omega (arith, from, place, len1, len2, len3, len4, len5);
        over = λ e. refl;
        going = λ e. refl;
      };
      fresh = λ h. (refl, refl);
    }

-- and the elements that lie whole behind it

runs_behind : (middle new : Course) (roots : ℕ) (fed piece : List ℕ) (n more : ℕ) → Stands middle roots fed (take n piece) → 0 < n → n ≤ length piece → more ≤ length (drop n piece) → Leads (state_of middle.work) (take more (drop n piece)) (state_of new.work) → new.from ≡ middle.from + more → new.lexer.want ≡ want_at new.work.place → Holds new.lexer.want new.lexer.inside [] → Stands new roots fed (take (n + more) piece)
runs_behind middle new roots fed piece n more st some low within leads from wants nothing =
    let f = st.follows in
    let none = st.fresh (not_nil n piece some low) in
    let run : List ℕ = take more (drop n piece) in
    let whole : fed ++ take n piece ≡ f.before = f.joined ∙ rw (none.0, none.1) (append-nil f.before) in
    let joined : fed ++ take (n + more) piece ≡ f.before ++ run = ap (λ x. fed ++ x) (take-add n more piece) ∙ sym (append_assoc fed (take n piece) run) ∙ ap (λ x. x ++ run) whole in
    let len1 : length run ≡ more = length-take-le more (drop n piece) within in
    let len2 = length-append f.before run in
    let begun = f.from in
    record {
      follows = record {
        before = f.before ++ run;
        came = [];
        unread = [];
        joined = joined ∙ sym (append-nil (f.before ++ run));
        leads = leads_join f.leads leads;
        wants = wants;
        holds = nothing;
        from = omega (arith, from, begun, len1, len2);
        over = λ e. refl;
        going = λ e. refl;
      };
      fresh = λ h. (refl, refl);
    }

pub some_behind : (old new : Course) (roots : ℕ) (fed piece : List ℕ) (n used at : ℕ) (st : Stands old roots fed (take n piece)) → n ≤ length piece → at ≡ length fed + n → is_done (state_of old.work) ≡ false → TakesSome old new at st.follows.came (drop n piece) used → Stands new roots fed (take (n + used) piece)
some_behind old new roots fed piece n used at st low place d g =
    let first = takes_behind old g.middle roots fed piece n g.first at st low place d g.one in
    let some = g.one.some in
    let within = g.one.within in
    let len = length-drop n piece in
    let rest : drop (n + g.first) piece ≡ drop g.first (drop n piece) = sym (drop-drop g.first n piece) in
    let count = g.count in
    let last : (n + g.first) + g.more ≡ n + used = omega (arith, count) in
    subst (λ k. Stands new roots fed (take k piece)) last
    (runs_behind g.middle new roots fed piece (n + g.first) g.more first (omega (arith, some)) (omega (arith, within, len, low))
    (subst (λ r. g.more ≤ length r) (sym rest) g.within)
    (subst (λ r. Leads (state_of g.middle.work) (take g.more r) (state_of new.work)) (sym rest) g.leads)
    g.from g.wants g.nothing)

-- an element is refused, or can't go on

pub stuck_behind : (old : Course) (roots : ℕ) (fed piece : List ℕ) (n : ℕ) (st : Stands old roots fed (take n piece)) → AreBytes (fed ++ piece) → is_done (state_of old.work) ≡ false → IsStuck (state_of old.work) st.follows.came (drop n piece) → NeverEnds roots (fed ++ piece)
stuck_behind old roots fed piece n st small d stuck =
    let f = st.follows in
    let joined : fed ++ piece ≡ f.before ++ (f.came ++ drop n piece) = split fed piece n ∙ ap (λ x. x ++ drop n piece) (all_are old roots (fed ++ take n piece) f d) ∙ append_assoc f.before f.came (drop n piece) in
    stuck_never_ends roots f.before f.came (drop n piece) (fed ++ piece) (state_of old.work) small joined f.leads d stuck

-- and stops where the fault says
pub stops_behind : (old : Course) (roots : ℕ) (fed piece : List ℕ) (n at : ℕ) (fault : HessianFault) (st : Stands old roots fed (take n piece)) → n ≤ length piece → at ≡ length fed + n → AreBytes fed → AreBytes piece → is_done (state_of old.work) ≡ false → StopsIn old at (drop n piece) fault → IsStoppedBy roots (fed ++ piece) fault
stops_behind old roots fed piece n at fault st within place small small' d stops =
    let f = st.follows in
    let front : fed ++ take n piece ≡ f.before ++ f.came = all_are old roots (fed ++ take n piece) f d in
    let joined : fed ++ piece ≡ f.before ++ (f.came ++ drop n piece) = split fed piece n ∙ ap (λ x. x ++ drop n piece) front ∙ append_assoc f.before f.came (drop n piece) in
    let len1 : length fed + length (take n piece) ≡ length f.before + length f.came = sym (length-append fed (take n piece)) ∙ ap length front ∙ length-append f.before f.came in
    let len2 : length (take n piece) ≡ n = length-take-le n piece within in
    let few = bytes_front (take n piece) (drop n piece) (subst AreBytes (sym (take-append-drop n piece)) small') in
    subst (λ x. IsStoppedBy roots x fault) (sym joined) (stops roots f.before f.came (came_bytes old roots (fed ++ take n piece) f (bytes_both fed (take n piece) small few)) f.leads d f.from (omega (arith, place, len1, len2)) f.wants f.holds)

-- the last root has ended

pub done_follows : (r : Course) (roots : ℕ) (fed piece : List ℕ) (n : ℕ) → Stands r roots fed (take n piece) → is_done (state_of r.work) ≡ true → Follows r roots (fed ++ piece)
done_follows r roots fed piece n st e =
    let f = st.follows in
    record {
      before = f.before;
      came = [];
      unread = f.unread ++ drop n piece;
      joined = split fed piece n ∙ ap (λ x. x ++ drop n piece) f.joined ∙ ap (λ x. (f.before ++ (x ++ f.unread)) ++ drop n piece) (f.over e) ∙ append_assoc f.before f.unread (drop n piece);
      leads = f.leads;
      wants = f.wants;
      holds = subst (Holds r.lexer.want r.lexer.inside) (f.over e) f.holds;
      from = f.from;
      over = λ z. refl;
      going = λ z. let bad : true ≡ false = sym e ∙ z in absurd cc;
    }

pub ends_at : (r : Course) (roots : ℕ) (all : List ℕ) (f : Follows r roots all) → is_done (state_of r.work) ≡ true → EndsAt roots all (length f.before)
ends_at r roots all f e =
    let whole = denotes roots f.before (state_of r.work) f.leads e in
    let front : take (length f.before) all ≡ f.before = ap (take (length f.before)) f.joined ∙ take_at f.before (f.came ++ f.unread) (length f.before) refl in
    let len : length all ≡ length f.before + length (f.came ++ f.unread) = ap length f.joined ∙ length-append f.before (f.came ++ f.unread) in
    record {
      graph = graph_of (state_of r.work);
      within = omega (arith, len);
      denoted = subst (λ x. Rattle.hessian_reader.specs.Leaves.IsDenoted x (graph_of (state_of r.work))) (sym front) whole.denoted;
      roots_are = whole.roots_are;
    }

used_is : (r : Course) (roots : ℕ) (fed piece : List ℕ) (n : ℕ) → n ≤ length piece → (st : Stands r roots fed (take n piece)) → n ≡ length st.follows.before - length fed
used_is r roots fed piece zero low st =
    let f = st.follows in
    let len : length fed + 0 ≡ length f.before + length (f.came ++ f.unread) = sym (length-append fed []) ∙ ap length f.joined ∙ length-append f.before (f.came ++ f.unread) in
    omega (arith, len)
used_is r roots fed piece (suc n) low st =
    let f = st.follows in
    let none = st.fresh (not_nil (suc n) piece (omega arith) low) in
    let whole : fed ++ take (suc n) piece ≡ f.before = f.joined ∙ rw (none.0, none.1) (append-nil f.before) in
    let len1 : length (take (suc n) piece) ≡ suc n = length-take-le (suc n) piece low in
    let len2 : length fed + length (take (suc n) piece) ≡ length f.before = sym (length-append fed (take (suc n) piece)) ∙ ap length whole in
    omega (arith, len1, len2)

pub tells_done : (r : Course) (roots : ℕ) (fed piece : List ℕ) (n : ℕ) → n ≤ length piece → Stands r roots fed (take n piece) → is_done (state_of r.work) ≡ true → Tells roots fed piece (told.Done n)
unfolding done_follows
tells_done r roots fed piece n low st e = (length st.follows.before, ends_at r roots (fed ++ piece) (done_follows r roots fed piece n st e) e, used_is r roots fed piece n low st, low)

-- what a call of the course takes for granted

pub front_bytes_of : (fed piece : List ℕ) (n : ℕ) → AreBytes fed → AreBytes piece → AreBytes (fed ++ take n piece)
front_bytes_of fed piece n small small' = bytes_both fed (take n piece) small (bytes_front (take n piece) (drop n piece) (subst AreBytes (sym (take-append-drop n piece)) small'))

-- what the clause of the next element says of the element that has begun
pub passes_at : (r new : Course) (roots : ℕ) (fed piece : List ℕ) (n at : ℕ) (answer : Result (Option ℕ) HessianFault) (st : Stands r roots fed (take n piece)) → AreBytes fed → AreBytes piece → ((came : List ℕ) → AreBytes came → r.lexer.want ≡ want_at r.work.place → Holds r.lexer.want r.lexer.inside came → Passes r at came (take (length piece - n) (drop n piece)) new answer) → Passes r at st.follows.came (drop n piece) new answer
passes_at r new roots fed piece n at answer st small small' nexts =
    let f = st.follows in
    subst (λ p. Passes r at f.came p new answer) (rest_is n piece) (nexts f.came (came_bytes r roots (fed ++ take n piece) f (front_bytes_of fed piece n small small')) f.wants f.holds)

pub not_done_is : (b : Bool) (s : State) → b ≡ is_done s → b ≡ false → is_done s ≡ false
not_done_is b s e f = sym e ∙ f

pub done_is : (b : Bool) (s : State) → b ≡ is_done s → b ≡ true → is_done s ≡ true
done_is b s e f = sym e ∙ f

-- the whole piece was taken, and the last root hasn't ended
pub all_taken : (r : Course) (roots : ℕ) (fed piece : List ℕ) (n : ℕ) → length piece ≤ n → Stands r roots fed (take n piece) → Follows r roots (fed ++ piece)
all_taken r roots fed piece n high st = subst (λ x. Follows r roots (fed ++ x)) (take_all n piece high) st.follows

-- the number of the bytes that were fed is kept apart
pub recounted : (r : Course) (count roots : ℕ) (all : List ℕ) → Follows r roots all → Follows (record r { fed = count }) roots all
recounted r count roots all f = record { before = f.before; came = f.came; unread = f.unread; joined = f.joined; leads = f.leads; wants = f.wants; holds = f.holds; from = f.from; over = f.over; going = f.going }

-- what never ends never ends behind more bytes
pub never_later : (roots : ℕ) (fed piece : List ℕ) → AreBytes piece → NeverEnds roots fed → NeverEnds roots (fed ++ piece)
never_later roots fed piece small never more n small' ends = never (piece ++ more) n (bytes_both piece more small small') (subst (λ x. EndsAt roots x n) (append_assoc fed piece more) ends)

pub read_on : (r : Course) (roots : ℕ) (fed piece : List ℕ) → AreBytes fed → AreBytes piece → r.fed ≡ length fed → r.refused ≡ None → Follows r roots (fed ++ piece) → HasRead (record r { fed = r.fed + length piece }) roots (fed ++ piece)
read_on r roots fed piece small small' count none f =
    let len = length-append fed piece in
    record {
      counted = omega (arith, count, len);
      bytes = bytes_both fed piece small small';
      follows = λ e. recounted r (r.fed + length piece) roots (fed ++ piece) f;
      refused = λ fault e some. let bad : None ≡ Some fault = sym none ∙ e in absurd cc;
      stopped = λ fault e some. let bad : None ≡ Some fault = sym none ∙ e in absurd cc;
    }
