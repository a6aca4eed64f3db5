-- `extended` makes a value of no bytes, and its ghost field is what the step makes of the one before.
use Rattle.atomic_table.proofs.Names.{ℕ, [], ◌∷◌, refl, a_type, dcons, dnil, named, Val, vptr, inst_fn, SProp, emp, Fml, ‵, raw, ◌⊛◌, ◌$◌, ◌∵◌, !, qed, by, keep, split, fjoin, use0, no_more, and_then, returns, enter, alloc_all, pass_all, free_all, look_at, get, sets, agg, tables, yes, RattleType, owns, types_at, plain, nothing, param, bounded, Stays, stay_dropped, walk_of, Goes-dropped, fact, fact_i, RefOf, shr_vals, shr_Tells, ◌≡◌}
use Rattle.atomic_table.proofs.Walks.{proved, leaves}
use mir.Val.{vstruct, vcons, vnil}
use denote.Signature.{type_at}
use denote.Triple.Entry.{alive}
use denote.Shadow.{makes_shadow}
use Rattle.pending_table.specs.contracts.trace.Trace as trace
use Rattle.pending_table.specs.contracts.trace.Trace.extended.{ended, clauses}
use Rattle.pending_table.specs.contracts.trace.Trace.extended.Key.{name as #self}
use Rattle.pending_table.proofs.trace.Trace.extended.Statement.{statement}
use Rattle.pending_table.proofs.trace.Trace.extended.Code as code

pub extended_spec : {M : Type 1} → statement M
extended_spec 𝓤 𝓛 𝓜 𝓡 wired V X C _ _ _ g d _ =
    let H = 𝓛.H in
    let 𝓣 = tables 𝓤 H 𝓜 𝓡 𝓡.env in
    let End = ended V X C g d in
    let inst = bounded (a_type ∷ a_type ∷ a_type ∷ []) (V, (X, (C, tt))) (dcons d dnil) in
    let fn = inst_fn inst code.function in
    let Row : RattleType = trace.the_row (param 0 V) in
    let Hand : RattleType = param 1 X in
    let self = RefOf (0 ∷ []) tt (plain (λ _. Row)) (λ _. tt) in
    let hand = RefOf (1 ∷ []) tt (plain (λ _. Hand)) (λ _. tt) in
    let stays : Stays End.signature.params End.kept = (stay_dropped self yes, (stay_dropped hand yes, tt)) in
    let says = clauses V X C g d 𝓛 𝓜.mem 𝓡.returns in
    let body = code.unfolded 𝓤 H 𝓜 𝓡 wired (V, (X, (C, tt))) d in
    proved 𝓛 End stays says 𝓜 𝓡 (Goes-dropped 𝓛 5 self yes (λ κs x f. refl), (Goes-dropped 𝓛 5 hand yes (λ κs x f. refl), tt)) (#self inst) fn body (λ κs. (shr_vals, (shr_vals, tt)))
    (λ κs. (shr_Tells (named 0) κs.0 Row, (shr_Tells (named 1) κs.1.0 Hand, tt))) (λ κs qs bounds args gh are.
    let b : ℕ = args.0.ref_ptr.0 in
    let o : ℕ = args.0.ref_ptr.1 in
    let b' : ℕ = args.1.0.ref_ptr.0 in
    let o' : ℕ = args.1.0.ref_ptr.1 in
    let y : (walk_of 𝓛 End stays says).Ghost = ((κs, qs, bounds, args, (vptr b o ∷ [], (vptr b' o' ∷ [], tt))), gh) in
    let Post : Val → SProp 𝓤 = (walk_of 𝓛 End stays says).post y in
    -- the value: a struct of one empty struct, seen with the next value
    let made : Val = vstruct (vcons (vstruct vnil) vnil) in
    let seen : denote.Triple.Entry.Res End.signature κs = record { marker = record {}; value = g.after args.0.now.value args.1.0.now } in
    let Owned : Fml = (type_at End.signature.result κs).own_val seen (made ∷ []) in
    let Told : Type 0 = seen.value ≡ seen.value in
    let pre = raw (alive 𝓛 End.signature κs qs) ⊛ ‵ (owns (types_at End.signature.params κs) args y.0.4) in
    let shadow = makes_shadow 𝓛 Owned ((λ vss. (tt, ((λ uss. (tt, tt)), tt))), tt) (((vstruct vnil ∷ [], tt), (refl, ((tt, (refl, tt)), tt))), tt) in
    qed 𝓛 (pre ∷ raw ((says κs args).requires gh) ∷ []) ∵ split ! $ keep ! (0 ∷ []) $
    enter ! 𝓣.C 𝓣.Λ fn (vptr b o ∷ vptr b' o' ∷ []) Post $ alloc_all ! (λ l. pass_all ! refl ((tt, tt), ((tt, tt), tt)) $
    sets ! (agg ! (no_more !)) refl (tt, tt) $
    sets ! (agg ! (and_then ! (get ! refl) (no_more !))) refl (tt, (tt, tt)) $
    use0 𝓛 (‵ Owned) shadow $
    use0 𝓛 (raw (fact 𝓤 Told)) (fact_i 𝓤 Told (emp 𝓤) refl) $
    nothing ! $ nothing ! $ fjoin ! $ nothing ! $ fjoin ! $
    returns ! (look_at ! 0 refl) $ free_all ! refl $
    keep ! (3 ∷ 0 ∷ 2 ∷ 1 ∷ []) $ by ! (leaves 𝓛 End stays says y made seen (tt, (tt, tt)) (tt, (tt, tt)))))
