-- `begin` makes a value of no bytes, and its ghost field is what the trait says a trace begins as.
use Rattle.atomic_table.proofs.Names.{[], ◌∷◌, refl, a_type, dcons, dnil, Val, inst_fn, SProp, emp, Fml, ‵, raw, ◌⊛◌, ◌$◌, ◌∵◌, !, qed, by, keep, split, use0, no_more, and_then, returns, enter, alloc_all, pass_all, free_all, look_at, get, sets, agg, tables, owns, types_at, nothing, bounded, Stays, walk_of, fact, fact_i, ◌≡◌}
use Rattle.atomic_table.proofs.Walks.{proved, leaves}
use mir.Val.{vstruct, vcons, vnil}
use denote.Signature.{type_at}
use denote.Triple.Entry.{alive}
use denote.Shadow.{makes_shadow}
use Rattle.pending_table.specs.contracts.trace.Trace.begin.{ended, clauses}
use Rattle.pending_table.specs.contracts.trace.Trace.begin.Key.{name as #self}
use Rattle.pending_table.proofs.trace.Trace.begin.Statement.{statement}
use Rattle.pending_table.proofs.trace.Trace.begin.Code as code

pub begin_spec : {M : Type 1} → statement M
begin_spec 𝓤 𝓛 𝓜 𝓡 wired V C _ _ g d _ =
    let H = 𝓛.H in
    let 𝓣 = tables 𝓤 H 𝓜 𝓡 𝓡.env in
    let End = ended V C g d in
    let inst = bounded (a_type ∷ a_type ∷ []) (V, (C, tt)) (dcons d dnil) in
    let fn = inst_fn inst code.function in
    let stays : Stays End.signature.params End.kept = tt in
    let says = clauses V C g d 𝓛 𝓜.mem 𝓡.returns in
    let body = code.unfolded 𝓤 H 𝓜 𝓡 wired (V, (C, tt)) d in
    proved 𝓛 End stays says 𝓜 𝓡 tt (#self inst) fn body (λ κs. tt) (λ κs. tt) (λ κs qs bounds args gh are.
    let y : (walk_of 𝓛 End stays says).Ghost = ((κs, qs, bounds, args, tt), gh) in
    let Post : Val → SProp 𝓤 = (walk_of 𝓛 End stays says).post y in
    -- the value: a struct of one empty struct, seen with the first value
    let made : Val = vstruct (vcons (vstruct vnil) vnil) in
    let seen : denote.Triple.Entry.Res End.signature κs = record { marker = record {}; value = g.first } in
    let Owned : Fml = (type_at End.signature.result κs).own_val seen (made ∷ []) in
    let Told : Type 0 = seen.value ≡ seen.value in
    let pre = raw (alive 𝓛 End.signature κs qs) ⊛ ‵ (owns (types_at End.signature.params κs) args y.0.4) in
    let shadow = makes_shadow 𝓛 Owned ((λ vss. (tt, ((λ uss. (tt, tt)), tt))), tt) (((vstruct vnil ∷ [], tt), (refl, ((tt, (refl, tt)), tt))), tt) in
    qed 𝓛 (pre ∷ raw ((says κs args).requires gh) ∷ []) ∵ split ! $ keep ! (0 ∷ []) $
    enter ! 𝓣.C 𝓣.Λ fn [] Post $ alloc_all ! (λ l. pass_all ! refl tt $
    sets ! (agg ! (no_more !)) refl (tt, tt) $
    sets ! (agg ! (and_then ! (get ! refl) (no_more !))) refl (tt, (tt, tt)) $
    use0 𝓛 (‵ Owned) shadow $
    use0 𝓛 (raw (fact 𝓤 Told)) (fact_i 𝓤 Told (emp 𝓤) refl) $ nothing ! $
    returns ! (look_at ! 0 refl) $ free_all ! refl $
    keep ! (3 ∷ 0 ∷ 2 ∷ 1 ∷ []) $ by ! (leaves 𝓛 End stays says y made seen tt tt)))
