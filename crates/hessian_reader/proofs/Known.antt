-- A course that is known stays so, and where the last root has ended its parts are sound.
use Rattle.std.proofs.Common.{◌≡◌, ℕ, ◌<◌, ◌≤◌, ◌^◌, true, List, ◌++◌, length, refl, sym, ap, ◌∙◌, arith}
use Rattle.std.specs.Prelude.{Option, Some, None, Result, Ok, Err, IfOk, IfErr}
use Rattle.std.specs.Coded.{Coded-set, coded_ℕ, le_prop}
use Rattle.std.proofs.Math.Logic.{∥∥₁_elim, ∥∥₁_map}
use Rattle.std.proofs.lemmas.List.{nil_from_length}
use Rattle.hessian_graph.specs.Faults.{faults}
use Rattle.hessian_reader.specs.declared.course.Course.{Course}
use Rattle.hessian_reader.specs.declared.fault.HessianFault.{HessianFault}
use Rattle.hessian_reader.specs.declared.reader.Fed.{Fed}
use Rattle.hessian_reader.specs.Course.{Follows, HasRead, Known, Tells}
use Rattle.hessian_reader.specs.Finish.{MakesSound}
use Rattle.hessian_reader.specs.Leaves.{node_limit}
use Rattle.hessian_reader.specs.States.{start, is_done}
use Rattle.hessian_reader.specs.Steps.{Leads}
use Rattle.hessian_reader.specs.Views.{state_of}
use Rattle.hessian_reader.proofs.Keeping.{sound_start, sound_leads}
use Rattle.hessian_reader.proofs.Denoted.{reading_makes_sound}

-- a piece that was taken was no piece behind a refusal
was_none : (kept : Option HessianFault) (told : Fed) → ((fault : HessianFault) → kept ≡ Some fault → ◌≡◌ {A = Result Fed HessianFault} (Ok told) (Err fault)) → kept ≡ None
was_none None told stays = refl
was_none (Some fault) told stays = let bad = stays fault refl in absurd cc

-- a course that goes on by a piece
pub known_on : (old new : Course) (piece : List ℕ) (result : Result Fed HessianFault)
    → ((roots : ℕ) (fed : List ℕ) → HasRead old roots fed → IfOk result (λ told. Tells roots fed piece told × HasRead new roots (fed ++ piece)))
    → IfErr result (λ fault. new.refused ≡ Some fault)
    → ((fault : HessianFault) → old.refused ≡ Some fault → (result ≡ Err fault) × (new ≡ old))
    → ∥ Known old ∥₁ → ∥ Known new ∥₁
known_on old new piece (Ok told) tells keeps stays known =
    let none = was_none old.refused told (λ fault e. (stays fault e).0) in
    ∥∥₁_map known (λ (k : Known old) _. let (roots, fed, read) = k none in (roots, fed ++ piece, (tells roots fed read).1))
known_on old new piece (Err fault) tells keeps stays known = ∣ (λ none. let bad : None ≡ Some fault = sym none ∙ keeps in absurd cc) ∣₁

-- where the last root has ended

module _ (r : Course) (none : r.refused ≡ None) (known : ∥ Known r ∥₁) where
  -- bytes led there
  leads_of : Known r → (roots : ℕ) × (bytes : List ℕ) × Leads (start roots) bytes (state_of r.work)
  leads_of k =
      let (roots, fed, read) = k none in
      let f : Follows r roots fed = read.follows none in
      (roots, f.before, f.leads)

  pub known_sound : is_done (state_of r.work) ≡ true → MakesSound (state_of r.work)
  known_sound e p made = nil_from_length (faults p) (∥∥₁_elim known (Coded-set coded_ℕ _ _) (λ k.
      let (roots, bytes, leads) = leads_of k in
      ap length (reading_makes_sound roots bytes (state_of r.work) leads e p made)))

  pub known_few : length r.work.store.nodes < 2 ^ 32
  known_few =
      let low : length r.work.store.nodes ≤ node_limit = ∥∥₁_elim known le_prop (λ k. let (roots, bytes, leads) = leads_of k in (sound_leads (sound_start roots) leads).limit) in
      omega (arith, low)
