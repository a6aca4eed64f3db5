-- What a reader between two frames reads next.
use Rattle.std.proofs.Common.{◌≡◌, ℕ, ◌≤◌, List, [], ◌++◌, length, take, refl, ap, sym, subst, ◌∙◌, arith}
use Rattle.std.specs.Prelude.{Option, Some, None}
use Rattle.std.proofs.lemmas.List.{length-take}
use Rattle.dubbo_header.specs.declared.header.Header.{Header}
use Rattle.dubbo_header.specs.Header.{SpellsNone}
use Rattle.dubbo_io.specs.Source.{SourceState}
use Rattle.link_frames.specs.Frames.{frame_bytes}
use Rattle.link_frames.specs.NextWith.{HoldsPartFed, HoldsFed, StepsFed}
use Rattle.link_frames.specs.Paused.{HoldsPart, Holds, IsBetween}
use Rattle.link_frames.specs.declared.next_with.NextWith.TheVariants as outcome
use Rattle.link_frames.specs.declared.paused.Part.{Part}
use Rattle.link_frames.specs.declared.paused.Paused.{Paused}
use Rattle.link_frames.proofs.ReadyLemmas.{broken_rest}
use Rattle.provider_pool.specs.declared.session.ServeFault.TheVariants as faults
use Rattle.provider_pool.specs.Turns.{ReadsFrame, ReadsNone}
use Rattle.provider_pool.specs.Writes.{frame_of}

-- ---- a reader between two frames holds what its window has

pub holds_window : (paused : Paused) (fed : List ℕ) → IsBetween paused → HoldsFed paused fed paused.window
holds_window paused fed between = record {
  taken = [];
  part = subst (λ (p : Part). HoldsPartFed p fed []) (sym between) refl;
  split = refl;
}

pub window_of : (paused : Paused) (held : List ℕ) → Holds paused held → IsBetween paused → held ≡ paused.window
window_of paused held holds between =
    let none : holds.taken ≡ [] = subst (λ (p : Part). HoldsPart p holds.taken) between holds.part in
    holds.split ∙ ap (λ taken. taken ++ paused.window) none

-- ---- the answers of the reader

pub reads_frame : {Badge : Type 0} (old new : SourceState Badge) (paused after : Paused) (started : Option Header) (fed : List ℕ) (header : Header) → StepsFed old new paused.place paused.window after started fed (Some (outcome.Frame header)) → (started ≡ Some header) × ReadsFrame old new paused after (frame_of header fed)
reads_frame old new paused after started fed header step =
    let passes = step.answers in
    let between = step.between header refl in (
      step.frame header refl,
      record {
        came = step.came;
        gave = step.goes_on;
        whole = passes.whole;
        split = subst (λ rest. paused.window ++ step.came ≡ frame_bytes (frame_of header fed) ++ rest) (window_of after passes.rest passes.holds between) passes.split;
        place = passes.moved;
        between = between;
      },
    )

pub reads_end : {Badge : Type 0} (old new : SourceState Badge) (paused after : Paused) (started : Option Header) (fed : List ℕ) → StepsFed old new paused.place paused.window after started fed (Some outcome.End) → ReadsNone old new paused None
reads_end old new paused after started fed step = record { came = step.came; gave = step.goes_on; ceases = (step.answers.0, step.answers.1) }

pub reads_loss : {Badge : Type 0} (old new : SourceState Badge) (paused after : Paused) (started : Option Header) (fed : List ℕ) (told : ℕ) → StepsFed old new paused.place paused.window after started fed (Some (outcome.Lost told)) → ReadsNone old new paused (Some (faults.Lost told))
reads_loss old new paused after started fed told step = record {
  came = step.came;
  gave = step.goes_on;
  ceases = record { rose = step.answers.0; some = step.answers.1; among = step.answers.2 };
}

sixteen : (bytes head : List ℕ) → take 16 bytes ≡ head → length head ≡ 16 → 16 ≤ length bytes
sixteen bytes head front long = omega (arith, ap length front, long, length-take 16 bytes)

pub reads_damage : {Badge : Type 0} (old new : SourceState Badge) (paused after : Paused) (started : Option Header) (fed : List ℕ) (at : ℕ) (head : List ℕ) → StepsFed old new paused.place paused.window after started fed (Some (outcome.Broken at head)) → ReadsNone old new paused (Some (faults.Broken at))
reads_damage old new paused after started fed at head step =
    let breaks = step.answers in
    let bytes : List ℕ = paused.window ++ step.came in
    let none : SpellsNone (take 16 bytes) = subst SpellsNone (sym breaks.front) breaks.none in
    record {
      came = step.came;
      gave = step.goes_on;
      ceases = (breaks.here, sixteen bytes head breaks.front breaks.sixteen, none, (broken_rest bytes none).none);
    }

pub reads_cut : {Badge : Type 0} (old new : SourceState Badge) (paused after : Paused) (started : Option Header) (fed : List ℕ) (at : ℕ) → StepsFed old new paused.place paused.window after started fed (Some (outcome.CutShort at)) → ReadsNone old new paused (Some (faults.CutShort at))
reads_cut old new paused after started fed at step = record {
  came = step.came;
  gave = step.goes_on;
  ceases = (step.answers.0, step.answers.1, step.answers.2, step.answers.3);
}
