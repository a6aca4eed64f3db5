-- What an id may be resolved with.
use Rattle.std.specs.Prelude.{◌≡◌, ℕ, ◌≤◌}
use Rattle.pending_table.specs.declared.answers.Taken.{Taken}
use Rattle.pending_table.specs.declared.answers.Taken.TheVariants.{Reply, Timeout, Broken, NoMemory}

module _ {R K : Type 0} (fits : K → ℕ → R → Type 0) where
  -- what a window may offer for an id: a reply that fits it, and no timeout
  abbrev pub IsOfferable : K → ℕ → Taken R → Type 0
  IsOfferable key id (Reply reply) = fits key id reply
  IsOfferable key id (Timeout deadline moment) = ⊥
  IsOfferable key id (Broken at) = Unit {0}
  IsOfferable key id NoMemory = Unit {0}

  -- what resolves an id that was opened with this deadline
  abbrev pub Suits : K → ℕ → ℕ → Taken R → Type 0
  Suits key id deadline (Reply reply) = fits key id reply
  Suits key id deadline (Timeout own moment) = (own ≡ deadline) × (own ≤ moment)
  Suits key id deadline (Broken at) = Unit {0}
  Suits key id deadline NoMemory = Unit {0}
