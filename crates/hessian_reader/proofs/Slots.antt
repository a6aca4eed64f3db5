-- What a state waits for, in the words of loose spellings: slots, which know no graph.
use Rattle.std.specs.Prelude.{ℕ, ◌-◌, List, [], ◌∷◌, length}
use Rattle.hessian_graph.specs.Reading.{Tables}
use Rattle.hessian_graph.specs.Loose.{LooseForm, Open, Long, Short, Pairs, Slot, OneValue, Items, Entries, AReference, AType as TypeSlot, ALength, AClass, AName, ACount, AField, ones}
use Rattle.hessian_reader.specs.declared.element.Form.{Form}
use Rattle.hessian_reader.specs.declared.element.Form.TheVariants as forms
use Rattle.hessian_reader.specs.declared.store.Lacks.{Lacks}
use Rattle.hessian_reader.specs.declared.store.OpenNode.{OpenNode}
use Rattle.hessian_reader.specs.States.{State, Place, AtValue, AtDefined, AtReference, AtType, AtLength, AtClass, AtName, AtCount, AtField as FieldPlace, ToEnd, Count, Key, Mate}

-- what an open node lacks, before the other slots
abbrev pub lacking_slots : Lacks → List Slot → List Slot
lacking_slots ToEnd ss = Items ∷ ss
lacking_slots (Count k) ss = ones k ss
lacking_slots Key ss = Entries ∷ ss
lacking_slots Mate ss = OneValue ∷ Entries ∷ ss

-- and what it lacks behind its next value
abbrev pub slots_behind_value : Lacks → List Slot → List Slot
slots_behind_value ToEnd ss = Items ∷ ss
slots_behind_value (Count k) ss = ones (k - 1) ss
slots_behind_value Key ss = OneValue ∷ Entries ∷ ss
slots_behind_value Mate ss = Entries ∷ ss

-- what the open nodes lack, and then so many roots
abbrev pub open_slots : List OpenNode → ℕ → List Slot
open_slots [] wanted = ones wanted []
open_slots (o ∷ os) wanted = lacking_slots o.lacks (open_slots os wanted)

-- the same behind the next value
abbrev pub left_slots : List OpenNode → ℕ → List Slot
left_slots [] wanted = ones (wanted - 1) []
left_slots (o ∷ os) wanted = slots_behind_value o.lacks (open_slots os wanted)

abbrev pub loose_form : Form → LooseForm
loose_form forms.Open = Open
loose_form forms.Long = Long
loose_form (forms.Short k) = Short k
loose_form forms.Pairs = Pairs

-- what comes at a place, where a value has begun there before what is left
abbrev pub slots_at : Place → List Slot → List Slot → List Slot
slots_at AtValue waiting left = waiting
slots_at AtDefined waiting left = OneValue ∷ left
slots_at AtReference waiting left = AReference ∷ left
slots_at (AtType form) waiting left = TypeSlot (loose_form form) ∷ left
slots_at (AtLength type_number) waiting left = ALength ∷ left
slots_at AtClass waiting left = AClass ∷ left
slots_at AtName waiting left = AName ∷ OneValue ∷ left
slots_at (AtCount name) waiting left = ACount name ∷ OneValue ∷ left
slots_at (FieldPlace class k) waiting left = AField class k ∷ OneValue ∷ left

abbrev pub slots_of : State → List Slot
slots_of s = slots_at s.place (open_slots s.built.open_nodes s.built.wanted) (left_slots s.built.open_nodes s.built.wanted)

-- the tables of a state
abbrev pub tables_of : State → Tables
tables_of s = record { begun = length s.built.nodes; types = s.names.types; classes = s.names.classes }
