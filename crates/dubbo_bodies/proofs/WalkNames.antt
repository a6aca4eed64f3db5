-- The names of the logic that the two walks by hand use.
pub use Rattle.std.proofs.Common.{◌≡◌, ℕ, List, [], ◌∷◌, ◌++◌, length, refl, w64}
pub use Rattle.std.proofs.raw_atomic.Walks.{proved, leaves}
pub use base.Logic.{SProp, emp}
pub use base.Fml.{Fml}
pub use mir.Syntax.{named}
pub use mir.Val.{Val, vstruct, vcons, vnil, vptr, vint}
pub use contract.Monad.{fact, fact_i}
pub use contract.Running.{tables}
pub use types.Kit.{‵, raw, ◌⊛◌, ◌$◌, ◌∵◌, !, qed, by, keep, split, fjoin, use0, suffices, move, join, done}
pub use types.Run.{no_more, and_then, returns, enter}
pub use types.ByLocal.{alloc_all, pass_all, free_all, look_at, get, sets}
pub use types.Part.{agg}
pub use denote.Exit.{yes}
pub use denote.Shadow.{makes_shadow}
pub use denote.Signature.{plain, types_at, type_at}
pub use denote.RattleType.{RattleType, owns}
pub use denote.Steps.{nothing}
pub use denote.Builtin.{u8, RefOf, SliceRefOf}
pub use denote.Ref.{shr_vals, shr_Tells}
pub use denote.Slice.{slice_val, shr_slice_vals, shr_slice_Tells, shr_slice_Lawful}
pub use denote.Triple.Entry.{alive, Res}
pub use denote.Triple.Walked.{Stays, walk_of, says, stay_dropped, Goes-dropped, ends_at}
