use Rattle.std.proofs.Common.{◌<◌, ◌^◌, ◌∙◌, None, map, sym, arith}
use Rattle.pending_table.specs.Closing.{opened_by}
use Rattle.pending_table.specs.TableSeats.{log_of}
use Rattle.pending_table.proofs.SharedEnd.{records, nothing, small, same_counts}
use Rattle.pending_table.proofs.SharedGathers.{counted_is}
use Rattle.pending_table.proofs.shared.closing.close.Goals as goal

pub let_go-requires-clause-empty : goal.let_go-requires-clause-empty
let_go-requires-clause-empty g c =
    let final = c.close_with-rest.ensures.values.2 in
    λ k low.
    let inside : k < c.args.slots = let count = c.close_with-rest.ensures.counts.1 in let same = c.requires.counts.1 in omega arith in
    final.4 k None (nothing g.R.Meaning.fits c.args.table.shared.key.key.value c.args.table.shared.key.slots final.0 final.1.0 _ _ final.1.1 c.args.desks.items c.args.windows.items
    (c.gather_windows-whole.ensures.view.0 ∙ c.gather_desks-whole.ensures.view.0) c.gather_windows-whole.ensures.view.1 (c.requires.desks.0 ∙ sym c.requires.sized.0) c.requires.windows.0
    (λ i seat at. let own = c.requires.desks.1 i seat at in (own.0.number, own.1)) (λ i seat at. (c.requires.windows.1 i seat at).number) k (let same = c.requires.sized.0 in omega arith))

pub overflow_cast-opened : goal.overflow_cast-opened
overflow_cast-opened g c =
    let final = c.close_with-rest.ensures.values.2 in
    let low : c.args.table.shared.key.slots < 2 ^ 32 = let same = c.requires.sized.0 in let fits = c.ranges.slots.fits in omega arith in
    let few : opened_by (map log_of c.args.desks.items) < 2 ^ 64 = small g.R.Meaning.fits c.args.table.shared.key.key.value c.args.table.shared.key.slots final.0 final.1.0 _ _ final.1.1 c.args.desks.items c.args.windows.items
    (c.gather_windows-whole.ensures.view.0 ∙ c.gather_desks-whole.ensures.view.0) c.gather_windows-whole.ensures.view.1 (c.requires.desks.0 ∙ sym c.requires.sized.0) c.requires.windows.0
    (λ i seat at. let own = c.requires.desks.1 i seat at in (own.0.number, own.1)) (λ i seat at. (c.requires.windows.1 i seat at).number) low in
    let counts = c.gather_desks-whole.ensures.opened in
    let all = counted_is c.args.desks.items in
    omega arith

pub returns-clause-opened : goal.returns-clause-opened
returns-clause-opened g c =
    let final = c.close_with-rest.ensures.values.2 in
    let all = c.gather_desks-whole.ensures.opened ∙ counted_is c.args.desks.items in
    let said = records g.R.Meaning.fits c.args.table.shared.key.key.value c.args.table.shared.key.slots final.0 final.1.0 _ _ final.1.1 c.args.desks.items c.args.windows.items
    (c.gather_windows-whole.ensures.view.0 ∙ c.gather_desks-whole.ensures.view.0) c.gather_windows-whole.ensures.view.1 (c.requires.desks.0 ∙ sym c.requires.sized.0) c.requires.windows.0
    (λ i seat at. let own = c.requires.desks.1 i seat at in (own.0.number, own.1)) (λ i seat at. (c.requires.windows.1 i seat at).number) in
    (c.of.ensures.0 ∙ all, c.of.ensures.1 ∙ (all ∙ sym (same_counts (map log_of c.args.desks.items) said.settled)))

pub returns-clause-records : goal.returns-clause-records
returns-clause-records g c =
    let final = c.close_with-rest.ensures.values.2 in
    records g.R.Meaning.fits c.args.table.shared.key.key.value c.args.table.shared.key.slots final.0 final.1.0 _ _ final.1.1 c.args.desks.items c.args.windows.items
    (c.gather_windows-whole.ensures.view.0 ∙ c.gather_desks-whole.ensures.view.0) c.gather_windows-whole.ensures.view.1 (c.requires.desks.0 ∙ sym c.requires.sized.0) c.requires.windows.0
    (λ i seat at. let own = c.requires.desks.1 i seat at in (own.0.number, own.1)) (λ i seat at. (c.requires.windows.1 i seat at).number)
