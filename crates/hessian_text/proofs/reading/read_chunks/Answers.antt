use Rattle.std.proofs.Common.{◌≤◌, ◌+◌, ◌-◌, arith, length, drop, take, subst}
use Rattle.std.specs.Prelude.{slice_index}
use Rattle.hessian_text.specs.Spelling.{AreBytes}
use Rattle.hessian_text.specs.declared.step.Fed.TheVariants as fed
use Rattle.hessian_text.specs.Reader.{Feeds, RefusesCode, RefusesItem}
use Rattle.hessian_text.proofs.Advancing.{rest_is}
use Rattle.hessian_text.proofs.Answering.{from_start, same_kind, whole_at, short_at, code_at, item_at, begun_within}
use Rattle.hessian_text.proofs.Exactly.{two_spelled, not_cut, no_code_no_value, no_item_no_value}
use Rattle.hessian_text.proofs.reading.read_chunks.Goals as goal

pub overflow_sub-result : goal.overflow_sub-result
overflow_sub-result c =
    let kind = c.args.kind in
    let rest = drop c.args.at c.args.bytes.now in
    let n = c.in-NoItem.taken in
    let k = c.in-NoItem.begun_len in
    let small : AreBytes c.args.bytes.now = record { small = λ i h. omega (arith, c.type_inv.bytes i) } in
    let told : Feeds c.new-reader.result rest c.feed.new.self (fed.NoItem n k) = subst (λ x. Feeds c.new-reader.result x c.feed.new.self (fed.NoItem n k)) (rest_is c.args.at c.args.bytes.now) (subst (λ t. Feeds c.new-reader.result (take (length c.args.bytes.now - c.args.at) rest) c.feed.new.self t) c.in-NoItem.is c.in-Ok.ensures) in
    let a = from_start kind c.new-reader.result c.feed.new.self (take n rest) c.new-reader.ensures told.1 in
    let r : RefusesItem kind c.feed.new.self.stage (slice_index rest n) k = subst (λ q. RefusesItem q c.feed.new.self.stage (slice_index rest n) k) (same_kind kind c.new-reader.result c.new-reader.ensures) told.2 in
    let within : k ≤ n = begun_within kind c.args.bytes.now c.args.at n k c.feed.new.self small told.0 a r in
    omega (arith, within)

pub returns-in-Whole-clause-ok : goal.returns-in-Whole-clause-ok
returns-in-Whole-clause-ok c =
    let rest = drop c.args.at c.args.bytes.now in
    let n = c.in-Whole.taken in
    let small : AreBytes c.args.bytes.now = record { small = λ i h. omega (arith, c.type_inv.bytes i) } in
    let told : Feeds c.new-reader.result rest c.feed.new.self (fed.Whole n) = subst (λ x. Feeds c.new-reader.result x c.feed.new.self (fed.Whole n)) (rest_is c.args.at c.args.bytes.now) (subst (λ t. Feeds c.new-reader.result (take (length c.args.bytes.now - c.args.at) rest) c.feed.new.self t) c.in-Whole.is c.in-Ok.ensures) in
    let a = from_start c.args.kind c.new-reader.result c.feed.new.self (take n rest) c.new-reader.ensures told.1 in
    whole_at c.args.kind c.args.bytes.now c.args.at n c.feed.new.self c.requires small told.0 a told.2

pub returns-in-More-clause-refused : goal.returns-in-More-clause-refused
returns-in-More-clause-refused c =
    let rest = drop c.args.at c.args.bytes.now in
    let small : AreBytes c.args.bytes.now = record { small = λ i h. omega (arith, c.type_inv.bytes i) } in
    let told : Feeds c.new-reader.result rest c.feed.new.self fed.More = subst (λ x. Feeds c.new-reader.result x c.feed.new.self fed.More) (rest_is c.args.at c.args.bytes.now) (subst (λ t. Feeds c.new-reader.result (take (length c.args.bytes.now - c.args.at) rest) c.feed.new.self t) c.in-More.is c.in-Ok.ensures) in
    let a = from_start c.args.kind c.new-reader.result c.feed.new.self rest c.new-reader.ensures told.0 in
    short_at c.args.kind c.args.bytes.now c.args.at c.feed.new.self c.requires small a told.1

pub returns-in-NoCode-clause-refused : goal.returns-in-NoCode-clause-refused
returns-in-NoCode-clause-refused c =
    let kind = c.args.kind in
    let rest = drop c.args.at c.args.bytes.now in
    let n = c.in-NoCode.taken in
    let small : AreBytes c.args.bytes.now = record { small = λ i h. omega (arith, c.type_inv.bytes i) } in
    let told : Feeds c.new-reader.result rest c.feed.new.self (fed.NoCode n) = subst (λ x. Feeds c.new-reader.result x c.feed.new.self (fed.NoCode n)) (rest_is c.args.at c.args.bytes.now) (subst (λ t. Feeds c.new-reader.result (take (length c.args.bytes.now - c.args.at) rest) c.feed.new.self t) c.in-NoCode.is c.in-Ok.ensures) in
    let a = from_start kind c.new-reader.result c.feed.new.self (take n rest) c.new-reader.ensures told.1 in
    let r : RefusesCode kind c.feed.new.self.stage (slice_index rest n) = subst (λ q. RefusesCode q c.feed.new.self.stage (slice_index rest n)) (same_kind kind c.new-reader.result c.new-reader.ensures) told.2 in
    code_at kind c.args.bytes.now c.args.at n c.feed.new.self c.requires small told.0 a r

pub returns-in-NoItem-clause-refused : goal.returns-in-NoItem-clause-refused
returns-in-NoItem-clause-refused c =
    let kind = c.args.kind in
    let rest = drop c.args.at c.args.bytes.now in
    let n = c.in-NoItem.taken in
    let k = c.in-NoItem.begun_len in
    let small : AreBytes c.args.bytes.now = record { small = λ i h. omega (arith, c.type_inv.bytes i) } in
    let told : Feeds c.new-reader.result rest c.feed.new.self (fed.NoItem n k) = subst (λ x. Feeds c.new-reader.result x c.feed.new.self (fed.NoItem n k)) (rest_is c.args.at c.args.bytes.now) (subst (λ t. Feeds c.new-reader.result (take (length c.args.bytes.now - c.args.at) rest) c.feed.new.self t) c.in-NoItem.is c.in-Ok.ensures) in
    let a = from_start kind c.new-reader.result c.feed.new.self (take n rest) c.new-reader.ensures told.1 in
    let r : RefusesItem kind c.feed.new.self.stage (slice_index rest n) k = subst (λ q. RefusesItem q c.feed.new.self.stage (slice_index rest n) k) (same_kind kind c.new-reader.result c.new-reader.ensures) told.2 in
    item_at kind c.args.bytes.now c.args.at n k c.feed.new.self c.requires small told.0 a r

pub returns-in-Whole-clause-complete : goal.returns-in-Whole-clause-complete
returns-in-Whole-clause-complete c = λ value end h.
    let rest = drop c.args.at c.args.bytes.now in
    let n = c.in-Whole.taken in
    let small : AreBytes c.args.bytes.now = record { small = λ i h. omega (arith, c.type_inv.bytes i) } in
    let told : Feeds c.new-reader.result rest c.feed.new.self (fed.Whole n) = subst (λ x. Feeds c.new-reader.result x c.feed.new.self (fed.Whole n)) (rest_is c.args.at c.args.bytes.now) (subst (λ t. Feeds c.new-reader.result (take (length c.args.bytes.now - c.args.at) rest) c.feed.new.self t) c.in-Whole.is c.in-Ok.ensures) in
    let a = from_start c.args.kind c.new-reader.result c.feed.new.self (take n rest) c.new-reader.ensures told.1 in
    two_spelled c.args.kind c.args.bytes.now c.feed.new.self.done value c.args.at (c.args.at + n) end small (whole_at c.args.kind c.args.bytes.now c.args.at n c.feed.new.self c.requires small told.0 a told.2) h

pub returns-in-More-clause-complete : goal.returns-in-More-clause-complete
returns-in-More-clause-complete c = λ value end h.
    let rest = drop c.args.at c.args.bytes.now in
    let small : AreBytes c.args.bytes.now = record { small = λ i h. omega (arith, c.type_inv.bytes i) } in
    let told : Feeds c.new-reader.result rest c.feed.new.self fed.More = subst (λ x. Feeds c.new-reader.result x c.feed.new.self fed.More) (rest_is c.args.at c.args.bytes.now) (subst (λ t. Feeds c.new-reader.result (take (length c.args.bytes.now - c.args.at) rest) c.feed.new.self t) c.in-More.is c.in-Ok.ensures) in
    let a = from_start c.args.kind c.new-reader.result c.feed.new.self rest c.new-reader.ensures told.0 in
    absurd (not_cut c.args.kind c.args.bytes.now value c.args.at end (length c.args.bytes.now) small h (short_at c.args.kind c.args.bytes.now c.args.at c.feed.new.self c.requires small a told.1))

pub returns-in-NoCode-clause-complete : goal.returns-in-NoCode-clause-complete
returns-in-NoCode-clause-complete c = λ value end h.
    let kind = c.args.kind in
    let rest = drop c.args.at c.args.bytes.now in
    let n = c.in-NoCode.taken in
    let small : AreBytes c.args.bytes.now = record { small = λ i h. omega (arith, c.type_inv.bytes i) } in
    let told : Feeds c.new-reader.result rest c.feed.new.self (fed.NoCode n) = subst (λ x. Feeds c.new-reader.result x c.feed.new.self (fed.NoCode n)) (rest_is c.args.at c.args.bytes.now) (subst (λ t. Feeds c.new-reader.result (take (length c.args.bytes.now - c.args.at) rest) c.feed.new.self t) c.in-NoCode.is c.in-Ok.ensures) in
    let a = from_start kind c.new-reader.result c.feed.new.self (take n rest) c.new-reader.ensures told.1 in
    let r : RefusesCode kind c.feed.new.self.stage (slice_index rest n) = subst (λ q. RefusesCode q c.feed.new.self.stage (slice_index rest n)) (same_kind kind c.new-reader.result c.new-reader.ensures) told.2 in
    absurd (no_code_no_value kind c.args.bytes.now value c.args.at end n c.feed.new.self small told.0 a r h)

pub returns-in-NoItem-clause-complete : goal.returns-in-NoItem-clause-complete
returns-in-NoItem-clause-complete c = λ value end h.
    let kind = c.args.kind in
    let rest = drop c.args.at c.args.bytes.now in
    let n = c.in-NoItem.taken in
    let k = c.in-NoItem.begun_len in
    let small : AreBytes c.args.bytes.now = record { small = λ i h. omega (arith, c.type_inv.bytes i) } in
    let told : Feeds c.new-reader.result rest c.feed.new.self (fed.NoItem n k) = subst (λ x. Feeds c.new-reader.result x c.feed.new.self (fed.NoItem n k)) (rest_is c.args.at c.args.bytes.now) (subst (λ t. Feeds c.new-reader.result (take (length c.args.bytes.now - c.args.at) rest) c.feed.new.self t) c.in-NoItem.is c.in-Ok.ensures) in
    let a = from_start kind c.new-reader.result c.feed.new.self (take n rest) c.new-reader.ensures told.1 in
    let r : RefusesItem kind c.feed.new.self.stage (slice_index rest n) k = subst (λ q. RefusesItem q c.feed.new.self.stage (slice_index rest n) k) (same_kind kind c.new-reader.result c.new-reader.ensures) told.2 in
    absurd (no_item_no_value kind c.args.bytes.now value c.args.at end n k c.feed.new.self small told.0 a r h)
