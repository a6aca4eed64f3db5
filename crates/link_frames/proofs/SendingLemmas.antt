-- A write of two pieces, one behind the other.
use Rattle.std.proofs.Common.{◌≡◌, ℕ, ◌+◌, List, ◌++◌, length, take, ap, ◌∙◌, subst, append_assoc, arith, length-append}
use Rattle.std.proofs.lemmas.List.{take-append-le}
use Rattle.std.proofs.Math.Seq.{take-append-add, take-append_seam, take-length}
use Rattle.dubbo_io.specs.Sink.{SinkState, Sends, SentFront}
use Rattle.dubbo_io.specs.WriteFault.{StopsWriting, gone_of, faults_of}
use Rattle.dubbo_io.specs.declared.writing.WriteFault.{WriteFault}
use Rattle.dubbo_io.proofs.Sending.{Sends-join}

-- a fault inside the first piece
pub stops_first : {Badge : Type 0} (a b : SinkState Badge) (x y : List ℕ) (fault : WriteFault) → StopsWriting a b x fault → StopsWriting a b (x ++ y) fault
stops_first a b x y fault stop = record {
  within = omega (arith, stop.within, length-append x y);
  sends = rw (take-append-le (gone_of fault) x y stop.within) stop.sends;
  rose = stop.rose;
  some = stop.some;
  told = stop.told;
}

-- a fault behind the first piece, and the same as a fault of both
pub stops_second : {Badge : Type 0} (a b c : SinkState Badge) (x y : List ℕ) (fault whole : WriteFault) → gone_of whole ≡ length x + gone_of fault → faults_of whole ≡ faults_of fault → Sends a b x → StopsWriting b c y fault → StopsWriting a c (x ++ y) whole
stops_second a b c x y fault whole e f first stop = record {
  within = omega (arith, stop.within, length-append x y);
  sends = rw (e, take-append-add x y (gone_of fault)) (Sends-join a b c x (take (gone_of fault) y) first stop.sends);
  rose = omega (arith, stop.rose, first.faults);
  some = omega (arith, stop.some);
  told = omega (arith, stop.told);
}

-- what a fault says is gone is a front
pub stopped_front : {Badge : Type 0} (a b : SinkState Badge) (bytes : List ℕ) (fault : WriteFault) → StopsWriting a b bytes fault → SentFront a b bytes
stopped_front a b bytes fault stop = (gone_of fault, stop.within, stop.sends)

-- all bytes are a front of them
pub all_front : {Badge : Type 0} (a b : SinkState Badge) (bytes : List ℕ) → Sends a b bytes → SentFront a b bytes
all_front a b bytes sends = (length bytes, omega arith, rw (take-length bytes) sends)

-- two pieces that were put into a buffer, one behind the other
pub joined_front : (x y front body z p : List ℕ) → length front ≡ 16 → take 16 x ≡ front → y ≡ body ++ z → take (16 + length body) (take 16 x ++ (y ++ p)) ≡ front ++ body
joined_front x y front body z p sixteen first then =
    let behind : take (length body) ((body ++ z) ++ p) ≡ body = ap (take (length body)) (append_assoc body z p) ∙ take-append_seam body (z ++ p) in
    let whole = take-append-add front ((body ++ z) ++ p) (length body) ∙ ap (λ (l : List ℕ). front ++ l) behind in
    rw (first, then) (subst (λ n. take (n + length body) (front ++ ((body ++ z) ++ p)) ≡ front ++ body) sixteen whole)
