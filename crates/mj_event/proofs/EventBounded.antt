-- Reading an event goes forward.
use Rattle.std.proofs.Common.{◌≡◌, ℕ, ◌≤◌, List, length, Option, None, Ok, Err, arith}
use Rattle.std.specs.Prelude.{nat_lt}
use Rattle.mj_base.specs.Reading.{such, u64_at, is_above}
use Rattle.mj_base.proofs.Bounded.{IsBounded, field_within, then_within, such_bounded, standing_bounded, bytes_bounded, u8_bounded, u32_bounded, u64_bounded, optional_bounded, run_bounded}
use Rattle.mj_meta.proofs.BlobBounded.{blob_bounded}
use Rattle.mj_event.specs.declared.OpenPair.{OpenPair}
use Rattle.mj_event.specs.declared.Event.{Event}
use Rattle.mj_event.specs.Event.{EventType, event_type, is_count, most_dropped, client_follows, ino_follows}
use Rattle.mj_event.specs.Event.EventType.{AMap, AReset, ASession, AnUpdate, AReopen, ANoOp}
use Rattle.mj_event.specs.EventReading.{rising_at, numbers_at, session_kind_of, session_at, update_at, pair_at, pairs_at, are_zeros, pad_at, body_at, event_at}

rising_bounded : (n : ℕ) → IsBounded (rising_at n)
rising_bounded n = run_bounded (λ before. such (is_above nat_lt before) u64_at) (λ before. such_bounded (is_above nat_lt before) u64_bounded) n None

numbers_bounded : (least most : ℕ) → IsBounded (numbers_at least most)
unfolding numbers_at
numbers_bounded least most = record { bound = λ bytes. then_within (length bytes) _ _ ((such_bounded (is_count least most) u32_bounded).bound bytes) (λ n w. field_within (rising_bounded n.0) (length bytes) n.1 w) }

session_bounded : IsBounded session_at
unfolding session_at
session_bounded = record {
  bound = λ bytes. let limit = length bytes in
      then_within limit _ _ (u32_bounded.bound bytes) (λ client w0.
      then_within limit _ _ (field_within (standing_bounded session_kind_of u8_bounded) limit client.1 w0) (λ kind w1.
      then_within limit _ _ (field_within u64_bounded limit kind.1 w1) (λ oldest w2.
      then_within limit _ _ (field_within u64_bounded limit oldest.1 w2) (λ tid w3.
      then_within limit _ _ (field_within (numbers_bounded 0 (most_dropped kind.0)) limit tid.1 w3) (λ dropped w4. w4)))));
}

update_bounded : IsBounded update_at
unfolding update_at
update_bounded = record {
  bound = λ bytes. let limit = length bytes in
      then_within limit _ _ ((such_bounded (is_count 3 12) u8_bounded).bound bytes) (λ op w0.
      then_within limit _ _ (field_within u32_bounded limit op.1 w0) (λ client w1.
      then_within limit _ _ (field_within u64_bounded limit client.1 w1) (λ tid w2.
      then_within limit _ _ (field_within u64_bounded limit tid.1 w2) (λ ino w3.
      then_within limit _ _ (field_within (optional_bounded u64_bounded) limit ino.1 w3) (λ oldest w4.
      then_within limit _ _ (field_within (numbers_bounded 0 64) limit oldest.1 w4) (λ dropped w5.
      then_within limit _ _ (field_within (optional_bounded u64_bounded) limit dropped.1 w5) (λ next w6.
      then_within limit _ _ (field_within (optional_bounded u64_bounded) limit next.1 w6) (λ opened w7.
      then_within limit _ _ (field_within (optional_bounded u64_bounded) limit opened.1 w7) (λ released w8.
      then_within limit _ _ (field_within blob_bounded limit released.1 w8) (λ blob w9. w9))))))))));
}

pair_bounded : (before : Option OpenPair) → IsBounded (pair_at before)
unfolding pair_at
pair_bounded before = record {
  bound = λ bytes. let limit = length bytes in
      then_within limit _ _ ((such_bounded (client_follows before) u32_bounded).bound bytes) (λ client w0.
      then_within limit _ _ (field_within (such_bounded (ino_follows before client.0) u64_bounded) limit client.1 w0) (λ ino w1. w1));
}

pairs_bounded : IsBounded pairs_at
unfolding pairs_at
pairs_bounded = record { bound = λ bytes. then_within (length bytes) _ _ ((such_bounded (is_count 1 1024) u32_bounded).bound bytes) (λ n w. field_within (run_bounded pair_at pair_bounded n.0 None) (length bytes) n.1 w) }

pad_bounded : IsBounded pad_at
unfolding pad_at
pad_bounded = record {
  bound = λ bytes. let limit = length bytes in
      then_within limit _ _ (u32_bounded.bound bytes) (λ n w0.
      then_within limit _ _ (field_within (such_bounded are_zeros (bytes_bounded n.0)) limit n.1 w0) (λ zeros w1. w1));
}

body_bounded : (t : EventType) → IsBounded (body_at t)
body_bounded AMap = record { bound = λ bytes. then_within (length bytes) _ _ ((numbers_bounded 1 64).bound bytes) (λ x w. w) }
body_bounded AReset = record { bound = λ bytes. omega arith }
body_bounded ASession = record { bound = λ bytes. then_within (length bytes) _ _ (session_bounded.bound bytes) (λ x w. w) }
body_bounded AnUpdate = record { bound = λ bytes. then_within (length bytes) _ _ (update_bounded.bound bytes) (λ x w. w) }
body_bounded AReopen = record { bound = λ bytes. then_within (length bytes) _ _ (pairs_bounded.bound bytes) (λ x w. w) }
body_bounded ANoOp = record { bound = λ bytes. then_within (length bytes) _ _ (pad_bounded.bound bytes) (λ x w. w) }

event_bounded : IsBounded event_at
unfolding event_at
event_bounded = record { bound = λ bytes. then_within (length bytes) _ _ ((standing_bounded event_type u32_bounded).bound bytes) (λ t w. field_within (body_bounded t.0) (length bytes) t.1 w) }

pub event_ends : (bytes : List ℕ) (e : Event) (rest : List ℕ) → event_at bytes ≡ Ok (e, rest) → length rest ≤ length bytes
event_ends bytes e rest is = rw is at (event_bounded.bound bytes)

pub event_stops : (bytes : List ℕ) (left : ℕ) → event_at bytes ≡ Err left → left ≤ length bytes
event_stops bytes left is = rw is at (event_bounded.bound bytes)
