-- The scheduler's shared condition on a stream in mid-message, as a type over the model (document 02, 10/13): "in a queue that never had interleaving,
-- and was new or restored from an
-- image with at most one half-sent message, a half-sent head on a waiting stream means that this stream is remembered". Assumes nothing.
use Rattle.std.specs.Prelude.{◌≡◌, true, false, List, ℕ, ◌≤◌, ltb}
use Rattle.std.proofs.Math.Option.{Option, none, some}
use Rattle.std.specs.Prelude.{if◌then◌else◌}
use Rattle.queue_model.specs.Logic.{is_some}
use Rattle.queue_model.specs.Table.{sum_by}
use Rattle.queue_model.specs.Types.{Stream, Options, Queue, done}
use Rattle.queue_model.specs.Scheduler.{find_active}
use Rattle.queue_model.specs.Streams.{find_stream, new_queue}
use Rattle.queue_model.specs.Image.{MessageRecord, Handover}
use Rattle.queue_model.specs.Reader.{read_image}
use Rattle.queue_model.specs.Restore.{half_sent_first}
use Rattle.queue_model.specs.Run.{Call, add, produce, fill, discard, close, ready_ids, commit, rollback, reset, set_threshold, set_priority, set_interleaving, restore, ask_priority, ask_amount, ask_threshold, ask_total, ask_empty, ask_has_data, ask_streams_ready, ask_ready_count, ask_readiness, ask_room, step}
use Rattle.queue_model.specs.Demands.{Typed, Created}

-- The half-sent messages of an image.
unfoldable pub half_sent_record : MessageRecord → ℕ
half_sent_record r = if ltb 0 r.offset then 1 else 0

abbrev pub half_sent_records : List MessageRecord → ℕ
half_sent_records rs = sum_by (λ (r : MessageRecord). half_sent_record r) rs

-- "an image with at most one half-sent message".
abbrev pub AtMostOne : Option Handover → Type 0
AtMostOne none = Unit {0}
AtMostOne (some h) = half_sent_records h.messages ≤ 1

-- A call that does not switch interleaving on; what it restores is such (a refused restoring restores nothing), and fillings are let in or not.
abbrev pub Uninterleaved : Type 0 → (Option Handover → Type 0) → Call → Queue → Type 0
Uninterleaved F P (add store now m) q = Unit {0}
Uninterleaved F P (produce store places buffer now size) q = Unit {0}
Uninterleaved F P (fill store places buffer now p) q = F
Uninterleaved F P (discard places s k) q = Unit {0}
Uninterleaved F P (close places s) q = Unit {0}
Uninterleaved F P ready_ids q = Unit {0}
Uninterleaved F P commit q = Unit {0}
Uninterleaved F P rollback q = Unit {0}
Uninterleaved F P reset q = Unit {0}
Uninterleaved F P (set_threshold places s t) q = Unit {0}
Uninterleaved F P (set_priority s p) q = Unit {0}
Uninterleaved F P (set_interleaving b) q = b ≡ false
Uninterleaved F P (restore store now image) q = (step (restore store now image) q).outcome.answer ≡ done → P (read_image image)
Uninterleaved F P (ask_priority s) q = Unit {0}
Uninterleaved F P (ask_amount s) q = Unit {0}
Uninterleaved F P (ask_threshold s) q = Unit {0}
Uninterleaved F P ask_total q = Unit {0}
Uninterleaved F P ask_empty q = Unit {0}
Uninterleaved F P ask_has_data q = Unit {0}
Uninterleaved F P ask_streams_ready q = Unit {0}
Uninterleaved F P ask_ready_count q = Unit {0}
Uninterleaved F P ask_readiness q = Unit {0}
Uninterleaved F P (ask_room r) q = Unit {0}

-- It restores no image with more than one half-sent message.
abbrev pub Uninterrupted : Call → Queue → Type 0
Uninterrupted c q = Uninterleaved (Unit {0}) AtMostOne c q

-- "a queue that never had interleaving, and was new or restored from an image with at most one half-sent message".
pub data NeverInterleaved (o : Options) : Queue → Type 0 where
  at_first : Created o → NeverInterleaved o (new_queue o)
  later : {q : Queue} → NeverInterleaved o q → (c : Call) → Typed c → Uninterrupted c q → NeverInterleaved o (step c q).next

-- "a half-sent head on a waiting stream means that this stream is remembered".
unfoldable pub Request10Remembered : Type 0
Request10Remembered =
    (o : Options) (q : Queue) (k : ℕ) (s : Stream)
    → NeverInterleaved o q → find_stream k q.streams ≡ some s → half_sent_first s.items ≡ true → is_some (find_active k q.scheduler.active) ≡ true
    → q.scheduler.current ≡ some k
