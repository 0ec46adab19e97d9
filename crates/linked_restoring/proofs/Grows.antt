-- What one restored message adds to the streams of the model. Assumes nothing.
use mathlib.Core.Path.{◌≡◌, refl, sym, ap, ◌∙◌}
use mathlib.Core.List.{List, [], ◌∷◌, ◌++◌}
use mathlib.Core.Option.{none, some}
use Prim.Native.Nat.{ℕ, zero, suc, ◌+◌, ◌-◌, ◌≤◌}
use native.Mathlib.Omega.{arith}
use lib.ListN.{length}
use Rattle.queue_model.specs.Table.{sum_by}
use Rattle.queue_model.specs.Types.{Stream, Options}
use Rattle.queue_model.specs.Streams.{new_stream, at, with_message, stream_key, put_stream, find_stream, amounts}
use Rattle.queue_model.specs.Image.{MessageRecord}
use Rattle.queue_model.specs.Restore.{restored_item, restore_message, restore_messages}
use Rattle.queue_model.proofs.Table.{Rising, length_sum, sum_put_new}
use Rattle.queue_model.proofs.Streams.{at_id, at_found, at_new, sum_put_at}
use Rattle.queue_model.proofs.Demand3.Restored.{restore_message_of, restore_messages_cons, restore_messages_nil}
use Rattle.queue_state.specs.Model.{tab}
use Rattle.image_rules.proofs.RestoreLink.{more_length}

-- ---- one message

module _ (o : Options) (time : ℕ) (r : MessageRecord) (ss : List Stream) (rising : Rising stream_key ss) where
  abbrev new : Stream
  new = with_message (at o ss r.id) (restored_item time r)

  id_same : (at o ss r.id).id ≡ r.id
  id_same = at_id o ss r.id

  -- a measure of streams that the message makes larger by n
  measure : (f : Stream → ℕ) (n : ℕ) → f (new_stream o new.id) ≡ 0 → f new ≡ f (at o ss r.id) + n → sum_by f (restore_message o time r ss) ≡ sum_by f ss + n
  measure f n z e =
      let a : sum_by f (put_stream new ss) + f (at o ss new.id) ≡ sum_by f ss + f new = sum_put_at f o new ss rising z in
      let b : f (at o ss new.id) ≡ f (at o ss r.id) = ap (λ (k : ℕ). f (at o ss k)) id_same in
      let c : sum_by f (restore_message o time r ss) ≡ sum_by f (put_stream new ss) = ap (sum_by f) (restore_message_of o time r ss) in
      omega arith

  item_payload : (restored_item time r).payload ≡ r.payload
  unfolding restored_item
  item_payload = refl

  item_offset : (restored_item time r).offset ≡ r.offset
  unfolding restored_item
  item_offset = refl

  pub grows_amounts : amounts (restore_message o time r ss) ≡ amounts ss + (length r.payload - r.offset)
  grows_amounts =
      measure (λ (s : Stream). s.amount) (length r.payload - r.offset) refl
      (ap (λ (x : List ℕ). (at o ss r.id).amount + (length x - (restored_item time r).offset)) item_payload ∙ ap (λ (k : ℕ). (at o ss r.id).amount + (length r.payload - k)) item_offset)

  -- the streams are as many, or one more
  pub grows_length : length ss ≤ length (restore_message o time r ss)
  grows_length = omega (arith, more_length o time r ss rising)

-- ---- by what is known

-- a known stream
pub restore_found : (o : Options) (time : ℕ) (r : MessageRecord) (ss : List Stream) (s : Stream) → find_stream r.id ss ≡ some s → restore_message o time r ss ≡ put_stream (with_message s (restored_item time r)) ss
restore_found o time r ss s e = restore_message_of o time r ss ∙ ap (λ (x : Stream). put_stream (with_message x (restored_item time r)) ss) (at_found o ss r.id s e)

-- a stream that only messages name
pub restore_new : (o : Options) (time : ℕ) (r : MessageRecord) (ss : List Stream) → find_stream r.id ss ≡ none → restore_message o time r ss ≡ put_stream (with_message (new_stream o r.id) (restored_item time r)) ss
restore_new o time r ss e = restore_message_of o time r ss ∙ ap (λ (x : Stream). put_stream (with_message x (restored_item time r)) ss) (at_new o ss r.id e)

pub new_length : (o : Options) (time : ℕ) (r : MessageRecord) (ss : List Stream) → find_stream r.id ss ≡ none → length (restore_message o time r ss) ≡ length ss + 1
new_length o time r ss e =
    let s : Stream = with_message (new_stream o r.id) (restored_item time r) in
    let c : length (restore_message o time r ss) ≡ length (put_stream s ss) = ap length (restore_new o time r ss e) in
    omega (arith, c, length_sum (put_stream s ss), length_sum ss, sum_put_new stream_key (λ (x : Stream). 1) s ss e)

-- ---- one record more, at the end

pub restore_snoc : (o : Options) (time : ℕ) (rs : List MessageRecord) (r : MessageRecord) (ss : List Stream) → restore_messages o time (rs ++ (r ∷ [])) ss ≡ restore_message o time r (restore_messages o time rs ss)
restore_snoc o time [] r ss = restore_messages_cons o time r [] ss ∙ restore_messages_nil o time (restore_message o time r ss) ∙ ap (restore_message o time r) (sym (restore_messages_nil o time ss))
restore_snoc o time (x ∷ rs) r ss =
    restore_messages_cons o time x (rs ++ (r ∷ [])) ss
    ∙ restore_snoc o time rs r (restore_message o time x ss)
    ∙ ap (restore_message o time r) (sym (restore_messages_cons o time x rs ss))

pub tab_snoc : {A : Type 0} (f : ℕ → A) (n : ℕ) → tab f (suc n) ≡ tab f n ++ (f n ∷ [])
unfolding tab
tab_snoc f zero = refl
tab_snoc f (suc n) = ap (λ l. f 0 ∷ l) (tab_snoc (λ j. f (suc j)) n)
