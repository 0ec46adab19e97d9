-- Restoring is fine: an image that is read restores a well queue. Assumes nothing.
use mathlib.Core.Path.{◌≡◌, refl, sym, ap, ◌∙◌, subst}
use mathlib.Core.Bool.{Bool, true, false, not, ◌&&◌, ◌||◌}
use mathlib.Core.List.{List, [], ◌∷◌, ◌++◌, map}
use mathlib.Core.Option.{Option, none, some, get_or}
use Prim.Native.Nat.{ℕ, ◌+◌, ◌*◌, ◌^◌, ◌≤◌, ◌<◌}
use native.Mathlib.Omega.{arith}
use lib.Dec.{T, ltb, leb, eqb, eqb→eq, leb→le}
use lib.ListN.{length}
use lib.Pow.{are_bytes}
use borrow.Author.Tests.{not-false}
use Rattle.queue_model.specs.Logic.{is_nil}
use Rattle.queue_model.specs.Types.{Item, Stream, Options, Queue, done, reply}
use Rattle.queue_model.specs.Streams.{max_streams, max_messages, at, with_message, waiting, occupied, has_items, stream_key}
use Rattle.queue_model.specs.Refusals.{max_time}
use Rattle.queue_model.specs.Bytes.{Fits, row_bytes}
use Rattle.queue_model.specs.Image.{StreamRecord, MessageRecord, Handover, StreamsFit, MessagesFit, stream_widths, message_widths, trailer_widths, stream_row, message_row, trailer_row, streams_bytes, message_bytes, messages_bytes, image_bytes}
use Rattle.queue_model.specs.Reader.{read_image, has_flag, message_right, messages_right_after, messages_right, streams_right, handover_right}
use Rattle.queue_model.specs.Restore.{restored_stream, give, restored_item, restore_streams, restore_message, restore_messages, restored, record_checks, restore_read, restore_checks}
use Rattle.queue_model.specs.Demands.{Created}
use Rattle.queue_model.proofs.Tests.{is_true, is_false, holds, ltb_false, less, same, more, tri}
use Rattle.queue_model.proofs.Table.{find_nil, Rising, rising_put, Every, every_put}
use Rattle.queue_model.proofs.Checks.{or_left, or_right, not_less, nil_of}
use Rattle.queue_model.proofs.Streams.{at_id, every_at, unsent_snoc, size_at, size_unknown}
use Rattle.queue_model.proofs.Image.ByteRows.{and_l, and_r, and_intro}
use Rattle.queue_model.proofs.Image.ReadWrite.{Sound, image_sound, image_canonical, messages_bytes_cons, message_bytes_of}
use Rattle.queue_model.proofs.Invariant.Messages.{WellItem}
use Rattle.queue_model.proofs.Invariant.Waits.{Listed, waits_weaken, due, each_kept}
use Rattle.queue_model.proofs.Invariant.Well.{Kept, kept_new, Well, well_snoc}
use Rattle.queue_model.proofs.Invariant.Fine.{Fine, fine_checked, all_ready}
use Rattle.queue_model.proofs.Invariant.Recalls.{recall_kept}
use Rattle.queue_model.proofs.Demand3.Restored.{Rules, rules, first_mid, give_none, Quiet, quiet_up, quiet_put, bases}
use Rattle.queue_model.specs.Restore
use Rattle.queue_model.proofs.Slips.{no_mid_restored}

-- ---- payloads of an image are bytes

abbrev pub AllBytes : List MessageRecord → Type 0
AllBytes rs = Every (λ (r : MessageRecord). T (are_bytes r.payload)) rs

parts_bytes : (xs ys : List ℕ) → T (are_bytes (xs ++ ys)) → T (are_bytes xs) × T (are_bytes ys)
parts_bytes [] ys t = (tt, t)
parts_bytes (x ∷ xs) ys t =
    let r = parts_bytes xs ys (and_r (ltb x 256) (are_bytes (xs ++ ys)) t) in
    (and_intro (ltb x 256) (are_bytes xs) (and_l (ltb x 256) (are_bytes (xs ++ ys)) t) r.0, r.1)

messages_are_bytes : (rs : List MessageRecord) → T (are_bytes (messages_bytes rs)) → AllBytes rs
messages_are_bytes [] t = tt
messages_are_bytes (r ∷ rs) t =
    let a = parts_bytes (message_bytes r) (messages_bytes rs) (subst (λ (x : List ℕ). T (are_bytes x)) (messages_bytes_cons r rs) t) in
    ((parts_bytes (row_bytes message_widths (message_row r)) r.payload (subst (λ (x : List ℕ). T (are_bytes x)) (message_bytes_of r) a.0)).1, messages_are_bytes rs a.1)

image_payloads : (h : Handover) → T (are_bytes (image_bytes h)) → AllBytes h.messages
unfolding image_bytes
image_payloads h t =
    let rest : List ℕ = messages_bytes h.messages ++ row_bytes trailer_widths (trailer_row h) in
    messages_are_bytes h.messages (parts_bytes (messages_bytes h.messages) (row_bytes trailer_widths (trailer_row h)) (parts_bytes (streams_bytes h.streams) rest t).1).0

-- ---- one message

give_fits : (b : Bool) (n m : ℕ) → n < m → get_or (give b n) 0 < m
unfolding give
give_fits true n m h = h
give_fits false n m h = omega arith

restored_well : (now : ℕ) (r : MessageRecord) → now ≤ max_time → Rules r → Fits message_widths (message_row r) → T (are_bytes r.payload) → WellItem (restored_item now r)
unfolding restored_item
restored_well now r h u f b =
    let m = u.ms_small in
    record {
      unsent = u.unsent;
      small = u.payload_small;
      id_fits = f.1.1.1.1.1.1.1.1.1.1.0;
      ppid_fits = f.1.1.1.0;
      retransmissions_fit = f.1.1.1.1.1.0;
      lifecycle_fits = f.1.1.1.1.1.1.1.1.1.0;
      mid_fits = give_fits (has_flag 2 r.flags) r.mid (2 ^ 32) f.1.1.1.1.1.1.1.0;
      ssn_fits = f.1.1.1.1.1.1.0;
      fsn_fits = f.1.1.1.1.1.1.1.1.0;
      no_ssn = λ e. u.no_ssn (give_none (has_flag 2 r.flags) r.mid e);
      no_offset = λ e. u.no_offset (give_none (has_flag 2 r.flags) r.mid e);
      no_fsn = λ e. u.no_fsn (give_none (has_flag 2 r.flags) r.mid e);
      unordered_ssn = u.unordered_ssn;
      expiry_fits = give_fits (has_flag 4 r.flags) (now + r.ms_left * 1000000) (2 ^ 64) (omega arith);
      bytes = b;
    }

quiet_find : (k j : ℕ) (ss : List Stream) → k < j → Quiet k ss → Every (λ s. s.id ≡ j → s.items ≡ []) ss
quiet_find k j [] h q = tt
quiet_find k j (s ∷ ss) h q = ((λ e. q.0 (omega arith)), quiet_find k j ss h q.1)

quiet_at : (o : Options) (k j : ℕ) (ss : List Stream) → k < j → Quiet k ss → (at o ss j).items ≡ []
quiet_at o k j ss h q = (every_at (λ s. s.id ≡ j → s.items ≡ []) o j ss (quiet_find k j ss h q) (λ e. refl)) (at_id o ss j)

-- ---- all messages

record Restorable (ss : List Stream) : Type 0 where
  in_order : Rising stream_key ss
  all_kept : Every Kept ss

module _ (o : Options) (creation : Created o) (now : ℕ) (early : now ≤ max_time) where
  -- A message put at its stream's end: without MID unless it is the first.
  place_well : (r : MessageRecord) (ss : List Stream) → Restorable ss → Rules r → Fits message_widths (message_row r) → T (are_bytes r.payload) → (((at o ss r.id).items ≡ [] → ⊥) → has_flag 2 r.flags ≡ false) → Restorable (restore_message o now r ss)
  unfolding restore_message
  place_well r ss g u f b n =
      let s : Stream = at o ss r.id in
      let i : Item = restored_item now r in
      let k : Kept s = every_at Kept o r.id ss g.all_kept (kept_new o r.id creation f.0) in
      let x = k.counted in let y = unsent_snoc s.items i in
      let v : Kept (with_message s i) = record {
        id_fits = k.id_fits;
        priority_fits = k.priority_fits;
        threshold_fits = k.threshold_fits;
        counters_fit = k.counters_fit;
        well_items = well_snoc s.items i k.well_items (restored_well now r early u f b) (λ e. no_mid_restored now r (n e));
        counted = omega arith;
      } in
      record { in_order = rising_put stream_key (with_message s i) ss g.in_order; all_kept = every_put stream_key Kept (with_message s i) ss v g.all_kept }

  quiet_after : (k : ℕ) (r : MessageRecord) (ss : List Stream) → k ≤ r.id → Quiet k ss → Quiet r.id (restore_message o now r ss)
  unfolding restore_message
  quiet_after k r ss h q = let e = at_id o ss r.id in quiet_put r.id (with_message (at o ss r.id) (restored_item now r)) ss (omega arith) (quiet_up k r.id ss h q)

  places_after : (k : ℕ) (rs : List MessageRecord) (ss : List Stream) → Restorable ss → Quiet k ss → T (messages_right_after k rs) → MessagesFit rs → AllBytes rs → Restorable (restore_messages o now rs ss)
  unfolding messages_right_after restore_messages
  places_after k [] ss g q t f b = g
  places_after k (r ∷ rs) ss g q t f b =
      let x : Bool = leb k r.id in let y : Bool = message_right (ltb k r.id) r in let z : Bool = messages_right_after r.id rs in
      let l : k ≤ r.id = leb→le k r.id (and_l x y (and_l (x && y) z t)) in
      let m : T (message_right (ltb k r.id) r) = and_r x y (and_l (x && y) z t) in
      places_after r.id rs (restore_message o now r ss)
      (place_well r ss g (rules (ltb k r.id) r m) f.0 b.0 (λ n. is_false (has_flag 2 r.flags) (λ v.
      elim (tri k r.id) [
        | less h ↦ n (quiet_at o k r.id ss h q)
        | same e ↦ subst T (ltb_false {a = k} {b = r.id} (omega arith)) (first_mid (ltb k r.id) r m (is_true (has_flag 2 r.flags) v))
        | more h ↦ omega arith
      ])))
      (quiet_after k r ss l q) (and_r (x && y) z t) f.1 b.1

  -- The first message's stream has none before it.
  places : (rs : List MessageRecord) (ss : List Stream) → Restorable ss → Every (λ s. s.items ≡ []) ss → Quiet 0 ss → T (messages_right rs) → MessagesFit rs → AllBytes rs → Restorable (restore_messages o now rs ss)
  unfolding messages_right restore_messages
  places [] ss g n q t f b = g
  places (r ∷ rs) ss g n q t f b =
      let y : Bool = message_right true r in let z : Bool = messages_right_after r.id rs in
      places_after r.id rs (restore_message o now r ss)
      (place_well r ss g (rules true r (and_l y z t)) f.0 b.0 (λ m. absurd (m (every_at (λ s. s.items ≡ []) o r.id ss n refl))))
      (quiet_after 0 r ss (omega arith) q) (and_r y z t) f.1 b.1

  kept_restored : (r : StreamRecord) → Fits stream_widths (stream_row r) → Kept (restored_stream o r)
  unfolding restored_stream
  kept_restored r f = record {
    id_fits = f.0;
    priority_fits = f.1.1.1.1.0;
    threshold_fits = creation.default_threshold;
    counters_fit = record { ssn_fits = f.1.0; unordered_fits = f.1.1.0; ordered_fits = f.1.1.1.0 };
    well_items = tt;
    counted = refl;
  }

  kept_all : (rs : List StreamRecord) → StreamsFit rs → Every Kept (map (restored_stream o) rs)
  kept_all [] f = tt
  kept_all (r ∷ rs) f = (kept_restored r f.0, kept_all rs f.1)

  no_items : (rs : List StreamRecord) → Every (λ s. s.items ≡ []) (map (restored_stream o) rs)
  unfolding restored_stream
  no_items [] = tt
  no_items (r ∷ rs) = (refl, no_items rs)

  -- The streams of a handover record that was read.
  restorable : (h : Handover) → Sound h → AllBytes h.messages → h.default_priority ≡ o.default_priority → Restorable (restore_messages o now h.messages (restore_streams o h.streams))
  unfolding handover_right restore_streams
  restorable h s b e =
      let x : Bool = streams_right h.default_priority h.streams in let y : Bool = messages_right h.messages in
      let t : T (streams_right o.default_priority h.streams) = subst (λ (d : ℕ). T (streams_right d h.streams)) e (and_l x y s.sound_right) in
      let bs = bases o now h.streams t s.sound_streams in
      places h.messages (map (restored_stream o) h.streams) (record { in_order = bs.bases_good.rising; all_kept = kept_all h.streams s.sound_streams }) (no_items h.streams) bs.bases_quiet (and_r x y s.sound_right) s.sound_messages b

-- ---- the queue

restored_is_well : (now : ℕ) (h : Handover) (q : Queue) → Well q → now ≤ max_time → q.streams ≡ [] → Sound h → AllBytes h.messages → h.default_priority ≡ q.options.default_priority
    → length (restored now h q).streams ≤ max_streams → waiting (restored now h q).streams ≤ max_messages → occupied (restored now h q).streams ≤ q.options.store_length → Well (restored now h q)
unfolding restored
restored_is_well now h q w early e s b d l m f =
    let xs : List Stream = restore_messages q.options now h.messages (restore_streams q.options h.streams) in
    let g : Restorable xs = restorable q.options w.creation now early h s b d in
    record {
      creation = w.creation;
      rising = g.in_order;
      kept = g.all_kept;
      total_counted = refl;
      next_fits = s.sound_next;
      streams_few = l;
      messages_few = m;
      store_fits = f;
      waits = recall_kept q.options.payload_limit (Listed q.interleaving xs) q.interleaving xs q.scheduler g.all_kept
          (each_kept q.options.payload_limit q.interleaving has_items xs xs q.scheduler (all_ready xs g.in_order g.all_kept)
          (waits_weaken q.options.payload_limit (Listed q.interleaving q.streams) (λ a. due has_items a.stream_id xs ≡ false → Listed q.interleaving xs a) q.scheduler
          (λ a x y. let p = x.positive in let z = x.sized in let n : size_at a.stream_id q.streams ≡ 0 = ap (size_at a.stream_id) e ∙ size_unknown a.stream_id [] (find_nil stream_key a.stream_id) in absurd (omega arith)) w.waits));
    }

-- ---- the call

fine_record : (now : ℕ) (q : Queue) (h : Handover) → Well q → now ≤ max_time → q.streams ≡ [] → Sound h → AllBytes h.messages → Fine q (restore_read now q (some h))
unfolding restore_read
fine_record now q h w early e s b =
    let r : Queue = restored now h q in
    let x : Bool = ltb max_streams (length r.streams) in let y : Bool = ltb max_messages (waiting r.streams) in let z : Bool = ltb q.options.store_length (occupied r.streams) in
    let d : Bool = eqb h.default_priority q.options.default_priority in
    fine_checked (record_checks now q h) q (reply done [] r) w (λ p₁₃ p₁₄ p₁₅. tt)
    (λ p. record {
      next_well = restored_is_well now h q w early e s b (eqb→eq h.default_priority q.options.default_priority (holds d (not-false d p.1.0)))
          (not_less max_streams (length r.streams) (or_left x y (or_left (x || y) z p.1.1.0)))
          (not_less max_messages (waiting r.streams) (or_right x y (or_left (x || y) z p.1.1.0)))
          (not_less q.options.store_length (occupied r.streams) (or_right (x || y) z p.1.1.0));
      not_sixteen = refl;
      same_options = refl;
    })

pub fine_restore : (store now : ℕ) (image : List ℕ) (q : Queue) → Well q → T (are_bytes image) → Fine q (Restore.restore store now image q)
unfolding Restore.restore restore_read
fine_restore store now image q w b =
    let used : Bool = not (is_nil q.streams) in let numbered : Bool = not (eqb q.next_message_id 0) in
    fine_checked (restore_checks store now q) q (restore_read now q (read_image image)) w (λ p₂ p₄ p₁₂. tt)
    (λ p. go (not_less max_time now p.1.0) (nil_of q.streams (not-false (is_nil q.streams) (or_left used numbered p.1.1.0))) (read_image image) refl)
  where
    go : now ≤ max_time → q.streams ≡ [] → (x : Option Handover) → read_image image ≡ x → Fine q (restore_read now q x)
    go early e none f = record { next_well = w; not_sixteen = refl; same_options = refl }
    go early e (some h) f = fine_record now q h w early e (image_sound image h b f) (image_payloads h (subst (λ (x : List ℕ). T (are_bytes x)) (sym (image_canonical image h b f)) b))
