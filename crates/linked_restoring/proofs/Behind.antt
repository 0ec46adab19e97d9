-- Restoring, second: the streams of the stream records, one behind the other. Assumes nothing.
use mathlib.Core.Path.{◌≡◌, refl, sym, ap, ◌∙◌, subst}
use mathlib.Core.List.{List, [], ◌∷◌, map}
use Prim.Native.Nat.{ℕ, zero, suc, ◌+◌, ◌*◌, ◌-◌, ◌≤◌, ◌<◌}
use native.Mathlib.Numerals.{add-one}
use native.Mathlib.Omega.{arith}
use borrow.Author.Tests.{le-ltb}
use lib.Dec.{T}
use lib.Pow.{are_bytes}
use lib.ListN.{length}
use Rattle.queue_words.specs.Header.{options_at, totals_at}
use Rattle.queue_words.specs.Known.{id_at}
use Rattle.queue_words.specs.Streams.{FitsStream}
use Rattle.queue_words.specs.declared.header.Options.{Options}
use Rattle.queue_words.specs.declared.header.Totals.{Totals}
use Rattle.queue_words.specs.declared.streams.OutgoingStream.{OutgoingStream}
use Rattle.queue_model.specs.Types.{Stream}
use Rattle.queue_model.specs.Types as plain
use Rattle.queue_model.specs.Streams.{put_stream, stream_key}
use Rattle.queue_model.specs.Image.{StreamRecord}
use Rattle.queue_model.specs.Restore.{restored_stream, restore_streams}
use Rattle.stream_scheduler.specs.Link.{model_scheduler}
use Rattle.queue_streams.specs.Known.{with_known, inserted}
use Rattle.queue_state.specs.Model.{options_of, pause_of, stream_of, stream_in, streams_in, tab}
use Rattle.queue_state.specs.Good.{Shape}
use Rattle.queue_state.proofs.Tabs.{tab_insert, tab_same}
use Rattle.queue_state.proofs.Frames.{stream_key_in}
use Rattle.queue_state.proofs.Inserts.{Inserted, insert_link}
use Rattle.handover_records.specs.Records.{stream_at_words}
use Rattle.handover_records.specs.Positions.{stream_record_at, streams_from}
use Rattle.linked_restarts.proofs.Sweeps.{tab_at}
use Rattle.restoring.specs.Streams.{restored_stream_words, stream_restored, streams_restored}
use Rattle.linked_restoring.proofs.Widths.{stream_fits}

-- The ids of the first n stream records rise.
abbrev pub IdsRise : List ℕ → ℕ → Type 0
IdsRise bs n = (i j : ℕ) → i < j → j < n → (stream_at_words bs (i * 14)).id < (stream_at_words bs (j * 14)).id

-- the model's stream of a record
stream_of_lem : (o : Options) (bs : List ℕ) (at : ℕ) → stream_of (stream_at_words bs at).id (restored_stream_words o (stream_at_words bs at)) [] ≡ restored_stream (options_of o) (stream_record_at bs at)
unfolding stream_at_words stream_record_at restored_stream pause_of
stream_of_lem o bs at = refl

inside_image : (us bs : List ℕ) (at : ℕ) → at + 14 ≤ length bs → (totals_at us).known < 256
    → stream_restored us bs at ≡ inserted us (totals_at us).known (stream_at_words bs at).id (restored_stream_words (options_at us) (stream_at_words bs at))
unfolding stream_restored
inside_image us bs at h l = rw (le-ltb (length bs) 14 (omega arith), le-ltb (length bs - 14) at (omega arith), le-ltb 255 (totals_at us).known (omega arith))

map_tab : (o : plain.Options) (f : ℕ → StreamRecord) (n : ℕ) → map (restored_stream o) (tab f n) ≡ tab (λ k. restored_stream o (f k)) n
unfolding tab
map_tab o f zero = refl
map_tab o f (suc n) = ap (λ l. restored_stream o (f 0) ∷ l) (map_tab o (λ k. f (suc k)) n)

-- What the first n records leave.
pub record Behind (ws st bs : List ℕ) (n : ℕ) (us : List ℕ) : Type 0 where
  pub shape : Shape us st
  pub options : options_at us ≡ options_at ws
  pub totals : totals_at us ≡ with_known (totals_at ws) n
  pub streams : streams_in us st ≡ tab (λ k. restored_stream (options_of (options_at ws)) (stream_record_at bs (k * 14))) n
  pub scheduler : model_scheduler us ≡ model_scheduler ws

module _ (ws st : List ℕ) (g : Shape ws st) (none_known : (totals_at ws).known ≡ 0) (bs : List ℕ) (bytes : T (are_bytes bs)) where
  abbrev o : Options
  o = options_at ws

  abbrev f : ℕ → Stream
  f k = restored_stream (options_of (options_at ws)) (stream_record_at bs (k * 14))

  key_is : (k : ℕ) → stream_key (f k) ≡ (stream_at_words bs (k * 14)).id
  key_is k = ap (λ (s : Stream). s.id) (sym (stream_of_lem o bs (k * 14)))

  nothing : Behind ws st bs 0 ws
  unfolding streams_in tab
  nothing = record { shape = g; options = refl; totals = ap (λ (n : ℕ). with_known (totals_at ws) n) none_known; streams = ap (tab (stream_in ws st)) none_known; scheduler = refl }

  module _ (n : ℕ) (us : List ℕ) (few : n < 256) (room : suc n * 14 ≤ length bs) (rise : IdsRise bs (suc n)) (b : Behind ws st bs n us) where
    known_is : (totals_at us).known ≡ n
    known_is = ap (λ (t : Totals). t.known) b.totals

    id_is : (j : ℕ) → j < n → id_at us j ≡ (stream_at_words bs (j * 14)).id
    unfolding streams_in
    id_is j h =
        let e : tab (stream_in us st) n ≡ tab f n = subst (λ m. tab (stream_in us st) m ≡ tab f n) known_is b.streams in
        sym (stream_key_in us st j) ∙ ap (λ (s : Stream). s.id) (tab_at (stream_in us st) f n j e h) ∙ key_is j

    new : OutgoingStream
    new = restored_stream_words (options_at us) (stream_at_words bs (n * 14))

    new_fits : FitsStream new
    unfolding new
    new_fits =
        let w = stream_fits bs (n * 14) bytes (omega arith) in
        record { priority_fits = w.1.1.1.1.0; ssn_fits = w.1.0; unordered_mid_fits = w.1.1.0; ordered_mid_fits = w.1.1.1.0 }

    ins : Inserted us st b.shape (totals_at us).known (stream_at_words bs (n * 14)).id (restored_stream_words (options_at us) (stream_at_words bs (n * 14))) (inserted us (totals_at us).known (stream_at_words bs (n * 14)).id (restored_stream_words (options_at us) (stream_at_words bs (n * 14))))
    unfolding new
    ins =
        insert_link us st b.shape (totals_at us).known (stream_at_words bs (n * 14)).id new (omega arith) (omega (arith, known_is))
        (λ j h. let l : j < n = omega (arith, known_is) in rw (id_is j l) (rise j n l (omega arith)))
        (λ j h l. absurd (omega arith))
        (stream_fits bs (n * 14) bytes (omega arith)).0 new_fits refl refl

    behind_streams : put_stream (f n) (tab f n) ≡ tab f (suc n)
    behind_streams =
        sym (tab_insert stream_key f f n n (omega arith) (λ j h. rw (key_is j, key_is n) (rise j n h (omega arith))) (λ j h l. absurd (omega arith)) (λ j h. refl) (λ j h l. absurd (omega arith)))

    one_more : Behind ws st bs (suc n) (stream_restored us bs (n * 14))
    one_more = rw (inside_image us bs (n * 14) (omega arith) (omega (arith, known_is))) (record {
      shape = ins.shape;
      options = ins.options_is ∙ b.options;
      totals = ins.totals_is ∙ rw b.totals (ap (λ (m : ℕ). with_known (totals_at ws) m) (add-one n));
      streams = ins.streams ∙ rw (stream_of_lem (options_at us) bs (n * 14), b.options, b.streams) behind_streams;
      scheduler = ins.scheduler_is ∙ b.scheduler;
    })

  pub behind : (n : ℕ) → n ≤ 256 → n * 14 ≤ length bs → IdsRise bs n → Behind ws st bs n (streams_restored ws bs n)
  unfolding streams_restored
  behind zero h l r = nothing
  behind (suc n) h l r = one_more n (streams_restored ws bs n) (omega arith) l r (behind n (omega arith) (omega arith) (λ i j a b. r i j a (omega arith)))

  -- The streams are those that the model restores.
  pub behind_model : (n : ℕ) (us : List ℕ) → Behind ws st bs n us → streams_in us st ≡ restore_streams (options_of (options_at ws)) (streams_from bs 0 n)
  unfolding restore_streams streams_from
  behind_model n us b = b.streams ∙ sym (map_tab (options_of (options_at ws)) (λ k. stream_record_at bs (0 + k * 14)) n ∙ tab_same n f (λ k. restored_stream (options_of (options_at ws)) (stream_record_at bs (0 + k * 14))) (λ j h. ap (λ (m : ℕ). restored_stream (options_of (options_at ws)) (stream_record_at bs m)) (omega arith)))
