-- Restoring, third: a message hung to a known stream, on words that hold together. Assumes nothing.
use mathlib.Core.Path.{◌≡◌, refl, sym, ap, ◌∙◌}
use mathlib.Core.List.{List, ◌∷◌}
use Prim.Native.Nat.{ℕ, ◌+◌, ◌≤◌, ◌<◌}
use native.Mathlib.Omega.{arith}
use borrow.Author.Tests.{le-ltb}
use lib.ListN.{length}
use Rattle.queue_words.specs.Header.{options_at, totals_at}
use Rattle.queue_words.specs.Items.{put_item, FitsItem}
use Rattle.queue_words.specs.Known.{id_at}
use Rattle.queue_words.specs.Streams.{stream_at_words}
use Rattle.queue_words.specs.declared.header.Totals.{Totals}
use Rattle.queue_words.specs.declared.items.Item.{Item}
use Rattle.queue_words.specs.declared.streams.OutgoingStream.{OutgoingStream}
use Rattle.queue_model.specs.Types.{Stream}
use Rattle.queue_model.specs.Types as plain
use Rattle.queue_model.specs.Streams.{put_stream, with_message}
use Rattle.payload_store.specs.Words.{used_of}
use Rattle.payload_store.specs.Putting.{put_payload}
use Rattle.stream_scheduler.specs.Link.{model_scheduler}
use Rattle.message_chains.specs.Amounts.{sum}
use Rattle.queue_state.specs.Chains.{Linked, each}
use Rattle.queue_state.specs.Model.{next_of, item_of, item_in_words, stream_of, row_at, stream_in, streams_in}
use Rattle.queue_state.specs.Good.{Shape}
use Rattle.queue_state.proofs.Chains.{count_head}
use Rattle.queue_state.proofs.Frames.{row_below, stream_is}
use Rattle.queue_messages.specs.Add.{with_last, linked_last}
use Rattle.linked_adding.proofs.Placed.{Placed, placed}
use Rattle.linked_adding.proofs.Hung.{FitsAfter, Hung}
use Rattle.linked_adding.proofs.Appends.{sum_is, First, Counted, after, streams_new, scheduler_new}
use Rattle.linked_adding.proofs.Joins.{hangs, longer}
use Rattle.linked_adding.proofs.Passes.{free_place}
use Rattle.restoring.specs.Messages.{with_restored, counted_restored, hung_at, hung}

-- What is true after it: ws is known to have the stream in position i; n bytes of the message are not sent.
pub record Hangs (ws st : List ℕ) (i : ℕ) (m : Item) (bs : List ℕ) (n : ℕ) (us ut : List ℕ) : Type 0 where
  pub shape : Shape us ut
  pub store : length ut ≡ length st
  pub options : options_at us ≡ options_at ws
  pub interleaving : (totals_at us).interleaving ≡ (totals_at ws).interleaving
  pub next_id : (totals_at us).next_message_id ≡ (totals_at ws).next_message_id
  pub total : (totals_at us).total ≡ (totals_at ws).total + n
  pub streams : streams_in us ut ≡ put_stream (with_message (stream_in ws st i) (item_of m bs)) (streams_in ws st)
  pub scheduler : model_scheduler us ≡ model_scheduler ws

fits_restored : (free n : ℕ) → FitsAfter (λ t. with_restored t free n)
fits_restored free n t f = record { message_id_fits = f.message_id_fits }

module _ (ws st : List ℕ) (g : Shape ws st) (i : ℕ) (hk : i < (totals_at ws).known) (m : Item) (bs : List ℕ) (n : ℕ)
    (fits : FitsItem m) (no_place : m.place ≡ 0) (no_length : m.length ≡ 0) (ends : m.next ≡ 1024) (unsent : plain.remaining (item_of m bs) ≡ n)
    (some_bytes : 1 ≤ length bs) (room : used_of ws + length bs ≤ length st)
    (total_fits : (totals_at ws).total + n ≤ 18446744073709551615) (amount_fits : (stream_at_words ws (row_at ws i)).buffered_amount + n ≤ 18446744073709551615)
    (p : ℕ) (fr : List ℕ) (efr : g.fr ≡ p ∷ fr) (hp : p < 1024) (behind : Linked (next_of ws) (next_of ws p) fr) where
  abbrev row : ℕ
  row = row_at ws i

  abbrev s : OutgoingStream
  s = stream_at_words ws (row_at ws i)

  abbrev vs : List ℕ
  vs = (put_payload (put_item ws p m) st p bs).words

  abbrev vt : List ℕ
  vt = (put_payload (put_item ws p m) st p bs).store

  abbrev us : List ℕ
  us = counted_restored (linked_last vs row s p n) (next_of ws p) n

  put : Placed ws st p m bs vs vt
  put = placed ws st p m g.long hp fits no_place no_length g.lay (g.bare p (rw efr (count_head p fr))) bs room

  chained : (first : ℕ) × (Hung vs us row s.last p (with_last s first p n) (with_restored (totals_at vs) (next_of ws p) n)) × First (g.q i) first p s.first
  unfolding counted_restored
  chained = hangs (λ t. with_restored t (next_of ws p) n) (fits_restored (next_of ws p) n) ws vs row p n (g.q i) (put.long ∙ g.long) (row_below ws st g i hk) (put.streams row (row_below ws st g i hk)) (g.rows i hk)

  counts : Counted (totals_at vs) (next_of ws p) (with_restored (totals_at vs) (next_of ws p) n)
  counts = record { known = refl; waiting = refl; free_is = refl; used = refl; gaps = refl }

  old_is : stream_in ws st i ≡ stream_of (id_at ws i) s (each (item_in_words ws st) (g.q i))
  old_is = stream_is ws st g i hk

  totals_us : totals_at us ≡ with_restored (totals_at vs) (next_of ws p) n
  totals_us = chained.1.totals

  pub hangs_at : Hangs ws st i m bs n us vt
  hangs_at = record {
    shape = (after ws st g i hk p fr efr hp behind m bs ends some_bytes vs vt put us chained.0 n (with_restored (totals_at vs) (next_of ws p) n) counts chained.1 chained.2).shape;
    store = put.store;
    options = chained.1.options ∙ put.options;
    interleaving = ap (λ (t : Totals). t.interleaving) totals_us ∙ ap (λ (t : Totals). t.interleaving) put.totals;
    next_id = ap (λ (t : Totals). t.next_message_id) totals_us ∙ ap (λ (t : Totals). t.next_message_id) put.totals;
    total = ap (λ (t : Totals). t.total) totals_us ∙ ap (λ (t : Totals). sum t.total n) put.totals ∙ sum_is (totals_at ws).total n total_fits;
    streams =
        streams_new ws st g i hk p fr efr hp behind m bs ends some_bytes vs vt put us chained.0 n (with_restored (totals_at vs) (next_of ws p) n) counts chained.1 chained.2
        ∙ ap (λ (x : Stream). put_stream x (streams_in ws st))
        (longer (id_at ws i) chained.0 p n s (each (item_in_words ws st) (g.q i)) (item_of m bs) amount_fits unsent ∙ ap (λ (x : Stream). with_message x (item_of m bs)) (sym old_is));
    scheduler = scheduler_new ws st g i hk p fr efr hp behind m bs ends some_bytes vs vt put us chained.0 n (with_restored (totals_at vs) (next_of ws p) n) counts chained.1 chained.2;
  }

-- The same, with the first free place.
pub hangs_in : (ws st : List ℕ) (g : Shape ws st) (i : ℕ) → i < (totals_at ws).known → (m : Item) (bs : List ℕ) (n : ℕ) → FitsItem m → m.place ≡ 0 → m.length ≡ 0 → m.next ≡ 1024 → plain.remaining (item_of m bs) ≡ n
    → 1 ≤ length bs → used_of ws + length bs ≤ length st → (totals_at ws).total + n ≤ 18446744073709551615 → (stream_at_words ws (row_at ws i)).buffered_amount + n ≤ 18446744073709551615 → (totals_at ws).waiting < 1024 → (at : ℕ)
    → Hangs ws st i m bs n (hung ws st (row_at ws i) (stream_at_words ws (row_at ws i)) m bs n at).words (hung ws st (row_at ws i) (stream_at_words ws (row_at ws i)) m bs n at).store
    × ((hung ws st (row_at ws i) (stream_at_words ws (row_at ws i)) m bs n at).at ≡ at)
unfolding hung hung_at
hangs_in ws st g i hk m bs n fits a b c u some_bytes room tf af w at =
    let f = free_place ws st g w in
    rw (le-ltb 1023 (totals_at ws).free (omega (arith, f.in_table_lem)))
    (hangs_at ws st g i hk m bs n fits a b c u some_bytes room tf af (totals_at ws).free f.others f.list_is f.in_table_lem f.behind, refl)
