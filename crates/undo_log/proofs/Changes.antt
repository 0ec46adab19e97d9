-- What dropping a head may change, on any words: the header, and three rows. Assumes nothing.
use mathlib.Core.Path.{◌≡◌, refl, sym, ap, subst, ◌∙◌}
use mathlib.Core.Logic.{inl, inr, ⊎_elim}
use mathlib.Core.Bool.{Bool, true, false}
use mathlib.Core.List.{List}
use Prim.Native.Nat.{ℕ, zero, suc, ◌+◌, ◌-◌, ◌*◌, ◌≤◌, ◌<◌}
use native.Mathlib.Omega.{arith}
use borrow.Author.Tests.{le-ltb, ltb-true, ltb-false}
use lib.Dec.{ltb, eqb}
use lib.ListN.{length, drop, length-set, length-drop}
use lib.Seq.{get_or-set_other, get_or-drop, ext_get_or}
use Rattle.queue_words.specs.Flags.{pick}
use Rattle.queue_words.specs.Header.{totals_at, totals_words, put_totals, scheduler_at, scheduler_words, put_scheduler}
use Rattle.queue_words.specs.Active.{active_at, active_words, active_in, put_active_words, parameters_word}
use Rattle.queue_words.specs.Items.{put_next, put_length}
use Rattle.queue_words.specs.Leasts.{group_of, stale, put_least}
use Rattle.queue_words.specs.Rows.{row, put_row}
use Rattle.queue_words.specs.Streams.{is_pending, stream_words, put_stream_words}
use Rattle.queue_words.specs.declared.active.ActiveStreamInfo.{ActiveStreamInfo}
use Rattle.queue_words.specs.declared.active.SchedulingParameters.{SchedulingParameters}
use Rattle.queue_words.specs.declared.header.Gaps.{Gaps}
use Rattle.queue_words.specs.declared.header.SchedulerState.{SchedulerState}
use Rattle.queue_words.specs.declared.header.Totals.{Totals}
use Rattle.queue_words.specs.declared.items.Item.{Item}
use Rattle.queue_words.specs.declared.streams.OutgoingStream.{OutgoingStream}
use Rattle.queue_words.proofs.Rows.{row_put_length, out_get_d}
use Rattle.active_table.specs.Rows.{seek, seek_from}
use Rattle.std.specs.Prelude.{if◌then◌else◌}
use Rattle.stream_scheduler.specs.Words.{Outcome, outcome, dropped_row, taken_out, remove_stream_words, set_in, set_bytes_remaining_words}
use Rattle.payload_store.specs.Words.{put_bytes}
use Rattle.payload_store.specs.Dropping.{drop_code_words, dropped, drop_payload}
use Rattle.queue_streams.specs.Settings.{called_with}
use Rattle.queue_streams.specs.Waiting.{head_size_words, parameters_for}
use Rattle.queue_streams.specs.Call.{Accepted, Refused}
use Rattle.message_chains.specs.Amounts.{rest}
use Rattle.message_chains.specs.Dropping.{scheduled_behind, end_pending_words, behind_dropped, dropped_in_state}
use Rattle.message_chains.specs.Heads.{head_code, released, head_dropped, drop_notes}
use Rattle.message_chains.specs.Notes.{Notes}
use Rattle.undo_log.specs.Log.{header, waiting_row}
use Rattle.undo_log.proofs.Blocks.{Out, Agree, put_back, back_agree, Behind}

-- where the totals and the scheduler's state begin in the header (queue_words: specs/Header)
abbrev totals : ℕ
totals = 7

abbrev scheduler : ℕ
scheduler = 18

-- an index behind the header that is in none of the three: a stream's row; length, offset and next place of a message; a row of the scheduler's
abbrev Far : ℕ → ℕ → ℕ → ℕ → Type 0
Far row place at j = Out j (544 + row * 10) 9 × (Out j (3104 + place * 16 + 12) 3 × (Out j (19488 + at * 5) 5 × (header ≤ j)))

pub record Near (row place at : ℕ) (ws us : List ℕ) : Type 0 where
  pub long : length us ≡ length ws
  pub far : Agree us ws (Far row place at)

-- the three put back
abbrev pub rows_back_words : ℕ → ℕ → ℕ → List ℕ → List ℕ → List ℕ
rows_back_words row place at ws us = put_back (put_back (put_back us ws (544 + row * 10) 9) ws (3104 + place * 16 + 12) 3) ws (19488 + at * 5) 5

-- The three put back, the words behind the header are as they were.
pub rows_back : (r p at : ℕ) (ws us : List ℕ) → length ws ≡ 20768 → r < 256 → p < 1024 → at < 256 → Near r p at ws us → Behind header (rows_back_words r p at ws us) ws
rows_back r p at ws us l hr hp ha n =
    ext_get_or 0 (drop header (rows_back_words r p at ws us)) (drop header ws) long
    (λ i h. get_or-drop header (rows_back_words r p at ws us) i 0 ∙ same (header + i) (omega arith) ∙ sym (get_or-drop header ws i 0))
  where
    a1 : List ℕ
    a1 = put_back us ws (544 + r * 10) 9

    a2 : List ℕ
    a2 = put_back a1 ws (3104 + p * 16 + 12) 3

    l0 : length us ≡ 20768
    l0 = n.long ∙ l

    l1 : length a1 ≡ 20768
    l1 = row_put_length us (544 + r * 10) (row ws (544 + r * 10) 9) ∙ l0

    l2 : length a2 ≡ 20768
    l2 = row_put_length a1 (3104 + p * 16 + 12) (row ws (3104 + p * 16 + 12) 3) ∙ l1

    l3 : length (rows_back_words r p at ws us) ≡ 20768
    l3 = row_put_length a2 (19488 + at * 5) (row ws (19488 + at * 5) 5) ∙ l2

    long : length (drop header (rows_back_words r p at ws us)) ≡ length (drop header ws)
    long = length-drop header (rows_back_words r p at ws us) ∙ ap (λ (x : ℕ). x - header) (l3 ∙ sym l) ∙ sym (length-drop header ws)

    start : Agree us ws (λ j. Out j (544 + r * 10) 9 × (Out j (3104 + p * 16 + 12) 3 × (Out j (19488 + at * 5) 5 × (header ≤ j))))
    start = n.far

    same : Agree (rows_back_words r p at ws us) ws (λ j. header ≤ j)
    same = back_agree a2 ws (19488 + at * 5) 5 (λ j. header ≤ j) (omega (arith, l2))
        (back_agree a1 ws (3104 + p * 16 + 12) 3 _ (omega (arith, l1))
        (back_agree us ws (544 + r * 10) 9 _ (omega (arith, l0)) start))

-- ------------------------------------------------------------------ one drop

seek_le : (ws : List ℕ) (id n : ℕ) → seek ws id n ≤ n
unfolding seek seek_from
seek_le ws id n = omega (arith, go n 0)
  where
    step : (b : Bool) (i k : ℕ) (r : ℕ) → r ≤ suc i + k → (if b then i else r) ≤ i + suc k
    step true i k r h = omega arith
    step false i k r h = omega arith

    go : (k i : ℕ) → seek_from (active_at ws) id i k ≤ i + k
    go zero i = omega arith
    go (suc k) i = step (eqb (active_at ws i).stream_id.0 id) i k (seek_from (active_at ws) id (suc i) k) (go k (suc i))

module _ (row place at : ℕ) where
  near_none : (ws : List ℕ) → Near row place at ws ws
  near_none ws = record { long = refl; far = λ j f. refl }

  near_both : (a b c : List ℕ) → Near row place at a b → Near row place at b c → Near row place at a c
  near_both a b c f g = record { long = g.long ∙ f.long; far = λ j h. g.far j h ∙ f.far j h }

  near_pick : (t : Bool) (ws x y : List ℕ) → Near row place at ws x → Near row place at ws y → Near row place at ws (pick t x y)
  near_pick true ws x y f g = f
  near_pick false ws x y f g = g

  -- words of the header
  near_header : (b : ℕ) (vs ws : List ℕ) → b + length vs ≤ header → Near row place at ws (put_row ws b vs)
  near_header b vs ws h = record {
    long = row_put_length ws b vs;
    far = λ j f. out_get_d vs ws b 0 j (inr (omega (arith, h, f.1.1.1)));
  }

  near_totals : (ws : List ℕ) (t : Totals) → Near row place at ws (put_totals ws t)
  unfolding put_totals
  near_totals ws t = near_header totals (totals_words t) ws (omega arith)

  near_scheduler : (ws : List ℕ) (s : SchedulerState) → Near row place at ws (put_scheduler ws s)
  unfolding put_scheduler
  near_scheduler ws s = near_header scheduler (scheduler_words s) ws (omega arith)

  near_least : (ws : List ℕ) (g v : ℕ) → g < 11 → Near row place at ws (put_least ws g v)
  unfolding put_least
  near_least ws g v h = record {
    long = length-set ws (21 + g) v;
    far = λ j f. get_or-set_other ws (21 + g) j v 0 (λ e. omega (arith, h, f.1.1.1));
  }

  near_stream : (ws : List ℕ) (s : OutgoingStream) → Near row place at ws (put_stream_words ws row s)
  unfolding put_stream_words
  near_stream ws s = record {
    long = row_put_length ws (544 + row * 10) (stream_words s);
    far = λ j f. out_get_d (stream_words s) ws (544 + row * 10) 0 j (⊎_elim (λ l. inl (omega arith)) (λ l. inr (omega arith)) f.0);
  }

  near_active : (ws : List ℕ) (a : ActiveStreamInfo) → Near row place at ws (put_active_words ws at a)
  unfolding put_active_words
  near_active ws a = near_both ws (active_in ws at a) (put_active_words ws at a)
      (record {
        long = row_put_length ws (19488 + at * 5) (active_words a);
        far = λ j f. out_get_d (active_words a) ws (19488 + at * 5) 0 j (⊎_elim (λ l. inl (omega arith)) (λ l. inr (omega arith)) f.1.1.0);
      })
      (near_least (active_in ws at a) (group_of at) stale (omega arith))

  near_next : (ws : List ℕ) (v : ℕ) → Near row place at ws (put_next ws place v)
  unfolding put_next
  near_next ws v = record {
    long = length-set ws (3104 + place * 16 + 14) v;
    far = λ j f. get_or-set_other ws (3104 + place * 16 + 14) j v 0 (λ e. ⊎_elim (λ l. omega arith) (λ l. omega arith) f.1.0);
  }

  near_length : (ws : List ℕ) (v : ℕ) → Near row place at ws (put_length ws place v)
  unfolding put_length
  near_length ws v = record {
    long = length-set ws (3104 + place * 16 + 12) v;
    far = λ j f. get_or-set_other ws (3104 + place * 16 + 12) j v 0 (λ e. ⊎_elim (λ l. omega arith) (λ l. omega arith) f.1.0);
  }

  near_bytes : (ws : List ℕ) (u : ℕ) (g : Gaps) → Near row place at ws (put_bytes ws u g)
  unfolding put_bytes
  near_bytes ws u g = near_totals ws _

  near_payload : (ws : List ℕ) → Near row place at ws (drop_payload ws place)
  unfolding drop_payload dropped
  near_payload ws =
      near_pick (eqb (drop_code_words ws place) 0) ws _ ws
      (near_both ws (put_length ws place 0) _ (near_length ws 0) (near_bytes (put_length ws place 0) _ _)) (near_none ws)

  near_released : (ws : List ℕ) (n : ℕ) → Near row place at ws (released ws place n)
  unfolding released
  near_released ws n =
      near_both ws (drop_payload ws place) _ (near_payload ws)
      (near_both (drop_payload ws place) (put_next (drop_payload ws place) place (totals_at (drop_payload ws place)).free) _ (near_next (drop_payload ws place) _) (near_totals _ _))

  near_row : (i : ℕ) (ws : List ℕ) (a : ActiveStreamInfo) → at ≡ i → Near row place at ws (put_active_words ws i a)
  near_row i ws a e = subst (λ (x : ℕ). Near row place at ws (put_active_words ws x a)) e (near_active ws a)

  near_taken : (ws : List ℕ) (id i n : ℕ) → (i < n → at ≡ i) → Near row place at ws (taken_out ws id i n)
  unfolding taken_out dropped_row
  near_taken ws id i n h = by (ltb i n) refl _ _
    where
      by : (t : Bool) → ltb i n ≡ t → (s u : SchedulerState) → Near row place at ws (if t then put_scheduler (put_active_words ws i (active_at ws (n - 1))) s else put_scheduler ws u)
      by true e s u = near_both ws (put_active_words ws i (active_at ws (n - 1))) _ (near_row i ws _ (h (ltb-true i n e))) (near_scheduler _ s)
      by false e s u = near_scheduler ws u

  near_set : (ws : List ℕ) (id bytes w i n : ℕ) → i ≤ n → (i < 256 → at ≡ i) → n ≤ 256 → Near row place at ws (set_in ws id bytes w i n).next
  unfolding set_in
  near_set ws id bytes w i n le h m = by (ltb i n) (ltb n 256) refl refl _ _ _
    where
      by : (t u : Bool) → ltb i n ≡ t → ltb n 256 ≡ u → (a b : ActiveStreamInfo) (s : SchedulerState)
          → Near row place at ws (if t then outcome true (put_active_words ws i a) else if u then outcome true (put_scheduler (put_active_words ws n b) s) else outcome false ws).next
      by true u e g a b s = near_row i ws a (h (omega (arith, ltb-true i n e)))
      by false true e g a b s =
          let q : i ≡ n = omega (arith, ltb-false i n e) in
          near_both ws (put_active_words ws n b) _ (near_row n ws b (h (omega (arith, ltb-true n 256 g)) ∙ q)) (near_scheduler _ s)
      by false false e g a b s = near_none ws

  module _ (ws : List ℕ) (id : ℕ) (h : (scheduler_at ws).active ≤ 256 → seek ws id (scheduler_at ws).active < 256 → at ≡ seek ws id (scheduler_at ws).active) where
    n : ℕ
    n = (scheduler_at ws).active

    near_waits : (bytes : ℕ) (p : SchedulingParameters) → Near row place at ws (set_bytes_remaining_words ws id bytes p).next
    unfolding set_bytes_remaining_words n
    near_waits bytes p = by (ltb 256 n) (eqb bytes 0) refl
      where
        by : (t u : Bool) → ltb 256 n ≡ t
            → Near row place at ws (if t then outcome false ws else if u then outcome true (taken_out ws id (seek ws id n) n) else set_in ws id bytes (parameters_word p) (seek ws id n) n).next
        by true u e = near_none ws
        by false true e = near_taken ws id (seek ws id n) n (λ l. h (ltb-false 256 n e) (omega (arith, l, ltb-false 256 n e)))
        by false false e = near_set ws id bytes (parameters_word p) (seek ws id n) n (seek_le ws id n) (h (ltb-false 256 n e)) (ltb-false 256 n e)

    near_removed : Near row place at ws (remove_stream_words ws id).next
    unfolding remove_stream_words n
    near_removed = by (ltb 256 n) refl
      where
        by : (t : Bool) → ltb 256 n ≡ t → Near row place at ws (if t then outcome false ws else outcome true (taken_out ws id (seek ws id n) n)).next
        by true e = near_none ws
        by false e = near_taken ws id (seek ws id n) n (λ l. h (ltb-false 256 n e) (omega (arith, l, ltb-false 256 n e)))

    near_scheduled : (s : OutgoingStream) (next : ℕ) → Near row place at ws (scheduled_behind ws id s next).next
    unfolding scheduled_behind
    near_scheduled s next = by (is_pending s.pause_state)
      where
        by : (t : Bool) → Near row place at ws (pick t (remove_stream_words ws id) (set_bytes_remaining_words ws id (head_size_words ws next) (parameters_for (totals_at ws).interleaving s.priority))).next
        by true = near_removed
        by false = near_waits _ _

    near_dropped : (es : List ℕ) (k : ℕ) (s : OutgoingStream) (m : Item) → s.first ≡ place → Near row place at ws (dropped_in_state ws es k id row s m).next
    unfolding dropped_in_state behind_dropped head_dropped
    near_dropped es k s m ef = by (ltb 0 (head_code ws s s.first m.next (rest m))) o.done
      where
        o : Outcome
        o = scheduled_behind ws id s m.next

        events : Notes
        events = drop_notes o.next es k id s (rest m) m.lifecycle_id

        whole : Near row place at ws (head_dropped o.next row s (end_pending_words s.pause_state) m)
        whole =
            near_both ws o.next _ (near_scheduled s m.next)
            (near_both o.next (released o.next s.first (rest m)) _ (subst (λ (x : ℕ). Near row place at o.next (released o.next x (rest m))) (sym ef) (near_released o.next (rest m))) (near_stream _ _))

        by : (a b : Bool) → Near row place at ws
            (pick a (called_with (Refused (head_code ws s s.first m.next (rest m))) ws es) (pick b (called_with (Accepted events.count) (head_dropped o.next row s (end_pending_words s.pause_state) m) events.events) (called_with (Refused 16) ws es))).next
        by true b = near_none ws
        by false true = whole
        by false false = near_none ws

-- the row that is kept is the one that changes
kept_row : (ws : List ℕ) (id : ℕ) → (scheduler_at ws).active ≤ 256 → seek ws id (scheduler_at ws).active < 256 → waiting_row ws id ≡ seek ws id (scheduler_at ws).active
unfolding waiting_row
kept_row ws id h g = rw (le-ltb 256 (scheduler_at ws).active h, le-ltb 255 (seek ws id (scheduler_at ws).active) (omega arith))

-- Whatever the words, dropping a head changes nothing behind the header but three rows, whose scheduler's one is `waiting_row`.
pub drop_near : (ws es : List ℕ) (k id row : ℕ) (s : OutgoingStream) (m : Item) → Near row s.first (waiting_row ws id) ws (dropped_in_state ws es k id row s m).next
drop_near ws es k id row s m = near_dropped row s.first (waiting_row ws id) ws id (kept_row ws id) es k s m refl

pub waiting_row_below : (ws : List ℕ) (id : ℕ) → waiting_row ws id < 256
unfolding waiting_row
waiting_row_below ws id = by (ltb 256 (scheduler_at ws).active) (ltb 255 (seek ws id (scheduler_at ws).active)) refl
  where
    by : (a b : Bool) → ltb 255 (seek ws id (scheduler_at ws).active) ≡ b → pick a 255 (pick b 255 (seek ws id (scheduler_at ws).active)) < 256
    by true b e = omega arith
    by false true e = omega arith
    by false false e = omega (arith, ltb-false 255 (seek ws id (scheduler_at ws).active) e)
