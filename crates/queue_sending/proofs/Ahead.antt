-- A look in words that are not broken, and the parts of a fragment whose test has passed. Assumes nothing.
use mathlib.Core.Path.{◌≡◌, refl, sym, ap, ◌∙◌, subst}
use mathlib.Core.Bool.{Bool, true, false}
use mathlib.Core.List.{List}
use Prim.Native.Nat.{ℕ, ◌≤◌, ◌<◌}
use native.Mathlib.Omega.{arith}
use borrow.Author.Tests.{lt-ltb, le-ltb, ltb-false}
use lib.Dec.{ltb}
use Rattle.queue_words.specs.Flags.{pick}
use Rattle.queue_words.specs.Active.{active_at}
use Rattle.queue_words.specs.Find.{find_stream_words, is_found, is_known}
use Rattle.queue_words.specs.Header.{scheduler_at}
use Rattle.queue_words.specs.Items.{item_at}
use Rattle.queue_words.specs.Streams.{stream_at_words}
use Rattle.queue_words.specs.declared.active.ActiveStreamInfo.{ActiveStreamInfo}
use Rattle.queue_words.specs.declared.items.Item.{Item}
use Rattle.queue_words.specs.declared.known.Found.{Found}
use Rattle.queue_words.specs.declared.known.Found.TheVariants as found
use Rattle.queue_words.specs.declared.streams.OutgoingStream.{OutgoingStream}
use Rattle.queue_words.proofs.Finds.{find_hit, by_lt}
use Rattle.payload_store.specs.Dropping.{drop_code_words}
use Rattle.payload_store.specs.Reading.{read_code}
use Rattle.payload_store.proofs.Cases.{pick_else}
use Rattle.stream_scheduler.specs.Own.{HasRow}
use Rattle.stream_scheduler.specs.Words.{peek_words}
use Rattle.stream_scheduler.specs.declared.Peeked.{Peeked}
use Rattle.stream_scheduler.specs.declared.Peeked.TheVariants as peeked
use Rattle.stream_scheduler.proofs.Peeks.{peek_in}
use Rattle.message_chains.specs.Amounts.{rest}
use Rattle.message_chains.specs.Heads.{head_code}
use Rattle.message_chains.proofs.Goes.{head_may}
use Rattle.queue_sending.specs.Choice.{expired_by, look_at_words, look_in, look_for_words, look_peeked, look_ahead}
use Rattle.queue_sending.specs.Fragment.{send_code}
use Rattle.queue_sending.specs.Own.{Unbroken}
use Rattle.queue_sending.specs.Look.{Look}
use Rattle.queue_sending.specs.Look as look

-- ---- a fragment that may be sent

module _ (ws : List ℕ) (len : ℕ) (s : OutgoingStream) (m : Item) (n room : ℕ) (e : send_code ws len s m n room ≡ 0) where
  send_parts : (read_code ws len s.first m.offset n room ≡ 0) × (head_code ws s s.first m.next n ≡ 0)
  unfolding send_code
  send_parts =
      let t1 = pick_else (ltb (rest m) n) 16 _ 0 (λ z. omega arith) e in
      let t2 = pick_else (ltb 0 (read_code ws len s.first m.offset n room)) 16 _ 0 (λ z. omega arith) t1.1 in
      (omega (arith, ltb-false 0 (read_code ws len s.first m.offset n room) t2.0), t2.1)

  -- its bytes may be read
  pub send_reads : read_code ws len s.first m.offset n room ≡ 0
  send_reads = send_parts.0

  -- the message may go with it
  pub send_goes : drop_code_words ws s.first ≡ 0
  send_goes = head_may ws s s.first m.next n send_parts.1

-- ---- the head of the stream in a row

pub look_is : (ws : List ℕ) (time at id row : ℕ) (s : OutgoingStream) (m : Item) (gone : Bool) → (stream_at_words ws row).first < 1024 → s ≡ stream_at_words ws row → m ≡ item_at ws s.first → gone ≡ expired_by m time
    → pick gone (look.Expired id row) (look.Chosen at id row) ≡ look_at_words ws time at id row
unfolding look_at_words
look_is ws time at id row s m gone hf es em eg = rw (le-ltb 1023 (stream_at_words ws row).first (omega arith), eg, em, es)

-- ---- the stream that is looked for

module _ (ws : List ℕ) (time at id : ℕ) (y : Unbroken (look_for_words ws time at id)) where
  -- it is known
  pub looked_known : is_known ws id ≡ true
  unfolding look_for_words
  looked_known = by (find_stream_words ws id) y
    where
      by : (f : Found) → Unbroken (look_in ws time at id f) → is_found f ≡ true
      by (found.At p row) g = refl
      by (found.Gap p) g = absurd (g refl)
      by found.Broken g = absurd (g refl)

  module _ (p row : ℕ) (e : found.At p row ≡ find_stream_words ws id) where
    looks_at : look_for_words ws time at id ≡ look_at_words ws time at id row
    unfolding look_for_words
    looks_at = rw (← e)

    pub row_fits : (row < 256) × ((stream_at_words ws row).first < 1024)
    unfolding look_at_words
    row_fits = ((find_hit ws id p row (sym e)).place_fits, by_lt 1023 (stream_at_words ws row).first (λ h. absurd (y (looks_at ∙ broken h))) (λ h. omega arith))
      where
        broken : 1023 < (stream_at_words ws row).first → look_at_words ws time at id row ≡ look.Broken
        broken h = rw (lt-ltb 1023 (stream_at_words ws row).first h)

    pub at_looked : (l : Look) → l ≡ look_at_words ws time at id row → l ≡ look_for_words ws time at id
    at_looked l el = el ∙ sym looks_at

-- ---- the scheduler's choice

module _ (ws : List ℕ) (time : ℕ) (y : Unbroken (look_ahead ws time)) where
  pub rows_few : (scheduler_at ws).active ≤ 256
  unfolding look_ahead peek_words
  rows_few = by_lt 256 (scheduler_at ws).active (λ h. absurd (y (broken h))) (λ h. h)
    where
      broken : 256 < (scheduler_at ws).active → look_ahead ws time ≡ look.Broken
      broken h = rw (lt-ltb 256 (scheduler_at ws).active h)

  module _ (at : ℕ) (e : peeked.At at ≡ peek_words ws) where
    pub at_row : at < 256
    unfolding look_ahead
    at_row = by_lt 255 at (λ h. absurd (y (broken h))) (λ h. omega arith)
      where
        broken : 255 < at → look_ahead ws time ≡ look.Broken
        broken h = rw (← e, lt-ltb 255 at h)

    looks_on : look_ahead ws time ≡ look_for_words ws time at (active_at ws at).stream_id.0
    unfolding look_ahead
    looks_on = let h : at ≤ 255 = omega (arith, at_row) in rw (← e, le-ltb 255 at h)

    module _ (a : ActiveStreamInfo) (ea : a ≡ active_at ws at) where
      pub row_unbroken : Unbroken (look_for_words ws time at a.stream_id.0)
      row_unbroken z = y (looks_on ∙ rw ea at z)

      pub row_looked : (l : Look) → l ≡ look_for_words ws time at a.stream_id.0 → l ≡ look_ahead ws time
      row_looked l el = el ∙ ap (λ (x : ActiveStreamInfo). look_for_words ws time at x.stream_id.0) ea ∙ sym looks_on

  pub none_looked : peeked.Nothing ≡ peek_words ws → look.Nothing ≡ look_ahead ws time
  unfolding look_ahead
  none_looked e = rw (← e)

-- ---- the row of a head to send

-- a head to send is that of the row a
abbrev OfRow : ℕ → Look → Type 0
OfRow a look.Nothing = Unit {0}
OfRow a look.Broken = Unit {0}
OfRow a (look.Expired id row) = Unit {0}
OfRow a (look.Chosen at id row) = at ≡ a

either : (a : ℕ) (b : Bool) (x y : Look) → OfRow a x → OfRow a y → OfRow a (pick b x y)
either a true x y h k = h
either a false x y h k = k

for_row : (ws : List ℕ) (time a id : ℕ) → OfRow a (look_for_words ws time a id)
unfolding look_for_words look_at_words
for_row ws time a id = by (find_stream_words ws id)
  where
    by : (f : Found) → OfRow a (look_in ws time a id f)
    by (found.At p row) = either a (ltb 1023 (stream_at_words ws row).first) _ _ tt (either a (expired_by (item_at ws (stream_at_words ws row).first) time) _ _ tt refl)
    by (found.Gap p) = tt
    by found.Broken = tt

module _ (ws : List ℕ) (time at id row : ℕ) (e : look.Chosen at id row ≡ look_ahead ws time) where
  chosen_unbroken : Unbroken (look_ahead ws time)
  chosen_unbroken z = let q : ◌≡◌ {A = ℕ} 0 1 = cc (e, z) in omega arith

  chosen_in : at < (scheduler_at ws).active
  unfolding look_ahead
  chosen_in = by (peek_words ws) refl e
    where
      by : (p : Peeked) → p ≡ peek_words ws → look.Chosen at id row ≡ look_peeked ws time p → at < (scheduler_at ws).active
      by (peeked.At a) f g =
          let x : ℕ = (active_at ws a).stream_id.0 in
          let h : at ≡ a = subst (OfRow a) (sym g) (either a (ltb 255 a) look.Broken (look_for_words ws time a x) tt (for_row ws time a x)) in
          omega (arith, h, peek_in ws a f)
      by peeked.Nothing f g = let z : ◌≡◌ {A = ℕ} 0 1 = cc g in absurd (omega arith)
      by peeked.Broken f g = let z : ◌≡◌ {A = ℕ} 0 1 = cc g in absurd (omega arith)

  -- A head to send is that of a row that the scheduler has.
  pub chosen_row : HasRow ws at
  chosen_row = (rows_few ws time chosen_unbroken, chosen_in)
