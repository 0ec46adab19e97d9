-- What is next, and what doing it leaves: laws of specs/Next and of handing out, over plain values. Assumes nothing.
use mathlib.Core.Path.{◌≡◌, refl, sym, ap, subst, ◌∙◌}
use mathlib.Core.Bool.{Bool, true, false}
use mathlib.Core.List.{List}
use Prim.Native.Nat.{ℕ, ◌+◌, ◌*◌, ◌≤◌, ◌<◌}
use native.Mathlib.Omega.{arith}
use borrow.Author.Tests.{lt-ltb, le-ltb, ltb-true, ltb-false}
use lib.Dec.{ltb}
use lib.ListN.{length}
use Rattle.std.specs.Prelude.{Result, Ok, Err}
use Rattle.std.specs.Result.{is_err}
use Rattle.types.specs.declared.refusal.Refusal.{Refusal}
use Rattle.queue_words.specs.Flags.{pick}
use Rattle.queue_words.specs.Active.{active_at}
use Rattle.queue_words.specs.Header.{totals_at}
use Rattle.queue_words.specs.Items.{item_at}
use Rattle.queue_words.specs.Streams.{stream_at_words}
use Rattle.queue_words.specs.declared.active.ActiveStreamInfo.{ActiveStreamInfo}
use Rattle.queue_words.specs.declared.items.Item.{Item}
use Rattle.queue_words.specs.declared.streams.OutgoingStream.{OutgoingStream}
use Rattle.stream_scheduler.specs.Own.{HasRow}
use Rattle.queue_streams.specs.Events.{place_words, event_words}
use Rattle.queue_streams.specs.Settings.{called_with}
use Rattle.queue_streams.specs.Call.{Call}
use Rattle.queue_streams.specs.Call as call
use Rattle.undo_log.specs.Log.{header, undone}
use Rattle.queue_sending.specs.Answers.{as_next}
use Rattle.queue_sending.specs.Choice.{look_ahead}
use Rattle.queue_sending.specs.Data.{ProducedWith, produced_with, refused_with}
use Rattle.queue_sending.specs.Fragment.{least_of, send_code, sent, chosen_code, handed_out_words}
use Rattle.queue_sending.specs.Next.{sent_next, refused_next, next_found, next_passed, FromRow, Leads}
use Rattle.queue_sending.specs.Passing.{Kept}
use Rattle.queue_sending.specs.Produce.{passed, sent_found, sent_chosen, sent_after, refusal, copied, past_from, produced_past}
use Rattle.queue_sending.specs.Look.{Look}
use Rattle.queue_sending.specs.Look as look
use Rattle.queue_sending.specs.declared.data.DataToSend.{DataToSend}
use Rattle.queue_sending.specs.Produced as produced
use Rattle.queue_sending.specs.NextStep.{Next}
use Rattle.queue_sending.specs.NextStep as next
use Rattle.queue_sending.specs.declared.next.Next as step
use Rattle.queue_sending.specs.declared.next.Next.TheVariants as step_is
use Rattle.queue_sending.proofs.Ahead.{chosen_row}
use Rattle.queue_sending.proofs.Passes.{true_false, expired_found, both_parts, past_refused, past_kept, logged_refused, logged_kept, found_past}

-- ------------------------------------------------------------------ handing out and its test

-- the test of the head itself
abbrev head_sent : List ℕ → ℕ → ℕ → ℕ → ℕ → ℕ → ℕ
head_sent ws len room size at row = send_code ws len (stream_at_words ws row) (item_at ws (stream_at_words ws row).first) (least_of (active_at ws at).bytes_remaining size) room

-- what the test has settled where it is passed
pub hand_places : (ws : List ℕ) (len room size k at row c : ℕ) → c ≡ chosen_code ws len room size k at row → c ≤ 0
    → (at < 256) × (row < 256) × ((stream_at_words ws row).first < 1024) × (head_sent ws len room size at row ≡ 0)
unfolding chosen_code
hand_places ws len room size k at row c e h = by (ltb 2303 k) (ltb 255 at) (ltb 255 row) (ltb 1023 (stream_at_words ws row).first) refl refl refl (subst (λ (x : ℕ). x ≤ 0) e h)
  where
    by : (a b d f : Bool) → ltb 255 at ≡ b → ltb 255 row ≡ d → ltb 1023 (stream_at_words ws row).first ≡ f → pick a 16 (pick b 16 (pick d 16 (pick f 16 (head_sent ws len room size at row)))) ≤ 0
        → (at < 256) × (row < 256) × ((stream_at_words ws row).first < 1024) × (head_sent ws len room size at row ≡ 0)
    by true b d f eb ed ef h = absurd (omega arith)
    by false true d f eb ed ef h = absurd (omega arith)
    by false false true f eb ed ef h = absurd (omega arith)
    by false false false true eb ed ef h = absurd (omega arith)
    by false false false false eb ed ef h =
        (omega (arith, ltb-false 255 at eb), omega (arith, ltb-false 255 row ed), omega (arith, ltb-false 1023 (stream_at_words ws row).first ef), omega (arith, h))

module _ (ws st es bs : List ℕ) (size k at id row : ℕ) where
  abbrev part : ℕ
  part = head_sent ws (length st) (length bs) size at row

  pub hand_refused : (c : ℕ) → c ≡ chosen_code ws (length st) (length bs) size k at row → 0 < c → refused_with c ws es bs ≡ handed_out_words ws st es bs size k at id row
  unfolding chosen_code handed_out_words sent
  hand_refused c e h = by (ltb 2303 k) (ltb 255 at) (ltb 255 row) (ltb 1023 (stream_at_words ws row).first) part _ e
    where
      by : (a b d f : Bool) (g : ℕ) (x : ProducedWith) → c ≡ pick a 16 (pick b 16 (pick d 16 (pick f 16 g)))
          → refused_with c ws es bs
          ≡ pick a (refused_with 16 ws es bs) (pick b (refused_with 16 ws es bs) (pick d (refused_with 16 ws es bs) (pick f (refused_with 16 ws es bs) (pick (ltb 0 g) (refused_with g ws es bs) x))))
      by true b d f g x e = rw e
      by false true d f g x e = rw e
      by false false true f g x e = rw e
      by false false false true g x e = rw e
      by false false false false g x e = rw (← e, lt-ltb 0 c h)

  hand_told : chosen_code ws (length st) (length bs) size k at row ≡ 0 → refusal (handed_out_words ws st es bs size k at id row).answer ≡ false
  unfolding chosen_code handed_out_words sent
  hand_told e = by (ltb 2303 k) (ltb 255 at) (ltb 255 row) (ltb 1023 (stream_at_words ws row).first) part _ _ _ _ _ e
    where
      by : (a b d f : Bool) (g j : ℕ) (t : DataToSend) (l v u : List ℕ) → pick a 16 (pick b 16 (pick d 16 (pick f 16 g))) ≡ 0
          → refusal (pick a (refused_with 16 ws es bs) (pick b (refused_with 16 ws es bs) (pick d (refused_with 16 ws es bs) (pick f (refused_with 16 ws es bs) (pick (ltb 0 g) (refused_with g ws es bs) (produced_with (produced.Fragment j t) l v u)))))).answer ≡ false
      by true b d f g j t l v u e = absurd (omega arith)
      by false true d f g j t l v u e = absurd (omega arith)
      by false false true f g j t l v u e = absurd (omega arith)
      by false false false true g j t l v u e = absurd (omega arith)
      by false false false false g j t l v u e = rw e

  pub hand_sent : (c : ℕ) → c ≡ chosen_code ws (length st) (length bs) size k at row → c ≤ 0 → (s : OutgoingStream) (m : Item) (i : ActiveStreamInfo) (n : ℕ)
      → s ≡ stream_at_words ws row → m ≡ item_at ws s.first → i ≡ active_at ws at → n ≡ least_of i.bytes_remaining size → sent ws st es bs k at id row s m n ≡ handed_out_words ws st es bs size k at id row
  unfolding chosen_code handed_out_words
  hand_sent c e h s m i n qs qm qi qn =
      rw (qn, qi, qm, qs) (by (ltb 2303 k) (ltb 255 at) (ltb 255 row) (ltb 1023 (stream_at_words ws row).first) part _ (subst (λ (x : ℕ). x ≤ 0) e h))
    where
      by : (a b d f : Bool) (g : ℕ) (x : ProducedWith) → pick a 16 (pick b 16 (pick d 16 (pick f 16 g))) ≤ 0
          → x ≡ pick a (refused_with 16 ws es bs) (pick b (refused_with 16 ws es bs) (pick d (refused_with 16 ws es bs) (pick f (refused_with 16 ws es bs) x)))
      by true b d f g x h = absurd (omega arith)
      by false true d f g x h = absurd (omega arith)
      by false false true f g x h = absurd (omega arith)
      by false false false true g x h = absurd (omega arith)
      by false false false false g x h = refl

-- ------------------------------------------------------------------ what follows a look

refuses : (code : ℕ) (ws st es bs : List ℕ) (size : ℕ) → Leads (next.Refused code) ws st es bs size (refused_with code ws es bs)
refuses code ws st es bs size = record { sends = refl; tells = refl; in_row = tt }

module _ (ws st es bs : List ℕ) (size k : ℕ) where
  nothing_leads : (b : Bool) → Leads (pick b (next.Refused 16) (next.Nothing k)) ws st es bs size (pick b (refused_with 16 ws es bs) (produced_with (produced.Nothing k) ws es bs))
  nothing_leads true = refuses 16 ws st es bs size
  nothing_leads false = record { sends = refl; tells = refl; in_row = tt }

  chosen_leads : (at id row : ℕ) → HasRow ws at → (b : Bool) → ltb 0 (chosen_code ws (length st) (length bs) size k at row) ≡ b
      → Leads (pick b (next.Refused (chosen_code ws (length st) (length bs) size k at row)) (next.Chosen k at id row)) ws st es bs size (handed_out_words ws st es bs size k at id row)
  chosen_leads at id row i true h =
      let e = hand_refused ws st es bs size k at id row (chosen_code ws (length st) (length bs) size k at row) refl (ltb-true 0 (chosen_code ws (length st) (length bs) size k at row) h) in
      record { sends = e; tells = ap (λ (p : ProducedWith). refusal p.answer) e; in_row = tt }
  chosen_leads at id row i false h =
      let z : chosen_code ws (length st) (length bs) size k at row ≡ 0 = omega (arith, ltb-false 0 (chosen_code ws (length st) (length bs) size k at row) h) in
      record { sends = refl; tells = sym (hand_told ws st es bs size k at id row z); in_row = i }

  found_leads : (time : ℕ) (f : Look) (n : Next) → f ≡ look_ahead ws time → n ≡ next_found ws (length st) (length bs) size k f
      → Leads n ws st es bs size (sent_found ws st es bs size k f)
  found_leads time f n ef e = subst (λ (x : Next). Leads x ws st es bs size (sent_found ws st es bs size k f)) (sym e) (by f ef)
    where
      by : (f : Look) → f ≡ look_ahead ws time → Leads (next_found ws (length st) (length bs) size k f) ws st es bs size (sent_found ws st es bs size k f)
      by look.Nothing g = nothing_leads (ltb 2305 k)
      by look.Broken g = refuses 16 ws st es bs size
      by (look.Expired id row) g = refuses 16 ws st es bs size
      by (look.Chosen at id row) g = chosen_leads at id row (chosen_row ws time at id row g) (ltb 0 (chosen_code ws (length st) (length bs) size k at row)) refl

  -- Where nothing has expired any more, that is all that is left of passing over.
  pub found_ends : (time m : ℕ) (f : Look) (n : Next) → f ≡ look_ahead ws time → expired_found f ≡ false → n ≡ next_found ws (length st) (length bs) size k f → Leads n ws st es bs size (past_from ws st es bs time size m k)
  found_ends time m f n ef g e = subst (λ (p : ProducedWith). Leads n ws st es bs size p) (found_past ws st es bs time size m k f ef g) (found_leads time f n ef e)

passed_leads : (ws st es bs : List ℕ) (time size : ℕ) (d : Call) (n : Next) → n ≡ next_passed ws (length st) (length bs) time size d → Leads n ws st es bs size (sent_after ws st es bs time size d)
unfolding sent_chosen
passed_leads ws st es bs time size d n e = subst (λ (x : Next). Leads x ws st es bs size (sent_after ws st es bs time size d)) (sym e) (by d)
  where
    by : (d : Call) → Leads (next_passed ws (length st) (length bs) time size d) ws st es bs size (sent_after ws st es bs time size d)
    by (call.Accepted k) = found_leads ws st es bs size k time (look_ahead ws time) (next_found ws (length st) (length bs) size k (look_ahead ws time)) refl refl
    by (call.Refused code) = refuses code ws st es bs size

-- ------------------------------------------------------------------ kept or put back

-- An answer that is a refusal is one in the numbers.
pub err_refused : (n : Result step.Next Refusal) (q : Bool) → q ≡ is_err n → q ≡ refused_next (as_next n)
err_refused (Ok (step_is.Nothing k)) q e = e
err_refused (Ok (step_is.Chosen k at id row)) q e = e
err_refused (Err r) q e = e

-- What is next says also whether what doing it leaves is a refusal.
says : (n : Next) (ws st es bs : List ℕ) (size : ℕ) (p : ProducedWith) → Leads n ws st es bs size p → refused_next n ≡ refusal (sent_next ws st es bs size n).answer
says n ws st es bs size p g = g.tells ∙ ap (λ (x : ProducedWith). refusal x.answer) (sym g.sends)

led : (n : Next) (ws st es bs : List ℕ) (size : ℕ) (p : ProducedWith) → refused_next n ≡ refusal (sent_next ws st es bs size n).answer → FromRow ws n
    → sent_next ws st es bs size n ≡ p → Leads n ws st es bs size p
led n ws st es bs size p g i e = record { sends = e; tells = g ∙ ap (λ (x : ProducedWith). refusal x.answer) e; in_row = i }

-- after a copy of the words
module _ (ws st es bs : List ℕ) (time size m k : ℕ) (d : Call) (l v : List ℕ) (ed : called_with d l v ≡ passed m ws es time k) (n : Next) (en : n ≡ next_passed l (length st) (length bs) time size d) where
  there : Leads n l st v bs size (sent_after l st v bs time size d)
  there = passed_leads l st v bs time size d n en

  pub copied_kept : refused_next n ≡ false → Leads n l st v bs size (past_from ws st es bs time size m k)
  copied_kept h =
      let s = sent_next l st v bs size n in
      led n l st v bs size (past_from ws st es bs time size m k) (says n l st v bs size (sent_after l st v bs time size d) there) there.in_row
      (past_kept ws st es bs time size m k s.answer s.words s.events s.buffer (both_parts m ws st es bs time size k d l v s ed there.sends) (refused_next n) (says n l st v bs size (sent_after l st v bs time size d) there) h)

  pub copied_back : refused_next n ≡ true → (zs saved w : List ℕ) → event_words ≤ length es → saved ≡ copied zs es event_words → w ≡ copied v saved event_words → Leads n ws st w bs size (past_from ws st es bs time size m k)
  copied_back h zs saved w long esaved ew = by n refl
    where
      by : (x : Next) → n ≡ x → Leads x ws st w bs size (past_from ws st es bs time size m k)
      by (next.Refused code) e =
          let s : refused_with code l v bs ≡ sent_after l st v bs time size d = ap (λ (x : Next). sent_next l st v bs size x) (sym e) ∙ there.sends in
          led (next.Refused code) ws st w bs size (past_from ws st es bs time size m k) refl tt
          (past_refused ws st es bs time size m k (produced.Refused code) l v bs (both_parts m ws st es bs time size k d l v (refused_with code l v bs) ed s) true refl refl zs saved w long esaved ew)
      by (next.Nothing j) e = let z : true ≡ false = sym h ∙ ap refused_next e in absurd (true_false z)
      by (next.Chosen j at id row) e = let z : true ≡ false = sym h ∙ ap refused_next e in absurd (true_false z)

-- with a log
module _ (room : ℕ) (ws st es bs : List ℕ) (time size m k : ℕ) (log us vs : List ℕ) (left count drops : ℕ) (g : Kept room ws es time m k log us vs left count drops)
    (n : Next) (l v : List ℕ) (p : Leads n l st v bs size (past_from us st vs bs time size left count)) (q : Bool) (eq : q ≡ refused_next n) where
  pub log_kept : q ≡ false → Leads n l st v bs size (past_from ws st es bs time size m k)
  log_kept h =
      let s = sent_next l st v bs size n in
      led n l st v bs size (past_from ws st es bs time size m k) (says n l st v bs size (past_from us st vs bs time size left count) p) p.in_row
      (logged_kept room ws st es bs time size m k log us vs left count drops g s.answer s.words s.events s.buffer p.sends q (eq ∙ says n l st v bs size (past_from us st vs bs time size left count) p) h)

  pub log_back : q ≡ true → (zs xs saved head w x : List ℕ) (few : ℕ) → (k + room * 4) * place_words ≤ few → few ≤ length es → header ≤ length ws
      → head ≡ copied zs ws header → saved ≡ copied xs es few → w ≡ copied (undone log drops l) head header → length saved ≡ few → x ≡ copied v saved (length saved)
      → Leads n w st x bs size (past_from ws st es bs time size m k)
  log_back h zs xs saved head w x few fits le lw eh es' ew ls ex = by n refl
    where
      by : (y : Next) → n ≡ y → Leads y w st x bs size (past_from ws st es bs time size m k)
      by (next.Refused code) e =
          let s : refused_with code l v bs ≡ past_from us st vs bs time size left count = ap (λ (y : Next). sent_next l st v bs size y) (sym e) ∙ p.sends in
          led (next.Refused code) w st x bs size (past_from ws st es bs time size m k) refl tt
          (logged_refused room ws st es bs time size m k log us vs left count drops g (produced.Refused code) l v bs s true refl refl zs xs saved head w x few fits le lw eh es' ew ls ex)
      by (next.Nothing j) e = let z : true ≡ false = sym h ∙ eq ∙ ap refused_next e in absurd (true_false z)
      by (next.Chosen j at id row) e = let z : true ≡ false = sym h ∙ eq ∙ ap refused_next e in absurd (true_false z)

-- ------------------------------------------------------------------ as many as wait

module _ (ws st es bs : List ℕ) (time size m k : ℕ) (em : m ≡ (totals_at ws).waiting) where
  pub waiting_many : 1024 < m → Leads (next.Refused 16) ws st es bs size (produced_past ws st es bs time size k)
  unfolding produced_past
  waiting_many h = rw (← em, lt-ltb _ _ h) (refuses 16 ws st es bs size)

  pub waiting_few : m ≤ 1024 → (n : Next) (l v : List ℕ) → Leads n l st v bs size (past_from ws st es bs time size m k) → Leads n l st v bs size (produced_past ws st es bs time size k)
  unfolding produced_past
  waiting_few h n l v g = rw (← em, le-ltb _ _ h) g

-- No events before are the start of a call.
pub none_before : (ws st es bs : List ℕ) (time size m k : ℕ) (n : Next) (l v : List ℕ) → k ≤ 0 → Leads n l st v bs size (past_from ws st es bs time size m 0) → Leads n l st v bs size (past_from ws st es bs time size m k)
none_before ws st es bs time size m k n l v h g = let z : 0 ≡ k = omega (arith, h) in subst (λ (j : ℕ). Leads n l st v bs size (past_from ws st es bs time size m j)) z g
