-- Demand 3 on the model. Assumes nothing.
use mathlib.Core.Path.{◌≡◌, refl, sym, ap, ap₂, ◌∙◌, subst}
use mathlib.Core.Logic.{◌↔◌}
use mathlib.Core.Bool.{Bool, false, not, ◌||◌}
use mathlib.Core.List.{List, []}
use mathlib.Core.Option.{Option, none, some}
use Prim.Native.Nat.{ℕ, ◌^◌, ◌≤◌, ◌<◌}
use native.Mathlib.Omega.{arith}
use lib.Dec.{ltb, eqb, eqb→eq}
use lib.ListN.{length}
use borrow.Author.Tests.{not-false}
use Rattle.queue_model.specs.Logic.{is_nil}
use Rattle.queue_model.specs.Types.{Stream, Options, Queue, refused, done, number, Outcome, Step, reply}
use Rattle.queue_model.specs.Streams.{max_streams, max_messages, waiting, occupied, at}
use Rattle.queue_model.specs.Questions.{priority_of}
use Rattle.queue_model.specs.Image.{Handover, image_bytes, handover, stream_records, message_records, StreamRecord, MessageRecord}
use Rattle.queue_model.specs.Reader.{read_image}
use Rattle.queue_model.specs.Restore.{restored, restore_checks, restore_read, record_checks}
use Rattle.queue_model.specs.Run.{ask_priority, step, run}
use Rattle.queue_model.specs.Demands.{Created, Reachable, created, called, Indistinguishable, Restores, Demand3}
use Rattle.queue_model.proofs.Tests.{holds}
use Rattle.queue_model.proofs.Checks.{past, or_left, or_right, nil_of, restore_of, Passed, not_less, read_none, read_some}
use Rattle.queue_model.proofs.Image.ReadWrite.{image_canonical, Sound, image_sound}
use Rattle.queue_model.proofs.Invariant.Well.{room}
use Rattle.queue_model.proofs.Calm.Calm.{calm}
use Rattle.queue_model.proofs.Calm.Empty.{shown}
use Rattle.queue_model.proofs.Demand3.Restored.{blank, recalled, restored_streams, restored_good, restored_calm, handover_back, blank_options}
use Rattle.queue_model.proofs.Demand3.Records.{same_stream_records, same_message_records}
use Rattle.queue_model.proofs.Demand3.Peel.{Alike, State, peel}
use Rattle.queue_model.proofs.Demand3.New.{reachable_new, new_blank}
use Rattle.queue_model.specs.Restore

-- ---- what an accepted restoring says

record Read (now : ℕ) (image : List ℕ) (q r : Queue) : Type 0 where
  record_read : Handover
  is_read : read_image image ≡ some record_read
  no_streams : q.streams ≡ []
  next_zero : q.next_message_id ≡ 0
  default_same : record_read.default_priority ≡ q.options.default_priority
  store_fits : occupied r.streams ≤ q.options.store_length
  is_restored : restored now record_read q ≡ r

restored_options : (now : ℕ) (d : Handover) (q : Queue) → (restored now d q).options ≡ q.options
unfolding restored
restored_options now d q = refl

restores : (now : ℕ) (image : List ℕ) (q r : Queue) → Restores now image q r → Read now image q r
restores now image q r h = go (read_image image) refl
  where
    p : Passed (restore_checks q.options.store_length now q) × (restore_read now q (read_image image) ≡ reply done [] r)
    p = past (restore_checks q.options.store_length now q) q r (restore_read now q (read_image image)) (sym (restore_of q.options.store_length now image q) ∙ h.accepted)

    twelve : (not (is_nil q.streams) || not (eqb q.next_message_id 0)) ≡ false
    twelve = p.0.1.1.0

    go : (x : Option Handover) → read_image image ≡ x → Read now image q r
    go none e =
        let a : refused 13 ≡ done = ap (λ (y : Step). y.outcome.answer) (sym (read_none now q) ∙ ap (restore_read now q) (sym e) ∙ p.1) in
        let z : ◌≡◌ {A = ℕ} 0 1 = cc in absurd (omega arith)
    go (some d) e =
        let w = past (record_checks now q d) q r (reply done [] (restored now d q)) (sym (read_some now q d) ∙ ap (restore_read now q) (sym e) ∙ p.1) in
        let v : Queue = restored now d q in
        let many : Bool = ltb max_streams (length v.streams) || ltb max_messages (waiting v.streams) in
        let full : Bool = ltb v.options.store_length (occupied v.streams) in
        let same : restored now d q ≡ r = ap (λ (y : Step). y.next) w.1 in
        let fits : occupied v.streams ≤ v.options.store_length = not_less v.options.store_length (occupied v.streams) (or_right many full w.0.1.1.0) in
        record {
          record_read = d;
          is_read = e;
          no_streams = nil_of q.streams (not-false (is_nil q.streams) (or_left (not (is_nil q.streams)) (not (eqb q.next_message_id 0)) twelve));
          next_zero = eqb→eq q.next_message_id 0 (holds (eqb q.next_message_id 0) (not-false (eqb q.next_message_id 0) (or_right (not (is_nil q.streams)) (not (eqb q.next_message_id 0)) twelve)));
          default_same = eqb→eq d.default_priority q.options.default_priority (holds (eqb d.default_priority q.options.default_priority) (not-false (eqb d.default_priority q.options.default_priority) w.0.1.0));
          store_fits = subst (λ (x : Queue). occupied x.streams ≤ q.options.store_length) same (subst (λ (o : Options). occupied v.streams ≤ o.store_length) (restored_options now d q) fits);
          is_restored = same;
        }

-- ---- the priorities

ask : (o : Options) (il : Bool) (c : Option ℕ) (n : ℕ) (ss : List Stream) (k : ℕ) → (step (ask_priority k) (calm o il c n ss)).outcome.answer ≡ number (at o ss k).priority
unfolding step priority_of calm
ask o il c n ss k = refl

priorities_same : (o : Options) (il : Bool) (c₁ c₂ : Option ℕ) (n₁ n₂ : ℕ) (ss₁ ss₂ : List Stream) → Indistinguishable (calm o il c₁ n₁ ss₁) (calm o il c₂ n₂ ss₂) → (k : ℕ) → k < 2 ^ 16 → (at o ss₁ k).priority ≡ (at o ss₂ k).priority
priorities_same o il c₁ c₂ n₁ n₂ ss₁ ss₂ ind k h =
    let e : number (at o ss₁ k).priority ≡ number (at o ss₂ k).priority =
    sym (ask o il c₁ n₁ ss₁ k) ∙ ap (λ (x : Outcome). x.answer) (shown (calm o il c₁ n₁ ss₁) (calm o il c₂ n₂ ss₂) ind (ask_priority k) h) ∙ ask o il c₂ n₂ ss₂ k in
    cc

-- ---- handover records from calm queues

handover_of : (now : ℕ) (o : Options) (il : Bool) (c : Option ℕ) (n : ℕ) (ss : List Stream) → handover now (calm o il c n ss) ≡ record { next_message_id = n; default_priority = o.default_priority; streams = stream_records o.default_priority ss; messages = message_records now ss }
unfolding handover calm
handover_of now o il c n ss = refl

calm_handovers : (now : ℕ) (o : Options) (il : Bool) → 1 ≤ o.store_length → o.store_length ≤ 2000000 → (c₁ c₂ : Option ℕ) (n₁ n₂ : ℕ) (ss₁ ss₂ : List Stream) → State n₁ ss₁ → State n₂ ss₂
    → Indistinguishable (calm o il c₁ n₁ ss₁) (calm o il c₂ n₂ ss₂) → handover now (calm o il c₁ n₁ ss₁) ≡ handover now (calm o il c₂ n₂ ss₂)
calm_handovers now o il room store c₁ c₂ n₁ n₂ ss₁ ss₂ t₁ t₂ ind =
    let a : Alike o n₁ n₂ ss₁ ss₂ = peel o il room store (waiting ss₁) c₁ c₂ n₁ n₂ ss₁ ss₂ t₁ t₂ (omega arith) ind in
    let p : (k : ℕ) → k < 2 ^ 16 → (at o ss₁ k).priority ≡ (at o ss₂ k).priority = priorities_same o il c₁ c₂ n₁ n₂ ss₁ ss₂ ind in
    let x = same_stream_records o now ss₁ ss₂ t₁.good t₂.good a.counters_same a.items_same p in
    let y = same_message_records o now ss₁ ss₂ t₁.good t₂.good a.counters_same a.items_same p in
    let f : ℕ → List StreamRecord → List MessageRecord → Handover = λ n b c. record { next_message_id = n; default_priority = o.default_priority; streams = b; messages = c } in
    handover_of now o il c₁ n₁ ss₁ ∙ ap₂ (λ (b : List StreamRecord) (c : List MessageRecord). f n₁ b c) x y ∙ ap (λ (n : ℕ). f n (stream_records o.default_priority ss₂) (message_records now ss₂)) a.next_same ∙ sym (handover_of now o il c₂ n₂ ss₂)

-- ---- the theorem, on new queues

calm_streams : (o : Options) (il : Bool) (c : Option ℕ) (n : ℕ) (ss : List Stream) → (calm o il c n ss).streams ≡ ss
unfolding calm
calm_streams o il c n ss = refl

-- What an accepted image restores: a calm state, and the image's own record at that time.
record Comes (o : Options) (il : Bool) (now : ℕ) (image : List ℕ) (r : Queue) : Type 0 where
  comes_record : Handover
  comes_streams : List Stream
  comes_calm : r ≡ calm o il (recalled il comes_streams) comes_record.next_message_id comes_streams
  comes_state : State comes_record.next_message_id comes_streams
  comes_handover : handover now r ≡ comes_record
  comes_image : image_bytes comes_record ≡ image

comes : (o : Options) (il : Bool) (now : ℕ) (image : List ℕ) (r : Queue) → o.store_length ≤ 2000000 → 1 ≤ now → Restores now image (blank o il) r → Comes o il now image r
comes o il now image r store late h =
    let w : Read now image (blank o il) r = restores now image (blank o il) r h in
    let d : Handover = w.record_read in
    let s : Sound d = image_sound image d h.bytes w.is_read in
    let df : d.default_priority ≡ o.default_priority = w.default_same ∙ ap (λ (x : Options). x.default_priority) (blank_options o il) in
    let xs : List Stream = restored_streams o now d in
    let e : r ≡ calm o il (recalled il xs) d.next_message_id xs = sym w.is_restored ∙ restored_calm o il now late d s.sound_right s.sound_streams s.sound_messages df in
    let oc : occupied xs ≤ o.store_length = subst (λ (x : Options). occupied xs ≤ x.store_length) (blank_options o il)
    (subst (λ (y : List Stream). occupied y ≤ (blank o il).options.store_length) (ap (λ (q : Queue). q.streams) e ∙ calm_streams o il (recalled il xs) d.next_message_id xs) w.store_fits) in
    record {
      comes_record = d;
      comes_streams = xs;
      comes_calm = e;
      comes_state = record { good = restored_good o il now late d s.sound_right s.sound_streams s.sound_messages df; next_fits = s.sound_next; fits = omega arith };
      comes_handover = ap (handover now) e ∙ handover_back o il now late d s.sound_right s.sound_streams s.sound_messages df (recalled il xs);
      comes_image = image_canonical image d h.bytes w.is_read;
    }

third_blank : (o : Options) (il : Bool) (now : ℕ) (i₁ i₂ : List ℕ) (r₁ r₂ : Queue) → 1 ≤ o.store_length → o.store_length ≤ 2000000 → 1 ≤ now
    → Restores now i₁ (blank o il) r₁ → Restores now i₂ (blank o il) r₂ → (i₁ ≡ i₂) ↔ Indistinguishable r₁ r₂
third_blank o il now i₁ i₂ r₁ r₂ room store late h₁ h₂ = (forward, backward)
  where
    forward : i₁ ≡ i₂ → Indistinguishable r₁ r₂
    forward e cs t =
        let s : reply done [] r₁ ≡ reply done [] r₂ = sym h₁.accepted ∙ ap (λ (i : List ℕ). Restore.restore (blank o il).options.store_length now i (blank o il)) e ∙ h₂.accepted in
        ap (run cs) (ap (λ (x : Step). x.next) s)

    backward : Indistinguishable r₁ r₂ → i₁ ≡ i₂
    backward ind =
        let c₁ = comes o il now i₁ r₁ store late h₁ in
        let c₂ = comes o il now i₂ r₂ store late h₂ in
        let ind' : Indistinguishable (calm o il (recalled il c₁.comes_streams) c₁.comes_record.next_message_id c₁.comes_streams) (calm o il (recalled il c₂.comes_streams) c₂.comes_record.next_message_id c₂.comes_streams) =
        subst (λ (q : Queue). Indistinguishable q (calm o il (recalled il c₂.comes_streams) c₂.comes_record.next_message_id c₂.comes_streams)) c₁.comes_calm (subst (Indistinguishable r₁) c₂.comes_calm ind) in
        let e = calm_handovers now o il room store (recalled il c₁.comes_streams) (recalled il c₂.comes_streams) c₁.comes_record.next_message_id c₂.comes_record.next_message_id c₁.comes_streams c₂.comes_streams c₁.comes_state c₂.comes_state ind' in
        sym c₁.comes_image ∙ ap image_bytes (sym c₁.comes_handover ∙ ap (handover now) c₁.comes_calm ∙ e ∙ sym (ap (handover now) c₂.comes_calm) ∙ c₂.comes_handover) ∙ c₂.comes_image

-- ---- reachable queues that can be restored to are new

reachable_created : {o : Options} {q : Queue} → Reachable o q → Created o
reachable_created (created c) = c
reachable_created (called r c t) = reachable_created r

reachable_blank : (o : Options) (q : Queue) → Reachable o q → q.streams ≡ [] → q.next_message_id ≡ 0 → q ≡ blank o q.interleaving
reachable_blank o q r e n = new_blank o q (reachable_new r) e n

-- Demand 3.
pub demand3 : Demand3
unfolding Demand3
demand3 o q₁ q₂ r₁ r₂ now i₁ i₂ c₁ c₂ il late h₁ h₂ =
    let w₁ = restores now i₁ q₁ r₁ h₁ in
    let w₂ = restores now i₂ q₂ r₂ h₂ in
    let b₁ : q₁ ≡ blank o q₁.interleaving = reachable_blank o q₁ c₁ w₁.no_streams w₁.next_zero in
    let b₂ : q₂ ≡ blank o q₁.interleaving = reachable_blank o q₂ c₂ w₂.no_streams w₂.next_zero ∙ ap (blank o) (sym il) in
    let rm = room o (reachable_created c₁) in
    third_blank o q₁.interleaving now i₁ i₂ r₁ r₂ rm.store_low rm.store_high late
    (subst (λ (q : Queue). Restores now i₁ q r₁) b₁ h₁) (subst (λ (q : Queue). Restores now i₂ q r₂) b₂ h₂)
