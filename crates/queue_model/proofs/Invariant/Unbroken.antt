-- In a queue that never had interleaving every fragment that is not a first one stands directly behind one that it goes on with, over changeovers too:
-- document 02's 10/13. Assumes nothing.
use mathlib.Core.Path.{◌≡◌, refl, sym, ap, ◌∙◌, subst}
use mathlib.Core.Bool.{Bool, true, false}
use mathlib.Core.List.{List, [], ◌∷◌, ◌++◌, map}
use mathlib.Core.Option.{Option, none, some, get_or}
use Prim.Native.Nat.{ℕ, suc, ◌+◌, ◌≤◌, ◌<◌, min}
use native.Mathlib.Omega.{arith}
use lib.Dec.{ltb}
use Rattle.std.specs.Prelude.{if◌then◌else◌}
use Rattle.queue_model.specs.Logic.{is_some}
use Rattle.queue_model.specs.Types.{Item, Stream, Active, Options, Queue, Event, Fragment, fragment, Step, expired, refuse, reply}
use Rattle.queue_model.specs.Scheduler.{peek}
use Rattle.queue_model.specs.Streams.{waiting, stream_key, new_queue}
use Rattle.queue_model.specs.Refusals.{max_time, short_of_head}
use Rattle.queue_model.specs.Amounts.{sent_events}
use Rattle.queue_model.specs.Produce.{chosen, look_expired, look_at, look_for, look, hand_out, after_look, pass_over, produce_checks, numbered, make_fragment, handed_out}
use Rattle.queue_model.specs.Image.{MessageRecord, Handover, message_record, message_records, handover, write_image}
use Rattle.queue_model.specs.Reader.{has_flag, read_image}
use Rattle.queue_model.specs.Restore.{restored_item, half_sent_first}
use Rattle.queue_model.specs.Run.{Call, add, produce, fill, discard, close, ready_ids, commit, rollback, reset, set_threshold, set_priority, set_interleaving, restore, ask_priority, ask_amount, ask_threshold, ask_total, ask_empty, ask_has_data, ask_streams_ready, ask_ready_count, ask_readiness, ask_room, step}
use Rattle.queue_model.specs.Demands.{Created, Reachable, fresh, Demand2Images}
use Rattle.queue_model.specs.MidMessage.{half_sent_record, half_sent_records, AtMostOne, Uninterrupted, NeverInterleaved, at_first, later}
use Rattle.queue_model.specs.Answers.{fragments_in}
use Rattle.queue_model.specs.Unbroken.{UnbrokenBehind, All, Together, Continues, starts, Unbroken, Onward, Sends, begins, goes_on, changes_over, Request10Unbroken, Request10Together, RestOf, Request10Rest}
use Rattle.queue_model.proofs.Tests.{ltb_true, ltb_false, eqb_false}
use Rattle.queue_model.proofs.Table.{Rising, After, Every, every_find, find_key}
use Rattle.queue_model.proofs.Checks.{checked_either}
use Rattle.queue_model.proofs.Image.Saved.{flags, flags_read, read_write_image}
use Rattle.queue_model.proofs.Invariant.Messages.{WellRest, WellItems}
use Rattle.queue_model.proofs.Invariant.Well.{Kept, Well, room, well_queue}
use Rattle.queue_model.proofs.Invariant.Sends.{head_of_at, head_well}
use Rattle.queue_model.proofs.Invariant.Sixteen.{reachable_well, reachable_options}
use Rattle.queue_model.proofs.Invariant.MidMessage.{Recalled, Recalls, half_first, none_half, half_of, halves, never_reachable, never_recalls, remembered_first}
use Rattle.queue_model.proofs.Calm.Calm.{HeadAt}
use Rattle.queue_model.proofs.Demand2.Rust.{mid_back}
use Rattle.queue_model.proofs.Demand2.Images.{demand2_images}
use Rattle.queue_model.proofs.Demand2.Bytes.{image_is_bytes}
use Rattle.queue_model.proofs.Demand3.Restored.{message_records_cons, message_records_nil}
use Rattle.queue_model.proofs.Invariant.Owed.{last_of, LastOut, Owed, OwedFirst, Owes, Goes, whole_owed, OwedRecord, goes_restore, goes_set_interleaving, goes_step, kept_numbers, mid_of}
use Rattle.queue_model.specs.Calls
use Rattle.queue_model.specs.Restore

-- ---- lists of fragments

last_append : {A : Type 0} (p : Option A) (xs ys : List A) → last_of p (xs ++ ys) ≡ last_of (last_of p xs) ys
unfolding last_of
last_append p [] ys = refl
last_append p (x ∷ xs) ys = last_append (some x) xs ys

module _ {A : Type 0} (first : A → Bool) (Follows : A → A → Type 0) where
  unbroken_append : (p : Option A) (xs ys : List A) → UnbrokenBehind first Follows p xs → UnbrokenBehind first Follows (last_of p xs) ys → UnbrokenBehind first Follows p (xs ++ ys)
  unfolding last_of
  unbroken_append p [] ys u v = v
  unbroken_append p (x ∷ xs) ys u v = (u.0, unbroken_append (some x) xs ys u.1 v)

  unbroken_behind : (p : Option A) (xs ys : List A) → UnbrokenBehind first Follows p (xs ++ ys) → UnbrokenBehind first Follows (last_of p xs) ys
  unfolding last_of
  unbroken_behind p [] ys u = u
  unbroken_behind p (x ∷ xs) ys u = unbroken_behind (some x) xs ys u.1

  -- From one that is not a first one back to the first of its message stand fragments of it alone.
  pub together : (id : A → ℕ) → ((f g : A) → Follows f g → id g ≡ id f) → (fs : List A) → UnbrokenBehind first Follows none fs → Together first id fs
  together id same_id fs u before between behind f g e n a =
      back f between (unbroken_behind none before (f ∷ (between ++ (g ∷ behind))) (subst (UnbrokenBehind first Follows none) e u)).1 a
    where
      back : (f : A) (bs : List A) → UnbrokenBehind first Follows (some f) (bs ++ (g ∷ behind)) → All (λ (b : A). id b ≡ id g → first b ≡ false) bs → All (λ (b : A). id b ≡ id g) (f ∷ bs)
      back f [] v b = (sym (same_id f g (v.0 n)), tt)
      back f (x ∷ bs) v b = let h = back x bs v.1 b.1 in (sym (same_id f x (v.0 (b.0 h.0))) ∙ h.0, h)

-- ---- a changeover

-- A saved image has the half-sent messages that wait: at most one where each is remembered.
no_more : (k : ℕ) (ss : List Stream) → After stream_key k ss → Every (Recalled (some k)) ss → halves ss ≡ 0
unfolding half_of
no_more k [] a r = refl
no_more k (s ∷ ss) a r = let h = no_more k ss a.1 r.1 in go (half_sent_first s.items) refl (omega arith)
  where
    go : (b : Bool) → half_sent_first s.items ≡ b → halves ss ≡ 0 → (if half_sent_first s.items then 1 else 0) + halves ss ≡ 0
    go true e h = let f = r.0 e in let z : k ≡ s.id = cc in let l = a.0 in absurd (omega arith)
    go false e h = let x : ◌≡◌ {A = ℕ} (if half_sent_first s.items then 1 else 0) 0 = ap (λ (c : Bool). if c then 1 else 0) e in omega arith

few_halves : (c : Option ℕ) (ss : List Stream) → Rising stream_key ss → Every (Recalled c) ss → halves ss ≤ 1
unfolding half_of
few_halves c [] a r = omega arith
few_halves c (s ∷ ss) a r = go (half_sent_first s.items) refl (few_halves c ss a.1 r.1)
  where
    go : (b : Bool) → half_sent_first s.items ≡ b → halves ss ≤ 1 → (if half_sent_first s.items then 1 else 0) + halves ss ≤ 1
    go true e h =
        let x : ◌≡◌ {A = ℕ} (if half_sent_first s.items then 1 else 0) 1 = ap (λ (d : Bool). if d then 1 else 0) e in
        let y = no_more s.id ss a.0 (subst (λ (d : Option ℕ). Every (Recalled d) ss) (r.0 e) r.1) in omega arith
    go false e h = let x : ◌≡◌ {A = ℕ} (if half_sent_first s.items then 1 else 0) 0 = ap (λ (d : Bool). if d then 1 else 0) e in omega arith

module _ (saved : ℕ) where
  rest_records : (k : ℕ) (is : List Item) (rs : List MessageRecord) → WellRest is → half_sent_records (map (message_record saved k) is ++ rs) ≡ half_sent_records rs
  unfolding half_sent_record message_record
  rest_records k [] rs w = refl
  rest_records k (i ∷ is) rs w =
      let h = rest_records k is rs w.1.1 in let z = w.0.no_offset w.1.0 in let l : i.offset ≤ 0 = omega arith in
      let x : ◌≡◌ {A = ℕ} (if ltb 0 i.offset then 1 else 0) 0 = ap (λ (b : Bool). if b then 1 else 0) (ltb_false l) in omega arith

  items_records : (s : Stream) (rs : List MessageRecord) → WellItems s.items → half_sent_records (map (message_record saved s.id) s.items ++ rs) ≡ half_of s + half_sent_records rs
  unfolding half_of half_sent_record message_record
  items_records s rs w = go s.items w
    where
      go : (is : List Item) → WellItems is → half_sent_records (map (message_record saved s.id) is ++ rs) ≡ (if half_sent_first is then 1 else 0) + half_sent_records rs
      go [] w = let x : ◌≡◌ {A = ℕ} (if half_sent_first [] then 1 else 0) 0 = ap (λ (b : Bool). if b then 1 else 0) none_half in omega arith
      go (i ∷ is) w =
          let h = rest_records s.id is rs w.1 in
          let x : ◌≡◌ {A = ℕ} (if half_sent_first (i ∷ is) then 1 else 0) (if ltb 0 i.offset then 1 else 0) = ap (λ (b : Bool). if b then 1 else 0) (half_first i is) in omega arith

  all_records : (ss : List Stream) → Every Kept ss → half_sent_records (message_records saved ss) ≡ halves ss
  all_records [] k = ap half_sent_records (message_records_nil saved)
  all_records (s ∷ ss) k =
      let h = all_records ss k.1 in let x = items_records s (message_records saved ss) k.0.well_items in
      ap half_sent_records (message_records_cons saved s ss) ∙ omega arith

  -- A message saved and restored is owed as before.
  module _ (l : Option Fragment) (now : ℕ) where
    record_owed : (k : ℕ) (i : Item) → Owed l k i → OwedRecord l now (message_record saved k i)
    unfolding message_record restored_item flags
    record_owed k i h z = go l (h z)
      where
        go : (l : Option Fragment) → LastOut l k i → LastOut l k (restored_item now (message_record saved k i))
        go none o = o
        go (some f) o =
            let r = flags_read i.unordered (is_some i.mid) (is_some i.expires_at) in
            record {
              out_message = o.out_message;
              out_stream = o.out_stream;
              out_order = r.reads_unordered ∙ o.out_order;
              out_mid = mid_back (has_flag 2 (message_record saved k i).flags) i.mid r.reads_mid ∙ o.out_mid;
              out_ssn = o.out_ssn;
              out_fsn = o.out_fsn;
              out_part = o.out_part;
            }

    rest_records_owed : (k : ℕ) (is : List Item) (rs : List MessageRecord) → WellRest is → Every (OwedRecord l now) rs → Every (OwedRecord l now) (map (message_record saved k) is ++ rs)
    rest_records_owed k [] rs w a = a
    rest_records_owed k (i ∷ is) rs w a = (record_owed k i (whole_owed l k i (w.0.no_offset w.1.0)), rest_records_owed k is rs w.1.1 a)

    items_records_owed : (k : ℕ) (is : List Item) (rs : List MessageRecord) → WellItems is → OwedFirst l k is → Every (OwedRecord l now) rs → Every (OwedRecord l now) (map (message_record saved k) is ++ rs)
    items_records_owed k [] rs w o a = a
    items_records_owed k (i ∷ is) rs w o a = (record_owed k i o, rest_records_owed k is rs w.1 a)

    records_owed : (ss : List Stream) → Every Kept ss → Every (Owes l) ss → Every (OwedRecord l now) (message_records saved ss)
    records_owed [] k a = subst (Every (OwedRecord l now)) (sym (message_records_nil saved)) tt
    records_owed (s ∷ ss) k a = subst (Every (OwedRecord l now)) (sym (message_records_cons saved s ss)) (items_records_owed s.id s.items (message_records saved ss) k.0.well_items a.0 (records_owed ss k.1 a.1))

  few_saved : (q : Queue) → Well q → Recalls q → AtMostOne (read_image (write_image saved q))
  unfolding handover
  few_saved q w a = subst AtMostOne (sym (read_write_image saved q (well_queue q w))) few
    where
      few : half_sent_records (handover saved q).messages ≤ 1
      few = let x = all_records q.streams w.kept in let y = few_halves q.scheduler.current q.streams w.rising a.recalls in omega arith

-- ---- THE THEOREM

uninterrupted : (c : Call) (q : Queue) → Onward c q → Uninterrupted c q
uninterrupted (add store now m) q u = u
uninterrupted (produce store places buffer now size) q u = u
uninterrupted (fill store places buffer now p) q u = tt
uninterrupted (discard places s k) q u = u
uninterrupted (close places s) q u = u
uninterrupted ready_ids q u = u
uninterrupted commit q u = u
uninterrupted rollback q u = u
uninterrupted reset q u = u
uninterrupted (set_threshold places s t) q u = u
uninterrupted (set_priority s p) q u = u
uninterrupted (set_interleaving b) q u = u
uninterrupted (restore store now image) q u = λ e. absurd (u e)
uninterrupted (ask_priority s) q u = u
uninterrupted (ask_amount s) q u = u
uninterrupted (ask_threshold s) q u = u
uninterrupted ask_total q u = u
uninterrupted ask_empty q u = u
uninterrupted ask_has_data q u = u
uninterrupted ask_streams_ready q u = u
uninterrupted ask_ready_count q u = u
uninterrupted ask_readiness q u = u
uninterrupted (ask_room r) q u = u

fresh_never : {o : Options} → Created o → NeverInterleaved o (fresh o false)
unfolding fresh
fresh_never c = later (at_first c) (set_interleaving false) tt refl

-- A changeover leads to such a queue again.
changed_never : {o : Options} {q : Queue} → NeverInterleaved o q → (saved now : ℕ) → now ≤ max_time → NeverInterleaved o (step (restore o.store_length now (write_image saved q)) (fresh o false)).next
changed_never {o} {q} n saved now m =
    let r = never_reachable n in let w = reachable_well r in
    let c : Created o = subst Created (reachable_options r) w.creation in
    let h = (room o c).store_high in
    later (fresh_never c) (restore o.store_length now (write_image saved q)) (omega arith, (omega arith, image_is_bytes saved q w)) (λ e. few_saved saved q w (never_recalls n))

pub sends_never : {o : Options} {q : Queue} {fs : List Fragment} → Sends o q fs → NeverInterleaved o q
sends_never (begins c) = at_first c
sends_never (goes_on {q = p} s c t u) = later (sends_never s) c t (uninterrupted c p u)
sends_never (changes_over s saved now m) = changed_never (sends_never s) saved now m

handover_owed : (l : Option Fragment) (saved now : ℕ) (q : Queue) → Well q → Every (Owes l) q.streams → Every (OwedRecord l now) (handover saved q).messages
unfolding handover
handover_owed l saved now q w a = records_owed saved l now q.streams w.kept a

changed_owes : (l : Option Fragment) {o : Options} {q : Queue} → Reachable o q → Every (Owes l) q.streams → (saved now : ℕ) → now ≤ max_time → Every (Owes l) (step (restore o.store_length now (write_image saved q)) (fresh o false)).next.streams
unfolding Demand2Images step fresh new_queue last_of
changed_owes l {o} {q} r a saved now m =
    let w = reachable_well r in
    let x : Step = Restore.restore o.store_length now (write_image saved q) (fresh o false) in
    let h : Goes l x = goes_restore l o.store_length now (write_image saved q) (fresh o false) (goes_set_interleaving l false (new_queue o) tt).owes
    (λ g e f. let z : handover saved q ≡ g = cc (e, read_write_image saved q (well_queue q w)) in subst (λ (y : Handover). Every (OwedRecord l now) y.messages) z (handover_owed l saved now q w a)) in
    let e : fragments_in x.outcome.answer ≡ [] = ap (λ (y : Step). fragments_in y.outcome.answer) (demand2_images o q saved now false r m) in
    subst (λ (fs : List Fragment). Every (Owes (last_of l fs)) x.next.streams) e h.owes

sends_owes : {o : Options} {q : Queue} {fs : List Fragment} → Sends o q fs → Unbroken fs × Every (Owes (last_of none fs)) q.streams
sends_owes (begins c) = (tt, unfold new_queue in tt)
sends_owes (goes_on {q = p} {fs = fs} s c t u) =
    let n = sends_never s in let ih = sends_owes s in
    let h = goes_step (last_of none fs) c p t u (reachable_well (never_reachable n)) (never_recalls n) ih.1 in
    let gs : List Fragment = fragments_in (step c p).outcome.answer in
    (unbroken_append starts Continues none fs gs ih.0 h.shows, subst (λ (l : Option Fragment). Every (Owes l) (step c p).next.streams) (sym (last_append none fs gs)) h.owes)
sends_owes (changes_over {fs = fs} s saved now m) = let ih = sends_owes s in (ih.0, changed_owes (last_of none fs) (never_reachable (sends_never s)) ih.1 saved now m)

pub request10_unbroken : Request10Unbroken
unfolding Request10Unbroken
request10_unbroken o q fs s = (sends_owes s).0

pub request10_together : Request10Together
unfolding Request10Together
request10_together o q fs s = together starts Continues (λ (f : Fragment). f.message_id) (λ f g c. c.same_message) fs (sends_owes s).0

-- ---- what comes next

-- The choice is the remembered stream's head.
looks_at : (now : ℕ) (q : Queue) (b : Active) (s : Stream) (i : Item) (is : List Item) → peek q.scheduler ≡ some b → HeadAt q.streams b.stream_id s i is → expired now i.expires_at ≡ false → look now q ≡ chosen b s i is
unfolding look look_for look_at
looks_at now q b s i is e h x =
    ap (look_for now q) e ∙ ap (look_at now q b) (head_of_at q.streams b.stream_id s i is h) ∙ ap (λ (y : Bool). if y then look_expired q s i is else chosen b s i is) x

not_shown : (q : Queue) (r : ℕ) (g : Fragment) → (refuse q r).outcome.answer ≡ fragment g → ⊥
not_shown q r g e = let z : ◌≡◌ {A = ℕ} 0 1 = cc in omega arith

module _ (q : Queue) (k : ℕ) (s : Stream) (i : Item) (is : List Item) (w : Well q) (h : HeadAt q.streams k s i is) (half : 0 < i.offset) (g : Fragment) where
  rest_made : (n : ℕ) → make_fragment s (numbered s.counters i).item n ≡ g → RestOf k i g
  unfolding make_fragment
  rest_made n e =
      let positive : i.offset ≡ 0 → ⊥ = λ z. omega arith in
      let m : i.mid ≡ some (get_or i.mid 0) = mid_of i.mid (λ f. let z = (head_well q k s i is w h).0.no_offset f in omega arith) in
      let f : make_fragment s i n ≡ g = ap (λ (x : Item). make_fragment s x n) (sym (kept_numbers s.counters i (get_or i.mid 0) m)) ∙ e in
      record {
        its_stream = ap (λ (x : Fragment). x.stream_id) (sym f) ∙ find_key stream_key k q.streams s h.found;
        its_message = ap (λ (x : Fragment). x.message_id) (sym f);
        not_first = ap (λ (x : Fragment). x.first) (sym f) ∙ eqb_false positive;
      }

  abbrev Rests : Step → Type 0
  Rests x = x.outcome.answer ≡ fragment g → RestOf k i g

  rest_handed : (size : ℕ) (b : Active) → Rests (get_or (hand_out size q [] b s i is) (refuse q 16))
  unfolding hand_out
  rest_handed size b = go (short_of_head q s i (min b.bytes_remaining size))
    where
      n : ℕ
      n = min b.bytes_remaining size

      f : Fragment
      f = make_fragment s (numbered s.counters i).item n

      go : (x : Bool) → Rests (get_or (if x then none else some (reply (fragment f) ([] ++ sent_events q s n) (handed_out q b s i is n))) (refuse q 16))
      go true e = absurd (not_shown q 16 g e)
      go false e = let z : f ≡ g = cc in rest_made n z

  rest_produced : (store places buffer now size : ℕ) (b : Active) → peek q.scheduler ≡ some b → b.stream_id ≡ k → expired now i.expires_at ≡ false → Rests (Calls.produce store places buffer now size q)
  unfolding Calls.produce pass_over after_look
  rest_produced store places buffer now size b e f x =
      let m : ℕ = waiting q.streams in
      let l : look now q ≡ chosen b s i is = looks_at now q b s i is e (subst (λ (j : ℕ). HeadAt q.streams j s i is) (sym f) h) x in
      let y : pass_over (suc m) now size q [] ≡ hand_out size q [] b s i is = ap (after_look (λ (r : Queue) (ds : List Event). pass_over m now size r ds) size q []) l in
      checked_either Rests (produce_checks store places buffer now size q) q (get_or (pass_over (suc m) now size q []) (refuse q 16)) (λ r z. absurd (not_shown q r g z))
      (λ p. subst (λ (z : Option Step). Rests (get_or z (refuse q 16))) (sym y) (rest_handed size b))

pub request10_rest : Request10Rest
unfolding Request10Rest step
request10_rest o q k s i is store places buffer now size g n f j z x =
    let w = reachable_well (never_reachable n) in
    let half : half_sent_first s.items ≡ true = ap half_sent_first j ∙ half_first i is ∙ ltb_true z in
    let c : q.scheduler.current ≡ some k =
    every_find stream_key (Recalled q.scheduler.current) k s q.streams (never_recalls n).recalls f half ∙ ap {B = Option ℕ} some (find_key stream_key k q.streams s f) in
    let b = remembered_first q k w c in
    rest_produced q k s i is w (record { found = f; items = j }) z g store places buffer now size b.first_entry b.first_chosen b.first_stream x
