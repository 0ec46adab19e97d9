-- What an image's handover record restores: a calm queue of good streams, whose own handover record at that time is the image's. Assumes nothing.
use mathlib.Core.Path.{◌≡◌, refl, sym, ap, ap₂, ◌∙◌, subst}
use mathlib.Core.Bool.{Bool, true, false, not, ◌&&◌}
use mathlib.Core.List.{List, [], ◌∷◌, ◌++◌, map, append_assoc, append-nil}
use mathlib.Core.Option.{Option, none, get_or}
use Prim.Native.Nat.{ℕ, zero, suc, ◌+◌, ◌*◌, ◌^◌, ◌≤◌, ◌<◌}
use native.Mathlib.Omega.{arith}
use lib.Dec.{T, ltb, leb, eqb, leb→le, ltb→lt, eqb→eq}
use lib.ListN.{length}
use Rattle.std.specs.Prelude.{if◌then◌else◌}
use Rattle.queue_model.specs.Logic.{all_true, implies, is_some}
use Rattle.queue_model.specs.Types.{Item, Counters, Stream, Scheduler, Options, Queue, expired}
use Rattle.queue_model.specs.Streams.{put_stream, new_stream, amounts, stream_key, at, with_message}
use Rattle.queue_model.specs.Refusals.{max_payload}
use Rattle.queue_model.specs.Bytes.{Fits}
use Rattle.queue_model.specs.Image.{StreamRecord, MessageRecord, Handover, StreamsFit, MessagesFit, stream_widths, message_widths, stream_row, message_row, plain, stream_record, stream_records, bit, ms_left_at, message_record, message_records, handover}
use Rattle.queue_model.specs.Reader.{has_flag, message_right, messages_right_after, messages_right, streams_right, handover_right}
use Rattle.queue_model.specs.Restore.{restored_stream, give, restored_item, restore_streams, restore_message, restore_messages, first_half_sent, remember_half_sent, restored}
use Rattle.queue_model.proofs.Tests.{less, same, more, tri, ltb_false, eqb_true}
use Rattle.queue_model.proofs.Table.{find_there, find_here, find_after, put_later, put_here, put_before, put_end, After, Rising, after_down}
use Rattle.queue_model.proofs.Streams.{at_found, at_new, at_id, unsent_snoc}
use Rattle.queue_model.proofs.Image.ByteRows.{and_l, and_r}
use Rattle.queue_model.proofs.Calm.Calm.{GoodItem, GoodItems, GoodStream, GoodStreams, good_put, calm_scheduler, calm}
use Rattle.queue_model.proofs.Calm.Reset.{each_new, all_items}
use Rattle.queue_model.proofs.Calm.Empty.{at_good}

-- ---- one message: what its rules say, and that it comes back

abbrev pub Each : List Bool → Type 0
Each [] = Unit {0}
Each (b ∷ bs) = T b × Each bs

each : (bs : List Bool) → T (all_true bs) → Each bs
each [] t = tt
each (b ∷ bs) t = (and_l b (all_true bs) t, each bs (and_r b (all_true bs) t))

pub record Rules (r : MessageRecord) : Type 0 where
  pub flags_small : r.flags ≤ 7
  pub zero_zero : r.zero_byte ≡ 0
  pub ms_small : r.ms_left ≤ 2147483647
  pub payload_small : length r.payload ≤ max_payload
  pub unsent : r.offset < length r.payload
  pub no_lifetime : has_flag 4 r.flags ≡ false → r.ms_left ≡ 0
  pub no_mid : has_flag 2 r.flags ≡ false → r.mid ≡ 0
  pub no_ssn : has_flag 2 r.flags ≡ false → r.ssn ≡ 0
  pub no_offset : has_flag 2 r.flags ≡ false → r.offset ≡ 0
  pub no_fsn : has_flag 2 r.flags ≡ false → r.fsn ≡ 0
  pub unordered_ssn : has_flag 1 r.flags ≡ true → r.ssn ≡ 0

implied : (a b : Bool) → T (implies (not a) b) → a ≡ false → T b
unfolding implies
implied true b t e = let z : ◌≡◌ {A = ℕ} 0 1 = cc in absurd (omega arith)
implied false b t e = t

implied_true : (a b : Bool) → T (implies a b) → a ≡ true → T b
unfolding implies
implied_true true b t e = t
implied_true false b t e = let z : ◌≡◌ {A = ℕ} 0 1 = cc in absurd (omega arith)

pub rules : (head : Bool) (r : MessageRecord) → T (message_right head r) → Rules r
unfolding message_right
rules head r t =
    record {
      flags_small = leb→le r.flags 7 w.0;
      zero_zero = eqb→eq r.zero_byte 0 w.1.0;
      ms_small = leb→le r.ms_left 2147483647 w.1.1.0;
      payload_small = leb→le (length r.payload) max_payload w.1.1.1.1.0;
      unsent = ltb→lt r.offset (length r.payload) w.1.1.1.1.1.0;
      no_lifetime = λ e. eqb→eq r.ms_left 0 (implied (has_flag 4 r.flags) (eqb r.ms_left 0) w.1.1.1.1.1.1.0 e);
      no_mid = λ e. eqb→eq r.mid 0 (and_l m s (and_l (m && s) o (and_l (m && s && o) f (implied (has_flag 2 r.flags) (m && s && o && f) w.1.1.1.1.1.1.1.0 e))));
      no_ssn = λ e. eqb→eq r.ssn 0 (and_r m s (and_l (m && s) o (and_l (m && s && o) f (implied (has_flag 2 r.flags) (m && s && o && f) w.1.1.1.1.1.1.1.0 e))));
      no_offset = λ e. eqb→eq r.offset 0 (and_r (m && s) o (and_l (m && s && o) f (implied (has_flag 2 r.flags) (m && s && o && f) w.1.1.1.1.1.1.1.0 e)));
      no_fsn = λ e. eqb→eq r.fsn 0 (and_r (m && s && o) f (implied (has_flag 2 r.flags) (m && s && o && f) w.1.1.1.1.1.1.1.0 e));
      unordered_ssn = λ e. eqb→eq r.ssn 0 (implied_true (has_flag 1 r.flags) (eqb r.ssn 0) w.1.1.1.1.1.1.1.1.0 e);
    }
  where
    m : Bool
    m = eqb r.mid 0

    s : Bool
    s = eqb r.ssn 0

    o : Bool
    o = eqb r.offset 0

    f : Bool
    f = eqb r.fsn 0

    tests : List Bool
    tests = leb r.flags 7 ∷ eqb r.zero_byte 0 ∷ leb r.ms_left 2147483647 ∷ leb 1 (length r.payload) ∷ leb (length r.payload) max_payload ∷ ltb r.offset (length r.payload)
        ∷ implies (not (has_flag 4 r.flags)) (eqb r.ms_left 0) ∷ implies (not (has_flag 2 r.flags)) (m && s && o && f) ∷ implies (has_flag 1 r.flags) (eqb r.ssn 0) ∷ implies (has_flag 2 r.flags) head ∷ []

    w : Each tests
    w = each tests t

-- Only a stream's first message has a MID.
pub first_mid : (head : Bool) (r : MessageRecord) → T (message_right head r) → has_flag 2 r.flags ≡ true → T head
unfolding message_right
first_mid head r t e =
    let m : Bool = eqb r.mid 0 && eqb r.ssn 0 && eqb r.offset 0 && eqb r.fsn 0 in
    let w = each (leb r.flags 7 ∷ eqb r.zero_byte 0 ∷ leb r.ms_left 2147483647 ∷ leb 1 (length r.payload) ∷ leb (length r.payload) max_payload ∷ ltb r.offset (length r.payload)
    ∷ implies (not (has_flag 4 r.flags)) (eqb r.ms_left 0) ∷ implies (not (has_flag 2 r.flags)) m ∷ implies (has_flag 1 r.flags) (eqb r.ssn 0) ∷ implies (has_flag 2 r.flags) head ∷ []) t in
    implied_true (has_flag 2 r.flags) head w.1.1.1.1.1.1.1.1.1.0 e

given_give : (b : Bool) (n : ℕ) → is_some (give b n) ≡ b
unfolding is_some give
given_give true n = refl
given_give false n = refl

flags_same : (f : ℕ) → f ≤ 7 → bit (has_flag 1 f) 1 + bit (has_flag 2 f) 2 + bit (has_flag 4 f) 4 ≡ f
unfolding bit has_flag
flags_same zero h = refl
flags_same (suc zero) h = refl
flags_same (suc (suc zero)) h = refl
flags_same (suc (suc (suc zero))) h = refl
flags_same (suc (suc (suc (suc zero)))) h = refl
flags_same (suc (suc (suc (suc (suc zero))))) h = refl
flags_same (suc (suc (suc (suc (suc (suc zero)))))) h = refl
flags_same (suc (suc (suc (suc (suc (suc (suc zero))))))) h = refl
flags_same (suc (suc (suc (suc (suc (suc (suc (suc f)))))))) h = absurd (omega arith)

ms_same : (b : Bool) (now ms : ℕ) → ms ≤ 2147483647 → (b ≡ false → ms ≡ 0) → ms_left_at now (give b (now + ms * 1000000)) ≡ ms
unfolding ms_left_at give
ms_same true now ms h z = omega arith
ms_same false now ms h z = sym (z refl)

mid_same : (b : Bool) (m : ℕ) → (b ≡ false → m ≡ 0) → get_or (give b m) 0 ≡ m
unfolding give
mid_same true m z = refl
mid_same false m z = sym (z refl)

-- A message record, restored and saved again at the same time, is itself.
pub message_back_lem : (now : ℕ) (r : MessageRecord) → Rules r → message_record now r.id (restored_item now r) ≡ r
unfolding message_record restored_item
message_back_lem now r u =
    let f : bit (has_flag 1 r.flags) 1 + bit (is_some (give (has_flag 2 r.flags) r.mid)) 2 + bit (is_some (give (has_flag 4 r.flags) (now + r.ms_left * 1000000))) 4 ≡ r.flags =
    ap₂ (λ (x y : Bool). bit (has_flag 1 r.flags) 1 + bit x 2 + bit y 4) (given_give (has_flag 2 r.flags) r.mid) (given_give (has_flag 4 r.flags) (now + r.ms_left * 1000000)) ∙ flags_same r.flags u.flags_small in
    let m = ms_same (has_flag 4 r.flags) now r.ms_left u.ms_small u.no_lifetime in
    let d = mid_same (has_flag 2 r.flags) r.mid u.no_mid in
    let z = u.zero_zero in
    let g : ℕ → ℕ → ℕ → ℕ → MessageRecord = λ a b c e. record { id = r.id; flags = a; zero_byte = b; ppid = r.ppid; ms_left = c; max_retransmissions = r.max_retransmissions; ssn = r.ssn; mid = e; fsn = r.fsn; lifecycle_id = r.lifecycle_id; message_id = r.message_id; offset = r.offset; payload = r.payload } in
    ap₂ (λ (a b : ℕ). g a b (ms_left_at now (give (has_flag 4 r.flags) (now + r.ms_left * 1000000))) (get_or (give (has_flag 2 r.flags) r.mid) 0)) f (sym z)
    ∙ ap₂ (λ (c e : ℕ). g r.flags r.zero_byte c e) m d

-- A message record restores a good message.
pub give_none : (b : Bool) (n : ℕ) → give b n ≡ none → b ≡ false
unfolding give
give_none true n e = let z : ◌≡◌ {A = ℕ} 0 1 = cc in absurd (omega arith)
give_none false n e = refl

lasting_give : (b : Bool) (now ms : ℕ) → 1 ≤ now → expired 0 (give b (now + ms * 1000000)) ≡ false
unfolding give
lasting_give true now ms h = let k : 1 ≤ now + ms * 1000000 = omega arith in ltb_false k
lasting_give false now ms h = refl

pub good_message : (now : ℕ) (r : MessageRecord) → 1 ≤ now → Rules r → r.message_id < 2 ^ 32 → GoodItem (restored_item now r)
unfolding restored_item
good_message now r h u k =
    record {
      unsent = u.unsent;
      small = u.payload_small;
      lasting = lasting_give (has_flag 4 r.flags) now r.ms_left h;
      id_fits = k;
      unnumbered = λ e. u.no_ssn (give_none (has_flag 2 r.flags) r.mid e);
    }

-- ---- one message put at its stream's end

-- No stream above k has messages.
abbrev pub Quiet : ℕ → List Stream → Type 0
Quiet k [] = Unit {0}
Quiet k (s ∷ ss) = (k < s.id → s.items ≡ []) × Quiet k ss

pub quiet_up : (j k : ℕ) (ss : List Stream) → j ≤ k → Quiet j ss → Quiet k ss
quiet_up j k [] h q = tt
quiet_up j k (s ∷ ss) h q = ((λ l. q.0 (omega arith)), quiet_up j k ss h q.1)

pub quiet_put : (k : ℕ) (s : Stream) (ss : List Stream) → s.id ≤ k → Quiet k ss → Quiet k (put_stream s ss)
quiet_put k s [] h q = subst (Quiet k) (sym (put_end stream_key s)) ((λ l. absurd (omega arith)), tt)
quiet_put k s (r ∷ rs) h q = elim (tri r.id s.id) [
  | less l ↦ subst (Quiet k) (sym (put_later stream_key s r rs l)) (q.0, quiet_put k s rs h q.1)
  | same e ↦ subst (Quiet k) (sym (put_here stream_key s r rs e)) ((λ l. absurd (omega arith)), q.1)
  | more l ↦ subst (Quiet k) (sym (put_before stream_key s r rs l)) ((λ l. absurd (omega arith)), q)
]

pub message_records_cons : (now : ℕ) (s : Stream) (ss : List Stream) → message_records now (s ∷ ss) ≡ map (message_record now s.id) s.items ++ message_records now ss
unfolding message_records
message_records_cons now s ss = refl

pub message_records_nil : (now : ℕ) → message_records now [] ≡ []
unfolding message_records
message_records_nil now = refl

quiet_records : (now k : ℕ) (ss : List Stream) → After stream_key k ss → Quiet k ss → message_records now ss ≡ []
quiet_records now k [] a q = message_records_nil now
quiet_records now k (s ∷ ss) a q =
    message_records_cons now s ss ∙ ap (λ (l : List Item). map (message_record now s.id) l ++ message_records now ss) (q.0 a.0) ∙ quiet_records now k ss a.1 q.1

map_snoc : (now k : ℕ) (is : List Item) (i : Item) → map (message_record now k) (is ++ (i ∷ [])) ≡ map (message_record now k) is ++ (message_record now k i ∷ [])
map_snoc now k [] i = refl
map_snoc now k (j ∷ is) i = ap (λ (l : List MessageRecord). message_record now k j ∷ l) (map_snoc now k is i)

-- The message records after it, and the stream records.
put_messages : (o : Options) (now : ℕ) (s : Stream) (i : Item) (ss : List Stream) → Rising stream_key ss → Quiet s.id ss → s.items ≡ (at o ss s.id).items ++ (i ∷ [])
    → message_records now (put_stream s ss) ≡ message_records now ss ++ (message_record now s.id i ∷ [])
put_messages o now s i [] a q e =
    ap (message_records now) (put_end stream_key s) ∙ message_records_cons now s [] ∙ ap₂ ◌++◌ (ap (map (message_record now s.id)) (e ∙ ap (λ (x : Stream). x.items ++ (i ∷ [])) (at_new o [] s.id (find_after stream_key s.id [] tt)))) (message_records_nil now)
    ∙ ap (λ (l : List MessageRecord). l ++ (message_record now s.id i ∷ [])) (sym (message_records_nil now))
put_messages o now s i (x ∷ xs) a q e = elim (tri x.id s.id) [
  | less l ↦ (let e' : s.items ≡ (at o xs s.id).items ++ (i ∷ []) = e ∙ ap (λ (y : Option Stream). (get_or y (new_stream o s.id)).items ++ (i ∷ [])) (find_there stream_key s.id x xs (λ f. omega arith)) in
      ap (message_records now) (put_later stream_key s x xs l) ∙ message_records_cons now x (put_stream s xs) ∙ ap (λ (m : List MessageRecord). map (message_record now x.id) x.items ++ m) (put_messages o now s i xs a.1 q.1 e')
      ∙ sym (append_assoc (map (message_record now x.id) x.items) (message_records now xs) (message_record now s.id i ∷ []))
      ∙ ap (λ (m : List MessageRecord). m ++ (message_record now s.id i ∷ [])) (sym (message_records_cons now x xs)))
  | same f ↦ (let z : message_records now xs ≡ [] = quiet_records now s.id xs (subst (λ (k : ℕ). After stream_key k xs) f a.0) q.1 in
      let e' : s.items ≡ x.items ++ (i ∷ []) = e ∙ ap (λ (y : Stream). y.items ++ (i ∷ [])) (at_found o (x ∷ xs) s.id x (find_here stream_key s.id x xs f)) in
      let y : message_records now (x ∷ xs) ≡ map (message_record now s.id) x.items =
      message_records_cons now x xs ∙ ap₂ ◌++◌ (ap (λ (k : ℕ). map (message_record now k) x.items) f) z ∙ append-nil (map (message_record now s.id) x.items) in
      ap (message_records now) (put_here stream_key s x xs f) ∙ message_records_cons now s xs ∙ ap₂ ◌++◌ (ap (map (message_record now s.id)) e' ∙ map_snoc now s.id x.items i) z
      ∙ append-nil (map (message_record now s.id) x.items ++ (message_record now s.id i ∷ [])) ∙ ap (λ (m : List MessageRecord). m ++ (message_record now s.id i ∷ [])) (sym y))
  | more l ↦ (let af : After stream_key s.id (x ∷ xs) = (l, after_down stream_key xs l a.0) in
      let z : message_records now (x ∷ xs) ≡ [] = quiet_records now s.id (x ∷ xs) af q in
      ap (message_records now) (put_before stream_key s x xs l) ∙ message_records_cons now s (x ∷ xs)
      ∙ ap₂ ◌++◌ (ap (map (message_record now s.id)) (e ∙ ap (λ (y : Stream). y.items ++ (i ∷ [])) (at_new o (x ∷ xs) s.id (find_after stream_key s.id (x ∷ xs) af)))) z
      ∙ ap (λ (m : List MessageRecord). m ++ (message_record now s.id i ∷ [])) (sym z))
]

pub stream_records_plain : (d : ℕ) (s : Stream) (ss : List Stream) → plain d (stream_record s) ≡ true → stream_records d (s ∷ ss) ≡ stream_records d ss
unfolding stream_records
stream_records_plain d s ss e = ap (λ (b : Bool). (if b then stream_records d ss else stream_record s ∷ stream_records d ss)) e

stream_records_cong : (d : ℕ) (s t : Stream) (xs ys : List Stream) → stream_record s ≡ stream_record t → stream_records d xs ≡ stream_records d ys → stream_records d (s ∷ xs) ≡ stream_records d (t ∷ ys)
unfolding stream_records
stream_records_cong d s t xs ys e f =
    ap₂ (λ (r : StreamRecord) (l : List StreamRecord). (if plain d r then l else r ∷ l)) e f

pub plain_new : (o : Options) (k : ℕ) → plain o.default_priority (stream_record (new_stream o k)) ≡ true
unfolding plain stream_record
plain_new o k = eqb_true {a = o.default_priority} refl

put_records : (o : Options) (s : Stream) (ss : List Stream) → Rising stream_key ss → stream_record s ≡ stream_record (at o ss s.id) → stream_records o.default_priority (put_stream s ss) ≡ stream_records o.default_priority ss
put_records o s [] a e =
    ap (stream_records o.default_priority) (put_end stream_key s) ∙ stream_records_plain o.default_priority s [] (ap (plain o.default_priority) (e ∙ ap stream_record (at_new o [] s.id (find_after stream_key s.id [] tt))) ∙ plain_new o s.id)
put_records o s (x ∷ xs) a e = elim (tri x.id s.id) [
  | less l ↦ (let e' : stream_record s ≡ stream_record (at o xs s.id) = e ∙ ap (λ (y : Option Stream). stream_record (get_or y (new_stream o s.id))) (find_there stream_key s.id x xs (λ f. omega arith)) in
      ap (stream_records o.default_priority) (put_later stream_key s x xs l) ∙ stream_records_cong o.default_priority x x (put_stream s xs) xs refl (put_records o s xs a.1 e'))
  | same f ↦ ap (stream_records o.default_priority) (put_here stream_key s x xs f) ∙ stream_records_cong o.default_priority s x xs xs (e ∙ ap stream_record (at_found o (x ∷ xs) s.id x (find_here stream_key s.id x xs f))) refl
  | more l ↦ (let af : After stream_key s.id (x ∷ xs) = (l, after_down stream_key xs l a.0) in
      ap (stream_records o.default_priority) (put_before stream_key s x xs l)
      ∙ stream_records_plain o.default_priority s (x ∷ xs) (ap (plain o.default_priority) (e ∙ ap stream_record (at_new o (x ∷ xs) s.id (find_after stream_key s.id (x ∷ xs) af))) ∙ plain_new o s.id))
]

-- ---- all messages

good_snoc : (is : List Item) (i : Item) → GoodItems is → GoodItem i → GoodItems (is ++ (i ∷ []))
good_snoc [] i g h = (h, tt)
good_snoc (j ∷ is) i g h = (g.0, good_snoc is i g.1 h)

-- The stream of a message with it at its end.
abbrev pub with_restored : Options → ℕ → MessageRecord → List Stream → Stream
with_restored o now r ss = with_message (at o ss r.id) (restored_item now r)

pub restore_message_of : (o : Options) (now : ℕ) (r : MessageRecord) (ss : List Stream) → restore_message o now r ss ≡ put_stream (with_restored o now r ss) ss
unfolding restore_message
restore_message_of o now r ss = refl

pub restore_messages_cons : (o : Options) (now : ℕ) (r : MessageRecord) (rs : List MessageRecord) (ss : List Stream) → restore_messages o now (r ∷ rs) ss ≡ restore_messages o now rs (restore_message o now r ss)
unfolding restore_messages
restore_messages_cons o now r rs ss = refl

pub restore_messages_nil : (o : Options) (now : ℕ) (ss : List Stream) → restore_messages o now [] ss ≡ ss
unfolding restore_messages
restore_messages_nil o now ss = refl

record Placed (o : Options) (now k : ℕ) (rs : List MessageRecord) (ss xs : List Stream) : Type 0 where
  placed_good : GoodStreams xs
  placed_messages : message_records now xs ≡ message_records now ss ++ rs
  placed_streams : stream_records o.default_priority xs ≡ stream_records o.default_priority ss

pub same_record : (s t : Stream) → s.id ≡ t.id → s.counters ≡ t.counters → s.priority ≡ t.priority → stream_record s ≡ stream_record t
unfolding stream_record
same_record s t e f g =
    let h : ℕ → Counters → ℕ → StreamRecord = λ a b c. record { id = a; next_ssn = b.next_ssn; next_unordered_mid = b.next_unordered_mid; next_ordered_mid = b.next_ordered_mid; priority = c } in
    ap₂ (λ (a : ℕ) (b : Counters). h a b s.priority) e f ∙ ap (λ (c : ℕ). h t.id t.counters c) g

place_chain : (o : Options) (now j k : ℕ) (r : MessageRecord) (rs : List MessageRecord) (ss ys xs : List Stream) → Placed o now j (r ∷ []) ss ys → Placed o now k rs ys xs → Placed o now j (r ∷ rs) ss xs
place_chain o now j k r rs ss ys xs p q =
    record {
      placed_good = q.placed_good;
      placed_messages = q.placed_messages ∙ ap (λ (l : List MessageRecord). l ++ rs) p.placed_messages ∙ append_assoc (message_records now ss) (r ∷ []) rs;
      placed_streams = q.placed_streams ∙ p.placed_streams;
    }

right_after_cons : (k : ℕ) (r : MessageRecord) (rs : List MessageRecord) → T (messages_right_after k (r ∷ rs)) → (k ≤ r.id) × (Rules r × T (messages_right_after r.id rs))
unfolding messages_right_after
right_after_cons k r rs t =
    let a : Bool = leb k r.id in
    let b : Bool = message_right (ltb k r.id) r in
    let c : Bool = messages_right_after r.id rs in
    let l = and_l (a && b) c t in
    (leb→le k r.id (and_l a b l), (rules (ltb k r.id) r (and_r a b l), and_r (a && b) c t))

right_cons : (r : MessageRecord) (rs : List MessageRecord) → T (messages_right (r ∷ rs)) → Rules r × T (messages_right_after r.id rs)
unfolding messages_right
right_cons r rs t = (rules true r (and_l (message_right true r) (messages_right_after r.id rs) t), and_r (message_right true r) (messages_right_after r.id rs) t)

module _ (o : Options) (now : ℕ) (late : 1 ≤ now) where
  place_one : (k : ℕ) (r : MessageRecord) (ss : List Stream) → GoodStreams ss → Quiet k ss → k ≤ r.id → Rules r → Fits message_widths (message_row r)
      → Placed o now k (r ∷ []) ss (restore_message o now r ss) × Quiet r.id (restore_message o now r ss)
  place_one k r ss g q h u f =
      let w : Stream = with_restored o now r ss in
      let wi : w.id ≡ r.id = at_id o ss r.id in
      let rf : r.id < 2 ^ 16 = f.0 in
      let mf : r.message_id < 2 ^ 32 = f.1.1.1.1.1.1.1.1.1.1.0 in
      let ag = at_good o ss r.id rf g.all_good in
      let gi = good_message now r late u mf in
      let c = ag.counted in let us = unsent_snoc (at o ss r.id).items (restored_item now r) in
      let wg : GoodStream w = record { id_fits = ag.id_fits; opened = ag.opened; counted = omega arith; good_items = good_snoc (at o ss r.id).items (restored_item now r) ag.good_items gi; ordered_fits = ag.ordered_fits; unordered_fits = ag.unordered_fits } in
      let q' : Quiet w.id ss = quiet_up k w.id ss (omega arith) q in
      let at_same : at o ss w.id ≡ at o ss r.id = ap (at o ss) wi in (
        subst (Placed o now k (r ∷ []) ss) (sym (restore_message_of o now r ss)) (record {
          placed_good = good_put w ss wg g;
          placed_messages = put_messages o now w (restored_item now r) ss g.rising q' (ap (λ (x : Stream). x.items ++ (restored_item now r ∷ [])) (sym at_same))
              ∙ ap (λ (x : MessageRecord). message_records now ss ++ (x ∷ [])) (ap (λ (j : ℕ). message_record now j (restored_item now r)) wi ∙ message_back_lem now r u);
          placed_streams = put_records o w ss g.rising (same_record w (at o ss r.id) refl refl refl ∙ ap stream_record (sym at_same));
        }),
        subst (Quiet r.id) (sym (restore_message_of o now r ss)) (quiet_put r.id w ss (omega arith) (quiet_up k r.id ss h q)),
      )

  place_after : (k : ℕ) (rs : List MessageRecord) (ss : List Stream) → GoodStreams ss → Quiet k ss → T (messages_right_after k rs) → MessagesFit rs → Placed o now k rs ss (restore_messages o now rs ss)
  place_after k [] ss g q t f = subst (Placed o now k [] ss) (sym (restore_messages_nil o now ss)) (record { placed_good = g; placed_messages = sym (append-nil (message_records now ss)); placed_streams = refl })
  place_after k (r ∷ rs) ss g q t f =
      let w = right_after_cons k r rs t in
      let p = place_one k r ss g q w.0 w.1.0 f.0 in
      subst (Placed o now k (r ∷ rs) ss) (sym (restore_messages_cons o now r rs ss))
      (place_chain o now k r.id r rs ss (restore_message o now r ss) (restore_messages o now rs (restore_message o now r ss)) p.0
      (place_after r.id rs (restore_message o now r ss) p.0.placed_good p.1 w.1.1 f.1))

  place_all : (rs : List MessageRecord) (ss : List Stream) → GoodStreams ss → Quiet 0 ss → T (messages_right rs) → MessagesFit rs → Placed o now 0 rs ss (restore_messages o now rs ss)
  place_all [] ss g q t f = subst (Placed o now 0 [] ss) (sym (restore_messages_nil o now ss)) (record { placed_good = g; placed_messages = sym (append-nil (message_records now ss)); placed_streams = refl })
  place_all (r ∷ rs) ss g q t f =
      let w = right_cons r rs t in
      let p = place_one 0 r ss g q (omega arith) w.0 f.0 in
      subst (Placed o now 0 (r ∷ rs) ss) (sym (restore_messages_cons o now r rs ss))
      (place_chain o now 0 r.id r rs ss (restore_message o now r ss) (restore_messages o now rs (restore_message o now r ss)) p.0
      (place_after r.id rs (restore_message o now r ss) p.0.placed_good p.1 w.1 f.1))

-- ---- the streams

pub restored_after : (o : Options) (k : ℕ) (d : ℕ) (r : StreamRecord) (rs : List StreamRecord) → k < r.id → T (streams_right d (r ∷ rs)) → After stream_key k (map (restored_stream o) (r ∷ rs))
unfolding restored_stream streams_right
restored_after o k d r [] h t = (h, tt)
restored_after o k d r (r' ∷ rs) h t =
    let a : Bool = not (plain d r) in let b : Bool = ltb r.id r'.id in
    let l = ltb→lt r.id r'.id (and_r a b (and_l (a && b) (streams_right d (r' ∷ rs)) t)) in
    (h, restored_after o k d r' rs (omega arith) (and_r (a && b) (streams_right d (r' ∷ rs)) t))

pub record Bases (o : Options) (now : ℕ) (rs : List StreamRecord) (xs : List Stream) : Type 0 where
  pub bases_good : GoodStreams xs
  pub bases_quiet : Quiet 0 xs
  pub bases_messages : message_records now xs ≡ []
  pub bases_streams : stream_records o.default_priority xs ≡ rs

kept_record : (d : ℕ) (s : Stream) (ss : List Stream) → T (not (plain d (stream_record s))) → stream_records d (s ∷ ss) ≡ stream_record s ∷ stream_records d ss
unfolding stream_records
kept_record d s ss t = go (plain d (stream_record s)) t
  where
    go : (b : Bool) → T (not b) → ((if b then stream_records d ss else stream_record s ∷ stream_records d ss)) ≡ stream_record s ∷ stream_records d ss
    go true t = absurd t
    go false t = refl

pub record_back : (o : Options) (r : StreamRecord) → stream_record (restored_stream o r) ≡ r
unfolding stream_record restored_stream
record_back o r = refl

good_restored : (o : Options) (r : StreamRecord) → Fits stream_widths (stream_row r) → GoodStream (restored_stream o r)
unfolding restored_stream
good_restored o r f = record { id_fits = f.0; opened = refl; counted = refl; good_items = tt; ordered_fits = f.1.1.1.0; unordered_fits = f.1.1.0 }

pub no_restored_items : (o : Options) (r : StreamRecord) → (restored_stream o r).items ≡ []
unfolding restored_stream
no_restored_items o r = refl

pub tail_right : (d : ℕ) (r : StreamRecord) (rs : List StreamRecord) → T (streams_right d (r ∷ rs)) → T (streams_right d rs)
unfolding streams_right
tail_right d r [] t = tt
tail_right d r (r' ∷ rs) t = and_r (not (plain d r) && ltb r.id r'.id) (streams_right d (r' ∷ rs)) t

pub first_right : (d : ℕ) (r : StreamRecord) (rs : List StreamRecord) → T (streams_right d (r ∷ rs)) → T (not (plain d r))
unfolding streams_right
first_right d r [] t = t
first_right d r (r' ∷ rs) t = and_l (not (plain d r)) (ltb r.id r'.id) (and_l (not (plain d r) && ltb r.id r'.id) (streams_right d (r' ∷ rs)) t)

first_after : (o : Options) (d : ℕ) (r : StreamRecord) (rs : List StreamRecord) → T (streams_right d (r ∷ rs)) → After stream_key (restored_stream o r).id (map (restored_stream o) rs)
unfolding streams_right restored_stream
first_after o d r [] t = tt
first_after o d r (r' ∷ rs) t =
    restored_after o r.id d r' rs (ltb→lt r.id r'.id (and_r (not (plain d r)) (ltb r.id r'.id) (and_l (not (plain d r) && ltb r.id r'.id) (streams_right d (r' ∷ rs)) t))) (tail_right d r (r' ∷ rs) t)

pub bases : (o : Options) (now : ℕ) (rs : List StreamRecord) → T (streams_right o.default_priority rs) → StreamsFit rs → Bases o now rs (map (restored_stream o) rs)
bases o now [] t f = record { bases_good = record { rising = tt; all_good = tt }; bases_quiet = tt; bases_messages = message_records_nil now; bases_streams = unfold stream_records in refl }
bases o now (r ∷ rs) t f = base_cons rs (bases o now rs (tail_right o.default_priority r rs t) f.1) (first_right o.default_priority r rs t) (first_after o o.default_priority r rs t)
  where
    d : ℕ
    d = o.default_priority

    base_cons : (rs : List StreamRecord) → Bases o now rs (map (restored_stream o) rs) → T (not (plain d r)) → After stream_key (restored_stream o r).id (map (restored_stream o) rs) → Bases o now (r ∷ rs) (map (restored_stream o) (r ∷ rs))
    base_cons rs b n a =
        record {
          bases_good = record { rising = (a, b.bases_good.rising); all_good = (good_restored o r f.0, b.bases_good.all_good) };
          bases_quiet = ((λ l. no_restored_items o r), b.bases_quiet);
          bases_messages = message_records_cons now (restored_stream o r) (map (restored_stream o) rs)
              ∙ ap (λ (l : List Item). map (message_record now (restored_stream o r).id) l ++ message_records now (map (restored_stream o) rs)) (no_restored_items o r) ∙ b.bases_messages;
          bases_streams = kept_record d (restored_stream o r) (map (restored_stream o) rs) (subst (λ (x : StreamRecord). T (not (plain d x))) (sym (record_back o r)) n) ∙ ap₂ ◌∷◌ (record_back o r) b.bases_streams;
        }

-- ---- the queue

-- A new queue with an interleaving choice.
unfoldable pub blank : Options → Bool → Queue
unfolding calm_scheduler
blank o il = record { options = o; interleaving = il; total = 0; next_message_id = 0; streams = []; scheduler = calm_scheduler o il none [] }

pub blank_options : (o : Options) (il : Bool) → (blank o il).options ≡ o
unfolding blank
blank_options o il = refl

-- The streams that a handover record restores.
unfoldable pub restored_streams : Options → ℕ → Handover → List Stream
restored_streams o now h = restore_messages o now h.messages (restore_streams o h.streams)

-- The stream that restoring remembers: with interleaving none.
unfoldable pub recalled : Bool → List Stream → Option ℕ
recalled true ss = none
recalled false ss = first_half_sent ss

recalled_calm : (o : Options) (il : Bool) (ss : List Stream) → remember_half_sent il ss (calm_scheduler o il none ss) ≡ calm_scheduler o il (recalled il ss) ss
unfolding remember_half_sent recalled calm_scheduler
recalled_calm o true ss = refl
recalled_calm o false ss = refl

module _ (o : Options) (il : Bool) (now : ℕ) (late : 1 ≤ now) (h : Handover) (right : T (handover_right h)) (sf : StreamsFit h.streams) (mf : MessagesFit h.messages) (default : h.default_priority ≡ o.default_priority) where
  streams_ok : T (streams_right o.default_priority h.streams)
  unfolding handover_right
  streams_ok = subst (λ (d : ℕ). T (streams_right d h.streams)) default (and_l (streams_right h.default_priority h.streams) (messages_right h.messages) right)

  messages_ok : T (messages_right h.messages)
  unfolding handover_right
  messages_ok = and_r (streams_right h.default_priority h.streams) (messages_right h.messages) right

  base : Bases o now h.streams (restore_streams o h.streams)
  unfolding restore_streams
  base = bases o now h.streams streams_ok sf

  placed : Placed o now 0 h.messages (restore_streams o h.streams) (restored_streams o now h)
  unfolding restored_streams
  placed = place_all o now late h.messages (restore_streams o h.streams) base.bases_good base.bases_quiet messages_ok mf

  pub restored_good : GoodStreams (restored_streams o now h)
  restored_good = placed.placed_good

  pub restored_calm : restored now h (blank o il) ≡ calm o il (recalled il (restored_streams o now h)) h.next_message_id (restored_streams o now h)
  unfolding restored blank calm restored_streams
  restored_calm =
      let xs : List Stream = restore_messages o now h.messages (restore_streams o h.streams) in
      let f : Scheduler → Queue = λ sc. record { options = o; interleaving = il; total = amounts xs; next_message_id = h.next_message_id; streams = xs; scheduler = sc } in
      ap f (ap (remember_half_sent il xs) (each_new o il none xs restored_good.rising (all_items xs restored_good.all_good)) ∙ recalled_calm o il xs)

  pub handover_back : (c : Option ℕ) → handover now (calm o il c h.next_message_id (restored_streams o now h)) ≡ h
  unfolding handover calm
  handover_back c =
      let f : ℕ → List StreamRecord → List MessageRecord → Handover = λ d a b. record { next_message_id = h.next_message_id; default_priority = d; streams = a; messages = b } in
      ap₂ (f o.default_priority) (placed.placed_streams ∙ base.bases_streams) (placed.placed_messages ∙ ap (λ (l : List MessageRecord). l ++ h.messages) base.bases_messages)
      ∙ ap (λ (d : ℕ). f d h.streams h.messages) (sym default)
