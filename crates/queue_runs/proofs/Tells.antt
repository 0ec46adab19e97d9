-- What a call shows tells what the model's shows. Assumes nothing.
use mathlib.Core.Path.{◌≡◌, refl, sym, ap, ap₂, ◌∙◌}
use mathlib.Core.Bool.{Bool, true, false}
use mathlib.Core.List.{List, [], ◌∷◌, ◌++◌}
use mathlib.Core.Option.{Option, none, some}
use Prim.Native.Nat.{ℕ, zero, suc, ◌+◌, ◌*◌, ◌≤◌, ◌<◌}
use native.Mathlib.Omega.{arith}
use lib.ListN.{length, get_or, set, length-set, take, drop}
use lib.Seq.{get_or-set_same, get_or-set_other, take-append_seam}
use Rattle.types.specs.Keys.{key_of, key_id, key_unordered}
use Rattle.queue_model.specs.Types.{Event, Fragment, refused, done, number, flag, ids, fragment, nothing_waits, filled, Outcome}
use Rattle.queue_streams.specs.Events.{place_words, event_words, put_event, written}
use Rattle.queue_restarts.specs.ReadyStreams.{ReadyStreams}
use Rattle.queue_sending.specs.declared.data.DataToSend.{DataToSend}
use Rattle.queue_sending.specs.Produced.{Produced}
use Rattle.queue_sending.specs.Produced as produced
use Rattle.linked_sending.specs.Meaning.{expiry_of, data_of, buffer_of}
use Rattle.linked_restarts.specs.Ids.{ready_of}
use Rattle.linked_streams.specs.Questions.{flag_of}
use Rattle.queue_state.specs.Promise as promise
use Rattle.queue_runs.specs.Calls as calls
use Rattle.queue_runs.specs.Calls.{Call, call_of, Shown}
use Rattle.queue_runs.specs.Meaning.{quiet_of, loud_of, sent_of, packed_of, count_of, truth_of, shown_of}
use Rattle.queue_runs.proofs.Forms as form
use Rattle.queue_runs.proofs.Forms.{told, Quiet, Loud, Sent, Filled, Ids, Form}

-- ------------------------------------------------------------------ events

-- The n events from place k on.
read_back : List ℕ → ℕ → ℕ → List Event
read_back ws k zero = []
read_back ws k (suc n) = record { kind = get_or ws (k * place_words) 0; number = get_or ws (k * place_words + 1) 0; amount = get_or ws (k * place_words + 2) 0 } ∷ read_back ws (suc k) n

put_length : (es : List ℕ) (k a b c : ℕ) → length (put_event es k a b c) ≡ length es
unfolding put_event
put_length es k a b c = length-set (set (set es (k * place_words) a) (k * place_words + 1) b) (k * place_words + 2) c ∙ length-set (set es (k * place_words) a) (k * place_words + 1) b ∙ length-set es (k * place_words) a

put_before : (es : List ℕ) (k a b c j : ℕ) → j < k * place_words → get_or (put_event es k a b c) j 0 ≡ get_or es j 0
unfolding put_event
put_before es k a b c j h =
    get_or-set_other (set (set es (k * place_words) a) (k * place_words + 1) b) (k * place_words + 2) j c 0 (λ e. omega arith) ∙ get_or-set_other (set es (k * place_words) a) (k * place_words + 1) j b 0 (λ e. omega arith) ∙ get_or-set_other es (k * place_words) j a 0 (λ e. omega arith)

put_kind : (es : List ℕ) (k a b c : ℕ) → k * place_words < length es → get_or (put_event es k a b c) (k * place_words) 0 ≡ a
unfolding put_event
put_kind es k a b c h =
    get_or-set_other (set (set es (k * place_words) a) (k * place_words + 1) b) (k * place_words + 2) (k * place_words) c 0 (λ e. omega arith) ∙ get_or-set_other (set es (k * place_words) a) (k * place_words + 1) (k * place_words) b 0 (λ e. omega arith) ∙ get_or-set_same es (k * place_words) a 0 h

put_number : (es : List ℕ) (k a b c : ℕ) → k * place_words + 1 < length es → get_or (put_event es k a b c) (k * place_words + 1) 0 ≡ b
unfolding put_event
put_number es k a b c h =
    let l = length-set es (k * place_words) a in
    get_or-set_other (set (set es (k * place_words) a) (k * place_words + 1) b) (k * place_words + 2) (k * place_words + 1) c 0 (λ e. omega arith) ∙ get_or-set_same (set es (k * place_words) a) (k * place_words + 1) b 0 (omega arith)

put_amount : (es : List ℕ) (k a b c : ℕ) → k * place_words + 2 < length es → get_or (put_event es k a b c) (k * place_words + 2) 0 ≡ c
unfolding put_event
put_amount es k a b c h =
    let l = length-set es (k * place_words) a in let m = length-set (set es (k * place_words) a) (k * place_words + 1) b in get_or-set_same (set (set es (k * place_words) a) (k * place_words + 1) b) (k * place_words + 2) c 0 (omega arith)

-- Places before the events are as they were.
before : (vs : List Event) (es : List ℕ) (k j : ℕ) → j < k * place_words → get_or (written es k vs) j 0 ≡ get_or es j 0
unfolding written
before [] es k j h = refl
before (e ∷ vs) es k j h = before vs (put_event es k e.kind e.number e.amount) (suc k) j (omega arith) ∙ put_before es k e.kind e.number e.amount j h

-- Written events can be read back.
back : (vs : List Event) (es : List ℕ) (k : ℕ) → (k + length vs) * place_words ≤ length es → read_back (written es k vs) k (length vs) ≡ vs
unfolding read_back written
back [] es k h = refl
back (e ∷ vs) es k h =
    let us : List ℕ = put_event es k e.kind e.number e.amount in
    let l : length us ≡ length es = put_length es k e.kind e.number e.amount in
    let a : get_or (written us (suc k) vs) (k * place_words) 0 ≡ e.kind = before vs us (suc k) (k * place_words) (omega arith) ∙ put_kind es k e.kind e.number e.amount (omega arith) in
    let b : get_or (written us (suc k) vs) (k * place_words + 1) 0 ≡ e.number = before vs us (suc k) (k * place_words + 1) (omega arith) ∙ put_number es k e.kind e.number e.amount (omega arith) in
    let d : get_or (written us (suc k) vs) (k * place_words + 2) 0 ≡ e.amount = before vs us (suc k) (k * place_words + 2) (omega arith) ∙ put_amount es k e.kind e.number e.amount (omega arith) in
    let c : read_back (written us (suc k) vs) (suc k) (length vs) ≡ vs = back vs us (suc k) (omega arith) in
    λ i. record { kind = a i; number = b i; amount = d i } ∷ c i

-- A list long enough, with a known count of events, tells the events.
pub events_tell : (es : List ℕ) (us vs : List Event) → event_words ≤ length es → length us ≤ 2305 → length us ≡ length vs → written es 0 us ≡ written es 0 vs → us ≡ vs
events_tell es us vs h f n e =
    sym (back us es 0 (omega arith)) ∙ ap₂ (λ (ws : List ℕ) (k : ℕ). read_back ws 0 k) e n ∙ back vs es 0 (omega arith)

-- ------------------------------------------------------------------ fragments

expiry_tell : (x y : Option ℕ) → expiry_of x ≡ expiry_of y → x ≡ y
expiry_tell none none e = refl
expiry_tell none (some t) e = let z : ◌≡◌ {A = ℕ} 0 1 = cc in absurd (omega arith)
expiry_tell (some t) none e = let z : ◌≡◌ {A = ℕ} 0 1 = cc in absurd (omega arith)
expiry_tell (some t) (some u) e = let z : t ≡ u = cc in ap (λ (n : ℕ). some n) z

unordered_is : (b : Bool) (n : ℕ) → key_unordered (key_of b (record { 0 = n })) ≡ b
unordered_is true n = refl
unordered_is false n = refl

pub id_is : (b : Bool) (n : ℕ) → (key_id (key_of b (record { 0 = n }))).0 ≡ n
id_is true n = refl
id_is false n = refl

-- The bytes are the first `length` of the buffer.
bytes_tell : (xs ys bs : List ℕ) → length xs ≡ length ys → (xs ++ drop (length xs) bs) ≡ (ys ++ drop (length ys) bs) → xs ≡ ys
bytes_tell xs ys bs n e = sym (take-append_seam xs (drop (length xs) bs)) ∙ ap₂ (λ (k : ℕ) (l : List ℕ). take k l) n e ∙ take-append_seam ys (drop (length ys) bs)

fragment_tell : (f g : Fragment) (bs : List ℕ) → data_of f ≡ data_of g → buffer_of (fragment f) bs ≡ buffer_of (fragment g) bs → f ≡ g
fragment_tell f g bs e h =
    let k = ap (λ (d : DataToSend). d.«data».stream_key) e in
    let b : f.unordered ≡ g.unordered = sym (unordered_is f.unordered f.stream_id) ∙ ap key_unordered k ∙ unordered_is g.unordered g.stream_id in
    let s : f.stream_id ≡ g.stream_id = sym (id_is f.unordered f.stream_id) ∙ ap (λ x. (key_id x).0) k ∙ id_is g.unordered g.stream_id in
    let x : f.expires_at ≡ g.expires_at = expiry_tell f.expires_at g.expires_at (ap (λ (d : DataToSend). d.expires_at) e) in
    let y : f.bytes ≡ g.bytes = bytes_tell f.bytes g.bytes bs (ap (λ (d : DataToSend). d.«data».length) e) h in
    λ i. record {
      message_id = (e i).message_id.0;
      stream_id = s i;
      unordered = b i;
      ssn = (e i).«data».ssn.0;
      mid = (e i).«data».mid.0;
      fsn = (e i).«data».fsn.0;
      ppid = (e i).«data».ppid;
      first = (e i).«data».is_beginning;
      last = (e i).«data».is_end;
      max_retransmissions = (e i).max_retransmissions;
      expires_at = x i;
      lifecycle_id = (e i).lifecycle_id;
      bytes = y i;
    }

-- ------------------------------------------------------------------ the forms

answers : {x y : Shown} → x ≡ y → x.answer ≡ y.answer
answers e = ap (λ (o : Shown). o.answer) e

quiet_tell : (o p : Outcome) → Quiet o → Quiet p → quiet_of o ≡ quiet_of p → o ≡ p
quiet_tell o p (form.quiet_refused n) (form.quiet_refused m) e = let a = answers e in let z : n ≡ m = cc in ap (λ (k : ℕ). told (refused k) []) z
quiet_tell o p (form.quiet_refused n) form.quiet_done e = let a = answers e in let z : ◌≡◌ {A = ℕ} 0 1 = cc in absurd (omega arith)
quiet_tell o p form.quiet_done (form.quiet_refused m) e = let a = answers e in let z : ◌≡◌ {A = ℕ} 0 1 = cc in absurd (omega arith)
quiet_tell o p form.quiet_done form.quiet_done e = refl

loud_tell : (es : List ℕ) (o p : Outcome) → event_words ≤ length es → length o.events ≤ 2305 → Loud o → Loud p → loud_of es o ≡ loud_of es p → o ≡ p
loud_tell es o p h f (form.loud_refused n) (form.loud_refused m) e = let a = answers e in let z : n ≡ m = cc in ap (λ (k : ℕ). told (refused k) []) z
loud_tell es o p h f (form.loud_refused n) (form.loud_done vs) e = let a = answers e in let z : ◌≡◌ {A = ℕ} 0 1 = cc in absurd (omega arith)
loud_tell es o p h f (form.loud_done us) (form.loud_refused m) e = let a = answers e in let z : ◌≡◌ {A = ℕ} 0 1 = cc in absurd (omega arith)
loud_tell es o p h f (form.loud_done us) (form.loud_done vs) e =
    let a = answers e in let z : length us ≡ length vs = cc in
    ap (told done) (events_tell es us vs h f z (ap (λ (x : Shown). x.events) e))

sent_tell : (es bs : List ℕ) (o p : Outcome) → event_words ≤ length es → length o.events ≤ 2305 → Sent o → Sent p → sent_of es bs o ≡ sent_of es bs p → o ≡ p
sent_tell es bs o p h f (form.sent_refused n) (form.sent_refused m) e = let a = answers e in let z : n ≡ m = cc in ap (λ (k : ℕ). told (refused k) []) z
sent_tell es bs o p h f (form.sent_refused n) (form.sent_nothing vs) e = let a = answers e in let z : ◌≡◌ {A = ℕ} 0 1 = cc in absurd (omega arith)
sent_tell es bs o p h f (form.sent_refused n) (form.sent_fragment y vs) e = let a = answers e in let z : ◌≡◌ {A = ℕ} 0 1 = cc in absurd (omega arith)
sent_tell es bs o p h f (form.sent_nothing us) (form.sent_refused m) e = let a = answers e in let z : ◌≡◌ {A = ℕ} 0 1 = cc in absurd (omega arith)
sent_tell es bs o p h f (form.sent_nothing us) (form.sent_nothing vs) e =
    let a = answers e in let z : length us ≡ length vs = cc in
    ap (told nothing_waits) (events_tell es us vs h f z (ap (λ (x : Shown). x.events) e))
sent_tell es bs o p h f (form.sent_nothing us) (form.sent_fragment y vs) e = let a = answers e in let z : ◌≡◌ {A = ℕ} 0 1 = cc in absurd (omega arith)
sent_tell es bs o p h f (form.sent_fragment x us) (form.sent_refused m) e = let a = answers e in let z : ◌≡◌ {A = ℕ} 0 1 = cc in absurd (omega arith)
sent_tell es bs o p h f (form.sent_fragment x us) (form.sent_nothing vs) e = let a = answers e in let z : ◌≡◌ {A = ℕ} 0 1 = cc in absurd (omega arith)
sent_tell es bs o p h f (form.sent_fragment x us) (form.sent_fragment y vs) e =
    let a = answers e in
    let z : length us ≡ length vs = ap (λ (w : calls.Answer). events_in w) a in
    let d : data_of x ≡ data_of y = ap (λ (w : calls.Answer). data_in (data_of x) w) a in
    ap₂ (λ (v : Fragment) (vs : List Event). told (fragment v) vs) (fragment_tell x y bs d (ap (λ (w : Shown). w.buffer) e)) (events_tell es us vs h f z (ap (λ (w : Shown). w.events) e))
  where
    count_in : Produced → ℕ
    count_in (produced.Nothing k) = k
    count_in (produced.Fragment k d) = k
    count_in (produced.Refused n) = n

    data_among : DataToSend → Produced → DataToSend
    data_among d (produced.Nothing k) = d
    data_among d (produced.Fragment k e) = e
    data_among d (produced.Refused n) = d

    events_in : calls.Answer → ℕ
    events_in (calls.called c) = 0
    events_in (calls.sent p) = count_in p
    events_in (calls.filled p) = 0
    events_in (calls.readied r) = 0
    events_in (calls.number n) = 0
    events_in (calls.flag f) = 0
    events_in (calls.count n) = 0
    events_in (calls.truth b) = 0

    data_in : DataToSend → calls.Answer → DataToSend
    data_in d (calls.called c) = d
    data_in d (calls.sent p) = data_among d p
    data_in d (calls.filled p) = d
    data_in d (calls.readied r) = d
    data_in d (calls.number n) = d
    data_in d (calls.flag f) = d
    data_in d (calls.count n) = d
    data_in d (calls.truth b) = d

fill_tell : (es bs : List ℕ) (o p : Outcome) → event_words ≤ length es → length o.events ≤ 2305 → Filled o → Filled p → packed_of es bs o ≡ packed_of es bs p → o ≡ p
fill_tell es bs o p h f (form.filled_refused n) (form.filled_refused m) e = let a = answers e in let z : n ≡ m = cc in ap (λ (k : ℕ). told (refused k) []) z
fill_tell es bs o p h f (form.filled_refused n) (form.filled_told ys m vs) e = let a = answers e in let z : ◌≡◌ {A = ℕ} 0 1 = cc in absurd (omega arith)
fill_tell es bs o p h f (form.filled_told xs n us) (form.filled_refused m) e = let a = answers e in let z : ◌≡◌ {A = ℕ} 0 1 = cc in absurd (omega arith)
fill_tell es bs o p h f (form.filled_told xs n us) (form.filled_told ys m vs) e =
    let a = answers e in let z : length us ≡ length vs = cc in let l : length xs ≡ length ys = cc in let c : n ≡ m = cc in
    λ i. told (filled (bytes_tell xs ys bs l (ap (λ (w : Shown). w.buffer) e) i) (c i)) (events_tell es us vs h f z (ap (λ (w : Shown). w.events) e) i)

ids_tell : (o p : Outcome) → Ids o → Ids p → ready_of o.answer ≡ ready_of p.answer → o ≡ p
ids_tell o p (form.ids_told l) (form.ids_told m) e =
    ap (λ (k : List ℕ). told (ids k) []) (sym (take-append_seam l _) ∙ ap (λ (r : ReadyStreams). take r.count r.ids) e ∙ take-append_seam m _)

number_tell : (o p : Outcome) → form.Number o → form.Number p → promise.number_of o.answer ≡ promise.number_of p.answer → o ≡ p
number_tell o p (form.number_told n) (form.number_told m) e = let z : n ≡ m = cc in ap (λ (k : ℕ). told (number k) []) z

count_tell : (o p : Outcome) → form.Number o → form.Number p → count_of o.answer ≡ count_of p.answer → o ≡ p
count_tell o p (form.number_told n) (form.number_told m) e = ap (λ (k : ℕ). told (number k) []) e

flag_tell : (o p : Outcome) → form.Flag o → form.Flag p → flag_of o.answer ≡ flag_of p.answer → o ≡ p
flag_tell o p (form.flag_told n) (form.flag_told m) e = let z : n ≡ m = cc in ap (λ (k : Bool). told (flag k) []) z

truth_tell : (o p : Outcome) → form.Flag o → form.Flag p → truth_of o.answer ≡ truth_of p.answer → o ≡ p
truth_tell o p (form.flag_told n) (form.flag_told m) e = ap (λ (k : Bool). told (flag k) []) e

-- ------------------------------------------------------------------ every call

-- The lent list of events has the places that a call asks for.
abbrev pub Long : Call → Type 0
Long (calls.add time m payload) = Unit {0}
Long (calls.produce es bs time size) = event_words ≤ length es
Long (calls.fill es bs time p) = event_words ≤ length es
Long (calls.discard es id k) = event_words ≤ length es
Long (calls.close es id) = event_words ≤ length es
Long calls.ready_ids = Unit {0}
Long calls.commit = Unit {0}
Long calls.rollback = Unit {0}
Long calls.reset = Unit {0}
Long (calls.set_threshold es id t) = event_words ≤ length es
Long (calls.set_priority id p) = Unit {0}
Long (calls.set_interleaving b) = Unit {0}
Long (calls.restore time image) = Unit {0}
Long (calls.ask_priority id) = Unit {0}
Long (calls.ask_amount id) = Unit {0}
Long (calls.ask_threshold id) = Unit {0}
Long calls.ask_total = Unit {0}
Long calls.ask_empty = Unit {0}
Long calls.ask_has_data = Unit {0}
Long calls.ask_streams_ready = Unit {0}
Long calls.ask_ready_count = Unit {0}
Long calls.ask_readiness = Unit {0}
Long (calls.ask_room r) = Unit {0}

-- What two queues' calls show is the same only where the model's calls show the same.
pub shows_tell : (len : ℕ) (c : Call) (o p : Outcome) → Long c → length o.events ≤ 2305 → Form (call_of len c) o → Form (call_of len c) p → shown_of c o ≡ shown_of c p → o ≡ p
shows_tell len (calls.add time m payload) o p h f a b e = quiet_tell o p a b e
shows_tell len (calls.produce es bs time size) o p h f a b e = sent_tell es bs o p h f a b e
shows_tell len (calls.fill es bs time k) o p h f a b e = fill_tell es bs o p h f a b e
shows_tell len (calls.discard es id k) o p h f a b e = loud_tell es o p h f a b e
shows_tell len (calls.close es id) o p h f a b e = loud_tell es o p h f a b e
shows_tell len calls.ready_ids o p h f a b e = let x = answers e in let z : ready_of o.answer ≡ ready_of p.answer = cc in ids_tell o p a b z
shows_tell len calls.commit o p h f a b e = quiet_tell o p a b e
shows_tell len calls.rollback o p h f a b e = quiet_tell o p a b e
shows_tell len calls.reset o p h f a b e = quiet_tell o p a b e
shows_tell len (calls.set_threshold es id t) o p h f a b e = loud_tell es o p h f a b e
shows_tell len (calls.set_priority id n) o p h f a b e = quiet_tell o p a b e
shows_tell len (calls.set_interleaving x) o p h f a b e = quiet_tell o p a b e
shows_tell len (calls.restore time image) o p h f a b e = quiet_tell o p a b e
shows_tell len (calls.ask_priority id) o p h f a b e = let x = answers e in let z : promise.number_of o.answer ≡ promise.number_of p.answer = cc in number_tell o p a b z
shows_tell len (calls.ask_amount id) o p h f a b e = let x = answers e in let z : promise.number_of o.answer ≡ promise.number_of p.answer = cc in number_tell o p a b z
shows_tell len (calls.ask_threshold id) o p h f a b e = let x = answers e in let z : promise.number_of o.answer ≡ promise.number_of p.answer = cc in number_tell o p a b z
shows_tell len calls.ask_total o p h f a b e = let x = answers e in let z : count_of o.answer ≡ count_of p.answer = cc in count_tell o p a b z
shows_tell len calls.ask_empty o p h f a b e = let x = answers e in let z : truth_of o.answer ≡ truth_of p.answer = cc in truth_tell o p a b z
shows_tell len calls.ask_has_data o p h f a b e = let x = answers e in let z : flag_of o.answer ≡ flag_of p.answer = cc in flag_tell o p a b z
shows_tell len calls.ask_streams_ready o p h f a b e = let x = answers e in let z : flag_of o.answer ≡ flag_of p.answer = cc in flag_tell o p a b z
shows_tell len calls.ask_ready_count o p h f a b e = let x = answers e in let z : promise.number_of o.answer ≡ promise.number_of p.answer = cc in number_tell o p a b z
shows_tell len calls.ask_readiness o p h f a b e = let x = answers e in let z : count_of o.answer ≡ count_of p.answer = cc in count_tell o p a b z
shows_tell len (calls.ask_room r) o p h f a b e = let x = answers e in let z : count_of o.answer ≡ count_of p.answer = cc in count_tell o p a b z
