-- An image and its handover record determine each other: reading inverts writing (`read_image_bytes`), and writing inverts reading (`image_canonical`).
-- Assumes nothing.
use mathlib.Core.Path.{◌≡◌, refl, sym, ap, ap₂, ◌∙◌, subst}
use mathlib.Core.Bool.{Bool, true, false, ◌&&◌}
use mathlib.Core.List.{List, [], ◌∷◌, ◌++◌, append_assoc, append-nil}
use mathlib.Core.Option.{Option, none, some}
use Prim.Native.Nat.{ℕ, zero, suc, ◌+◌, ◌-◌, ◌*◌, ◌^◌, ◌≤◌, ◌<◌}
use native.Mathlib.Omega.{arith}
use lib.Dec.{T, leb, eqb, leb→le, le→leb, eqb→eq, eqb_refl}
use lib.Pow.{are_bytes}
use lib.ListN.{length, take, drop, get_or, length-append, length-drop, take-append-drop}
use lib.Seq.{take_at, drop_at, take-add, take_all, drop-drop, length-take-le, drop-append-add, drop-append_seam, take-append_seam}
use Rattle.queue_model.specs.Logic.{only_if, and_then}
use Rattle.queue_model.specs.Bytes.{row_bytes, bytes_row, width, Fits}
use Rattle.queue_model.specs.Image.{StreamRecord, MessageRecord, Handover, StreamsFit, MessagesFit, HandoverFits, stream_widths, message_widths, trailer_widths, stream_row, message_row, trailer_row, stream_bytes, message_bytes, streams_bytes, messages_bytes, image_bytes}
use Rattle.queue_model.specs.Reader.{stream_of_row, message_of_row, read_streams, read_messages, only_right, handover_right, trailer_right, read_parts, read_image}
use Rattle.queue_model.proofs.Image.ByteRows.{and_l, and_r, and_intro, take_bytes, drop_bytes, row_read_written, row_written_read, length_row_bytes, row_fits}

-- ---- the two combinators of the reader

only_if_test : {A : Type 0} (b : Bool) (o : Option A) {x : A} → only_if b o ≡ some x → T b
unfolding only_if
only_if_test true o e = tt
only_if_test false o e = let z : ◌≡◌ {A = ℕ} 0 1 = cc in omega arith

only_if_value : {A : Type 0} (b : Bool) (o : Option A) {x : A} → only_if b o ≡ some x → o ≡ some x
unfolding only_if
only_if_value true o e = e
only_if_value false o e = let z : ◌≡◌ {A = ℕ} 0 1 = cc in absurd (omega arith)

only_if_true : {A : Type 0} (b : Bool) (o : Option A) → T b → only_if b o ≡ o
unfolding only_if
only_if_true true o t = refl
only_if_true false o t = absurd t

and_then_some : {A B : Type 0} (o : Option A) (f : A → Option B) {y : B} → and_then o f ≡ some y → (x : A) × (o ≡ some x) × (f x ≡ some y)
unfolding and_then
and_then_some none f e = let z : ◌≡◌ {A = ℕ} 0 1 = cc in absurd (omega arith)
and_then_some (some a) f e = (a, refl, e)

and_then_of : {A B : Type 0} (a : A) (f : A → Option B) → and_then (some a) f ≡ f a
unfolding and_then
and_then_of a f = refl

-- ---- the clauses of the definitions, as equations

streams_bytes_cons : (r : StreamRecord) (rs : List StreamRecord) → streams_bytes (r ∷ rs) ≡ stream_bytes r ++ streams_bytes rs
unfolding streams_bytes
streams_bytes_cons r rs = refl

pub messages_bytes_cons : (r : MessageRecord) (rs : List MessageRecord) → messages_bytes (r ∷ rs) ≡ message_bytes r ++ messages_bytes rs
unfolding messages_bytes
messages_bytes_cons r rs = refl

pub message_bytes_of : (r : MessageRecord) → message_bytes r ≡ row_bytes message_widths (message_row r) ++ r.payload
unfolding message_bytes
message_bytes_of r = refl

read_streams_suc : (n : ℕ) (bs : List ℕ) → read_streams (suc n) bs ≡ stream_of_row (bytes_row stream_widths bs) ∷ read_streams n (drop 14 bs)
unfolding read_streams
read_streams_suc n bs = refl

-- The first message's row and its payload length.
first_row_lem : List ℕ → List ℕ
first_row_lem bs = bytes_row message_widths bs

first_length : List ℕ → ℕ
first_length bs = get_or (first_row_lem bs) 12 0

first_message : List ℕ → MessageRecord
first_message bs = message_of_row (first_row_lem bs) (take (first_length bs) (drop 44 bs))

read_messages_suc : (n : ℕ) (bs : List ℕ) →
    read_messages (suc n) bs ≡ only_if (leb (44 + first_length bs) (length bs)) (and_then (read_messages n (drop (44 + first_length bs) bs)) (λ rs. some (first_message bs ∷ rs)))
unfolding read_messages first_row_lem first_length first_message
read_messages_suc n bs = refl

-- ---- writing what was read

stream_written : (bs : List ℕ) → T (are_bytes bs) → 14 ≤ length bs → stream_bytes (stream_of_row (bytes_row stream_widths bs)) ≡ take 14 bs
unfolding stream_bytes bytes_row width
stream_written bs h k = row_written_read stream_widths bs h k

streams_written : (n : ℕ) (bs : List ℕ) → T (are_bytes bs) → 14 * n ≤ length bs → streams_bytes (read_streams n bs) ≡ take (14 * n) bs
streams_written zero bs h k = unfold streams_bytes read_streams in refl
streams_written (suc n) bs h k =
    let k' : 14 * n ≤ length (drop 14 bs) = rw length-drop (omega arith) in
    let m : 14 + 14 * n ≡ 14 * suc n = omega arith in
    ap streams_bytes (read_streams_suc n bs)
    ∙ streams_bytes_cons (stream_of_row (bytes_row stream_widths bs)) (read_streams n (drop 14 bs))
    ∙ ap₂ ◌++◌ (stream_written bs h (omega arith)) (streams_written n (drop 14 bs) (drop_bytes 14 bs h) k')
    ∙ sym (take-add 14 (14 * n) bs)
    ∙ ap (λ (x : ℕ). take x bs) m

length_read_streams : (n : ℕ) (bs : List ℕ) → length (read_streams n bs) ≡ n
length_read_streams zero bs = unfold read_streams in refl
length_read_streams (suc n) bs = ap length (read_streams_suc n bs) ∙ ap suc (length_read_streams n (drop 14 bs))

row_with_length : (bs : List ℕ) → length (take (first_length bs) (drop 44 bs)) ≡ first_length bs → message_row (first_message bs) ≡ first_row_lem bs
unfolding first_message first_length first_row_lem bytes_row
row_with_length bs e = ap (λ (x : ℕ). take 12 (first_row_lem bs) ++ (x ∷ [])) e

first_message_row : (bs : List ℕ) → 44 + first_length bs ≤ length bs → message_row (first_message bs) ≡ first_row_lem bs
first_message_row bs k =
    let k' : first_length bs ≤ length (drop 44 bs) = rw length-drop (omega arith) in
    row_with_length bs (length-take-le (first_length bs) (drop 44 bs) k')

first_row_written : (bs : List ℕ) → T (are_bytes bs) → 44 ≤ length bs → row_bytes message_widths (first_row_lem bs) ≡ take 44 bs
unfolding width first_row_lem
first_row_written bs h k = row_written_read message_widths bs h k

first_message_payload : (bs : List ℕ) → (first_message bs).payload ≡ take (first_length bs) (drop 44 bs)
unfolding first_message
first_message_payload bs = refl

message_written : (bs : List ℕ) → T (are_bytes bs) → 44 + first_length bs ≤ length bs → message_bytes (first_message bs) ≡ take (44 + first_length bs) bs
message_written bs h k =
    let k' : 44 ≤ length bs = omega arith in
    message_bytes_of (first_message bs)
    ∙ ap (λ (l : List ℕ). row_bytes message_widths l ++ (first_message bs).payload) (first_message_row bs k)
    ∙ ap₂ ◌++◌ (first_row_written bs h k') (first_message_payload bs)
    ∙ sym (take-add 44 (first_length bs) bs)

read_messages_zero : read_messages 0 [] ≡ some []
unfolding read_messages
read_messages_zero = refl

read_messages_over : (b : ℕ) (bs : List ℕ) → read_messages 0 (b ∷ bs) ≡ none
unfolding read_messages
read_messages_over b bs = refl

pub messages_bytes_nil : messages_bytes [] ≡ []
unfolding messages_bytes
messages_bytes_nil = refl

-- The message records that were read, written again, are the bytes; and there are as many as asked for.
messages_written : (n : ℕ) (bs : List ℕ) (rs : List MessageRecord) → T (are_bytes bs) → read_messages n bs ≡ some rs → (messages_bytes rs ≡ bs) × (length rs ≡ n)
messages_written zero [] rs h e =
    let same : [] ≡ rs = cc (read_messages_zero) in
    (ap messages_bytes (sym same) ∙ messages_bytes_nil, ap length (sym same))
messages_written zero (b ∷ bs) rs h e =
    let z : ◌≡◌ {A = ℕ} 0 1 = cc (read_messages_over b bs) in
    absurd (omega arith)
messages_written (suc n) bs rs h e =
    let p : ℕ = first_length bs in
    let more : Option (List MessageRecord) = read_messages n (drop (44 + p) bs) in
    let f : List MessageRecord → Option (List MessageRecord) = λ rs. some (first_message bs ∷ rs) in
    let e' : only_if (leb (44 + p) (length bs)) (and_then more f) ≡ some rs = sym (read_messages_suc n bs) ∙ e in
    let k : 44 + p ≤ length bs = leb→le (44 + p) (length bs) (only_if_test (leb (44 + p) (length bs)) (and_then more f) e') in
    let (rs', e₁, e₂) = and_then_some more f (only_if_value (leb (44 + p) (length bs)) (and_then more f) e') in
    let ih = messages_written n (drop (44 + p) bs) rs' (drop_bytes (44 + p) bs h) e₁ in
    let same : first_message bs ∷ rs' ≡ rs = cc in
    (ap messages_bytes (sym same) ∙ messages_bytes_cons (first_message bs) rs' ∙ ap₂ ◌++◌ (message_written bs h k) ih.0 ∙ take-append-drop (44 + p) bs, ap length (sym same) ∙ ap suc ih.1)

-- ---- the image

-- The trailer's bytes.
tail_of : List ℕ → List ℕ
tail_of bs = drop (length bs - 20) bs

row_of : List ℕ → List ℕ
row_of bs = bytes_row trailer_widths (tail_of bs)

read_handover : List ℕ → List ℕ → List MessageRecord → Handover
read_handover t bs ms = record { next_message_id = get_or t 0 0; default_priority = get_or t 1 0; streams = read_streams (get_or t 2 0) bs; messages = ms }

read_image_of : (bs : List ℕ) → read_image bs ≡ only_if (leb 20 (length bs)) (read_parts (row_of bs) bs)
unfolding read_image row_of tail_of
read_image_of bs = refl

read_parts_of : (t bs : List ℕ) →
    read_parts t bs ≡ only_if (trailer_right t bs) (and_then (read_messages (get_or t 3 0) (take (get_or t 5 0) (drop (get_or t 6 0) bs))) (λ ms. only_right (read_handover t bs ms)))
unfolding read_parts read_handover
read_parts_of t bs = refl

only_right_of : (h : Handover) → only_right h ≡ only_if (handover_right h) (some h)
unfolding only_right
only_right_of h = refl

pub image_bytes_of : (h : Handover) → image_bytes h ≡ streams_bytes h.streams ++ (messages_bytes h.messages ++ row_bytes trailer_widths (trailer_row h))
unfolding image_bytes
image_bytes_of h = refl

-- What the trailer's test says.
record Agrees (t bs : List ℕ) : Type 0 where
  form : get_or t 4 0 ≡ 1
  fills : get_or t 6 0 + get_or t 5 0 + 20 ≡ length bs
  whole : get_or t 6 0 ≡ 14 * get_or t 2 0

agrees : (t bs : List ℕ) → T (trailer_right t bs) → Agrees t bs
unfolding trailer_right
agrees t bs h =
    record {
      form = eqb→eq (get_or t 4 0) 1 (and_l (eqb (get_or t 4 0) 1) fill (and_l (eqb (get_or t 4 0) 1 && fill) parts h));
      fills = eqb→eq (get_or t 6 0 + get_or t 5 0 + 20) (length bs) (and_r (eqb (get_or t 4 0) 1) fill (and_l (eqb (get_or t 4 0) 1 && fill) parts h));
      whole = eqb→eq (get_or t 6 0) (14 * get_or t 2 0) (and_r (eqb (get_or t 4 0) 1 && fill) parts h);
    }
  where
    fill : Bool
    fill = eqb (get_or t 6 0 + get_or t 5 0 + 20) (length bs)

    parts : Bool
    parts = eqb (get_or t 6 0) (14 * get_or t 2 0)

pub trailer_row_of : (h : Handover) → trailer_row h ≡ h.next_message_id ∷ h.default_priority ∷ length h.streams ∷ length h.messages ∷ 1 ∷ length (messages_bytes h.messages) ∷ length (streams_bytes h.streams) ∷ []
unfolding trailer_row
trailer_row_of h = refl

row_of_seven : (bs : List ℕ) → row_of bs ≡ get_or (row_of bs) 0 0 ∷ get_or (row_of bs) 1 0 ∷ get_or (row_of bs) 2 0 ∷ get_or (row_of bs) 3 0 ∷ get_or (row_of bs) 4 0 ∷ get_or (row_of bs) 5 0 ∷ get_or (row_of bs) 6 0 ∷ []
unfolding row_of bytes_row
row_of_seven bs = refl

trailer_written : (bs : List ℕ) → T (are_bytes bs) → 20 ≤ length bs → row_bytes trailer_widths (row_of bs) ≡ tail_of bs
unfolding row_of tail_of width
trailer_written bs h k =
    let e : length (drop (length bs - 20) bs) ≡ 20 = rw length-drop (omega arith) in
    let k' : 20 ≤ length (drop (length bs - 20) bs) = omega arith in
    let k'' : length (drop (length bs - 20) bs) ≤ 20 = omega arith in
    row_written_read trailer_widths (drop (length bs - 20) bs) (drop_bytes (length bs - 20) bs h) k' ∙ take_all 20 (drop (length bs - 20) bs) k''

tail_after : (s m : ℕ) (bs : List ℕ) → s + m + 20 ≡ length bs → tail_of bs ≡ drop m (drop s bs)
unfolding tail_of
tail_after s m bs e = let e' : length bs - 20 ≡ s + m = omega arith in ap (λ (x : ℕ). drop x bs) e' ∙ sym (drop-drop m s bs)

three_parts : (s m : ℕ) (bs : List ℕ) → take s bs ++ (take m (drop s bs) ++ drop m (drop s bs)) ≡ bs
three_parts s m bs = ap (λ (l : List ℕ). take s bs ++ l) (take-append-drop m (drop s bs)) ∙ take-append-drop s bs

read_handover_streams : (t bs : List ℕ) (ms : List MessageRecord) → (read_handover t bs ms).streams ≡ read_streams (get_or t 2 0) bs
unfolding read_handover
read_handover_streams t bs ms = refl

read_handover_messages : (t bs : List ℕ) (ms : List MessageRecord) → (read_handover t bs ms).messages ≡ ms
unfolding read_handover
read_handover_messages t bs ms = refl

-- The trailer of what was read, from the lengths of its parts.
trailer_of_read : (bs : List ℕ) (ms : List MessageRecord) → Agrees (row_of bs) bs → length ms ≡ get_or (row_of bs) 3 0
    → length (messages_bytes ms) ≡ get_or (row_of bs) 5 0 → length (streams_bytes (read_streams (get_or (row_of bs) 2 0) bs)) ≡ get_or (row_of bs) 6 0
    → trailer_row (read_handover (row_of bs) bs ms) ≡ row_of bs
unfolding read_handover
trailer_of_read bs ms a n m s =
    cc (trailer_row_of (read_handover (row_of bs) bs ms), row_of_seven bs, length_read_streams (get_or (row_of bs) 2 0) bs)

-- The image of what was read, from the facts that the reader tested.
image_of_read : (bs : List ℕ) (ms : List MessageRecord) → T (are_bytes bs) → 20 ≤ length bs → Agrees (row_of bs) bs
    → read_messages (get_or (row_of bs) 3 0) (take (get_or (row_of bs) 5 0) (drop (get_or (row_of bs) 6 0) bs)) ≡ some ms
    → image_bytes (read_handover (row_of bs) bs ms) ≡ bs
image_of_read bs ms b k a e =
    let s : ℕ = get_or (row_of bs) 6 0 in
    let m : ℕ = get_or (row_of bs) 5 0 in
    let h : Handover = read_handover (row_of bs) bs ms in
    let mw : (messages_bytes ms ≡ take m (drop s bs)) × (length ms ≡ get_or (row_of bs) 3 0) =
    messages_written (get_or (row_of bs) 3 0) (take m (drop s bs)) ms (take_bytes m (drop s bs) (drop_bytes s bs b)) e in
    let k₁ : 14 * get_or (row_of bs) 2 0 ≤ length bs = omega arith in
    let k₂ : s ≤ length bs = omega arith in
    let k₃ : m ≤ length (drop s bs) = rw length-drop (omega arith) in
    let sw : streams_bytes (read_streams (get_or (row_of bs) 2 0) bs) ≡ take s bs =
    streams_written (get_or (row_of bs) 2 0) bs b k₁ ∙ ap (λ (x : ℕ). take x bs) (sym a.whole) in
    let ls : length (streams_bytes (read_streams (get_or (row_of bs) 2 0) bs)) ≡ s = ap length sw ∙ length-take-le s bs k₂ in
    let lm : length (messages_bytes ms) ≡ m = ap length mw.0 ∙ length-take-le m (drop s bs) k₃ in
    let row : trailer_row h ≡ row_of bs = trailer_of_read bs ms a mw.1 lm ls in
    image_bytes_of h
    ∙ ap₂ ◌++◌ (ap streams_bytes (read_handover_streams (row_of bs) bs ms) ∙ sw)
    (ap₂ ◌++◌ (ap messages_bytes (read_handover_messages (row_of bs) bs ms) ∙ mw.0) (ap (row_bytes trailer_widths) row ∙ trailer_written bs b k ∙ tail_after s m bs a.fills))
    ∙ three_parts s m bs

-- An image that is read is the image of what was read from it: writing inverts reading.
pub image_canonical : (bs : List ℕ) (h : Handover) → T (are_bytes bs) → read_image bs ≡ some h → image_bytes h ≡ bs
image_canonical bs h b e =
    let t : List ℕ = row_of bs in
    let ms? : Option (List MessageRecord) = read_messages (get_or t 3 0) (take (get_or t 5 0) (drop (get_or t 6 0) bs)) in
    let f : List MessageRecord → Option Handover = λ ms. only_right (read_handover t bs ms) in
    let e₁ : only_if (leb 20 (length bs)) (read_parts t bs) ≡ some h = sym (read_image_of bs) ∙ e in
    let k : 20 ≤ length bs = leb→le 20 (length bs) (only_if_test (leb 20 (length bs)) (read_parts t bs) e₁) in
    let e₂ : only_if (trailer_right t bs) (and_then ms? f) ≡ some h = sym (read_parts_of t bs) ∙ only_if_value (leb 20 (length bs)) (read_parts t bs) e₁ in
    let a : Agrees t bs = agrees t bs (only_if_test (trailer_right t bs) (and_then ms? f) e₂) in
    let (ms, e₃, e₄) = and_then_some ms? f (only_if_value (trailer_right t bs) (and_then ms? f) e₂) in
    let same : some (read_handover t bs ms) ≡ some h = only_if_value (handover_right (read_handover t bs ms)) (some (read_handover t bs ms)) (sym (only_right_of (read_handover t bs ms)) ∙ e₄) in
    let same' : read_handover t bs ms ≡ h = cc in
    ap image_bytes (sym same') ∙ image_of_read bs ms b k a e₃

-- ---- reading what was written

length_stream_bytes : (r : StreamRecord) → Fits stream_widths (stream_row r) → length (stream_bytes r) ≡ 14
unfolding stream_bytes width
length_stream_bytes r f = length_row_bytes stream_widths (stream_row r) f

stream_read : (r : StreamRecord) (rest : List ℕ) → Fits stream_widths (stream_row r) → stream_of_row (bytes_row stream_widths (stream_bytes r ++ rest)) ≡ r
unfolding stream_bytes
stream_read r rest f = ap stream_of_row (row_read_written stream_widths (stream_row r) rest f)

streams_read : (rs : List StreamRecord) (rest : List ℕ) → StreamsFit rs → read_streams (length rs) (streams_bytes rs ++ rest) ≡ rs
streams_read [] rest f = unfold read_streams in refl
streams_read (r ∷ rs) rest f =
    let more : List ℕ = streams_bytes rs ++ rest in
    ap (λ (l : List ℕ). read_streams (suc (length rs)) (l ++ rest)) (streams_bytes_cons r rs)
    ∙ ap (read_streams (suc (length rs))) (append_assoc (stream_bytes r) (streams_bytes rs) rest)
    ∙ read_streams_suc (length rs) (stream_bytes r ++ more)
    ∙ ap₂ ◌∷◌ (stream_read r more f.0) (ap (read_streams (length rs)) (drop_at (stream_bytes r) more 14 (length_stream_bytes r f.0)) ∙ streams_read rs rest f.1)

pub length_streams_bytes : (rs : List StreamRecord) → StreamsFit rs → length (streams_bytes rs) ≡ 14 * length rs
length_streams_bytes [] f = unfold streams_bytes in refl
length_streams_bytes (r ∷ rs) f =
    let e : length (stream_bytes r ++ streams_bytes rs) ≡ 14 * length (r ∷ rs) =
    rw (length-append, length_stream_bytes r f.0, length_streams_bytes rs f.1) (omega arith) in
    ap length (streams_bytes_cons r rs) ∙ e

module _ (r : MessageRecord) (rest : List ℕ) (f : Fits message_widths (message_row r)) where
  length_row : length (row_bytes message_widths (message_row r)) ≡ 44
  unfolding width
  length_row = length_row_bytes message_widths (message_row r) f

  split_message : message_bytes r ++ rest ≡ row_bytes message_widths (message_row r) ++ (r.payload ++ rest)
  split_message = ap (◌++ rest) (message_bytes_of r) ∙ append_assoc (row_bytes message_widths (message_row r)) r.payload rest

  first_row_read : first_row_lem (message_bytes r ++ rest) ≡ message_row r
  unfolding first_row_lem
  first_row_read = ap first_row_lem split_message ∙ row_read_written message_widths (message_row r) (r.payload ++ rest) f

  first_length_read : first_length (message_bytes r ++ rest) ≡ length r.payload
  unfolding first_length
  first_length_read = ap (λ (l : List ℕ). get_or l 12 0) first_row_read

  after_row : drop 44 (message_bytes r ++ rest) ≡ r.payload ++ rest
  after_row = ap (drop 44) split_message ∙ drop_at (row_bytes message_widths (message_row r)) (r.payload ++ rest) 44 length_row

  first_message_read : first_message (message_bytes r ++ rest) ≡ r
  unfolding first_message
  first_message_read =
      ap₂ message_of_row first_row_read (ap₂ take first_length_read after_row ∙ take_at r.payload rest (length r.payload) refl)

  after_message : drop (44 + first_length (message_bytes r ++ rest)) (message_bytes r ++ rest) ≡ rest
  after_message =
      sym (drop-drop (first_length (message_bytes r ++ rest)) 44 (message_bytes r ++ rest))
      ∙ ap₂ drop first_length_read after_row ∙ drop_at r.payload rest (length r.payload) refl

  message_fits : 44 + first_length (message_bytes r ++ rest) ≤ length (message_bytes r ++ rest)
  message_fits =
      rw (first_length_read, split_message, length-append, length_row, length-append) (omega arith)

messages_read : (rs : List MessageRecord) → MessagesFit rs → read_messages (length rs) (messages_bytes rs) ≡ some rs
messages_read [] f = ap (read_messages 0) messages_bytes_nil ∙ read_messages_zero
messages_read (r ∷ rs) f =
    let rest : List ℕ = messages_bytes rs in
    let bs : List ℕ = message_bytes r ++ rest in
    let k : List MessageRecord → Option (List MessageRecord) = λ ms. some (first_message bs ∷ ms) in
    ap (read_messages (suc (length rs))) (messages_bytes_cons r rs)
    ∙ read_messages_suc (length rs) bs
    ∙ only_if_true (leb (44 + first_length bs) (length bs)) (and_then (read_messages (length rs) (drop (44 + first_length bs) bs)) k) (le→leb (44 + first_length bs) (length bs) (message_fits r rest f.0))
    ∙ ap (λ (l : List ℕ). and_then (read_messages (length rs) l) k) (after_message r rest f.0)
    ∙ ap (λ (o : Option (List MessageRecord)). and_then o k) (messages_read rs f.1)
    ∙ and_then_of rs k
    ∙ ap (λ (m : MessageRecord). some (m ∷ rs)) (first_message_read r rest f.0)

tail_parts : (s m r : List ℕ) → length r ≡ 20 → tail_of (s ++ (m ++ r)) ≡ r
unfolding tail_of
tail_parts s m r e =
    let n : length (s ++ (m ++ r)) - 20 ≡ length s + length m = rw (length-append s (m ++ r), length-append m r) (omega arith) in
    ap (λ (x : ℕ). drop x (s ++ (m ++ r))) n ∙ drop-append-add s (m ++ r) (length m) ∙ drop-append_seam m r

middle_part : (s m r : List ℕ) → take (length m) (drop (length s) (s ++ (m ++ r))) ≡ m
middle_part s m r = ap (take (length m)) (drop-append_seam s (m ++ r)) ∙ take-append_seam m r

eq→eqb : {m n : ℕ} → m ≡ n → T (eqb m n)
eq→eqb {m} e = subst (λ (x : ℕ). T (eqb m x)) e (eqb_refl m)

-- Reading an image gives back its handover record: reading inverts writing.
module _ (h : Handover) (f : HandoverFits h) (right : T (handover_right h)) where
  parts_image : List ℕ
  parts_image = streams_bytes h.streams ++ (messages_bytes h.messages ++ row_bytes trailer_widths (trailer_row h))

  length_trailer : length (row_bytes trailer_widths (trailer_row h)) ≡ 20
  unfolding width
  length_trailer = length_row_bytes trailer_widths (trailer_row h) f.trailer_fits

  length_image : length parts_image ≡ length (streams_bytes h.streams) + (length (messages_bytes h.messages) + 20)
  unfolding parts_image
  length_image =
      rw (
        length-append (streams_bytes h.streams) (messages_bytes h.messages ++ row_bytes trailer_widths (trailer_row h)),
        length-append (messages_bytes h.messages) (row_bytes trailer_widths (trailer_row h)),
        length_trailer,
      )

  row_image : row_of parts_image ≡ trailer_row h
  unfolding row_of parts_image
  row_image =
      ap (bytes_row trailer_widths) (tail_parts (streams_bytes h.streams) (messages_bytes h.messages) (row_bytes trailer_widths (trailer_row h)) length_trailer ∙ sym (append-nil (row_bytes trailer_widths (trailer_row h))))
      ∙ row_read_written trailer_widths (trailer_row h) [] f.trailer_fits

  agrees_image : T (trailer_right (trailer_row h) parts_image)
  unfolding trailer_right trailer_row
  agrees_image =
      let e : length (streams_bytes h.streams) + length (messages_bytes h.messages) + 20 ≡ length parts_image = rw length_image (omega arith) in
      and_intro (eqb (length (streams_bytes h.streams) + length (messages_bytes h.messages) + 20) (length parts_image)) (eqb (length (streams_bytes h.streams)) (14 * length h.streams))
      (eq→eqb e) (eq→eqb (length_streams_bytes h.streams f.streams_fit))

  handover_image : read_handover (trailer_row h) parts_image h.messages ≡ h
  unfolding read_handover trailer_row parts_image
  handover_image =
      let g : List StreamRecord → Handover = λ ss. record { next_message_id = h.next_message_id; default_priority = h.default_priority; streams = ss; messages = h.messages } in
      ap g (streams_read h.streams (messages_bytes h.messages ++ row_bytes trailer_widths (trailer_row h)) f.streams_fit)

  messages_image : read_messages (get_or (trailer_row h) 3 0) (take (get_or (trailer_row h) 5 0) (drop (get_or (trailer_row h) 6 0) parts_image)) ≡ some h.messages
  unfolding trailer_row parts_image
  messages_image =
      ap (read_messages (length h.messages)) (middle_part (streams_bytes h.streams) (messages_bytes h.messages) (row_bytes trailer_widths (trailer_row h)))
      ∙ messages_read h.messages f.messages_fit

  read_parts_image : read_parts (trailer_row h) parts_image ≡ some h
  read_parts_image =
      let k : List MessageRecord → Option Handover = λ ms. only_right (read_handover (trailer_row h) parts_image ms) in
      let ms? : Option (List MessageRecord) = read_messages (get_or (trailer_row h) 3 0) (take (get_or (trailer_row h) 5 0) (drop (get_or (trailer_row h) 6 0) parts_image)) in
      read_parts_of (trailer_row h) parts_image
      ∙ only_if_true (trailer_right (trailer_row h) parts_image) (and_then ms? k) agrees_image
      ∙ ap (λ (o : Option (List MessageRecord)). and_then o k) messages_image
      ∙ and_then_of h.messages k
      ∙ ap only_right handover_image
      ∙ only_right_of h
      ∙ only_if_true (handover_right h) (some h) right

  pub read_image_bytes : read_image (image_bytes h) ≡ some h
  unfolding parts_image
  read_image_bytes =
      ap read_image (image_bytes_of h) ∙ read_image_of parts_image ∙ only_if_true (leb 20 (length parts_image)) (read_parts (row_of parts_image) parts_image) (le→leb 20 (length parts_image) (rw length_image (omega arith)))
      ∙ ap (λ (t : List ℕ). read_parts t parts_image) row_image ∙ read_parts_image

-- ---- what is read fits its widths and keeps the rules

stream_row_fits : (bs : List ℕ) → T (are_bytes bs) → 14 ≤ length bs → Fits stream_widths (stream_row (stream_of_row (bytes_row stream_widths bs)))
unfolding bytes_row width
stream_row_fits bs h k = row_fits stream_widths bs h k

first_row_fits : (bs : List ℕ) → T (are_bytes bs) → 44 ≤ length bs → Fits message_widths (first_row_lem bs)
unfolding first_row_lem width
first_row_fits bs h k = row_fits message_widths bs h k

next_fits : (bs : List ℕ) (ms : List MessageRecord) → T (are_bytes bs) → 20 ≤ length bs → (read_handover (row_of bs) bs ms).next_message_id < 2 ^ 32
unfolding read_handover row_of tail_of bytes_row width
next_fits bs ms h k =
    let e : length (drop (length bs - 20) bs) ≡ 20 = rw length-drop (omega arith) in
    let k' : 20 ≤ length (drop (length bs - 20) bs) = omega arith in
    (row_fits trailer_widths (drop (length bs - 20) bs) (drop_bytes (length bs - 20) bs h) k').0

streams_fit : (n : ℕ) (bs : List ℕ) → T (are_bytes bs) → 14 * n ≤ length bs → StreamsFit (read_streams n bs)
streams_fit zero bs h k = unfold read_streams in tt
streams_fit (suc n) bs h k =
    let k' : 14 * n ≤ length (drop 14 bs) = rw length-drop (omega arith) in
    subst StreamsFit (sym (read_streams_suc n bs)) (stream_row_fits bs h (omega arith), streams_fit n (drop 14 bs) (drop_bytes 14 bs h) k')

messages_fit : (n : ℕ) (bs : List ℕ) (rs : List MessageRecord) → T (are_bytes bs) → read_messages n bs ≡ some rs → MessagesFit rs
messages_fit zero [] rs h e = let same : [] ≡ rs = cc (read_messages_zero) in subst MessagesFit same tt
messages_fit zero (b ∷ bs) rs h e = let z : ◌≡◌ {A = ℕ} 0 1 = cc (read_messages_over b bs) in absurd (omega arith)
messages_fit (suc n) bs rs h e =
    let p : ℕ = first_length bs in
    let more : Option (List MessageRecord) = read_messages n (drop (44 + p) bs) in
    let f : List MessageRecord → Option (List MessageRecord) = λ rs. some (first_message bs ∷ rs) in
    let e' : only_if (leb (44 + p) (length bs)) (and_then more f) ≡ some rs = sym (read_messages_suc n bs) ∙ e in
    let k : 44 + p ≤ length bs = leb→le (44 + p) (length bs) (only_if_test (leb (44 + p) (length bs)) (and_then more f) e') in
    let (rs', e₁, e₂) = and_then_some more f (only_if_value (leb (44 + p) (length bs)) (and_then more f) e') in
    let ih = messages_fit n (drop (44 + p) bs) rs' (drop_bytes (44 + p) bs h) e₁ in
    let same : first_message bs ∷ rs' ≡ rs = cc in
    subst MessagesFit same (subst (Fits message_widths) (sym (first_message_row bs k)) (first_row_fits bs h (omega arith)), ih)

-- An image that is read: its record fits, and keeps the rules.
pub record Sound (h : Handover) : Type 0 where
  pub sound_streams : StreamsFit h.streams
  pub sound_messages : MessagesFit h.messages
  pub sound_next : h.next_message_id < 2 ^ 32
  pub sound_right : T (handover_right h)

sound_parts : (bs : List ℕ) (ms : List MessageRecord) → T (are_bytes bs) → 20 ≤ length bs → Agrees (row_of bs) bs
    → read_messages (get_or (row_of bs) 3 0) (take (get_or (row_of bs) 5 0) (drop (get_or (row_of bs) 6 0) bs)) ≡ some ms → T (handover_right (read_handover (row_of bs) bs ms))
    → Sound (read_handover (row_of bs) bs ms)
sound_parts bs ms b k a e r =
    let k₁ : 14 * get_or (row_of bs) 2 0 ≤ length bs = omega arith in
    record {
      sound_streams = subst StreamsFit (sym (read_handover_streams (row_of bs) bs ms)) (streams_fit (get_or (row_of bs) 2 0) bs b k₁);
      sound_messages = subst MessagesFit (sym (read_handover_messages (row_of bs) bs ms))
          (messages_fit (get_or (row_of bs) 3 0) (take (get_or (row_of bs) 5 0) (drop (get_or (row_of bs) 6 0) bs)) ms (take_bytes (get_or (row_of bs) 5 0) (drop (get_or (row_of bs) 6 0) bs) (drop_bytes (get_or (row_of bs) 6 0) bs b)) e);
      sound_next = next_fits bs ms b k;
      sound_right = r;
    }

pub image_sound : (bs : List ℕ) (h : Handover) → T (are_bytes bs) → read_image bs ≡ some h → Sound h
image_sound bs h b e =
    let t : List ℕ = row_of bs in
    let ms? : Option (List MessageRecord) = read_messages (get_or t 3 0) (take (get_or t 5 0) (drop (get_or t 6 0) bs)) in
    let f : List MessageRecord → Option Handover = λ ms. only_right (read_handover t bs ms) in
    let e₁ : only_if (leb 20 (length bs)) (read_parts t bs) ≡ some h = sym (read_image_of bs) ∙ e in
    let k : 20 ≤ length bs = leb→le 20 (length bs) (only_if_test (leb 20 (length bs)) (read_parts t bs) e₁) in
    let e₂ : only_if (trailer_right t bs) (and_then ms? f) ≡ some h = sym (read_parts_of t bs) ∙ only_if_value (leb 20 (length bs)) (read_parts t bs) e₁ in
    let a : Agrees t bs = agrees t bs (only_if_test (trailer_right t bs) (and_then ms? f) e₂) in
    let (ms, e₃, e₄) = and_then_some ms? f (only_if_value (trailer_right t bs) (and_then ms? f) e₂) in
    let e₅ : only_if (handover_right (read_handover t bs ms)) (some (read_handover t bs ms)) ≡ some h = sym (only_right_of (read_handover t bs ms)) ∙ e₄ in
    let r : T (handover_right (read_handover t bs ms)) = only_if_test (handover_right (read_handover t bs ms)) (some (read_handover t bs ms)) e₅ in
    let same : some (read_handover t bs ms) ≡ some h = only_if_value (handover_right (read_handover t bs ms)) (some (read_handover t bs ms)) e₅ in
    let same' : read_handover t bs ms ≡ h = cc in
    subst Sound same' (sound_parts bs ms b k a e₃ r)
