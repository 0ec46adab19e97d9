-- The message records: the model reads and judges them as `messages_right_words` does, by position. Assumes nothing.
use mathlib.Core.Path.{◌≡◌, refl, sym, ap, ap₂, ◌∙◌}
use mathlib.Core.Bool.{Bool, true, false, not, ◌&&◌}
use mathlib.Core.List.{List, [], ◌∷◌}
use mathlib.Core.Option.{Option, none, some}
use Prim.Native.Nat.{ℕ, zero, suc, ◌+◌, ◌-◌, ◌/◌, ◌%◌, ◌≤◌, ◌<◌}
use native.Mathlib.Nat.{sub-zero, zero-sub, suc-sub-suc}
use native.Mathlib.Omega.{arith}
use borrow.Author.Tests.{lt-ltb, le-ltb, lt-leb, le-leb, ne_eqb}
use lib.Dec.{eqb, ltb, leb}
use lib.ListN.{length, take, drop, get_or, length-drop}
use lib.Seq.{drop-drop, take-take, take-nil, length-take-le}
use Rattle.queue_words.specs.Flags.{pick}
use Rattle.queue_model.specs.Logic.{implies, all_true, only_if, and_then}
use Rattle.queue_model.specs.Refusals.{max_payload}
use Rattle.queue_model.specs.Bytes.{bytes_number, bytes_row, width}
use Rattle.queue_model.specs.Image.{MessageRecord, message_widths}
use Rattle.queue_model.specs.Reader.{message_of_row, read_messages, has_flag, message_right, messages_right_after, messages_right}
use Rattle.handover_records.specs.Records.{message_at}
use Rattle.handover_records.specs.Positions.{record_at, messages_from}
use Rattle.handover_records.proofs.Steps.{messages_none, messages_step}
use Rattle.image_rules.specs.Messages.{numbers_right, lifetime_right, mid_right, order_right, message_right_words, messages_right_words}
use Rattle.queue_words.proofs.Finds.{by_lt}
use Rattle.handover_records.proofs.RecordRows.{message_width}

-- ------------------------------------------------------------------ one record's rules

le_not : (a b : ℕ) → leb a b ≡ not (ltb b a)
le_not a b = by_lt b a (λ h. rw (lt-ltb _ _ h, lt-leb _ _ h)) (λ h. rw (le-ltb _ _ h, le-leb _ _ h))

numbers_first : (a z m l x o r : Bool) → (not a && (z && (not m && (not l && (not x && (o && r)))))) ≡ pick (pick a false (pick z (pick m false (pick l false (pick x false o))) false)) r false
numbers_first true z m l x o r = refl
numbers_first false false m l x o r = refl
numbers_first false true true l x o r = refl
numbers_first false true false true x o r = refl
numbers_first false true false false true o r = refl
numbers_first false true false false false true r = refl
numbers_first false true false false false false r = refl

mids_then : (g m s o n u w head : Bool) → (implies (not g) (m && s && o && n) && (implies u w && (implies g head && true)))
    ≡ pick (pick g head (pick m (pick s (pick o n false) false) false)) (pick u w true) false
unfolding implies
mids_then true m s o n true true true = refl
mids_then true m s o n true true false = refl
mids_then true m s o n true false true = refl
mids_then true m s o n true false false = refl
mids_then true m s o n false w true = refl
mids_then true m s o n false w false = refl
mids_then false false s o n u w head = refl
mids_then false true false o n u w head = refl
mids_then false true true false n u w head = refl
mids_then false true true true false u w head = refl
mids_then false true true true true true true head = refl
mids_then false true true true true true false head = refl
mids_then false true true true true false w head = refl

flags_then : (f e g m s o n u w head : Bool) → (implies (not f) e && (implies (not g) (m && s && o && n) && (implies u w && (implies g head && true))))
    ≡ pick (pick f true e) (pick (pick g head (pick m (pick s (pick o n false) false) false)) (pick u w true) false) false
unfolding implies
flags_then true e g m s o n u w head = mids_then g m s o n u w head
flags_then false true g m s o n u w head = mids_then g m s o n u w head
flags_then false false g m s o n u w head = refl

-- The rules over plain numbers.
abbrev ruled : ℕ → ℕ → ℕ → ℕ → ℕ → ℕ → ℕ → ℕ → Bool → Bool
ruled flags zb ms len off mid ssn fsn head =
    pick (pick (ltb 7 flags) false (pick (eqb zb 0) (pick (ltb 2147483647 ms) false (pick (ltb len 1) false (pick (ltb 262144 len) false (ltb off len)))) false))
    (pick (pick (eqb (flags / 4 % 2) 1) true (eqb ms 0))
    (pick (pick (eqb (flags / 2 % 2) 1) head (pick (eqb mid 0) (pick (eqb ssn 0) (pick (eqb off 0) (eqb fsn 0) false) false) false))
    (pick (eqb (flags % 2) 1) (eqb ssn 0) true) false) false) false

rules_same : (flags zb ms len off mid ssn fsn : ℕ) (head : Bool)
    → all_true (
    leb flags 7
    ∷ eqb zb 0
    ∷ leb ms 2147483647
    ∷ leb 1 len
    ∷ leb len max_payload
    ∷ ltb off len
    ∷ implies (not (has_flag 4 flags)) (eqb ms 0)
    ∷ implies (not (has_flag 2 flags)) (eqb mid 0 && eqb ssn 0 && eqb off 0 && eqb fsn 0)
    ∷ implies (has_flag 1 flags) (eqb ssn 0)
    ∷ implies (has_flag 2 flags) head
    ∷ [])
    ≡ ruled flags zb ms len off mid ssn fsn head
unfolding has_flag
rules_same flags zb ms len off mid ssn fsn head =
    let one : flags / 1 ≡ flags = omega arith in
    rw (le_not flags 7, le_not ms 2147483647, le_not 1 len, le_not len max_payload, one)
    (numbers_first (ltb 7 flags) (eqb zb 0) (ltb 2147483647 ms) (ltb len 1) (ltb 262144 len) (ltb off len) _
    ∙ ap (λ x. pick (pick (ltb 7 flags) false (pick (eqb zb 0) (pick (ltb 2147483647 ms) false (pick (ltb len 1) false (pick (ltb 262144 len) false (ltb off len)))) false)) x false)
    (flags_then (eqb (flags / 4 % 2) 1) (eqb ms 0) (eqb (flags / 2 % 2) 1) (eqb mid 0) (eqb ssn 0) (eqb off 0) (eqb fsn 0) (eqb (flags % 2) 1) (eqb ssn 0) head))

-- A record whose payload lies in the image.
pub payload_long : (bs : List ℕ) (at : ℕ) → at + 44 + (message_at bs at).length ≤ length bs → length (record_at bs at).payload ≡ (message_at bs at).length
unfolding record_at
payload_long bs at h = length-take-le (message_at bs at).length (drop (at + 44) bs) (rw length-drop (omega (arith, h)))

pub message_id_same : (bs : List ℕ) (at : ℕ) → (record_at bs at).id ≡ (message_at bs at).id
unfolding record_at message_at
message_id_same bs at = refl

right_by_length : (r : MessageRecord) (head : Bool) (len : ℕ) → length r.payload ≡ len
    → message_right head r ≡ ruled r.flags r.zero_byte r.ms_left len r.offset r.mid r.ssn r.fsn head
unfolding message_right
right_by_length r head len e =
    rules_same r.flags r.zero_byte r.ms_left (length r.payload) r.offset r.mid r.ssn r.fsn head
    ∙ ap (λ n. ruled r.flags r.zero_byte r.ms_left n r.offset r.mid r.ssn r.fsn head) e

pub message_same : (bs : List ℕ) (at : ℕ) (head : Bool) → at + 44 + (message_at bs at).length ≤ length bs → message_right head (record_at bs at) ≡ message_right_words (message_at bs at) head
message_same bs at head h =
    let mine : ruled (record_at bs at).flags (record_at bs at).zero_byte (record_at bs at).ms_left (message_at bs at).length (record_at bs at).offset (record_at bs at).mid (record_at bs at).ssn (record_at bs at).fsn head
    ≡ message_right_words (message_at bs at) head = unfold record_at message_at message_right_words numbers_right lifetime_right mid_right order_right in refl in
    right_by_length (record_at bs at) head (message_at bs at).length (payload_long bs at h) ∙ mine

-- ------------------------------------------------------------------ the order of the records

-- The rules of records after one of the stream below `least`.
unfoldable pub right_from : ℕ → List MessageRecord → Bool
right_from least [] = true
right_from least (r ∷ rs) = leb least (r.id + 1) && (message_right (leb least r.id) r && right_from (r.id + 1) rs)

and_assoc : (a b c : Bool) → (a && b && c) ≡ (a && (b && c))
and_assoc true b c = refl
and_assoc false b c = refl

leb_up : (k i : ℕ) → leb k i ≡ leb (k + 1) (i + 1)
leb_up k i = by_lt i k (λ h. rw (lt-leb k i h, lt-leb (k + 1) (i + 1) (omega (arith, h)))) (λ h. rw (le-leb k i h, le-leb (k + 1) (i + 1) (omega (arith, h))))

ltb_up : (k i : ℕ) → ltb k i ≡ leb (k + 1) i
ltb_up k i = by_lt k i (λ h. rw (lt-ltb k i h, le-leb (k + 1) i (omega (arith, h)))) (λ h. rw (le-ltb k i h, lt-leb (k + 1) i (omega (arith, h))))

after_nil : (k : ℕ) → messages_right_after k [] ≡ true
unfolding messages_right_after
after_nil k = refl

after_cons : (k : ℕ) (r : MessageRecord) (rs : List MessageRecord) → messages_right_after k (r ∷ rs) ≡ (leb k r.id && (message_right (ltb k r.id) r && messages_right_after r.id rs))
unfolding messages_right_after
after_cons k r rs = and_assoc (leb k r.id) (message_right (ltb k r.id) r) (messages_right_after r.id rs)

from_nil : (k : ℕ) → right_from k [] ≡ true
unfolding right_from
from_nil k = refl

pub from_cons : (k : ℕ) (r : MessageRecord) (rs : List MessageRecord) → right_from k (r ∷ rs) ≡ (leb k (r.id + 1) && (message_right (leb k r.id) r && right_from (r.id + 1) rs))
unfolding right_from
from_cons k r rs = refl

after_same : (k : ℕ) (rs : List MessageRecord) → messages_right_after k rs ≡ right_from (k + 1) rs
after_same k [] = after_nil k ∙ sym (from_nil (k + 1))
after_same k (r ∷ rs) =
    after_cons k r rs
    ∙ ap₂ ◌&&◌ (leb_up k r.id) (ap₂ (λ b x. message_right b r && x) (ltb_up k r.id) (after_same r.id rs))
    ∙ sym (from_cons (k + 1) r rs)

right_nil : messages_right [] ≡ true
unfolding messages_right
right_nil = refl

right_cons : (r : MessageRecord) (rs : List MessageRecord) → messages_right (r ∷ rs) ≡ (message_right true r && messages_right_after r.id rs)
unfolding messages_right
right_cons r rs = refl

pub all_right_same : (rs : List MessageRecord) → messages_right rs ≡ right_from 0 rs
all_right_same [] = right_nil ∙ sym (from_nil 0)
all_right_same (r ∷ rs) =
    right_cons r rs
    ∙ ap₂ (λ b x. message_right b r && x) (sym (le-leb 0 r.id (omega arith))) (after_same r.id rs)
    ∙ ap (λ b. b && (message_right (leb 0 r.id) r && right_from (r.id + 1) rs)) (sym (le-leb 0 (r.id + 1) (omega arith)))
    ∙ sym (from_cons 0 r rs)

-- ------------------------------------------------------------------ reading in a part

drop_take : (w left : ℕ) (l : List ℕ) → drop w (take left l) ≡ take (left - w) (drop w l)
drop_take zero left l = rw sub-zero
drop_take (suc w) zero l = rw zero-sub
drop_take (suc w) (suc left) [] = sym (take-nil (suc left - suc w))
drop_take (suc w) (suc left) (x ∷ xs) = rw suc-sub-suc (drop_take w left xs)

row_take : (ws : List ℕ) (left : ℕ) (l : List ℕ) → width ws ≤ left → bytes_row ws (take left l) ≡ bytes_row ws l
unfolding bytes_row width
row_take [] left l h = refl
row_take (w ∷ ws) left l h =
    ap₂ ◌∷◌ (ap bytes_number (take-take w left l (omega (arith, h))))
    (ap (bytes_row ws) (drop_take w left l) ∙ row_take ws (left - w) (drop w l) (omega (arith, h)))

-- The part of an image that is left.
abbrev pub part : List ℕ → ℕ → ℕ → List ℕ
part bs at left = take left (drop at bs)

module _ (bs : List ℕ) (at left : ℕ) (inside : at + left ≤ length bs) where
  part_length : length (part bs at left) ≡ left
  part_length = length-take-le left (drop at bs) (rw length-drop (omega (arith, inside)))

  part_row : 44 ≤ left → bytes_row message_widths (part bs at left) ≡ bytes_row message_widths (drop at bs)
  part_row h = row_take message_widths left (drop at bs) (rw message_width h)

  part_payload : (p : ℕ) → 44 + p ≤ left → take p (drop 44 (part bs at left)) ≡ take p (drop (at + 44) bs)
  part_payload p h = ap (take p) (drop_take 44 left (drop at bs)) ∙ take-take p (left - 44) (drop 44 (drop at bs)) (omega (arith, h)) ∙ ap (take p) (drop-drop 44 at bs)

  part_rest : (p : ℕ) → drop (44 + p) (part bs at left) ≡ part bs (at + 44 + p) (left - 44 - p)
  part_rest p =
      let a : left - (44 + p) ≡ left - 44 - p = omega arith in
      let b : at + (44 + p) ≡ at + 44 + p = omega arith in
      drop_take (44 + p) left (drop at bs) ∙ ap₂ take a (drop-drop (44 + p) at bs ∙ ap (λ x. drop x bs) b)

-- ------------------------------------------------------------------ reading and judging

-- What reading n records in a part and judging them gives.
abbrev pub judged : ℕ → Option (List MessageRecord) → Option (List MessageRecord)
judged least o = and_then o (λ ms. only_if (right_from least ms) (some ms))

-- One more record in front.
abbrev fronted : MessageRecord → Option (List MessageRecord) → Option (List MessageRecord)
fronted m o = and_then o (λ rs. some (m ∷ rs))

pub none_some : {A G : Type 0} (a : A) → ◌≡◌ {A = Option A} none (some a) → G
none_some a e = absurd (let z : ◌≡◌ {A = ℕ} 0 1 = cc in omega arith)

front_none : (m : MessageRecord) (l : List MessageRecord) (t r : Bool) → ◌≡◌ {A = Option (List MessageRecord)} none (pick r (some l) none)
    → ◌≡◌ {A = Option (List MessageRecord)} none (pick (t && r) (some (m ∷ l)) none)
front_none m l t true e = none_some l e
front_none m l true false e = refl
front_none m l false false e = refl

front_some : (m : MessageRecord) (ms l : List MessageRecord) (t r b : Bool) → only_if b (some ms) ≡ pick r (some l) none → only_if (t && b) (some (m ∷ ms)) ≡ pick (t && r) (some (m ∷ l)) none
unfolding only_if
front_some m ms l true true true e = let g : ms ≡ l = cc in ap (λ x. some (m ∷ x)) g
front_some m ms l true true false e = none_some l e
front_some m ms l true false true e = none_some ms (sym e)
front_some m ms l true false false e = refl
front_some m ms l false r b e = refl

-- Whether the one in front is right, too.
judged_front : (least k : ℕ) (m : MessageRecord) (t r : Bool) (l : List MessageRecord) (o : Option (List MessageRecord))
    → ((ms : List MessageRecord) → right_from least (m ∷ ms) ≡ (t && right_from k ms))
    → judged k o ≡ pick r (some l) none → judged least (fronted m o) ≡ pick (t && r) (some (m ∷ l)) none
unfolding and_then
judged_front least k m t r l none f e = front_none m l t r e
judged_front least k m t r l (some ms) f e = ap (λ b. only_if b (some (m ∷ ms))) (f ms) ∙ front_some m ms l t r (right_from k ms) e

-- ---- the reader's clauses

abbrev row_of : List ℕ → List ℕ
row_of b = bytes_row message_widths b

abbrev length_of : List ℕ → ℕ
length_of b = get_or (row_of b) 12 0

abbrev first_of : List ℕ → MessageRecord
first_of b = message_of_row (row_of b) (take (length_of b) (drop 44 b))

read_suc : (n : ℕ) (b : List ℕ) → read_messages (suc n) b ≡ only_if (leb (44 + length_of b) (length b)) (fronted (first_of b) (read_messages n (drop (44 + length_of b) b)))
unfolding read_messages
read_suc n b = refl

read_over : (n least left : ℕ) (b : List ℕ) → length b ≡ left → left < 44 + length_of b → judged least (read_messages (suc n) b) ≡ none
unfolding only_if and_then
read_over n least left b e h =
    ap (judged least) (read_suc n b)
    ∙ ap (λ t. judged least (only_if t (fronted (first_of b) (read_messages n (drop (44 + length_of b) b))))) (lt-leb (44 + length_of b) (length b) (omega (arith, e, h)))

read_in : (n left : ℕ) (b : List ℕ) → length b ≡ left → 44 + length_of b ≤ left → read_messages (suc n) b ≡ fronted (first_of b) (read_messages n (drop (44 + length_of b) b))
unfolding only_if
read_in n left b e h =
    read_suc n b
    ∙ ap (λ t. only_if t (fronted (first_of b) (read_messages n (drop (44 + length_of b) b)))) (le-leb (44 + length_of b) (length b) (omega (arith, e, h)))

read_none : (least : ℕ) (b : List ℕ) (left : ℕ) → length b ≡ left → judged least (read_messages 0 b) ≡ pick (eqb left 0) (some []) none
unfolding read_messages and_then only_if right_from
read_none least [] left e = rw (← e)
read_none least (x ∷ xs) left e = rw (← e, ne_eqb (suc (length xs)) 0 (λ z. omega arith))

-- ---- a step by position

module _ (bs : List ℕ) (at left : ℕ) (inside : at + left ≤ length bs) where
  length_at : 44 ≤ left → length_of (part bs at left) ≡ (message_at bs at).length
  unfolding message_at
  length_at h = ap (λ r. get_or r 12 0) (part_row bs at left inside h)

  first_at : 44 + (message_at bs at).length ≤ left → first_of (part bs at left) ≡ record_at bs at
  unfolding record_at
  first_at h =
      let w : 44 ≤ left = omega (arith, h) in
      ap₂ (λ r x. message_of_row r (take x (drop 44 (part bs at left)))) (part_row bs at left inside w) (length_at w)
      ∙ ap (message_of_row (bytes_row message_widths (drop at bs))) (part_payload bs at left inside (message_at bs at).length h)

  rest_at : 44 ≤ left → drop (44 + length_of (part bs at left)) (part bs at left) ≡ part bs (at + 44 + (message_at bs at).length) (left - 44 - (message_at bs at).length)
  rest_at h = ap (λ x. drop (44 + x) (part bs at left)) (length_at h) ∙ part_rest bs at left inside (message_at bs at).length

  read_at : (n : ℕ) → 44 + (message_at bs at).length ≤ left
      → read_messages (suc n) (part bs at left) ≡ fronted (record_at bs at) (read_messages n (part bs (at + 44 + (message_at bs at).length) (left - 44 - (message_at bs at).length)))
  read_at n h =
      let w : 44 ≤ left = omega (arith, h) in
      let e : length_of (part bs at left) ≡ (message_at bs at).length = length_at w in
      read_in n left (part bs at left) (part_length bs at left inside) (omega (arith, h, e))
      ∙ ap₂ (λ m x. fronted m (read_messages n x)) (first_at h) (rest_at w)

  front_right : (least : ℕ) → 44 + (message_at bs at).length ≤ left → (ms : List MessageRecord)
      → right_from least (record_at bs at ∷ ms) ≡ ((leb least ((message_at bs at).id + 1) && message_right_words (message_at bs at) (leb least (message_at bs at).id)) && right_from ((message_at bs at).id + 1) ms)
  front_right least h ms =
      from_cons least (record_at bs at) ms
      ∙ sym (and_assoc (leb least ((record_at bs at).id + 1)) (message_right (leb least (record_at bs at).id) (record_at bs at)) (right_from ((record_at bs at).id + 1) ms))
      ∙ ap (λ i. leb least (i + 1) && message_right (leb least i) (record_at bs at) && right_from (i + 1) ms) (message_id_same bs at)
      ∙ ap (λ x. leb least ((message_at bs at).id + 1) && x && right_from ((message_at bs at).id + 1) ms) (message_same bs at (leb least (message_at bs at).id) (omega (arith, h, inside)))

-- ---- the rules by position

right_zero : (bs : List ℕ) (at left least : ℕ) → messages_right_words bs at left least 0 ≡ eqb left 0
unfolding messages_right_words
right_zero bs at left least = refl

module _ (bs : List ℕ) (at left least n : ℕ) where
  right_short : left < 44 → messages_right_words bs at left least (suc n) ≡ false
  unfolding messages_right_words
  right_short h = rw (lt-ltb _ _ h)

  right_over : 44 ≤ left → left - 44 < (message_at bs at).length → messages_right_words bs at left least (suc n) ≡ false
  unfolding messages_right_words
  right_over h k = rw (le-ltb _ _ h, lt-ltb _ _ k)

  right_in : 44 + (message_at bs at).length ≤ left → messages_right_words bs at left least (suc n)
      ≡ ((leb least ((message_at bs at).id + 1) && message_right_words (message_at bs at) (leb least (message_at bs at).id))
      && messages_right_words bs (at + 44 + (message_at bs at).length) (left - 44 - (message_at bs at).length) ((message_at bs at).id + 1) n)
  unfolding messages_right_words
  right_in h =
      let a : 44 ≤ left = omega (arith, h) in
      let b : (message_at bs at).length ≤ left - 44 = omega (arith, h) in
      rw (le-ltb left 44 a, le-ltb (left - 44) (message_at bs at).length b, le_not least ((message_at bs at).id + 1))
      (go (ltb ((message_at bs at).id + 1) least) (message_right_words (message_at bs at) (leb least (message_at bs at).id))
      (messages_right_words bs (at + 44 + (message_at bs at).length) (left - 44 - (message_at bs at).length) ((message_at bs at).id + 1) n))
    where
      go : (x y z : Bool) → pick x false (pick y z false) ≡ (not x && y && z)
      go true y z = refl
      go false true z = refl
      go false false z = refl

-- n records from `at` on, in the bytes that are left: read and judged.
abbrev Judged : List ℕ → ℕ → ℕ → ℕ → ℕ → Type 0
Judged bs at left least n = judged least (read_messages n (part bs at left)) ≡ pick (messages_right_words bs at left least n) (some (messages_from bs at n)) none

judged_in : (bs : List ℕ) (at left least n : ℕ) → at + left ≤ length bs → 44 + (message_at bs at).length ≤ left
    → Judged bs (at + 44 + (message_at bs at).length) (left - 44 - (message_at bs at).length) ((message_at bs at).id + 1) n → Judged bs at left least (suc n)
judged_in bs at left least n inside h ih =
    ap (judged least) (read_at bs at left inside n h)
    ∙ judged_front least ((message_at bs at).id + 1) (record_at bs at) (leb least ((message_at bs at).id + 1) && message_right_words (message_at bs at) (leb least (message_at bs at).id))
    (messages_right_words bs (at + 44 + (message_at bs at).length) (left - 44 - (message_at bs at).length) ((message_at bs at).id + 1) n) (messages_from bs (at + 44 + (message_at bs at).length) n)
    (read_messages n (part bs (at + 44 + (message_at bs at).length) (left - 44 - (message_at bs at).length))) (front_right bs at left inside least h) ih
    ∙ sym (ap₂ (λ b l. pick b (some l) none) (right_in bs at left least n h) (messages_step bs at n))

judged_out : (bs : List ℕ) (at left least n : ℕ) → at + left ≤ length bs → (44 + (message_at bs at).length ≤ left → ⊥) → Judged bs at left least (suc n)
judged_out bs at left least n inside out = by_lt left 44 short over
  where
    short : left < 44 → Judged bs at left least (suc n)
    short h = read_over n least left (part bs at left) (part_length bs at left inside) (omega (arith, h)) ∙ sym (ap (λ b. pick b (some (messages_from bs at (suc n))) none) (right_short bs at left least n h))

    over : 44 ≤ left → Judged bs at left least (suc n)
    over h =
        let e : length_of (part bs at left) ≡ (message_at bs at).length = length_at bs at left inside h in
        by_lt left (44 + (message_at bs at).length)
        (λ k. read_over n least left (part bs at left) (part_length bs at left inside) (omega (arith, k, e))
        ∙ sym (ap (λ b. pick b (some (messages_from bs at (suc n))) none) (right_over bs at left least n h (omega (arith, k, h)))))
        (λ k. absurd (out k))

pub messages_judged : (bs : List ℕ) (n at left least : ℕ) → at + left ≤ length bs → Judged bs at left least n
messages_judged bs zero at left least inside =
    read_none least (part bs at left) left (part_length bs at left inside) ∙ sym (ap₂ (λ b l. pick b (some l) none) (right_zero bs at left least) (messages_none bs at))
messages_judged bs (suc n) at left least inside = by_lt left (44 + (message_at bs at).length)
    (λ h. judged_out bs at left least n inside (λ k. omega (arith, h, k)))
    (λ h. judged_in bs at left least n inside h (messages_judged bs n (at + 44 + (message_at bs at).length) (left - 44 - (message_at bs at).length) ((message_at bs at).id + 1) (omega (arith, h, inside))))
