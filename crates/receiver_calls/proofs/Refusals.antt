-- Refused calls and repeats change nothing, and the numbers are listed ones. Assumes nothing.
use mathlib.Core.Path.{◌≡◌, refl, sym, ap, subst}
use mathlib.Core.Logic.{◌⊎◌, inl, inr}
use mathlib.Core.Bool.{Bool, true, false}
use mathlib.Core.List.{List}
use Prim.Native.Nat.{ℕ, ◌-◌, ◌<◌}
use native.Mathlib.Omega.{arith}
use lib.Dec.{eqb, ltb, leb}
use lib.ListN.{length}
use Rattle.queue_words.specs.Flags.{pick}
use Rattle.chunks.specs.declared.chunk.Chunk.{Chunk}
use Rattle.chunks.specs.declared.chunk.ChunkKind.{ChunkKind}
use Rattle.chunks.specs.declared.chunk.ChunkKind.TheVariants as kind
use Rattle.chunks.specs.ChunkRead.{ChunkRead}
use Rattle.chunks.specs.ChunkRead as read
use Rattle.std.specs.Prelude.{if◌then◌else◌}
use Rattle.queue_model.specs.Chunks.{chunk_type, padded}
use Rattle.big_endian.specs.Numbers.{number_at}
use Rattle.chunks.specs.Layout.{header_size}
use Rattle.chunks.specs.Reading.{chunk_at, read_as, read_typed, read_chunk, payload_of}
use Rattle.receiver_model.specs.Lists.{member, same_list}
use Rattle.receiver_model.specs.Tsn.{is_far}
use Rattle.receiver_words.specs.Tables.{Header, word_at}
use Rattle.receiver_words.specs.Fragments.{fragment_at}
use Rattle.receiver_words.specs.Index.{find_row}
use Rattle.receiver_words.specs.Search.{find_turn}
use Rattle.receiver_words.specs.declared.fragments.Fragment.{Fragment}
use Rattle.receiver_store.specs.Words.{place_of, size_of, used_of, end_of}
use Rattle.receiver_store.specs.Words as held
use Rattle.receiver_store.specs.Packing.{misplaced, start_of, pack_code}
use Rattle.receiver_store.specs.Putting.{room_code}
use Rattle.receiver_store.specs.Reading.{same_code}
use Rattle.receiver_messages.specs.Keys.{interleaved_of}
use Rattle.receiver_fragments.specs.declared.answers.Delivery.{Delivery}
use Rattle.receiver_fragments.specs.Received.{Received}
use Rattle.receiver_fragments.specs.Received as received
use Rattle.receiver_fragments.specs.Fetched.{Fetched}
use Rattle.receiver_fragments.specs.Fetched as fetched
use Rattle.receiver_fragments.specs.Checks.{last_of, same_fields, held_code, repeats, admit_code}
use Rattle.receiver_fragments.specs.Creating as creating
use Rattle.receiver_fragments.specs.Creating.{new_tables, new_header, create}
use Rattle.receiver_fragments.specs.Receiving as receiving
use Rattle.receiver_fragments.specs.Receiving.{receive_new, receive_fragment}
use Rattle.receiver_fragments.specs.Fetching as fetching
use Rattle.receiver_fragments.specs.Fetching.{take_out, size_by, fetch_first, fetch}
use Rattle.receiver_fragments.specs.Freeing.{measured}
use Rattle.receiver_calls.specs.Answers.{received_number, fetched_number}
use Rattle.receiver_calls.specs.Receiving.{fragment_of, of_kind, receive_read, receive_as, receive}
use Rattle.receiver_calls.specs.Promise.{creation_numbers, receiving_numbers, fetching_numbers, CallsRefused}

-- ------------------------------------------------------------------ the cases of an answer

abbrev received_case : Received → ℕ
received_case (received.Refused n) = 0
received_case received.Repeated = 1
received_case received.Accepted = 2

abbrev fetched_case : Fetched → ℕ
fetched_case (fetched.Refused n) = 0
fetched_case fetched.NoneReady = 1
fetched_case (fetched.Message d) = 2

-- ------------------------------------------------------------------ receiving

module _ (ws st : List ℕ) where
  record Kept (o : receiving.Outcome) : Type 0 where
    refused : (n : ℕ) → o.answer ≡ received.Refused n → (o.words ≡ ws) × ((o.store ≡ st) × (member n receiving_numbers ≡ true))
    repeated : o.answer ≡ received.Repeated → (o.words ≡ ws) × (o.store ≡ st)

  told : (k : ℕ) → member k receiving_numbers ≡ true → Kept (receiving.received (received.Refused k) ws st)
  told k m = record {
    refused = λ n e. (refl, (refl, subst (λ (x : ℕ). member x receiving_numbers ≡ true) (ap received_number e) m));
    repeated = λ e. absurd (let z = ap received_case e in omega arith);
  }

  told_again : Kept (receiving.received received.Repeated ws st)
  told_again = record {
    refused = λ n e. absurd (let z = ap received_case e in omega arith);
    repeated = λ e. (refl, refl);
  }

  taken : (ws' st' : List ℕ) → Kept (receiving.received received.Accepted ws' st')
  taken ws' st' = record {
    refused = λ n e. absurd (let z = ap received_case e in omega arith);
    repeated = λ e. absurd (let z = ap received_case e in omega arith);
  }

  either : (b : Bool) (x y : receiving.Outcome) → Kept x → Kept y → Kept (pick b x y)
  either true x y hx hy = hx
  either false x y hx hy = hy

  -- a test's number: 0 or a listed one
  abbrev Listed : ℕ → Type 0
  Listed n = (n ≡ 0) ⊎ (member n receiving_numbers ≡ true)

  one_of : (b : Bool) (x y : ℕ) → Listed x → Listed y → Listed (pick b x y)
  one_of true x y hx hy = hx
  one_of false x y hx hy = hy

  by_code : (code : ℕ) (y : receiving.Outcome) → Listed code → Kept y → Kept (pick (ltb 0 code) (receiving.received (received.Refused code) ws st) y)
  by_code code y (inr m) h = either (ltb 0 code) _ y (told code m) h
  by_code code y (inl z) h = subst (λ (k : ℕ). Kept (pick (ltb 0 k) (receiving.received (received.Refused k) ws st) y)) (sym z) h

  pack_listed : (len n : ℕ) → Listed (pack_code ws len n)
  unfolding pack_code member
  pack_listed len n = one_of (start_of ws len n).found 0 16 (inl refl) (inr refl)

  room_listed : (len n : ℕ) → Listed (room_code ws len n)
  unfolding room_code member
  room_listed len n =
      let c4 = pick (leb n (len - end_of ws)) 0 (pack_code ws len n) in
      let c3 = pick (ltb len (end_of ws)) 16 c4 in
      let c2 = pick (ltb (len - used_of ws) n) 23 c3 in
      one_of (ltb len (used_of ws)) 16 c2 (inr refl)
      (one_of (ltb (len - used_of ws) n) 23 c3 (inr refl)
      (one_of (ltb len (end_of ws)) 16 c4 (inr refl)
      (one_of (leb n (len - end_of ws)) 0 (pack_code ws len n) (inl refl) (pack_listed len n))))

  admit_listed : (len n t : ℕ) → Listed (admit_code ws len n t)
  unfolding admit_code member
  admit_listed len n t =
      let c3 = pick (eqb t 256) 23 (room_code ws len n) in
      let c2 = pick (ltb 256 t) 16 c3 in
      one_of (leb 4096 (word_at Header ws 0 4)) 23 c2 (inr refl)
      (one_of (ltb 256 t) 16 c3 (inr refl)
      (one_of (eqb t 256) 23 (room_code ws len n) (inr refl) (room_listed len n)))

  same_listed : (j : ℕ) (bs : List ℕ) → Listed (same_code ws st j bs)
  unfolding same_code member
  same_listed j bs =
      one_of (misplaced 0 (length st) (place_of ws j) (size_of ws j)) 16 (pick (same_list (held.payload_of ws st j) bs) 0 24) (inr refl)
      (one_of (same_list (held.payload_of ws st j) bs) 0 24 (inl refl) (inr refl))

  held_listed : (j : ℕ) (f : Fragment) (bs : List ℕ) → Listed (held_code ws st j f bs)
  unfolding held_code member
  held_listed j f bs = one_of (same_fields (fragment_at ws j) f) (same_code ws st j bs) 24 (same_listed j bs) (inr refl)

  new_kept : (b : Bool) (last : ℕ) (f : Fragment) (bs : List ℕ) → Kept (receive_new ws st b last f bs)
  unfolding receive_new member
  new_kept b last f bs =
      let t = find_turn ws f.stream.0 in
      let code = admit_code ws (length st) (length bs) t in
      let i = word_at Header ws 0 7 in
      let k = receiving.accept ws st b f bs i t in
      let no_row = receiving.received (received.Refused 16) ws st in
      let new = pick (leb 4096 i) no_row (receiving.accepted k) in
      either (is_far f.tsn last) (receiving.received (received.Refused 22) ws st) (pick (ltb 0 code) (receiving.received (received.Refused code) ws st) new) (told 22 refl)
      (by_code code new (admit_listed (length st) (length bs) t)
      (either (leb 4096 i) no_row (receiving.accepted k) (told 16 refl) (taken k.words k.store)))

  fragment_kept : (b : Bool) (f : Fragment) (bs : List ℕ) → Kept (receive_fragment ws st b f bs)
  unfolding receive_fragment
  fragment_kept b f bs =
      let j = find_row ws 0 f in
      let code = held_code ws st j f bs in
      let again = receiving.received received.Repeated ws st in
      let new = receive_new ws st b (last_of ws) f bs in
      either (ltb j 4096) (pick (ltb 0 code) (receiving.received (received.Refused code) ws st) again) (pick (repeats ws b (last_of ws) f) again new)
      (by_code code again (held_listed j f bs) told_again)
      (either (repeats ws b (last_of ws) f) again new told_again (new_kept b (last_of ws) f bs))

  read_kept : (c : Chunk) (bs : List ℕ) → Kept (receive_read ws st c bs)
  unfolding receive_read member
  read_kept c bs =
      let b = interleaved_of ws in
      either (of_kind c.kind b) (receive_fragment ws st b (fragment_of c) (payload_of c bs)) (receiving.received (received.Refused 19) ws st)
      (fragment_kept b (fragment_of c) (payload_of c bs))
      (told 19 refl)

  read_either : (t : Bool) (bs : List ℕ) (x y : ChunkRead) → Kept (receive_as ws st bs x) → Kept (receive_as ws st bs y) → Kept (receive_as ws st bs (if t then x else y))
  read_either true bs x y hx hy = hx
  read_either false bs x y hx hy = hy

  none_kept : (bs : List ℕ) → Kept (receive_as ws st bs (read.Refused 19))
  unfolding member
  none_kept bs = told 19 refl

  as_kept : (k : ChunkKind) (bs : List ℕ) (len : ℕ) → Kept (receive_as ws st bs (read_as k bs len))
  as_kept k bs len = read_either (ltb (header_size k) len) bs (read.Read (chunk_at k bs len)) (read.Refused 19) (read_kept (chunk_at k bs len) bs) (none_kept bs)

  typed_kept : (type : ℕ) (bs : List ℕ) (len : ℕ) → Kept (receive_as ws st bs (read_typed type bs len))
  typed_kept type bs len =
      read_either (eqb type (chunk_type false)) bs (read_as kind.Data bs len) (if eqb type (chunk_type true) then read_as kind.IData bs len else read.Refused 19)
      (as_kept kind.Data bs len)
      (read_either (eqb type (chunk_type true)) bs (read_as kind.IData bs len) (read.Refused 19) (as_kept kind.IData bs len) (none_kept bs))

  chunk_kept : (bs : List ℕ) → Kept (receive_as ws st bs (read_chunk bs))
  unfolding read_chunk
  chunk_kept bs =
      read_either (eqb (padded (number_at bs 2 2)) (length bs)) bs (read_typed (number_at bs 0 1) bs (number_at bs 2 2)) (read.Refused 19)
      (typed_kept (number_at bs 0 1) bs (number_at bs 2 2))
      (none_kept bs)

  receive_kept : (bs : List ℕ) → Kept (receive ws st bs)
  unfolding receive member
  receive_kept bs =
      either (eqb (length st) (word_at Header ws 0 1)) (receive_as ws st bs (read_chunk bs)) (receiving.received (received.Refused 2) ws st) (chunk_kept bs) (told 2 refl)

-- ------------------------------------------------------------------ fetching

module _ (ws out : List ℕ) where
  record Left (o : fetching.Outcome) : Type 0 where
    refused : (n : ℕ) → o.answer ≡ fetched.Refused n → (o.words ≡ ws) × ((o.buffer ≡ out) × (member n fetching_numbers ≡ true))
    nothing : o.answer ≡ fetched.NoneReady → (o.words ≡ ws) × (o.buffer ≡ out)

  said : (k : ℕ) → member k fetching_numbers ≡ true → Left (fetching.fetched (fetched.Refused k) ws out)
  said k m = record {
    refused = λ n e. (refl, (refl, subst (λ (x : ℕ). member x fetching_numbers ≡ true) (ap fetched_number e) m));
    nothing = λ e. absurd (let z = ap fetched_case e in omega arith);
  }

  said_none : Left (fetching.fetched fetched.NoneReady ws out)
  said_none = record {
    refused = λ n e. absurd (let z = ap fetched_case e in omega arith);
    nothing = λ e. (refl, refl);
  }

  handed : (d : Delivery) (ws' out' : List ℕ) → Left (fetching.fetched (fetched.Message d) ws' out')
  handed d ws' out' = record {
    refused = λ n e. absurd (let z = ap fetched_case e in omega arith);
    nothing = λ e. absurd (let z = ap fetched_case e in omega arith);
  }

  one : (b : Bool) (x y : fetching.Outcome) → Left x → Left y → Left (pick b x y)
  one true x y hx hy = hx
  one false x y hx hy = hy

  take_left : (st : List ℕ) (i n : ℕ) → Left (take_out ws st out i n)
  unfolding take_out
  take_left st i n = handed _ _ _

  first_left : (st : List ℕ) (i : ℕ) → Left (fetch_first ws st out i)
  unfolding fetch_first member
  first_left st i =
      let m = measured 4096 ws (interleaved_of ws) i (length st) (used_of ws) in
      let short = ltb (length out) (size_by ws m) in
      let some = take_out ws st out i (size_by ws m) in
      let none = fetching.fetched (fetched.Refused 10) ws out in
      one m.ok (pick short none some) (fetching.fetched (fetched.Refused 16) ws out)
      (one short none some (said 10 refl) (take_left st i (size_by ws m)))
      (said 16 refl)

  fetch_left : (st : List ℕ) → Left (fetch ws st out)
  unfolding fetch member
  fetch_left st =
      let i = word_at Header ws 0 10 in
      let none = fetching.fetched fetched.NoneReady ws out in
      one (eqb (length st) (word_at Header ws 0 1)) (pick (leb 4096 i) none (fetch_first ws st out i)) (fetching.fetched (fetched.Refused 2) ws out)
      (one (leb 4096 i) none (fetch_first ws st out i) said_none (first_left st i))
      (said 2 refl)

-- ------------------------------------------------------------------ creation

abbrev Made : List ℕ → creating.Outcome → Type 0
Made ws o = 0 < o.answer → (o.words ≡ ws) × (member o.answer creation_numbers ≡ true)

made : (ws : List ℕ) (b c : Bool) (ws' : List ℕ) → Made ws (pick b (creating.created 2 ws) (pick c (creating.created 2 ws) (creating.created 0 ws')))
unfolding member
made ws true c ws' h = (refl, refl)
made ws false true ws' h = (refl, refl)
made ws false false ws' h = absurd (omega arith)

create_made : (ws st : List ℕ) (b : Bool) (start : ℕ) → Made ws (create ws st b start)
unfolding create
create_made ws st b start = made ws (ltb (length st) 1) (ltb 2000000 (length st)) (new_header (new_tables ws) b (length st) start)

-- ------------------------------------------------------------------ all of them

pub calls_refused : CallsRefused
calls_refused = record {
  creation = create_made;
  receiving = λ ws st bs. (receive_kept ws st bs).refused;
  repeat = λ ws st bs. (receive_kept ws st bs).repeated;
  fetching = λ ws st out. (fetch_left ws out st).refused;
  none = λ ws st out. (fetch_left ws out st).nothing;
}
