-- Receiving a fragment (document 02, 7/13): what is answered and left, for any words, any store and any payload. Assumes nothing.
use Rattle.std.specs.Prelude.{ℕ, Bool, List, ltb, leb, length}
use Rattle.queue_words.specs.Flags.{pick}
use Rattle.receiver_model.specs.Tsn.{is_far}
use Rattle.receiver_words.specs.Tables.{Header, word_at}
use Rattle.receiver_words.specs.Index.{find_row}
use Rattle.receiver_words.specs.Search.{find_turn}
use Rattle.receiver_words.specs.declared.fragments.Fragment.{Fragment}
use Rattle.receiver_fragments.specs.Received.{Received}
use Rattle.receiver_fragments.specs.Received.{Refused, Repeated, Accepted}
use Rattle.receiver_fragments.specs.Checks.{last_of, held_code, repeats, admit_code}
use Rattle.receiver_fragments.specs.Holding.{Kept, kept, hold, pass_tsn, settle}

-- the answer, the words and the store
pub record Outcome : Type 0 where
  pub answer : Received
  pub words : List ℕ
  pub store : List ℕ

abbrev pub received : Received → List ℕ → List ℕ → Outcome
received a ws st = record { answer = a; words = ws; store = st }

-- the fragment f is accepted into the free row i, from the stream of row t
unfoldable pub accept : List ℕ → List ℕ → Bool → Fragment → List ℕ → ℕ → ℕ → Kept
accept ws st b f bs i t =
    let k = hold ws st b f bs i (word_at Header ws 0 4) in
    kept (settle (pass_tsn k.words f.tsn (last_of ws)) b f.stream.0 t i) k.store

abbrev pub accepted : Kept → Outcome
accepted k = received Accepted k.words k.store

-- a fragment that is no repeat: "22 when the TSN is more than 1,024 past", 23, 16 where no row is free, or accepted
unfoldable pub receive_new : List ℕ → List ℕ → Bool → ℕ → Fragment → List ℕ → Outcome
receive_new ws st b last f bs =
    let t = find_turn ws f.stream.0 in
    let code = admit_code ws (length st) (length bs) t in
    pick (is_far f.tsn last) (received (Refused 22) ws st)
    (pick (ltb 0 code) (received (Refused code) ws st)
    (pick (leb 4096 (word_at Header ws 0 7)) (received (Refused 16) ws st)
    (accepted (accept ws st b f bs (word_at Header ws 0 7) t))))

-- 24; "Repeats change nothing and are answered so"; then what a new fragment gets
unfoldable pub receive_fragment : List ℕ → List ℕ → Bool → Fragment → List ℕ → Outcome
receive_fragment ws st b f bs =
    let j = find_row ws 0 f in
    pick (ltb j 4096)
    (pick (ltb 0 (held_code ws st j f bs)) (received (Refused (held_code ws st j f bs)) ws st) (received Repeated ws st))
    (pick (repeats ws b (last_of ws) f) (received Repeated ws st) (receive_new ws st b (last_of ws) f bs))
