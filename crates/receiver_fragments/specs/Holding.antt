-- A fragment is held (document 02, 7/13): what is left, for any words and any store. Assumes nothing.
use Rattle.std.specs.Prelude.{ℕ, ◌+◌, Bool, true, List, leb}
use Rattle.queue_words.specs.Flags.{pick}
use Rattle.receiver_words.specs.Tables.{Header, Links, word_at, put_word}
use Rattle.receiver_words.specs.Ahead.{put_ahead}
use Rattle.receiver_words.specs.Window.{pass_all}
use Rattle.receiver_words.specs.Turns.{turn_at, put_turn}
use Rattle.receiver_words.specs.Fragments.{fragment_at, put_fragment}
use Rattle.receiver_words.specs.Chains.{take_free, link_newest}
use Rattle.receiver_words.specs.Index.{bucket_of, index_row}
use Rattle.receiver_words.specs.declared.fragments.Fragment.{Fragment}
use Rattle.receiver_store.specs.Putting.{put_payload}
use Rattle.receiver_messages.specs.Walks.{completes, mark_whole}
use Rattle.receiver_messages.specs.Readiness.{queue_up}

-- the words and the store
pub record Kept : Type 0 where
  pub words : List ℕ
  pub store : List ℕ

abbrev pub kept : List ℕ → List ℕ → Kept
kept ws st = record { words = ws; store = st }

-- row i, with the fragment f, is found by its TSN, and for I-DATA by its place
unfoldable pub index_held : List ℕ → Bool → Fragment → ℕ → List ℕ
index_held ws b f i =
    let ws' = index_row ws 0 (bucket_of 0 f) i in
    pick b (index_row ws' 1 (bucket_of 1 f) i) ws'

-- row i holds the fragment f, of no whole message: it is the newest, and is found
unfoldable pub link_held : List ℕ → Bool → Fragment → ℕ → List ℕ
link_held ws b f i = index_held (link_newest (put_word Links (put_fragment ws i f) i 2 0) i) b f i

-- the first free row, i, holds the fragment f with its payload bs
unfoldable pub hold : List ℕ → List ℕ → Bool → Fragment → List ℕ → ℕ → ℕ → Kept
hold ws st b f bs i held =
    let o = put_payload (take_free ws).words st i bs in
    kept (put_word Header (link_held o.words b f i) 0 4 (held + 1)) o.store

-- a TSN is accepted, and the last one without a gap moves on
unfoldable pub pass_tsn : List ℕ → ℕ → ℕ → List ℕ
pass_tsn ws t last = let p = pass_all (put_ahead ws t true) last in put_word Header p.words 0 2 p.last

-- the number that is next in the stream of row t, "from 0"
unfoldable pub next_of : List ℕ → ℕ → ℕ
next_of ws t = pick (leb (word_at Header ws 0 3) t) 0 (turn_at ws t).next

-- the stream of row t is known, with the number that is next in it
unfoldable pub set_turn : List ℕ → ℕ → ℕ → ℕ → List ℕ
set_turn ws t stream next =
    let ws' = put_turn ws t (record { id = record { 0 = stream }; next = next }) in
    pick (leb (word_at Header ws 0 3) t) (put_word Header ws' 0 3 (t + 1)) ws'

-- the message whose first row is h is whole: it waits or is ready, and what is next in the stream of row t moves on
unfoldable pub completed : List ℕ → Bool → ℕ → ℕ → ℕ → ℕ → List ℕ
completed ws b stream t h next =
    let ws' = mark_whole 4096 ws b h in
    let q = queue_up ws' b (fragment_at ws' h) h next in
    set_turn q.words t stream q.next

-- row i has come last, from the stream of row t
unfoldable pub settle : List ℕ → Bool → ℕ → ℕ → ℕ → List ℕ
settle ws b stream t i =
    let h = completes ws b i in
    pick (leb 4096 h) (set_turn ws t stream (next_of ws t)) (completed ws b stream t h (next_of ws t))
