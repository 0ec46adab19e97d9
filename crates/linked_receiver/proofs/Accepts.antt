-- A fragment that is accepted: held, its TSN passed, its message settled; the words stand for the model's receiver that accepted it. Assumes nothing.
use mathlib.Core.Path.{◌≡◌, refl, sym, ap, ◌∙◌, subst}
use mathlib.Core.Bool.{Bool, true, false, not}
use mathlib.Core.List.{List, [], ◌∷◌, map}
use mathlib.Core.Option.{Option, none, some}
use Prim.Native.Nat.{ℕ, zero, suc, ◌^◌, ◌<◌}
use native.Mathlib.Omega.{arith}
use borrow.Author.Tests.{leb-false, lt-leb}
use lib.Dec.{leb, eqb}
use lib.ListN.{length}
use Rattle.types.specs.Wrap.{wrap_suc}
use Rattle.queue_words.specs.Flags.{bit, pick}
use Rattle.receiver_model.specs.Lists.{count, keep, member}
use Rattle.receiver_model.specs.Types.{Kind, DATA, I-DATA, Chunk, Assembled, Receiver}
use Rattle.receiver_model.specs.Assembly.{width, whole_among, without_message}
use Rattle.receiver_model.specs.Receive.{Passed, pass, Queued, next_in, set_next}
use Rattle.receiver_model.specs.Receive as model
use Rattle.receiver_model.proofs.Lists.{Value, yes_is, no_is, value, keep_yes}
use Rattle.receiver_model.proofs.Pass.{pass_zero, pass_yes, pass_no}
use Rattle.receiver_model.proofs.Settled.{Distinct}
use Rattle.receiver_words.specs.Tables.{Header, word_at}
use Rattle.receiver_words.specs.Turns.{turn_at}
use Rattle.receiver_words.specs.Fragments.{fragment_at}
use Rattle.receiver_words.specs.Search.{turn_from}
use Rattle.receiver_words.specs.Chunks.{kind_of}
use Rattle.receiver_messages.specs.Keys.{interleaved_of}
use Rattle.receiver_messages.specs.Walks.{is_whole, reaches_last, completes, mark_whole}
use Rattle.receiver_messages.specs.Readiness.{queue_up}
use Rattle.receiver_store.specs.Words.{payload_of}
use Rattle.receiver_fragments.specs.Holding.{next_of, set_turn, completed, settle}
use Rattle.linked_receiver.specs.Rows.{Unique, loose_rows, tail_rows}
use Rattle.linked_receiver.specs.Good.{Ghost, GoodReceiver, chunk_in, stands}
use Rattle.linked_receiver.specs.Promise.{Represents}
use Rattle.linked_receiver.proofs.HeldRows.{held_row, held_few}
use Rattle.linked_receiver.proofs.Completes.{Completion, none_whole, one_whole, completes_law}
use Rattle.linked_receiver.proofs.HandsOut.{parts_indexed}
use Rattle.linked_receiver.proofs.Taken.{good_holds}
use Rattle.linked_receiver.proofs.Held.{with_loose}
use Rattle.linked_receiver.proofs.Others.{ahead_as}
use Rattle.linked_receiver.proofs.Moves.{with_window, with_turns, turn_from_same, TurnSet, sets_turn, next_is}
use Rattle.linked_receiver.proofs.Settles.{with_queues, rows_settled, settled_good, settled_stands, settled_next, settled_next_fits, settled_turns, settled_known, settled_kind}

-- ------------------------------------------------------------------ the model's clauses

module _ (c : Chunk) (r : Receiver) where
  abbrev pub passes : Passed
  passes = pass (suc (length r.ahead)) r.last_tsn (c.tsn ∷ r.ahead)

  -- held, and its TSN passed
  abbrev pub come : Receiver
  come = with_window passes.last_tsn passes.ahead (with_loose c r)

  pub accept_none : whole_among r.kind (c ∷ r.loose) (c ∷ r.loose) ≡ none → model.accept c r ≡ with_turns (set_next c.stream (next_in c.stream r.turns) r.turns) come
  unfolding model.accept model.settle
  accept_none e = ap (λ (o : Option Assembled). model.settle c passes r (c ∷ r.loose) o) e

  abbrev pub queued_by : Assembled → Queued
  queued_by a = model.queue_up a.head.unordered r.kind a (next_in c.stream r.turns) r.waiting r.ready

  pub accept_some : (a : Assembled) → whole_among r.kind (c ∷ r.loose) (c ∷ r.loose) ≡ some a
      → model.accept c r ≡ with_turns (set_next c.stream (queued_by a).next r.turns) (with_queues (without_message a (c ∷ r.loose)) (queued_by a) come)
  unfolding model.accept model.settle
  accept_some a e = ap (λ (o : Option Assembled). model.settle c passes r (c ∷ r.loose) o) e

pub pass_fits : (n last : ℕ) (ts : List ℕ) → last < 2 ^ 32 → (pass n last ts).last_tsn < 2 ^ 32
pass_fits zero last ts h = subst (λ (p : Passed). p.last_tsn < 2 ^ 32) (sym (pass_zero last ts)) h
pass_fits (suc n) last ts h = go (value (member (wrap_suc 32 last) ts)) (pass_fits n (wrap_suc 32 last) (keep (λ (a : ℕ). not (eqb a (wrap_suc 32 last))) ts) (omega arith))
  where
    go : Value (member (wrap_suc 32 last) ts) → (pass n (wrap_suc 32 last) (keep (λ (a : ℕ). not (eqb a (wrap_suc 32 last))) ts)).last_tsn < 2 ^ 32 → (pass (suc n) last ts).last_tsn < 2 ^ 32
    go (yes_is e) ih = subst (λ (p : Passed). p.last_tsn < 2 ^ 32) (sym (pass_yes n last ts e)) ih
    go (no_is e) ih = subst (λ (p : Passed). p.last_tsn < 2 ^ 32) (sym (pass_no n last ts e)) h

-- ------------------------------------------------------------------ the code's clauses

settle_none : (ws : List ℕ) (b : Bool) (s t i : ℕ) → completes ws b i ≡ 4096 → settle ws b s t i ≡ set_turn ws t s (next_of ws t)
unfolding settle
settle_none ws b s t i e = rw e

settle_some : (ws : List ℕ) (b : Bool) (s t i h : ℕ) → completes ws b i ≡ h → h < 4096
    → settle ws b s t i ≡ set_turn (queue_up (mark_whole 4096 ws b h) b (fragment_at (mark_whole 4096 ws b h) h) h (next_of ws t)).words t s (queue_up (mark_whole 4096 ws b h) b (fragment_at (mark_whole 4096 ws b h) h) h (next_of ws t)).next
unfolding settle completed
settle_some ws b s t i h e l = rw (e, lt-leb 4096 h l)

positive : (k : Kind) → 0 < 2 ^ width k
unfolding width
positive DATA = omega arith
positive I-DATA = omega arith

next_fits : (g : Ghost) (ws st : List ℕ) → GoodReceiver g ws st → (t : ℕ) → next_of ws t < 2 ^ width (kind_of (interleaved_of ws))
unfolding next_of
next_fits g ws st d t = go (value (leb (word_at Header ws 0 3) t))
  where
    go : Value (leb (word_at Header ws 0 3) t) → pick (leb (word_at Header ws 0 3) t) 0 (turn_at ws t).next < 2 ^ width (kind_of (interleaved_of ws))
    go (yes_is e) = rw e (positive (kind_of (interleaved_of ws)))
    go (no_is e) = rw e (d.next_fits t (leb-false (word_at Header ws 0 3) t e))

-- ------------------------------------------------------------------ settling, from good words whose newest row is i

abbrev tail_of : List Chunk → List Chunk
tail_of [] = []
tail_of (c ∷ cs) = cs

module _ (g : Ghost) (ws st : List ℕ) (d : GoodReceiver g ws st) (i : ℕ) (held : List ℕ) (held_is : g.held ≡ i ∷ held) (loose_i : is_whole ws i ≡ false) (c : Chunk) (cs : List Chunk)
    (chunks : (stands g ws st).loose ≡ c ∷ cs) (distinct : Distinct (kind_of (interleaved_of ws)) (c ∷ cs)) (none_yet : whole_among (kind_of (interleaved_of ws)) cs cs ≡ none) where
  abbrev b : Bool
  b = interleaved_of ws

  abbrev rest : List ℕ
  rest = loose_rows ws held

  newest : loose_rows ws g.held ≡ i ∷ rest
  newest = ap (loose_rows ws) held_is ∙ keep_yes (λ (x : ℕ). not (is_whole ws x)) i held (ap not loose_i)

  both_ways : chunk_in ws st i ∷ map (chunk_in ws st) rest ≡ c ∷ cs
  both_ways = sym (ap (map (chunk_in ws st)) newest) ∙ chunks

  unique : Unique ws (bit b) g.held
  unique = by b refl
    where
      by : (v : Bool) → interleaved_of ws ≡ v → Unique ws (bit v) g.held
      by true e = d.place_once e
      by false e = d.tsn_once

  completion : Completion ws b (payload_of ws st) g.held (held_row g ws st d) (parts_indexed ws st b g.held g.free (good_holds g ws st d)) (held_few g ws st d) unique d.tsn_once i rest newest
  completion =
      completes_law ws b (payload_of ws st) g.held (held_row g ws st d) (parts_indexed ws st b g.held g.free (good_holds g ws st d)) (held_few g ws st d) unique d.tsn_once i rest newest
      (subst (Distinct (kind_of b)) (sym both_ways) distinct)
      (subst (λ (ds : List Chunk). whole_among (kind_of b) ds ds ≡ none) (sym (ap tail_of both_ways)) none_yet)

  -- the loose fragments, of which the newest is the one that came
  abbrev r : Receiver
  r = stands g ws st

  abbrev queued_as : ℕ → Assembled → Queued
  queued_as n a = model.queue_up a.head.unordered (kind_of (interleaved_of ws)) a n r.waiting r.ready

  module _ (s t : ℕ) (id_fits : s < 65536) (at : t ≡ turn_from ws s 0 (word_at Header ws 0 3)) (inside : t < 256) where
    abbrev n : ℕ
    n = next_of ws t

    nf : n < 2 ^ width (kind_of (interleaved_of ws))
    nf = next_fits g ws st d t

    next_model : n ≡ next_in s r.turns
    next_model = next_is g ws st d s n t id_fits nf at inside

    -- what settling leaves, by the message that the model finds
    pub data SettledAs : Type 0 where
      as_none : whole_among (kind_of (interleaved_of ws)) (c ∷ cs) (c ∷ cs) ≡ none → Represents (settle ws (interleaved_of ws) s t i) st (with_turns (set_next s (next_in s r.turns) r.turns) r) → SettledAs
      as_some : (a : Assembled) → whole_among (kind_of (interleaved_of ws)) (c ∷ cs) (c ∷ cs) ≡ some a
          → Represents (settle ws (interleaved_of ws) s t i) st (with_turns (set_next s (queued_as (next_in s r.turns) a).next r.turns) (with_queues (without_message a (c ∷ cs)) (queued_as (next_in s r.turns) a) r))
          → SettledAs

    set_none : TurnSet g ws st d s n t id_fits nf at inside (set_turn ws t s n)
    set_none = sets_turn g ws st d s n t id_fits nf at inside

    module _ (h : ℕ) (lo : 0 < count h (loose_rows ws g.held)) (re : reaches_last 4096 ws b h ≡ true) where
      abbrev g3 : Ghost
      g3 = rows_settled g ws st d h lo re n nf

      abbrev w3 : List ℕ
      w3 = (queue_up (mark_whole 4096 ws (interleaved_of ws) h) (interleaved_of ws) (fragment_at (mark_whole 4096 ws (interleaved_of ws) h) h) h n).words

      abbrev n3 : ℕ
      n3 = (queue_up (mark_whole 4096 ws (interleaved_of ws) h) (interleaved_of ws) (fragment_at (mark_whole 4096 ws (interleaved_of ws) h) h) h n).next

      d3 : GoodReceiver g3 w3 st
      d3 = settled_good g ws st d h lo re n nf

      fits3 : n3 < 2 ^ width (kind_of (interleaved_of w3))
      fits3 = subst (λ (v : Bool). n3 < 2 ^ width (kind_of v)) (sym (settled_kind g ws st d h lo re n nf)) (settled_next_fits g ws st d h lo re n nf)

      at3 : t ≡ turn_from w3 s 0 (word_at Header w3 0 3)
      at3 =
          at
          ∙ sym (ap (turn_from w3 s 0) (settled_known g ws st d h lo re n nf)
          ∙ turn_from_same ws w3 s (word_at Header ws 0 3) 0 (let k = d.known_fits in omega arith) (settled_turns g ws st d h lo re n nf))

      set3 : TurnSet g3 w3 st d3 s n3 t id_fits fits3 at3 inside (set_turn w3 t s n3)
      set3 = sets_turn g3 w3 st d3 s n3 t id_fits fits3 at3 inside

      abbrev a3 : Assembled
      a3 = record { head = chunk_in ws st h; tail = map (chunk_in ws st) (tail_rows 4096 ws (interleaved_of ws) h) }

      stands3 : stands g3 w3 st ≡ with_queues (without_message a3 r.loose) (queued_as n a3) r
      stands3 = settled_stands g ws st d h lo re n nf

      turned3 : with_turns (set_next s n3 (stands g3 w3 st).turns) (stands g3 w3 st)
          ≡ with_turns (set_next s (queued_as (next_in s r.turns) a3).next r.turns) (with_queues (without_message a3 (c ∷ cs)) (queued_as (next_in s r.turns) a3) r)
      turned3 =
          (λ p. with_turns (set_next s (settled_next g ws st d h lo re n nf p) (stands3 p).turns) (stands3 p))
          ∙ (λ p. with_turns (set_next s (queued_as (next_model p) a3).next r.turns) (with_queues (without_message a3 (chunks p)) (queued_as (next_model p) a3) r))

    pub settles : SettledAs
    settles = go completion
      where
        among : whole_among (kind_of b) r.loose r.loose ≡ whole_among (kind_of b) (c ∷ cs) (c ∷ cs)
        among = ap (λ (ds : List Chunk). whole_among (kind_of b) ds ds) chunks

        go : Completion ws b (payload_of ws st) g.held (held_row g ws st d) (parts_indexed ws st b g.held g.free (good_holds g ws st d)) (held_few g ws st d) unique d.tsn_once i rest newest → SettledAs
        go (none_whole e w) = as_none (sym among ∙ w) (subst (λ (v : List ℕ). Represents v st (with_turns (set_next s (next_in s r.turns) r.turns) r)) (sym (settle_none ws b s t i e)) (record {
          rows = ahead_as g.ahead g;
          stands = record { good = set_none.good; is = set_none.is ∙ ap (λ (k : ℕ). with_turns (set_next s k r.turns) r) next_model };
        }))
        go (one_whole h e l lo be re w) = as_some (a3 h lo re) (sym among ∙ w)
            (subst (λ (v : List ℕ). Represents v st (with_turns (set_next s (queued_as (next_in s r.turns) (a3 h lo re)).next r.turns) (with_queues (without_message (a3 h lo re) (c ∷ cs)) (queued_as (next_in s r.turns) (a3 h lo re)) r)))
            (sym (settle_some ws b s t i h e l)) (record {
              rows = ahead_as (g3 h lo re).ahead (g3 h lo re);
              stands = record { good = (set3 h lo re).good; is = (set3 h lo re).is ∙ turned3 h lo re };
            }))
