-- A store that is not of its creation length gets 2, on any words: one theorem for the calls that are lent it. Assumes nothing.
use mathlib.Core.Path.{◌≡◌, refl}
use mathlib.Core.Bool.{Bool, true, false, not, ◌||◌}
use mathlib.Core.List.{List}
use Prim.Native.Nat.{ℕ}
use lib.ListN.{length}
use borrow.Author.Tests.{ne_eqb}
use lib.Dec.{ltb}
use Rattle.queue_words.specs.Header.{options_at}
use Rattle.queue_messages.specs.Add as adding
use Rattle.queue_messages.specs.declared.message.Message.{Message}
use Rattle.queue_sending.specs.Produce.{produce_code, produce_next}
use Rattle.packets.specs.declared.packet.Packet.{Packet}
use Rattle.packets.specs.Filling.{fill_code, filled_number, fill_packet}
use Rattle.handover.specs.Restore as restoring
use Rattle.queue_runs.specs.Calls.{add, produce, fill, discard, close, ready_ids, commit, rollback, reset, set_threshold, set_priority, set_interleaving, restore, ask_priority, ask_amount, ask_threshold, ask_total, ask_empty, ask_has_data, ask_streams_ready, ask_ready_count, ask_readiness, ask_room}
use Rattle.queue_runs.specs.Run.{step}
use Rattle.queue_streams.specs.Answers.{call_number}
use Rattle.queue_sending.specs.Data.{produced_number}
use Rattle.queue_runs.specs.Numbers.{OtherStore}
use Rattle.payload_store.proofs.Cases.{false_true}

add_other : (ws st : List ℕ) (time : ℕ) (m : Message) (bs : List ℕ) → ((options_at ws).store_length ≡ length st → ⊥) → call_number (adding.add ws st time m bs).answer ≡ 2
unfolding adding.add adding.arguments_code
add_other ws st time m bs h = rw (ne_eqb (options_at ws).store_length (length st) h)

produce_other : (ws st es bs : List ℕ) (time size : ℕ) → ((options_at ws).store_length ≡ length st → ⊥) → produced_number (produce_next ws st es bs time size).answer ≡ 2
unfolding produce_next produce_code
produce_other ws st es bs time size h = rw (ne_eqb (options_at ws).store_length (length st) h)

fill_other : (ws st es bs : List ℕ) (time : ℕ) (p : Packet) → not (ltb p.limit 36 || (ltb 65535 p.limit || ltb (length bs) p.limit)) ≡ true → ((options_at ws).store_length ≡ length st → ⊥)
    → filled_number (fill_packet ws st es bs time p).answer ≡ 2
unfolding fill_packet fill_code
fill_other ws st es bs time p e h = go (ltb p.limit 36) (ltb 65535 p.limit) (ltb (length bs) p.limit) refl refl refl e
  where
    go : (a b c : Bool) → ltb p.limit 36 ≡ a → ltb 65535 p.limit ≡ b → ltb (length bs) p.limit ≡ c → not (a || (b || c)) ≡ true → filled_number (fill_packet ws st es bs time p).answer ≡ 2
    go true b c ea eb ec f = false_true f
    go false true c ea eb ec f = false_true f
    go false false true ea eb ec f = false_true f
    go false false false ea eb ec f = rw (ea, eb, ec, ne_eqb (options_at ws).store_length (length st) h)

restore_other : (ws st : List ℕ) (time : ℕ) (bs : List ℕ) → ((options_at ws).store_length ≡ length st → ⊥) → call_number (restoring.restore ws st time bs).answer ≡ 2
unfolding restoring.restore restoring.restore_code
restore_other ws st time bs h = rw (ne_eqb (options_at ws).store_length (length st) h)

pub other_store : OtherStore
unfolding step
other_store (add time m payload) s e h = add_other s.words s.store time m payload h
other_store (produce es bs time size) s e h = produce_other s.words s.store es bs time size h
other_store (fill es bs time p) s e h = fill_other s.words s.store es bs time p e h
other_store (discard es id k) s e h = false_true e
other_store (close es id) s e h = false_true e
other_store ready_ids s e h = false_true e
other_store commit s e h = false_true e
other_store rollback s e h = false_true e
other_store reset s e h = false_true e
other_store (set_threshold es id t) s e h = false_true e
other_store (set_priority id p) s e h = false_true e
other_store (set_interleaving b) s e h = false_true e
other_store (restore time image) s e h = restore_other s.words s.store time image h
other_store (ask_priority id) s e h = false_true e
other_store (ask_amount id) s e h = false_true e
other_store (ask_threshold id) s e h = false_true e
other_store ask_total s e h = false_true e
other_store ask_empty s e h = false_true e
other_store ask_has_data s e h = false_true e
other_store ask_streams_ready s e h = false_true e
other_store ask_ready_count s e h = false_true e
other_store ask_readiness s e h = false_true e
other_store (ask_room r) s e h = false_true e
