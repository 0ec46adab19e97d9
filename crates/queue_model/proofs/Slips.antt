-- Document 01's likely slips, as theorems that rule each out on every queue: "MID 0 read as no MID; a priority applied at its setting; free space judged
-- by the longest gap;
-- the lifetime without its extra millisecond". Assumes nothing.
use mathlib.Core.Path.{◌≡◌, refl, ap}
use mathlib.Core.Bool.{Bool, true, false}
use mathlib.Core.List.{[]}
use mathlib.Core.Option.{Option, none, some}
use Prim.Native.Nat.{ℕ, suc, ◌+◌, ◌≤◌, ◌<◌}
use native.Mathlib.Omega.{arith}
use Rattle.queue_model.specs.Logic.{is_some}
use Rattle.queue_model.specs.Types.{done, with_priority, Item, Counters, Queue, reply, expired}
use Rattle.queue_model.specs.Streams.{know, stream_at, occupied, free_bytes}
use Rattle.queue_model.specs.Refusals.{first_refusal, refused_or, checked, store_full}
use Rattle.queue_model.specs.Add.{expiry}
use Rattle.queue_model.specs.Produce.{numbered_in, numbered}
use Rattle.queue_model.specs.Settings.{priority_checks, set_priority}
use Rattle.queue_model.specs.Image.{MessageRecord, message_record}
use Rattle.queue_model.specs.Reader.{has_flag}
use Rattle.queue_model.specs.Restore.{give, restored_item}
use Rattle.queue_model.proofs.Tests.{ltb_true, ltb_false}
use Rattle.queue_model.proofs.Image.Saved.{flags, flags_read}

-- A message with a MID, whatever number it is, keeps it, and no counter moves.
pub mid_kept : (c : Counters) (i : Item) (m : ℕ) → i.mid ≡ some m → numbered c i ≡ record { item = i; counters = c }
unfolding numbered
mid_kept c i m e = ap (λ (x : Option ℕ). numbered_in x c i) e

-- A saved message has the flag of a MID exactly if it has one, MID 0 too; a restored one has a MID exactly where the flag says so.
pub mid_saved : (now k : ℕ) (i : Item) → has_flag 2 (message_record now k i).flags ≡ is_some i.mid
unfolding message_record flags
mid_saved now k i = (flags_read i.unordered (is_some i.mid) (is_some i.expires_at)).reads_mid

pub mid_restored : (now : ℕ) (r : MessageRecord) → has_flag 2 r.flags ≡ true → (restored_item now r).mid ≡ some r.mid
unfolding restored_item give
mid_restored now r e = ap (λ (b : Bool). give b r.mid) e

pub no_mid_restored : (now : ℕ) (r : MessageRecord) → has_flag 2 r.flags ≡ false → (restored_item now r).mid ≡ none
unfolding restored_item give
no_mid_restored now r e = ap (λ (b : Bool). give b r.mid) e

-- Setting a priority leaves the scheduler as it was, refused or not.
pub priority_waits : (k p : ℕ) (q : Queue) → (set_priority k p q).next.scheduler ≡ q.scheduler
unfolding set_priority checked refused_or
priority_waits k p q = go (first_refusal (priority_checks k q))
  where
    go : (x : Option ℕ) → (refused_or x q (reply done [] (know q (with_priority p (stream_at q k))))).next.scheduler ≡ q.scheduler
    go none = refl
    go (some n) = refl

-- Free bytes and occupied ones are the whole store, and a payload has room exactly if it is no longer than the free bytes, however they lie.
pub free_together : (q : Queue) → occupied q.streams ≤ q.options.store_length → free_bytes q + occupied q.streams ≡ q.options.store_length
unfolding free_bytes
free_together q h = omega arith

pub room_for_lem : (q : Queue) (n : ℕ) → n + occupied q.streams ≤ q.options.store_length → (store_full q n).applies ≡ false
unfolding free_bytes
room_for_lem q n h = let g : n ≤ free_bytes q = omega arith in ltb_false g

pub no_room_for : (q : Queue) (n : ℕ) → q.options.store_length < n + occupied q.streams → 0 < n → (store_full q n).applies ≡ true
unfolding free_bytes
no_room_for q n h p = let g : free_bytes q < n = omega arith in ltb_true g

-- A message with a lifetime is there for all of it and for less than a millisecond more.
pub lives : (added lifetime now : ℕ) → now < added + lifetime + 1000000 → expired now (expiry added (some lifetime)) ≡ false
unfolding expiry
lives a l now h = let g : suc now ≤ a + l + 1000000 = omega arith in ltb_false g

pub ends : (added lifetime now : ℕ) → added + lifetime + 1000000 ≤ now → expired now (expiry added (some lifetime)) ≡ true
unfolding expiry
ends a l now h = let g : a + l + 1000000 < suc now = omega arith in ltb_true g
