-- The ready ids on any words: at most 256, in an array of 256; and the question tells their count. Assumes nothing.
use mathlib.Core.Path.{◌≡◌, refl, ◌∙◌}
use mathlib.Core.Bool.{Bool, true, false}
use mathlib.Core.List.{List}
use Prim.Native.Nat.{ℕ, zero, suc, ◌≤◌}
use native.Mathlib.Omega.{arith}
use lib.ListN.{length, length-set, length-replicate}
use Rattle.queue_words.specs.Flags.{pick}
use Rattle.queue_words.specs.Header.{totals_at}
use Rattle.queue_words.specs.Known.{known_at}
use Rattle.queue_streams.specs.Call.{Call}
use Rattle.queue_streams.specs.Call.{Accepted, Refused}
use Rattle.queue_streams.specs.Number as number
use Rattle.queue_restarts.specs.Ready.{all_places_fit, paused_at, one_more, collected, refused_ready, marked_all, readied, ready, count_of, ready_count}
use Rattle.queue_restarts.specs.ReadyStreams.{ReadyStreams}
use Rattle.queue_restarts.proofs.Loops.{all_fit}

-- At most n ids, and 256 places.
pub record Few (n : ℕ) (r : ReadyStreams) : Type 0 where
  pub count_few : r.count ≤ n
  pub ids_long : length r.ids ≡ 256

collected_few : (ws : List ℕ) (n : ℕ) → Few n (collected ws n)
unfolding collected
collected_few ws zero = record { count_few = omega arith; ids_long = length-replicate {A = ℕ} 256 0 }
collected_few ws (suc n) = by (paused_at ws (known_at ws n).place) (collected_few ws n)
  where
    by : (b : Bool) → Few n (collected ws n) → Few (suc n) (pick b (one_more (collected ws n) (known_at ws n).id.0) (collected ws n))
    by true f = let l = f.count_few in record { count_few = omega arith; ids_long = length-set (collected ws n).ids (collected ws n).count (known_at ws n).id.0 ∙ f.ids_long }
    by false f = let l = f.count_few in record { count_few = omega arith; ids_long = f.ids_long }

pub ready_few : (ws : List ℕ) → Few 256 (ready ws).answer
unfolding ready
ready_few ws = by (all_places_fit ws (totals_at ws).known) refl
  where
    by : (b : Bool) → b ≡ all_places_fit ws (totals_at ws).known → Few 256 (pick b (readied (collected ws (totals_at ws).known) (marked_all ws (totals_at ws).known)) (readied refused_ready ws)).answer
    by true f = let c = collected_few ws (totals_at ws).known in let m = all_fit ws (totals_at ws).known true f refl in let l = c.count_few in record { count_few = omega arith; ids_long = c.ids_long }
    by false f = record { count_few = omega arith; ids_long = length-replicate {A = ℕ} 256 0 }

-- The question's definition, by the call's.
pub count_is : (ws : List ℕ) → ready_count ws ≡ count_of (ready ws).answer.answer (ready ws).answer.count
unfolding ready_count
count_is ws = refl

pub counted : (a : Call) (n m : ℕ) → count_of a n ≡ number.Value m → m ≡ n
counted (Accepted k) n m e = cc
counted (Refused k) n m e = let z : ◌≡◌ {A = ℕ} 0 1 = cc in absurd (omega arith)
