-- The calls of a job are those of the model's job. Assumes nothing.
use mathlib.Core.Path.{◌≡◌, refl, ap, ap₂}
use mathlib.Core.Bool.{true}
use mathlib.Core.List.{List, [], ◌∷◌, map}
use Prim.Native.Nat.{ℕ, ◌≤◌}
use native.Mathlib.Omega.{arith}
use lib.ListN.{length}
use Rattle.queue_model.specs.Refusals.{event_places}
use Rattle.queue_model.specs.Run as run
use Rattle.queue_streams.specs.Events.{event_words}
use Rattle.queue_runs.specs.Calls.{Call, call_of}
use Rattle.queue_runs.specs.Meaning.{AllTyped, calls_of}
use Rattle.priority_plan.specs.Works.{planned_streams}
use Rattle.priority_plan.specs.Jobs as model
use Rattle.priority_plan.specs.Runs as requests
use Rattle.queue_plans.specs.Jobs.{priority_calls, settings, Adding, adding_call, Asking, asking_call, Later, ask, more, later_call, times, added_later, adding_of, addings_of}

-- ------------------------------------------------------------------ the model's

-- Words enough for the 2,305 places of an event list.
abbrev pub enough_words : ℕ
enough_words = event_words

-- The model's next fragment.
pub record Asked (len : ℕ) (x : Asking) : Type 0 where
  pub asking : model.Asking
  pub same_call : call_of len (asking_call x) ≡ model.asking_call asking
  pub same_store : asking.store ≡ len
  pub enough_places : enough_words ≤ length x.events → event_places ≤ asking.places
  pub same_buffer : asking.buffer ≡ length x.buffer
  pub same_time : asking.now ≡ x.time
  pub same_size : asking.size ≡ x.size

pub asked : (len : ℕ) (x : Asking) → Asked len x
asked len x = record { asking = record { store = _; places = _; buffer = _; now = _; size = _ }; same_call = refl; same_store = refl; enough_places = λ h. omega arith; same_buffer = refl; same_time = refl; same_size = refl }

abbrev pub asking_of : ℕ → Asking → model.Asking
asking_of len x = (asked len x).asking

pub later_of : ℕ → Later → model.Later
later_of len (ask x) = model.ask (asking_of len x)
later_of len (more a) = model.more (adding_of len a)

-- ------------------------------------------------------------------ the same calls

pub laters_link : (len : ℕ) (xs : List Later) → calls_of len (map later_call xs) ≡ map model.later_call (map (later_of len) xs)
unfolding later_of
laters_link len [] = refl
laters_link len (ask x ∷ xs) = ap₂ (λ (c : run.Call) (cs : List run.Call). c ∷ cs) (asked len x).same_call (laters_link len xs)
laters_link len (more a ∷ xs) = ap (λ (cs : List run.Call). call_of len (adding_call a) ∷ cs) (laters_link len xs)

pub addings_link : (len : ℕ) (ms : List Adding) → calls_of len (map adding_call ms) ≡ map model.adding_call (addings_of len ms)
addings_link len [] = refl
addings_link len (a ∷ ms) = ap (λ (cs : List run.Call). call_of len (adding_call a) ∷ cs) (addings_link len ms)

priorities_link : (len : ℕ) (ids sizes ps : List ℕ) → length ids ≡ length sizes → calls_of len (priority_calls ids ps) ≡ map model.setting_call (requests.priorities_of (planned_streams ids sizes) ps)
unfolding priority_calls requests.priorities_of planned_streams
priorities_link len [] [] [] e = refl
priorities_link len [] [] (p ∷ ps) e = refl
priorities_link len [] (n ∷ ns) ps e = absurd (omega arith)
priorities_link len (i ∷ is) [] ps e = absurd (omega arith)
priorities_link len (i ∷ is) (n ∷ ns) [] e = refl
priorities_link len (i ∷ is) (n ∷ ns) (p ∷ ps) e = ap (λ (cs : List run.Call). run.set_priority i p ∷ cs) (priorities_link len is ns ps (omega arith))

pub settings_link : (len : ℕ) (ids sizes ps : List ℕ) → length ids ≡ length sizes → calls_of len (settings ids ps) ≡ map model.setting_call (requests.plan_settings (planned_streams ids sizes) ps)
settings_link len ids sizes ps e = ap (λ (cs : List run.Call). run.set_interleaving true ∷ cs) (priorities_link len ids sizes ps e)

-- ------------------------------------------------------------------ times and messages

pub times_link : (len : ℕ) (xs : List Later) → model.times (map (later_of len) xs) ≡ times xs
unfolding later_of
times_link len [] = refl
times_link len (ask x ∷ xs) = ap₂ (λ (t : ℕ) (ts : List ℕ). t ∷ ts) (asked len x).same_time (times_link len xs)
times_link len (more a ∷ xs) = times_link len xs

pub added_link : (len : ℕ) (xs : List Later) → model.added_later (map (later_of len) xs) ≡ addings_of len (added_later xs)
unfolding later_of
added_link len [] = refl
added_link len (ask x ∷ xs) = added_link len xs
added_link len (more a ∷ xs) = ap (λ (as' : List model.Adding). adding_of len a ∷ as') (added_link len xs)

pub added_typed : (xs : List Later) → AllTyped (map later_call xs) → AllTyped (map adding_call (added_later xs))
added_typed [] t = tt
added_typed (ask x ∷ xs) t = added_typed xs t.1
added_typed (more a ∷ xs) t = (t.0, added_typed xs t.1)

-- Next fragments alone.
pub asks_same : (xs : List Asking) → map later_call (map ask xs) ≡ map asking_call xs
asks_same [] = refl
asks_same (x ∷ xs) = ap (λ (cs : List Call). asking_call x ∷ cs) (asks_same xs)

pub asks_link : (len : ℕ) (xs : List Asking) → map (later_of len) (map ask xs) ≡ map model.ask (map (asking_of len) xs)
unfolding later_of
asks_link len [] = refl
asks_link len (x ∷ xs) = ap (λ (ys : List model.Later). model.ask (asking_of len x) ∷ ys) (asks_link len xs)
