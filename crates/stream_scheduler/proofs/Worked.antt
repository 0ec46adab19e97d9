-- Document 01's examples that concern the scheduler hold on the words: through the link, and by computation on the model. Assumes nothing.
use mathlib.Core.Path.{◌≡◌, refl, sym, ap, ap₂, ◌∙◌, subst}
use mathlib.Core.List.{List, [], ◌∷◌, ◌++◌, map}
use mathlib.Core.Option.{Option, none, some}
use Prim.Native.Nat.{ℕ, suc, ◌+◌, ◌≤◌, ◌<◌, min}
use native.Mathlib.Omega.{arith}
use lib.ListN.{length}
use Rattle.queue_model.specs.Types.{Active, Scheduler}
use Rattle.queue_model.specs.Scheduler.{cost, set_bytes_remaining, peek, accept, new_scheduler}
use Rattle.queue_words.specs.Header.{options_at, put_options, FitsOptions, scheduler_at, put_scheduler}
use Rattle.queue_words.specs.declared.header.Options.{Options}
use Rattle.queue_words.specs.declared.header.SchedulerState.{SchedulerState}
use Rattle.queue_words.proofs.Laws.{whole_put_options, whole_put_scheduler, options_at_put, scheduler_at_put, options_put_scheduler}
use Rattle.queue_words.specs.declared.active.SchedulingParameters.{SchedulingParameters}
use Rattle.queue_words.specs.declared.active.SchedulingParameters.TheVariants.{RoundRobin, WeightedFairQueuing}
use Rattle.stream_scheduler.specs.declared.Peeked.{Peeked}
use Rattle.stream_scheduler.specs.declared.Peeked.TheVariants.{At, Nothing, Broken}
use Rattle.stream_scheduler.specs.Rows.{weight_of_words, advanced}
use Rattle.stream_scheduler.specs.Words.{peek_words, set_bytes_remaining_words, accept_at}
use Rattle.stream_scheduler.specs.Link.{entry_at, table_of, current_of, model_scheduler, GoodScheduler, at_rest, FitsParameters, free, Chooses, row_chosen, none_chosen}
use Rattle.stream_scheduler.proofs.Link.{set_link}
use Rattle.stream_scheduler.proofs.Handing.{accept_link, peek_link}

-- A stream let wait, or a fragment of at most so many bytes asked for.
pub data Move : Type 0 where
  wait : (id bytes : ℕ) → SchedulingParameters → Move
  send : (asked : ℕ) → Move

-- What is sent: the stream and the bytes.
pub record Sent : Type 0 where
  pub stream : ℕ
  pub bytes : ℕ

-- Of the chosen entry: what is sent of it.
abbrev pub sent_of : Active → ℕ → Sent
sent_of a asked = record { stream = a.stream_id; bytes = min a.bytes_remaining asked }

-- On the words: the words after a move, and what it sends.
pub sent : List ℕ → ℕ → Peeked → List ℕ
sent ws asked (At i) = (accept_at ws i (min (entry_at ws i).bytes_remaining asked)).next
sent ws asked Nothing = ws
sent ws asked Broken = ws

pub played : Move → List ℕ → List ℕ
unfolding sent
played (wait id bytes p) ws = (set_bytes_remaining_words ws id bytes p).next
played (send asked) ws = sent ws asked (peek_words ws)

pub chosen : List ℕ → ℕ → Peeked → List Sent
chosen ws asked (At i) = sent_of (entry_at ws i) asked ∷ []
chosen ws asked Nothing = []
chosen ws asked Broken = []

pub shows : Move → List ℕ → List Sent
unfolding chosen
shows (wait id bytes p) ws = []
shows (send asked) ws = chosen ws asked (peek_words ws)

-- What a list of moves sends, and the words after it.
pub order : List Move → List ℕ → List Sent
unfolding shows played
order [] ws = []
order (m ∷ ms) ws = shows m ws ++ order ms (played m ws)

pub after : List Move → List ℕ → List ℕ
unfolding played
after [] ws = ws
after (m ∷ ms) ws = after ms (played m ws)

-- The same on the model.
pub model_sent : Scheduler → ℕ → Option Active → Scheduler
model_sent sc asked none = sc
model_sent sc asked (some a) = accept a (min a.bytes_remaining asked) sc

pub model_played : Move → Scheduler → Scheduler
unfolding model_sent
model_played (wait id bytes p) sc = set_bytes_remaining id bytes (weight_of_words p) sc
model_played (send asked) sc = model_sent sc asked (peek sc)

pub model_chosen : ℕ → Option Active → List Sent
model_chosen asked none = []
model_chosen asked (some a) = sent_of a asked ∷ []

pub model_shows : Move → Scheduler → List Sent
unfolding model_chosen
model_shows (wait id bytes p) sc = []
model_shows (send asked) sc = model_chosen asked (peek sc)

pub model_order : List Move → Scheduler → List Sent
unfolding model_shows model_played
model_order [] sc = []
model_order (m ∷ ms) sc = model_shows m sc ++ model_order ms (model_played m sc)

pub model_after : List Move → Scheduler → Scheduler
unfolding model_played
model_after [] sc = sc
model_after (m ∷ ms) sc = model_after ms (model_played m sc)

-- ---- a move is the model's

abbrev pub Fits : Move → Type 0
Fits (wait id bytes p) = (id < 65536) × FitsParameters p
Fits (send asked) = Unit {0}

abbrev pub AllFit : List Move → Type 0
AllFit [] = Unit {0}
AllFit (m ∷ ms) = Fits m × AllFit ms

record Goes (ws : List ℕ) (m : Move) : Type 0 where
  goes_good : GoodScheduler (played m ws)
  goes_model : model_scheduler (played m ws) ≡ model_played m (model_scheduler ws)
  goes_shows : shows m ws ≡ model_shows m (model_scheduler ws)
  goes_count : (scheduler_at (played m ws)).active ≤ suc (scheduler_at ws).active

goes_send : (ws : List ℕ) (asked : ℕ) (p : Peeked) → GoodScheduler ws → Chooses ws (peek (model_scheduler ws)) p → peek_words ws ≡ p → Goes ws (send asked)
unfolding played sent model_played model_sent shows chosen model_shows model_chosen
goes_send ws asked p g (row_chosen i h e) q =
    let l = accept_link ws g i (min (entry_at ws i).bytes_remaining asked) h in
    let w : played (send asked) ws ≡ (accept_at ws i (min (entry_at ws i).bytes_remaining asked)).next = ap (sent ws asked) q in
    record {
      goes_good = subst GoodScheduler (sym w) l.step_good;
      goes_model = ap model_scheduler w ∙ l.step_model ∙ sym (ap (model_sent (model_scheduler ws) asked) e);
      goes_shows = ap (chosen ws asked) q ∙ sym (ap (model_chosen asked) e);
      goes_count = subst (λ (x : List ℕ). (scheduler_at x).active ≤ suc (scheduler_at ws).active) (sym w) l.step_count;
    }
goes_send ws asked p g (none_chosen e) q =
    let w : played (send asked) ws ≡ ws = ap (sent ws asked) q in
    record {
      goes_good = subst GoodScheduler (sym w) g;
      goes_model = ap model_scheduler w ∙ sym (ap (model_sent (model_scheduler ws) asked) e);
      goes_shows = ap (chosen ws asked) q ∙ sym (ap (model_chosen asked) e);
      goes_count = subst (λ (x : List ℕ). (scheduler_at x).active ≤ suc (scheduler_at ws).active) (sym w) (omega arith);
    }

goes : (m : Move) (ws : List ℕ) → GoodScheduler ws → Fits m → (scheduler_at ws).active < 256 → Goes ws m
unfolding played model_played shows model_shows
goes (wait id bytes p) ws g f h = let l = set_link ws g id bytes p f.0 f.1 (free h) in record { goes_good = l.step_good; goes_model = l.step_model; goes_shows = refl; goes_count = l.step_count }
goes (send asked) ws g f h = goes_send ws asked (peek_words ws) g (peek_link ws g) refl

-- ---- lists of moves

pub plays : (ms : List Move) (ws : List ℕ) → GoodScheduler ws → AllFit ms → (scheduler_at ws).active + length ms ≤ 256 → order ms ws ≡ model_order ms (model_scheduler ws)
unfolding order model_order
plays [] ws g f h = refl
plays (m ∷ ms) ws g f h =
    let s = goes m ws g f.0 (omega arith) in let c = s.goes_count in
    ap₂ ◌++◌ s.goes_shows (plays ms (played m ws) s.goes_good f.1 (omega arith) ∙ ap (model_order ms) s.goes_model)

pub leads : (ms : List Move) (ws : List ℕ) → GoodScheduler ws → AllFit ms → (scheduler_at ws).active + length ms ≤ 256 → model_scheduler (after ms ws) ≡ model_after ms (model_scheduler ws)
unfolding after model_after
leads [] ws g f h = refl
leads (m ∷ ms) ws g f h =
    let s = goes m ws g f.0 (omega arith) in let c = s.goes_count in
    leads ms (played m ws) s.goes_good f.1 (omega arith) ∙ ap (model_after ms) s.goes_model

-- ---- the examples

abbrev pub sends : ℕ → ℕ → Sent
sends id bytes = record { stream = id; bytes = bytes }

pub turns : List Move
turns = wait 5 1500 RoundRobin ∷ wait 3 1500 RoundRobin ∷ send 1000 ∷ send 1000 ∷ send 1000 ∷ send 1000 ∷ []

pub weights : List Move
weights = wait 5 1500 (WeightedFairQueuing 512) ∷ wait 3 1500 (WeightedFairQueuing 256) ∷ []

pub four : List Move
four = send 1000 ∷ send 1000 ∷ send 1000 ∷ send 1000 ∷ []

pub finishes : Scheduler → List ℕ
finishes sc = map (λ a. a.finish) sc.active

-- Words whose scheduler is a new one's with this payload limit.
pub record Start (limit : ℕ) (ws : List ℕ) : Type 0 where
  start_good : GoodScheduler ws
  start_none : (scheduler_at ws).active ≡ 0
  start_model : model_scheduler ws ≡ new_scheduler limit

seen : List ℕ → ℕ → SchedulerState → Scheduler
seen ws n x = record { payload_limit = n; current = current_of x.current; system_time = x.system_virtual_time; active = table_of (entry_at ws) x.active }

-- Such words there are: every words of the right length with these two parts stored.
pub starts : (ws : List ℕ) (o : Options) → length ws ≡ 20768 → FitsOptions o → Start o.payload_limit (put_scheduler (put_options ws o) at_rest)
unfolding model_scheduler seen table_of current_of new_scheduler
starts ws o l f =
    let l' : length (put_options ws o) ≡ 20768 = whole_put_options ws o ∙ l in
    let s : scheduler_at (put_scheduler (put_options ws o) at_rest) ≡ at_rest = scheduler_at_put (put_options ws o) at_rest l' tt in
    let p : (options_at (put_scheduler (put_options ws o) at_rest)).payload_limit ≡ o.payload_limit = ap (λ (x : Options). x.payload_limit) (options_put_scheduler (put_options ws o) at_rest ∙ options_at_put ws o l f) in
    let z : (scheduler_at (put_scheduler (put_options ws o) at_rest)).active ≡ 0 = ap (λ (x : SchedulerState). x.active) s in
    record {
      start_good = record { long = whole_put_scheduler (put_options ws o) at_rest ∙ l'; few = omega arith; unlike = λ i j h k q. omega arith; leasts = λ i h j k. absurd (omega arith) };
      start_none = z;
      start_model = ap₂ (seen (put_scheduler (put_options ws o) at_rest)) p s;
    }

-- "two 1,500-byte messages, on 5 then 3: without interleaving sent 3, 3, 5, 5 as 1,000 and 500."
pub by_turns : (ws : List ℕ) → Start 1000 ws → order turns ws ≡ sends 3 1000 ∷ sends 3 500 ∷ sends 5 1000 ∷ sends 5 500 ∷ []
unfolding turns model_order new_scheduler peek set_bytes_remaining accept
by_turns ws s =
    let z = s.start_none in
    plays turns ws s.start_good ((omega arith, tt), ((omega arith, tt), (tt, (tt, (tt, (tt, tt)))))) (omega arith) ∙ ap (model_order turns) s.start_model

-- "With it, weights 512 on 5 and 256 on 3: 5, 5, 3, 3; finish times 1,953,125, 2,929,687, then 3,906,250."
pub by_weights : (ws : List ℕ) → Start 1000 ws → order (weights ++ four) ws ≡ sends 5 1000 ∷ sends 5 500 ∷ sends 3 1000 ∷ sends 3 500 ∷ []
unfolding weights four model_order new_scheduler peek set_bytes_remaining accept
by_weights ws s =
    let z = s.start_none in
    plays (weights ++ four) ws s.start_good ((omega arith, omega arith), ((omega arith, omega arith), (tt, (tt, (tt, (tt, tt)))))) (omega arith) ∙ ap (model_order (weights ++ four)) s.start_model

pub finish_times : (ws : List ℕ) → Start 1000 ws → (finishes (model_scheduler (after weights ws)) ≡ 3906250 ∷ 1953125 ∷ []) × (finishes (model_scheduler (after (weights ++ (send 1000 ∷ [])) ws)) ≡ 3906250 ∷ 2929687 ∷ [])
    × (finishes (model_scheduler (after (weights ++ (send 1000 ∷ send 1000 ∷ [])) ws)) ≡ 3906250 ∷ [])
unfolding weights model_after new_scheduler finishes set_bytes_remaining peek accept
finish_times ws s =
    let z = s.start_none in (
      ap finishes (leads weights ws s.start_good ((omega arith, omega arith), ((omega arith, omega arith), tt)) (omega arith) ∙ ap (model_after weights) s.start_model),
      ap finishes (leads (weights ++ (send 1000 ∷ [])) ws s.start_good ((omega arith, omega arith), ((omega arith, omega arith), (tt, tt))) (omega arith) ∙ ap (model_after (weights ++ (send 1000 ∷ []))) s.start_model),
      ap finishes (leads (weights ++ (send 1000 ∷ send 1000 ∷ [])) ws s.start_good ((omega arith, omega arith), ((omega arith, omega arith), (tt, (tt, tt)))) (omega arith) ∙ ap (model_after (weights ++ (send 1000 ∷ send 1000 ∷ []))) s.start_model),
    )

-- "Weight 0, 7 bytes: 7,000,000."
pub weight_zero : advanced 0 0 7 ≡ 7000000
unfolding advanced cost
weight_zero = refl
