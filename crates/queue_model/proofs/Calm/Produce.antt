-- What the next fragment is on a calm queue, asked for whole at time 0: the head of the chosen stream. Assumes nothing.
use mathlib.Core.Path.{◌≡◌, refl, ap, ap₂, ◌∙◌}
use mathlib.Core.Bool.{Bool, true, false, not, ◌&&◌, ◌||◌}
use mathlib.Core.List.{List, [], ◌∷◌, ◌++◌}
use mathlib.Core.Option.{Option, none, some, get_or}
use Prim.Native.Nat.{ℕ, ◌≤◌, min}
use native.Mathlib.Omega.{arith}
use lib.Dec.{ltb, eqb}
use Rattle.std.specs.Prelude.{if◌then◌else◌}
use Rattle.queue_model.specs.Types.{Item, Stream, Active, Options, Queue, Event, Fragment, fragment, nothing_waits, Step, remaining, reply, refuse}
use Rattle.queue_model.specs.Scheduler.{active_key, find_active, scheduled, least, least_of, earlier, remembered, or_else, peek}
use Rattle.queue_model.specs.Streams.{find_stream, head_size, waiting, stream_key}
use Rattle.queue_model.specs.Refusals.{short_of_head}
use Rattle.queue_model.specs.Amounts.{sent_events}
use Rattle.queue_model.specs.Produce.{after_look, look_for, look_expired, produce_checks, head, head_of, Look, chosen, look_at, look, numbered, make_fragment, handed_out, hand_out, pass_over, produce}
use Rattle.queue_model.proofs.Tests.{eqb_true, ltb_false}
use Rattle.queue_model.proofs.Table.{find_here, find_there, find_nil, found_above, After, Rising, Every, every_find}
use Rattle.queue_model.proofs.Checks.{checked_past}
use Rattle.queue_model.proofs.Calm.Entries.{entry, entries, actives, entry_id}
use Rattle.queue_model.proofs.Calm.Calm.{GoodStreams, calm_scheduler, calm, HeadAt, head_items, not_short, head_of_found}

-- The choice among entries, with a remembered stream or none.
unfoldable pub choice : Option ℕ → List Active → Option Active
unfolding remembered least_of or_else
choice c as' = or_else (remembered c as') (least_of as')

module _ (limit : ℕ) (il : Bool) where
  -- An entry that is a stream's, with its head.
  pub record From (ss : List Stream) (a : Active) : Type 0 where
    pub stream : Stream
    pub item : Item
    pub rest : List Item
    pub at : HeadAt ss stream.id stream item rest
    pub is_entry : a ≡ entry limit il stream

  abbrev AllFrom : List Stream → List Active → Type 0
  AllFrom ss as' = Every (From ss) as'

  from_later : (r : Stream) (ss : List Stream) (a : Active) → After stream_key r.id ss → From ss a → From (r ∷ ss) a
  from_later r ss a b f =
      let l = found_above stream_key r.id f.stream.id ss f.stream b f.at.found in
      record {
        stream = f.stream;
        item = f.item;
        rest = f.rest;
        at = record { found = find_there stream_key f.stream.id r ss (λ e. omega arith) ∙ f.at.found; items = f.at.items };
        is_entry = f.is_entry;
      }

  all_from_later : (r : Stream) (ss : List Stream) (as' : List Active) → After stream_key r.id ss → AllFrom ss as' → AllFrom (r ∷ ss) as'
  all_from_later r ss [] b f = tt
  all_from_later r ss (a ∷ as') b f = (from_later r ss a b f.0, all_from_later r ss as' b f.1)

  actives_from : (ss : List Stream) → Rising stream_key ss → AllFrom ss (actives limit il ss)
  actives_from [] r = tt
  actives_from (s ∷ ss) r = go s.items refl (all_from_later s ss (actives limit il ss) r.0 (actives_from ss r.1))
    where
      go : (is : List Item) → s.items ≡ is → AllFrom (s ∷ ss) (actives limit il ss) → AllFrom (s ∷ ss) (entries limit il s is ++ actives limit il ss)
      go [] e f = f
      go (i ∷ is) e f = (record { stream = s; item = i; rest = is; at = record { found = find_here stream_key s.id s ss refl; items = e }; is_entry = refl }, f)

  least_from : (ss : List Stream) (a : Active) (as' : List Active) → From ss a → AllFrom ss as' → From ss (least a as')
  unfolding least earlier
  least_from ss a [] f g = f
  least_from ss a (b ∷ bs) f g = least_from ss (earlier a b) bs (go (ltb a.finish b.finish || (eqb a.finish b.finish && ltb a.stream_id b.stream_id))) g.1
    where
      go : (t : Bool) → From ss ((if t then a else b))
      go true = f
      go false = g.0

  -- A calm list of entries chooses a stream, the remembered one or the least, or no stream has messages.
  pub data Choice (c : Option ℕ) (ss : List Stream) : Type 0 where
    none_waits : choice c (actives limit il ss) ≡ none → actives limit il ss ≡ [] → Choice c ss
    one_waits : (s : Stream) (i : Item) (is : List Item) → HeadAt ss s.id s i is → choice c (actives limit il ss) ≡ some (entry limit il s) → Choice c ss

  none_remembered : (c : Option ℕ) (as' : List Active) → as' ≡ [] → remembered c as' ≡ none
  unfolding remembered
  none_remembered none as' e = refl
  none_remembered (some k) as' e = ap (find_active k) e ∙ find_nil active_key k

  remembered_from : (ss : List Stream) (c : Option ℕ) (as' : List Active) (a : Active) → AllFrom ss as' → remembered c as' ≡ some a → From ss a
  unfolding remembered
  remembered_from ss none as' a f e = let z : ◌≡◌ {A = ℕ} 0 1 = cc in absurd (omega arith)
  remembered_from ss (some k) as' a f e = every_find active_key (From ss) k a as' f e

  pub choose : (c : Option ℕ) (ss : List Stream) → Rising stream_key ss → Choice c ss
  unfolding choice least_of or_else
  choose c ss r = go (remembered c (actives limit il ss)) refl (actives limit il ss) refl (actives_from ss r)
    where
      go : (x : Option Active) → remembered c (actives limit il ss) ≡ x → (as' : List Active) → actives limit il ss ≡ as' → AllFrom ss as' → Choice c ss
      go x d [] e f = none_waits (ap₂ or_else (none_remembered c (actives limit il ss) e) (ap least_of e)) e
      go none d (a ∷ as') e f =
          let h = least_from ss a as' f.0 f.1 in
          one_waits h.stream h.item h.rest h.at (ap₂ or_else d (ap least_of e) ∙ ap {B = Option Active} some h.is_entry)
      go (some b) d (a ∷ as') e f =
          let h = remembered_from ss c (actives limit il ss) b (actives_from ss r) d in
          one_waits h.stream h.item h.rest h.at (ap (λ (x : Option Active). or_else x (least_of (actives limit il ss))) d ∙ ap {B = Option Active} some h.is_entry)

-- ---- the call

-- The calm queue's whole next fragment at time 0.
abbrev pub whole : Options → Queue → Step
whole o q = produce o.store_length 2305 262144 0 262144 q

module _ (o : Options) (il : Bool) (c : Option ℕ) (n : ℕ) (ss : List Stream) where
  -- What follows one look at the calm queue.
  turn : Look → Option Step
  turn l = after_look (λ (r : Queue) (ds : List Event). pass_over (waiting ss) 0 262144 r ds) 262144 (calm o il c n ss) [] l

  whole_turn : whole o (calm o il c n ss) ≡ get_or (turn (look 0 (calm o il c n ss))) (refuse (calm o il c n ss) 16)
  unfolding produce calm turn
  whole_turn =
      let same : not (eqb o.store_length o.store_length) ≡ false = ap not (eqb_true {a = o.store_length} refl) in
      checked_past (produce_checks o.store_length 2305 262144 0 262144 (calm o il c n ss)) (calm o il c n ss) (get_or (turn (look 0 (calm o il c n ss))) (refuse (calm o il c n ss) 16)) (same, (refl, (refl, (refl, (refl, tt)))))

  look_calm : look 0 (calm o il c n ss) ≡ look_for 0 (calm o il c n ss) (choice c (actives o.payload_limit il ss))
  unfolding look peek calm calm_scheduler choice
  look_calm = refl

  nothing_there : turn (look_for 0 (calm o il c n ss) none) ≡ some (reply nothing_waits [] (calm o il c n ss))
  unfolding turn look_for after_look
  nothing_there = refl

  -- No stream waits: nothing waits.
  pub whole_nothing : choice c (actives o.payload_limit il ss) ≡ none → whole o (calm o il c n ss) ≡ reply nothing_waits [] (calm o il c n ss)
  whole_nothing e =
      whole_turn ∙ ap (λ (x : Option Step). get_or x (refuse (calm o il c n ss) 16)) (ap turn (look_calm ∙ ap (look_for 0 (calm o il c n ss)) e) ∙ nothing_there)

  module _ (s : Stream) (i : Item) (is : List Item) (g : GoodStreams ss) (h : HeadAt ss s.id s i is) where
    -- The fragment of the head, whole.
    abbrev pub head_fragment : Fragment
    head_fragment = make_fragment s (numbered s.counters i).item (remaining i)

    abbrev pub head_handed_out : Queue
    head_handed_out = handed_out (calm o il c n ss) (entry o.payload_limit il s) s i is (remaining i)

    abbrev head_events : List Event
    head_events = [] ++ sent_events (calm o il c n ss) s (remaining i)

    look_some : look_for 0 (calm o il c n ss) (some (entry o.payload_limit il s)) ≡ look_at 0 (calm o il c n ss) (entry o.payload_limit il s) (head s i is)
    unfolding look_for calm
    look_some =
        ap (λ (k : ℕ). look_at 0 (calm o il c n ss) (entry o.payload_limit il s) (head_of (find_stream k ss))) (entry_id o.payload_limit il s)
        ∙ ap (look_at 0 (calm o il c n ss) (entry o.payload_limit il s)) (head_of_found ss s.id s i is g h o il c n)

    look_at_head : look_at 0 (calm o il c n ss) (entry o.payload_limit il s) (head s i is) ≡ chosen (entry o.payload_limit il s) s i is
    unfolding look_at
    look_at_head = ap (λ (b : Bool). if b then look_expired (calm o il c n ss) s i is else chosen (entry o.payload_limit il s) s i is) (head_items ss s.id s i is g h).0.lasting

    turn_chosen : turn (chosen (entry o.payload_limit il s) s i is) ≡ hand_out 262144 (calm o il c n ss) [] (entry o.payload_limit il s) s i is
    unfolding turn after_look
    turn_chosen = refl

    size_whole : min (entry o.payload_limit il s).bytes_remaining 262144 ≡ remaining i
    unfolding scheduled head_size
    size_whole =
        let sm = (head_items ss s.id s i is g h).0.small in
        ap (λ (l : List Item). min (head_size l) 262144) h.items ∙ omega arith

    handed : ℕ → Step
    handed m = reply (fragment (make_fragment s (numbered s.counters i).item m)) ([] ++ sent_events (calm o il c n ss) s m) (handed_out (calm o il c n ss) (entry o.payload_limit il s) s i is m)

    hand_out_head : hand_out 262144 (calm o il c n ss) [] (entry o.payload_limit il s) s i is ≡ some (reply (fragment head_fragment) head_events head_handed_out)
    unfolding hand_out handed short_of_head
    hand_out_head =
        let k : remaining i ≤ remaining i = omega arith in
        ap (λ (m : ℕ). if short_of_head (calm o il c n ss) s i m then none else some (handed m)) size_whole
        ∙ ap₂ (λ (b c : Bool). if b || c then none else some (handed (remaining i))) (not_short ss s.id s i is g h o il c n) (ltb_false k)

    -- The chosen stream's head is handed out whole.
    pub whole_head : choice c (actives o.payload_limit il ss) ≡ some (entry o.payload_limit il s) → whole o (calm o il c n ss) ≡ reply (fragment head_fragment) head_events head_handed_out
    whole_head e =
        whole_turn ∙ ap (λ (x : Option Step). get_or x (refuse (calm o il c n ss) 16))
        (ap turn (look_calm ∙ ap (look_for 0 (calm o il c n ss)) e ∙ look_some ∙ look_at_head) ∙ turn_chosen ∙ hand_out_head)
