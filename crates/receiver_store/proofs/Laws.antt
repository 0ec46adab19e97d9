-- Putting, reading, comparing and dropping where the payloads of the held rows are laid. Assumes nothing.
use mathlib.Core.Path.{◌≡◌, refl, sym, ap, ◌∙◌, subst}
use mathlib.Core.List.{List, [], ◌∷◌}
use Prim.Native.Nat.{ℕ, ◌+◌, ◌-◌, ◌≤◌, ◌<◌}
use native.Mathlib.Omega.{arith}
use borrow.Author.Tests.{lt-ltb, le-ltb, le-leb, lt-leb, eq-eqb}
use lib.ListN.{length, get_or, drop, length-drop}
use lib.Seq.{length-take-le}
use Rattle.types.specs.declared.refusal.Refusal.TheVariants.{ReceiverFull}
use Rattle.queue_words.specs.Flags.{pick}
use Rattle.payload_store.specs.Putting.{Outcome, outcome, written}
use Rattle.payload_store.proofs.Puts.{written_length, written_below, written_part}
use Rattle.queue_model.specs.Table.{sum_by}
use Rattle.receiver_model.specs.Lists.{count, same_list}
use Rattle.receiver_words.specs.Tables.{Header, Links, word_at, put_word}
use Rattle.receiver_words.specs.Ages.{Aged, older, newer, without, newest, oldest}
use Rattle.receiver_words.specs.Frames.{Frame}
use Rattle.receiver_words.proofs.Laws.{word_put_same, word_put_beside, word_put_other, word_put_table}
use Rattle.receiver_words.proofs.Rows.{not_among}
use Rattle.receiver_words.proofs.Ages.{both_rows}
use Rattle.receiver_words.proofs.Frames.{frame_both, frame_swap, frame_link, frame_header}
use Rattle.receiver_store.specs.Words.{place_of, size_of, used_of, end_of, payload_of}
use Rattle.receiver_store.specs.Packing.{packed}
use Rattle.receiver_store.specs.Putting.{room_code, placed, put_payload}
use Rattle.receiver_store.specs.Reading.{read_code, read_payload, same_code}
use Rattle.receiver_store.specs.Dropping.{drop_code_words, held_end, released, drop_payload}
use Rattle.receiver_store.specs.Good.{Below, Laid}
use Rattle.receiver_store.specs.Promise.{Packed, Put, Dropped}
use Rattle.receiver_store.proofs.Lies.{in_lies}
use Rattle.receiver_store.proofs.Exits.{put_refused, put_at_end, put_packed}
use Rattle.receiver_store.proofs.Orders.{sum_same, sum_without, below_in, below_without, below_frame}
use Rattle.receiver_store.proofs.Packs.{payload_same, payload_words, used_in, packed_law, pack_code_zero}
use Rattle.queue_words.proofs.Finds.{by_lt}

-- ------------------------------------------------------------------ what other changes leave

-- words with the same places, lengths, used bytes and end: what the changes of the chains leave
pub laid_same : (ws ws' st held : List ℕ) → length ws' ≡ length ws → used_of ws' ≡ used_of ws → end_of ws' ≡ end_of ws → ((x : ℕ) → 0 < count x held → place_of ws' x ≡ place_of ws x)
    → ((x : ℕ) → 0 < count x held → size_of ws' x ≡ size_of ws x) → Laid ws st held → Laid ws' st held
laid_same ws ws' st held n u e p s l = record {
  long = n ∙ l.long;
  end_in = omega (arith, e, l.end_in);
  below = subst (λ (k : ℕ). Below ws' k held) (sym e) (below_frame ws ws' (end_of ws) held p s l.below);
  used_is = u ∙ l.used_is ∙ sym (sum_same (size_of ws) (size_of ws') held s);
}

-- ------------------------------------------------------------------ putting at the end

placed_bytes : (ws st bs : List ℕ) (i at : ℕ) → place_of ws i ≡ at → size_of ws i ≡ length bs → at + length bs ≤ length st → payload_of ws (written st at bs) i ≡ bs
unfolding payload_of
placed_bytes ws st bs i at p n h = rw (p, n) (written_part st at bs h)

module _ (ws st held : List ℕ) (i : ℕ) (bs : List ℕ) (l : Laid ws st held) (rows : (x : ℕ) → 0 < count x held → x < 4096) (hi : i < 4096) (new : count i held ≡ 0)
    (roomy : end_of ws + length bs ≤ length st) where
  abbrev n : ℕ
  n = length bs

  abbrev at : ℕ
  at = end_of ws

  abbrev ws1 : List ℕ
  ws1 = put_word Links ws i 0 at

  abbrev ws2 : List ℕ
  ws2 = put_word Links ws1 i 1 n

  abbrev ws3 : List ℕ
  ws3 = put_word Header ws2 0 5 (used_of ws + n)

  abbrev ws4 : List ℕ
  ws4 = put_word Header ws3 0 6 (at + n)

  frame1 : Frame ws ws1 5 6 0 1
  frame1 = frame_link ws i at 5 6 0 1 hi (omega arith)

  frame2 : Frame ws ws2 5 6 0 1
  frame2 = frame_both ws ws1 ws2 5 6 0 1 frame1 (frame_swap ws1 ws2 6 5 1 0 (frame_link ws1 i n 6 5 1 0 hi (omega arith)))

  frame3 : Frame ws ws3 5 6 0 1
  frame3 = frame_both ws ws2 ws3 5 6 0 1 frame2 (frame_header ws2 (used_of ws + n) 5 6 0 1 (omega arith))

  frame4 : Frame ws ws4 5 6 0 1
  frame4 = frame_both ws ws3 ws4 5 6 0 1 frame3 (frame_swap ws3 ws4 6 5 1 0 (frame_header ws3 (at + n) 6 5 1 0 (omega arith)))

  -- the header's stores change no link
  link_down : (x k : ℕ) → x < 4096 → k < 8 → word_at Links ws4 x k ≡ word_at Links ws2 x k
  link_down x k hx hk =
      word_put_table Header Links ws3 0 6 (at + n) x k refl (omega arith) hx (omega arith) hk
      ∙ word_put_table Header Links ws2 0 5 (used_of ws + n) x k refl (omega arith) hx (omega arith) hk

  place_new : place_of ws4 i ≡ at
  place_new = link_down i 0 hi (omega arith) ∙ word_put_beside Links ws1 i 1 n 0 (λ z. omega arith) ∙ word_put_same Links ws i 0 at l.long hi (omega arith)

  size_new : size_of ws4 i ≡ n
  size_new = link_down i 1 hi (omega arith) ∙ word_put_same Links ws1 i 1 n (frame1.long ∙ l.long) hi (omega arith)

  link_old : (x k : ℕ) → x < 4096 → k < 8 → (i ≡ x → ⊥) → word_at Links ws4 x k ≡ word_at Links ws x k
  link_old x k hx hk ne =
      link_down x k hx hk
      ∙ word_put_other Links ws1 i 1 n x k ne (omega arith) hk
      ∙ word_put_other Links ws i 0 at x k ne (omega arith) hk

  used_new : used_of ws4 ≡ used_of ws + n
  used_new = word_put_beside Header ws3 0 6 (at + n) 5 (λ z. omega arith) ∙ word_put_same Header ws2 0 5 (used_of ws + n) (frame2.long ∙ l.long) (omega arith) (omega arith)

  end_new : end_of ws4 ≡ at + n
  end_new = word_put_same Header ws3 0 6 (at + n) (frame3.long ∙ l.long) (omega arith) (omega arith)

  held_link : (x k : ℕ) → k < 8 → 0 < count x held → word_at Links ws4 x k ≡ word_at Links ws x k
  held_link x k hk h = link_old x k (rows x h) hk (not_among i x held new h)

  pub placed_law : Put ws st held i bs (placed ws st i bs)
  unfolding placed
  placed_law = record {
    accepted = refl;
    laid = record {
      long = frame4.long ∙ l.long;
      end_in = omega (arith, end_new, roomy, written_length st at bs roomy);
      below = (
        omega (arith, place_new, size_new, end_new),
        subst (λ (e : ℕ). Below ws4 e held) (sym place_new) (below_frame ws ws4 at held (λ x h. held_link x 0 (omega arith) h) (λ x h. held_link x 1 (omega arith) h) l.below),
      );
      used_is = omega (arith, used_new, size_new, l.used_is, sum_same (size_of ws) (size_of ws4) held (λ x h. held_link x 1 (omega arith) h));
    };
    used = used_new;
    same = written_length st at bs roomy;
    new_size = size_new;
    new = new_bytes;
    sizes = λ x h. held_link x 1 (omega arith) h;
    payloads = λ x h. let b = below_in ws at held x l.below h in
        payload_same ws st ws4 (written st at bs) x (held_link x 1 (omega arith) h) (omega (arith, b, l.end_in)) (omega (arith, b, l.end_in, held_link x 0 (omega arith) h, written_length st at bs roomy))
        (λ j k. ap (λ (u : ℕ). get_or (written st at bs) (u + j) 0) (held_link x 0 (omega arith) h) ∙ written_below st at bs roomy (place_of ws x + j) (omega (arith, b, k)));
    frame = frame4;
  }
    where
      new_bytes : payload_of ws4 (written st at bs) i ≡ bs
      new_bytes = placed_bytes ws4 st bs i at place_new size_new roomy

-- ------------------------------------------------------------------ putting

-- a put after moving together, as seen from before
after_packing : (ws st held : List ℕ) (i : ℕ) (bs : List ℕ) (m o : Outcome) → Packed ws st held (length bs) m → Put m.words m.store held i bs o → ((x : ℕ) → 0 < count x held → x < 4096) → Put ws st held i bs o
after_packing ws st held i bs m o q p rows = record {
  accepted = p.accepted;
  laid = p.laid;
  used = p.used ∙ ap (λ (k : ℕ). k + length bs) q.used;
  same = p.same ∙ q.same;
  new_size = p.new_size;
  new = p.new;
  sizes = λ x h. p.sizes x h ∙ q.sizes x (rows x h);
  payloads = λ x h. p.payloads x h ∙ q.payloads x h;
  frame = frame_both ws m.words o.words 5 6 0 1 q.frame p.frame;
}

module _ (ws st held : List ℕ) (l : Laid ws st held) (aged : Aged ws held) (once : (y : ℕ) → count y held ≤ 1) (short : length held ≤ 4096) where
  -- a payload for which the free bytes suffice has room
  pub room_law : (n : ℕ) → used_of ws + n ≤ length st → room_code ws (length st) n ≡ 0
  unfolding room_code
  room_law n fits =
      by_lt (length st - end_of ws) n
      (λ a. rw (le-ltb (length st) (used_of ws) (omega arith), le-ltb (length st - used_of ws) n (omega arith), le-ltb (length st) (end_of ws) l.end_in, lt-leb n (length st - end_of ws) a)
      (pack_code_zero ws st held l aged once short n fits))
      (λ a. rw (le-ltb (length st) (used_of ws) (omega arith), le-ltb (length st - used_of ws) n (omega arith), le-ltb (length st) (end_of ws) l.end_in, le-leb n (length st - end_of ws) a))

  -- and one for which they do not has none
  pub room_full : (n : ℕ) → length st < used_of ws + n → room_code ws (length st) n ≡ 23
  unfolding room_code
  room_full n full =
      let u = used_in ws st held l aged once short in
      rw (le-ltb (length st) (used_of ws) u, lt-ltb (length st - used_of ws) n (omega (arith, u, full)))

  -- THE THEOREM of putting
  pub put_law : (i : ℕ) (bs : List ℕ) → i < 4096 → count i held ≡ 0 → used_of ws + length bs ≤ length st → Put ws st held i bs (put_payload ws st i bs)
  put_law i bs hi new fits =
      let rows : (x : ℕ) → 0 < count x held → x < 4096 = both_rows (older ws) (newer ws) (oldest ws) 4096 (newest ws) held aged in
      let code = room_law (length bs) fits in
      by_lt (length st - end_of ws) (length bs)
      (λ a. let q = packed_law ws st held l aged once short (length bs) fits in
      let m = packed ws st (length bs) in
      subst (λ (o : Outcome). Put ws st held i bs o)
      (put_packed ws st bs i (sym code) (placed m.words m.store i bs) (end_of ws) m.words m.store refl a (ap (λ (k : ℕ). outcome k m.words m.store) (sym q.accepted)) refl)
      (after_packing ws st held i bs m (placed m.words m.store i bs) q
      (placed_law m.words m.store held i bs q.laid rows hi new (omega (arith, q.roomy, q.same))) rows))
      (λ a. subst (λ (o : Outcome). Put ws st held i bs o) (put_at_end ws st bs i (sym code) (placed ws st i bs) (end_of ws) refl a refl)
      (placed_law ws st held i bs l rows hi new (omega (arith, a, l.end_in))))

  -- and one for which the free bytes do not suffice is refused, and changes nothing
  pub put_full : (i : ℕ) (bs : List ℕ) → length st < used_of ws + length bs → put_payload ws st i bs ≡ outcome 23 ws st
  put_full i bs full = sym (put_refused ws st bs i ReceiverFull (sym (room_full (length bs) full)))

-- ------------------------------------------------------------------ reading and comparing

module _ (ws st held : List ℕ) (i : ℕ) (l : Laid ws st held) (h : 0 < count i held) where
  inside : place_of ws i + size_of ws i ≤ length st
  inside = let b = below_in ws (end_of ws) held i l.below h in omega (arith, b, l.end_in)

  read_zero : (room at : ℕ) → at + size_of ws i ≤ room → read_code ws (length st) i room at ≡ 0
  unfolding read_code
  read_zero room at fits = rw (in_lies 0 (length st) (place_of ws i) (size_of ws i) (omega arith) inside, le-ltb room at (omega arith), le-ltb (room - at) (size_of ws i) (omega arith))

  -- THE THEOREM of reading
  pub read_law : (dst : List ℕ) (at : ℕ) → at + size_of ws i ≤ length dst → (read_code ws (length st) i (length dst) at ≡ 0) × (read_payload ws st i dst at ≡ written dst at (payload_of ws st i))
  unfolding read_payload
  read_law dst at fits =
      let z = read_zero (length dst) at fits in
      (z, rw (eq-eqb (read_code ws (length st) i (length dst) at) 0 z))

  -- the payload's length is the row's
  pub payload_length : length (payload_of ws st i) ≡ size_of ws i
  unfolding payload_of
  payload_length = length-take-le (size_of ws i) (drop (place_of ws i) st) (simp length-drop (omega (arith, inside)))

  pub same_law : (bs : List ℕ) → same_code ws st i bs ≡ pick (same_list (payload_of ws st i) bs) 0 24
  unfolding same_code
  same_law bs = rw (in_lies 0 (length st) (place_of ws i) (size_of ws i) (omega arith) inside)

-- ------------------------------------------------------------------ dropping

-- the used part falls back to the end of the newest row: no lower than the payloads
held_end_row : (ws : List ℕ) (x : ℕ) → newest ws ≡ x → x < 4096 → place_of ws x + size_of ws x ≤ end_of ws → held_end ws ≡ place_of ws x + size_of ws x
unfolding held_end
held_end_row ws x e h inside = rw (e, lt-leb 4096 x h, in_lies 0 (end_of ws) (place_of ws x) (size_of ws x) (omega arith) inside)

held_end_none : (ws : List ℕ) → newest ws ≡ 4096 → held_end ws ≡ 0
unfolding held_end
held_end_none ws e = rw (le-leb 4096 (newest ws) (omega (arith, e)))

held_end_lem : (ws xs : List ℕ) → Aged ws xs → Below ws (end_of ws) xs → (held_end ws ≤ end_of ws) × Below ws (held_end ws) xs
held_end_lem ws [] (e, d) b = (omega (arith, held_end_none ws e), tt)
held_end_lem ws (x ∷ xs) (e, h, d, c) (a, b) = let k = held_end_row ws x e h a in (omega (arith, k, a), (omega (arith, k), b))

module _ (ws st held : List ℕ) (i : ℕ) (l : Laid ws st held) (once : (y : ℕ) → count y held ≤ 1) (h : 0 < count i held) (aged : Aged ws (without i held)) where
  total : used_of ws ≡ size_of ws i + sum_by (size_of ws) (without i held)
  total = l.used_is ∙ sum_without (size_of ws) i held once h

  pub drop_zero : drop_code_words ws i ≡ 0
  unfolding drop_code_words
  drop_zero = rw (le-ltb (used_of ws) (size_of ws i) (omega (arith, total)))

  abbrev less : List ℕ
  less = put_word Header ws 0 5 (used_of ws - size_of ws i)

  abbrev gone : List ℕ
  gone = put_word Header less 0 6 (held_end ws)

  less_frame : Frame ws less 5 6 8 8
  less_frame = frame_header ws (used_of ws - size_of ws i) 5 6 8 8 (omega arith)

  gone_frame : Frame ws gone 5 6 8 8
  gone_frame = frame_both ws less gone 5 6 8 8 less_frame (frame_swap less gone 6 5 8 8 (frame_header less (held_end ws) 6 5 8 8 (omega arith)))

  gone_used : used_of gone ≡ used_of ws - size_of ws i
  gone_used = word_put_beside Header less 0 6 (held_end ws) 5 (λ k. omega arith) ∙ word_put_same Header ws 0 5 (used_of ws - size_of ws i) l.long (omega arith) (omega arith)

  gone_end : end_of gone ≡ held_end ws
  gone_end = word_put_same Header less 0 6 (held_end ws) (less_frame.long ∙ l.long) (omega arith) (omega arith)

  link_kept : (x k : ℕ) → x < 4096 → k < 8 → word_at Links gone x k ≡ word_at Links ws x k
  link_kept x k hx hk = gone_frame.links x k hx hk (λ z. omega arith) (λ z. omega arith)

  rows : (x : ℕ) → 0 < count x (without i held) → x < 4096
  rows = both_rows (older ws) (newer ws) (oldest ws) 4096 (newest ws) (without i held) aged

  falls : (held_end ws ≤ end_of ws) × Below ws (held_end ws) (without i held)
  falls = held_end_lem ws (without i held) aged (below_without ws (end_of ws) i held l.below)

  left : Dropped ws st (without i held) i gone
  left = record {
    laid = record {
      long = gone_frame.long ∙ l.long;
      end_in = omega (arith, gone_end, falls.0, l.end_in);
      below = subst (λ (e : ℕ). Below gone e (without i held)) (sym gone_end)
          (below_frame ws gone (held_end ws) (without i held) (λ x k. link_kept x 0 (rows x k) (omega arith)) (λ x k. link_kept x 1 (rows x k) (omega arith)) falls.1);
      used_is = omega (arith, gone_used, total, sum_same (size_of ws) (size_of gone) (without i held) (λ x k. link_kept x 1 (rows x k) (omega arith)));
    };
    used = omega (arith, gone_used, total);
    payloads = λ x hx. payload_words ws gone st x (link_kept x 0 hx (omega arith)) (link_kept x 1 hx (omega arith));
    frame = gone_frame;
  }

  drop_is : drop_payload ws i ≡ gone
  unfolding drop_payload released
  drop_is = rw (le-ltb 0 (drop_code_words ws i) (omega (arith, drop_zero)))

  -- THE THEOREM of dropping: after row i has left the age chain
  pub drop_law : Dropped ws st (without i held) i (drop_payload ws i)
  drop_law = subst (λ (w : List ℕ). Dropped ws st (without i held) i w) (sym drop_is) left
