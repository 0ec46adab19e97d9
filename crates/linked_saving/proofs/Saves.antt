-- Saving is the model's: its image, or its refusal. Assumes nothing.
use mathlib.Core.Path.{◌≡◌, refl, sym, ap, ◌∙◌}
use mathlib.Core.Bool.{Bool, true, false}
use mathlib.Core.List.{List, [], ◌∷◌, ◌++◌}
use Prim.Native.Nat.{ℕ, ◌+◌, ◌*◌}
use native.Mathlib.Nat.{zero-add}
use native.Mathlib.Omega.{arith}
use borrow.Author.Tests.{eq-eqb}
use lib.Dec.{ltb, eqb}
use lib.ListN.{length, drop, length-append}
use Rattle.queue_words.specs.Flags.{pick}
use Rattle.queue_words.specs.Header.{options_at, totals_at}
use Rattle.queue_model.specs.Types.{Queue, Stream}
use Rattle.queue_model.specs.Answers.{saving_number, saving_length}
use Rattle.queue_model.specs.Bytes.{row_bytes}
use Rattle.queue_model.specs.Refusals.{◌when◌, first_refusal, max_time}
use Rattle.queue_model.specs.Image.{Handover, trailer_widths, trailer_row, image_bytes, stream_records, message_records, handover, write_image, save_refusal, Saving, not_saved, saved_as_lem, saving_or, save}
use Rattle.queue_state.specs.Model.{stream_in, streams_in, model}
use Rattle.queue_state.specs.Good.{Good}
use Rattle.queue_state.proofs.Tabs.{tab_same}
use Rattle.big_endian.specs.Numbers.{wrote}
use Rattle.saving.specs.Saved.{Saved}
use Rattle.saving.specs.Saved.{Image, Refused}
use Rattle.saving.specs.declared.measuring.Tally.{Tally}
use Rattle.saving.specs.Measure.{tally_queue}
use Rattle.saving.specs.Bytes.{streams_from, messages_from, trailer_bytes, image_bytes_words, image_size}
use Rattle.saving.specs.Save.{SavedAs, saved_as, saved_number, saved_length, save_with, save_image}
use Rattle.saving.proofs.Lengths.{trailer_long}
use Rattle.saving.proofs.Passed.{Passed, passed}
use Rattle.saving.proofs.Images.{pick_yes}
use Rattle.linked_saving.specs.Meaning.{saved_of, SaveMeets}
use Rattle.linked_saving.proofs.Sounds.{queue_pass}
use Rattle.linked_saving.proofs.Records.{default_of, streams_of, Same, same_all, streams_long}
use Rattle.queue_model.proofs.Image.ReadWrite.{image_bytes_of, trailer_row_of}

-- ------------------------------------------------------------------ the bytes

-- the handover record of the words
abbrev pub handover_of : List ℕ → List ℕ → ℕ → Handover
handover_of ws st time = record {
  next_message_id = (totals_at ws).next_message_id.0;
  default_priority = default_of ws;
  streams = stream_records (default_of ws) (streams_of ws st 0 (totals_at ws).known);
  messages = message_records time (streams_of ws st 0 (totals_at ws).known);
}

streams_from_start : (ws st : List ℕ) → streams_in ws st ≡ streams_of ws st 0 (totals_at ws).known
unfolding streams_in
streams_from_start ws st = tab_same (totals_at ws).known (λ j. stream_in ws st (0 + j)) (stream_in ws st) (λ j l. ap (stream_in ws st) (sym (zero-add j)))

write_is : (ws st : List ℕ) (time : ℕ) → write_image time (model ws st) ≡ image_bytes (handover_of ws st time)
unfolding write_image handover model
write_is ws st time = ap (λ (ss : List Stream). image_bytes (record { next_message_id = (totals_at ws).next_message_id.0; default_priority = default_of ws; streams = stream_records (default_of ws) ss; messages = message_records time ss })) (streams_from_start ws st)

module _ (ws st : List ℕ) (time : ℕ) (t : Tally) (p : Passed ws st time t) where
  same : Same ws st time 0 (totals_at ws).known
  same = same_all ws st time 0 (totals_at ws).known (λ j a b. p.sound.streams j (omega (arith, b)))

  streams_count : t.streams ≡ length (stream_records (default_of ws) (streams_of ws st 0 (totals_at ws).known))
  streams_count = omega (arith, p.streams_is, ap length same.streams_are, streams_long (stream_records (default_of ws) (streams_of ws st 0 (totals_at ws).known)))

  trailer_same : trailer_bytes ws t ≡ row_bytes trailer_widths (trailer_row (handover_of ws st time))
  unfolding trailer_bytes
  trailer_same =
      ap (row_bytes trailer_widths)
      (fields t.streams _ t.messages _ t.bytes _ (t.streams * 14) _ streams_count (p.count_is ∙ same.count_is) (p.bytes_is ∙ ap length same.messages_are) (p.streams_is ∙ ap length same.streams_are)
      ∙ sym (trailer_row_of (handover_of ws st time)))
    where
      row : ℕ → ℕ → ℕ → ℕ → List ℕ
      row s m b z = (totals_at ws).next_message_id.0 ∷ default_of ws ∷ s ∷ m ∷ 1 ∷ b ∷ z ∷ []

      fields : (s s' m m' b b' z z' : ℕ) → s ≡ s' → m ≡ m' → b ≡ b' → z ≡ z' → row s m b z ≡ row s' m' b' z'
      fields s s' m m' b b' z z' e1 e2 e3 e4 = rw (e1, e2, e3, e4)

  pub image_same : image_bytes_words ws st time t ≡ write_image time (model ws st)
  unfolding image_bytes_words
  image_same = rw (same.streams_are, same.messages_are, trailer_same) (sym (image_bytes_of (handover_of ws st time))) ∙ sym (write_is ws st time)

  pub size_same : image_size t ≡ length (write_image time (model ws st))
  unfolding image_bytes_words
  size_same =
      let l1 = length-append (streams_from ws 0 (totals_at ws).known) (messages_from ws st time 0 (totals_at ws).known ++ trailer_bytes ws t) in
      let l2 = length-append (messages_from ws st time 0 (totals_at ws).known) (trailer_bytes ws t) in
      let l : image_size t ≡ length (image_bytes_words ws st time t) = omega (arith, l1, l2, p.streams_is, p.bytes_is, trailer_long ws t) in
      l ∙ ap length image_same

-- ------------------------------------------------------------------ the model's saving, by its two tests

unfolded : (store room time : ℕ) (q : Queue) → store ≡ q.options.store_length
    → save store room time q ≡ pick (ltb max_time time) (not_saved 4) (pick (ltb room (length (write_image time q))) (not_saved 11) (saved_as_lem (write_image time q)))
unfolding save save_refusal saving_or first_refusal
unfolded store room time q e = rw (eq-eqb store q.options.store_length e) (go (ltb max_time time) (ltb room (length (write_image time q))))
  where
    go : (a b : Bool) → saving_or (first_refusal ((4 when a) ∷ (11 when b) ∷ [])) (write_image time q) ≡ pick a (not_saved 4) (pick b (not_saved 11) (saved_as_lem (write_image time q)))
    go true b = refl
    go false true = refl
    go false false = refl

wrote_start : (b bs : List ℕ) → wrote b 0 bs ≡ bs ++ drop (length bs) b
unfolding wrote
wrote_start b bs = rw zero-add

-- ------------------------------------------------------------------ the call

-- the model's answer, shown, by the same two tests
shown : (b bs : List ℕ) (a c : Bool) → saved_of b (pick a (not_saved 4) (pick c (not_saved 11) (saved_as_lem bs))) ≡ pick a (saved_as (Refused 4) b) (pick c (saved_as (Refused 11) b) (saved_as (Image (length bs)) (bs ++ drop (length bs) b)))
shown b bs true c = refl
shown b bs false true = refl
shown b bs false false = refl

store_same : (ws st : List ℕ) → Good ws st → length st ≡ (model ws st).options.store_length
unfolding model
store_same ws st g = g.store_is

-- on words that pass, with the store that they were created with
passed_words : (ws st b : List ℕ) (time : ℕ) (t : Tally) → length st ≡ (options_at ws).store_length → t ≡ tally_queue ws (length st) → t.ok ≡ true
    → save_image ws st b time ≡ pick (ltb max_time time) (saved_as (Refused 4) b) (pick (ltb (length b) (image_size t)) (saved_as (Refused 11) b) (saved_as (Image (image_size t)) (wrote b 0 (image_bytes_words ws st time t))))
unfolding save_image
passed_words ws st b time t es et ok =
    let w : save_with ws st b time t ≡ pick (ltb (length b) (image_size t)) (saved_as (Refused 11) b) (saved_as (Image (image_size t)) (wrote b 0 (image_bytes_words ws st time t))) =
    pick_yes t.ok (pick (ltb (length b) (image_size t)) (saved_as (Refused 11) b) (saved_as (Image (image_size t)) (wrote b 0 (image_bytes_words ws st time t)))) (saved_as (Refused 16) b) ok in
    pick_yes (eqb (length st) (options_at ws).store_length) (pick (ltb max_time time) (saved_as (Refused 4) b) (save_with ws st b time (tally_queue ws (length st)))) (saved_as (Refused 2) b) (eq-eqb (length st) (options_at ws).store_length es)
    ∙ ap (λ (u : Tally). pick (ltb max_time time) (saved_as (Refused 4) b) (save_with ws st b time u)) (sym et)
    ∙ ap (λ (x : SavedAs). pick (ltb max_time time) (saved_as (Refused 4) b) x) w

-- with the image's bytes and size by other names
renamed : (b bs cs : List ℕ) (n : ℕ) (a : Bool) → n ≡ length cs → bs ≡ cs
    → pick a (saved_as (Refused 4) b) (pick (ltb (length b) n) (saved_as (Refused 11) b) (saved_as (Image n) (wrote b 0 bs)))
    ≡ pick a (saved_as (Refused 4) b) (pick (ltb (length b) (length cs)) (saved_as (Refused 11) b) (saved_as (Image (length cs)) (cs ++ drop (length cs) b)))
renamed b bs cs n a e f = rw (e, f, wrote_start b cs)

pub save_is : (ws st b : List ℕ) (time : ℕ) → Good ws st → save_image ws st b time ≡ saved_of b (save (length st) (length b) time (model ws st))
save_is ws st b time g =
    let p : Passed ws st time (tally_queue ws (length st)) = passed ws st time (queue_pass ws st g) in
    passed_words ws st b time (tally_queue ws (length st)) g.store_is refl (queue_pass ws st g)
    ∙ renamed b (image_bytes_words ws st time (tally_queue ws (length st))) (write_image time (model ws st)) (image_size (tally_queue ws (length st))) (ltb max_time time) (size_same ws st time (tally_queue ws (length st)) p) (image_same ws st time (tally_queue ws (length st)) p)
    ∙ sym (ap (saved_of b) (unfolded (length st) (length b) time (model ws st) (store_same ws st g)) ∙ shown b (write_image time (model ws st)) (ltb max_time time) (ltb (length b) (length (write_image time (model ws st)))))

number_of : (b : List ℕ) (s : Saving) → saved_number (saved_of b s).answer ≡ saving_number s
number_of b (not_saved n) = refl
number_of b (saved_as_lem bs) = refl

model_size_of : (b : List ℕ) (s : Saving) → saved_length (saved_of b s).answer ≡ saving_length s
model_size_of b (not_saved n) = refl
model_size_of b (saved_as_lem bs) = refl

pub save_meets : (ws st b : List ℕ) (time : ℕ) (r : Saved) (b' : List ℕ) → saved_as r b' ≡ save_image ws st b time → SaveMeets ws st b time r b'
save_meets ws st b time r b' e = record {
  words = e;
  model = saves;
  number = λ g. ap (λ (x : SavedAs). saved_number x.answer) (saves g) ∙ number_of b (save (length st) (length b) time (model ws st));
  size = λ g. ap (λ (x : SavedAs). saved_length x.answer) (saves g) ∙ model_size_of b (save (length st) (length b) time (model ws st));
}
  where
    saves : Good ws st → saved_as r b' ≡ saved_of b (save (length st) (length b) time (model ws st))
    saves g = e ∙ save_is ws st b time g
