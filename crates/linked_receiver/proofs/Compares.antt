-- The comparisons of fragments are the model's: fields and payload, and the place of an I-DATA fragment. Assumes nothing.
use mathlib.Core.Path.{◌≡◌, refl, sym, ap, ◌∙◌}
use mathlib.Core.Bool.{Bool, true, false}
use mathlib.Core.List.{List, [], ◌∷◌}
use Prim.Native.Nat.{ℕ}
use native.Mathlib.Omega.{arith}
use borrow.Author.Tests.{eqb-true, eq-eqb}
use lib.Dec.{eqb}
use Rattle.queue_words.specs.Flags.{pick, bit}
use Rattle.queue_model.specs.Logic.{same_bool}
use Rattle.receiver_model.specs.Lists.{same_list}
use Rattle.receiver_model.specs.Types.{Kind, DATA, I-DATA, Chunk}
use Rattle.receiver_model.specs.Assembly.{number, same_message}
use Rattle.receiver_model.specs.Receive.{same_kind, same_chunk, same_place}
use Rattle.receiver_model.proofs.Lists.{true≢false, and_left, and_right, eqb_is, Value, yes_is, no_is, value}
use Rattle.receiver_model.proofs.Settled.{alike, is_alike}
use Rattle.receiver_model.proofs.AnyCalls.{same_chunk_is, same_list_is}
use Rattle.receiver_words.specs.Index.{same_place_words, same_key_words}
use Rattle.receiver_words.specs.Chunks.{chunk_of}
use Rattle.receiver_words.specs.declared.fragments.Fragment.{Fragment}
use Rattle.receiver_fragments.specs.Checks.{same_marks, same_fields}
use Rattle.payload_store.proofs.Cases.{pick_both}

-- ------------------------------------------------------------------ what is the same as itself

bit_is : (a b : Bool) → bit a ≡ bit b → a ≡ b
bit_is true true e = refl
bit_is true false e = absurd (omega arith)
bit_is false true e = absurd (omega arith)
bit_is false false e = refl

list_itself : (xs : List ℕ) → same_list xs xs ≡ true
unfolding same_list
list_itself [] = refl
list_itself (x ∷ xs) = rw (eq-eqb x x refl) (list_itself xs)

bool_itself : (a : Bool) → same_bool a a ≡ true
unfolding same_bool
bool_itself true = refl
bool_itself false = refl

pub kind_itself : (k : Kind) → same_kind k k ≡ true
unfolding same_kind
kind_itself DATA = refl
kind_itself I-DATA = refl

chunk_itself : (c : Chunk) → same_chunk c c ≡ true
unfolding same_chunk
chunk_itself c =
    rw (
      kind_itself c.kind,
      eq-eqb c.tsn c.tsn refl,
      eq-eqb c.stream c.stream refl,
      bool_itself c.unordered,
      bool_itself c.first,
      bool_itself c.last,
      eq-eqb c.ssn c.ssn refl,
      eq-eqb c.mid c.mid refl,
      eq-eqb c.fsn c.fsn refl,
      eq-eqb c.ppid c.ppid refl,
    )
    (list_itself c.bytes)

-- ------------------------------------------------------------------ fields and payload

-- the number for two that are the same, or not
abbrev pub code : Bool → ℕ
code same = pick same 0 24

module _ (k : Kind) (f h : Fragment) (p q : List ℕ) (tsn : f.tsn ≡ h.tsn) where
  abbrev c : Chunk
  c = chunk_of k f p

  abbrev d : Chunk
  d = chunk_of k h q

  fields_same : same_fields f h ≡ true → p ≡ q → c ≡ d
  unfolding same_fields same_marks
  fields_same e pq =
      let a₁ = pick_both _ _ e in
      let a₂ = pick_both _ _ a₁.1 in
      let a₃ = pick_both _ _ a₂.1 in
      let a₄ = pick_both _ _ a₃.1 in
      let a₅ = pick_both _ _ a₄.1 in
      let a₆ = pick_both _ _ a₅.1 in
      let a₇ = pick_both _ _ a₆.1 in
      let s : f.stream.0 ≡ h.stream.0 = eqb-true _ _ a₁.0 in
      let n : f.ssn.0 ≡ h.ssn.0 = eqb-true _ _ a₂.0 in
      let m : f.mid.0 ≡ h.mid.0 = eqb-true _ _ a₃.0 in
      let o : f.fsn.0 ≡ h.fsn.0 = eqb-true _ _ a₄.0 in
      let i : f.ppid ≡ h.ppid = eqb-true _ _ a₅.0 in
      let u : f.unordered ≡ h.unordered = bit_is _ _ (eqb-true _ _ a₆.0) in
      let b : f.first ≡ h.first = bit_is _ _ (eqb-true _ _ a₇.0) in
      let l : f.last ≡ h.last = bit_is _ _ (eqb-true _ _ a₇.1) in
      λ t. record { kind = k; tsn = tsn t; stream = s t; unordered = u t; first = b t; last = l t; ssn = n t; mid = m t; fsn = o t; ppid = i t; bytes = pq t }

  same_fields_lem : c ≡ d → same_fields f h ≡ true
  unfolding same_fields same_marks
  same_fields_lem e =
      rw (
        eq-eqb f.stream.0 h.stream.0 (ap (λ (x : Chunk). x.stream) e),
        eq-eqb f.ssn.0 h.ssn.0 (ap (λ (x : Chunk). x.ssn) e),
        eq-eqb f.mid.0 h.mid.0 (ap (λ (x : Chunk). x.mid) e),
        eq-eqb f.fsn.0 h.fsn.0 (ap (λ (x : Chunk). x.fsn) e),
        eq-eqb f.ppid h.ppid (ap (λ (x : Chunk). x.ppid) e),
        eq-eqb (bit f.unordered) (bit h.unordered) (ap (λ (x : Chunk). bit x.unordered) e),
        eq-eqb (bit f.first) (bit h.first) (ap (λ (x : Chunk). bit x.first) e),
      )
      (eq-eqb (bit f.last) (bit h.last) (ap (λ (x : Chunk). bit x.last) e))

  -- "24 when a fragment at a TSN already held differs in payload or a field read"
  pub same_code : pick (same_fields f h) (code (same_list p q)) 24 ≡ code (same_chunk (chunk_of k f p) (chunk_of k h q))
  same_code = go (value (same_fields f h)) (value (same_list p q)) (value (same_chunk c d))
    where
      go : Value (same_fields f h) → Value (same_list p q) → Value (same_chunk c d) → pick (same_fields f h) (code (same_list p q)) 24 ≡ code (same_chunk c d)
      go (yes_is a) (yes_is b) v = rw (a, b, ap (same_chunk c) (sym (fields_same a (same_list_is p q b))) ∙ chunk_itself c)
      go (yes_is a) (no_is b) (yes_is e) = absurd (true≢false (ap (same_list p) (sym (ap (λ (x : Chunk). x.bytes) (same_chunk_is c d e))) ∙ list_itself p) b)
      go (yes_is a) (no_is b) (no_is e) = rw (a, b, e)
      go (no_is a) w (yes_is e) = absurd (true≢false (same_fields_lem (same_chunk_is c d e)) a)
      go (no_is a) w (no_is e) = rw (a, e)

-- ------------------------------------------------------------------ the place

module _ (k : Kind) (f h : Fragment) (p q : List ℕ) where
  -- "stream, order mark, MID and FSN": of a fragment f that comes, and of one that is held
  pub place_key : same_place I-DATA (chunk_of k f p) (chunk_of k h q) ≡ true → same_key_words 1 h f ≡ true
  unfolding same_place same_key_words same_place_words number
  place_key e =
      let same = same_message I-DATA (chunk_of k f p) (chunk_of k h q) in
      let a = alike I-DATA (chunk_of k f p) (chunk_of k h q) (and_left same (eqb f.fsn.0 h.fsn.0) e) in
      rw (eq-eqb h.stream.0 f.stream.0 (sym a.streams), eq-eqb (bit h.unordered) (bit f.unordered) (ap bit (sym a.marks)), eq-eqb h.mid.0 f.mid.0 (sym a.numbers))
      (eq-eqb h.fsn.0 f.fsn.0 (sym (eqb_is (and_right same (eqb f.fsn.0 h.fsn.0) e))))

  pub key_place : same_key_words 1 h f ≡ true → same_place I-DATA (chunk_of k f p) (chunk_of k h q) ≡ true
  unfolding same_place same_key_words same_place_words number
  key_place e =
      let a₁ = pick_both _ _ e in
      let a₂ = pick_both _ _ a₁.1 in
      let a₃ = pick_both _ _ a₂.1 in
      rw (is_alike I-DATA (chunk_of k f p) (chunk_of k h q) (sym (eqb-true _ _ a₁.0)) (sym (bit_is _ _ (eqb-true _ _ a₂.0))) (sym (eqb-true _ _ a₃.0)))
      (eq-eqb f.fsn.0 h.fsn.0 (sym (eqb-true _ _ a₃.1)))
